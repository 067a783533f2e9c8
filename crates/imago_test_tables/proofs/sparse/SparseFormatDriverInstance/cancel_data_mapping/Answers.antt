-- SPDX-License-Identifier: MIT
use Rattle.std.proofs.Common.{refl, arith}
use Rattle.imago_test_tables.proofs.CommitSteps.{own_is_known, own_has_state}
use Rattle.imago_test_tables.proofs.sparse.SparseFormatDriverInstance.cancel_data_mapping.Goals as goal

pub returns-then-own-clause-call : goal.returns-then-own-clause-call
returns-then-own-clause-call g c =
    let s = c.args.self.now in
    let m = c.args.mapping in
    let own = (c.is_waiting-own.ensures).0 c.if-own.true in
    record {
      own_spent = λ e. refl;
      others_stay = λ e. absurd (own_has_state _ m own e);
      untouched = λ x. absurd (own_is_known _ m m.state refl own x);
      places = record { stored = λ p b i o w e. (b, e); same = λ k p. refl };
      reaches = λ p q w e. (w, e);
      lengths = record { no_shorter = λ i. omega arith; no_longer = λ i. omega arith };
      framed = record { kind = record { abilities = refl; store_count = refl; store_features = λ i. refl }; size = refl; ends = λ p x. x };
      later = omega arith;
      reliable = λ e. refl;
    }

pub returns-else-own-clause-call : goal.returns-else-own-clause-call
returns-else-own-clause-call g c =
    let foreign = c.if-own.false in
    record {
      own_spent = λ own. let x = (c.is_waiting-own.ensures).1 own in let z : ⊥ = cc in absurd z;
      others_stay = λ e. refl;
      untouched = λ x. refl;
      places = record { stored = λ p b i o w e. (b, e); same = λ k p. refl };
      reaches = λ p q w e. (w, e);
      lengths = record { no_shorter = λ i. omega arith; no_longer = λ i. omega arith };
      framed = record { kind = record { abilities = refl; store_count = refl; store_features = λ i. refl }; size = refl; ends = λ p x. x };
      later = omega arith;
      reliable = λ e. refl;
    }
