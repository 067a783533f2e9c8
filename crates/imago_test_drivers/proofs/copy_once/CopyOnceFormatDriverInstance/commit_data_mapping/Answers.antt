-- SPDX-License-Identifier: MIT
use Rattle.std.proofs.Common.{◌+◌, arith, refl}
use Rattle.imago_test_drivers.specs.CopyOnce.{copy_view}
use Rattle.imago_test_drivers.proofs.CopySteps.{copy_done, copy_stays, own_is_known, own_has_state, copy_reaches, copy_framed, copy_settled}
use Rattle.imago_test_drivers.proofs.copy_once.CopyOnceFormatDriverInstance.commit_data_mapping.Goals as goal

pub returns-clause-call : goal.returns-clause-call
returns-clause-call g c =
    let s = c.args.self.now in
    let m = c.args.mapping in
    let f = g.S.Storage.features s.storage in
    let B = g.S.Storage.bytes s.storage in
    let n = g.S.Storage.fault_count s.storage + s.faults in
    let own = (c.is_waiting-own.ensures).0 c.if-not-own.false in
    record {
      foreign = (λ e. let z : ⊥ = cc in absurd z, λ x. absurd (own_is_known (copy_view f n B s.size s.copied s.waiting) m m.state refl own x));
      untouched = λ e. let z : ⊥ = cc in absurd z;
      done = copy_done f n B s.size s.copied s.waiting m m.state refl own s.waits_inside;
      torn = λ e. tt;
      own_spent = λ e. refl;
      others_stay = λ e. absurd (own_has_state _ m own e);
      reaches = copy_reaches f n n B B s.size s.copied s.waiting;
      settled = λ o e. copy_settled f n B s.size s.copied s.waiting o m.length;
      lengths = record { no_shorter = λ i. omega arith; no_longer = λ i. omega arith };
      framed = copy_framed f n n B B s.size s.copied s.waiting;
      faults = record { later = omega arith; reliable = λ e. refl; device = λ e. let z : ⊥ = cc in absurd z };
      refusals = tt;
      outside = copy_stays f.keeps_data B s.size s.copied s.waiting m m.state refl own;
    }
