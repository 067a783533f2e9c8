-- SPDX-License-Identifier: MIT
use Rattle.std.proofs.Common.{◌+◌, Some, arith, refl, sym, ◌∙◌}
use Rattle.imago_drivers.specs.Pending.{IsOwn}
use Rattle.imago_cow.specs.TableView.{entries_of, count_of}
use Rattle.imago_cow.specs.Cow.{cow_pending}
use Rattle.imago_cow.specs.CowLaws.{cow_causes}
use Rattle.imago_cow.proofs.DriverSteps.{commit_nothing, own_is_known, own_has_state}
use Rattle.imago_cow.proofs.cow.CowFormatDriverInstance.commit_data_mapping.Goals as goal

pub returns-in_default-clause-call : goal.returns-in_default-clause-call
returns-in_default-clause-call g c =
    let s = c.args.self.now in
    commit_nothing _ s c.args.mapping (sym c.into_state.ensures ∙ c.in_default.is) (cow_causes _ _ _ s.size s.block.length (entries_of s.table) (count_of s.table) s.waiting)

pub enter_waiting-requires-clause-apart : goal.enter_waiting-requires-clause-apart
enter_waiting-requires-clause-apart g c = c.args.self.now.waits_apart c.in-Some-waiting.waiting c.in-Some-waiting.is

pub returns-clause-call : goal.returns-clause-call
returns-clause-call g c =
    let s = c.args.self.now in
    let m = c.args.mapping in
    let w = c.in-Some-waiting.waiting in
    let is = c.in-Some-waiting.is in
    let B = g.S.Storage.bytes s.storage in
    let f = g.S.Storage.features s.storage in
    let n = g.S.Storage.fault_count s.storage + s.faults in
    let e = c.enter_waiting.ensures in
    let own : IsOwn (cow_pending s.block.length s.size B s.waiting) m = (c.is_waiting-own.ensures s.block.length s.size B).0 c.if-not-own.false in
    let own_w : IsOwn (cow_pending s.block.length s.size B (Some w)) m = rw is at own in
    record {
      foreign = (λ x. let z : ⊥ = cc in absurd z, λ x. absurd (own_is_known (cow_pending s.block.length s.size B s.waiting) m m.state refl own x));
      untouched = λ x. let z : ⊥ = cc in absurd z;
      done = rw (is, own_w.3) (e.committed f n B);
      torn = λ x. tt;
      own_spent = λ x. refl;
      others_stay = λ x. absurd (own_has_state (cow_pending s.block.length s.size B s.waiting) m own x);
      reaches = e.reaches f n B;
      settled = λ o x. rw is (e.settled f o m.length);
      lengths = record { no_shorter = λ i. omega arith; no_longer = λ i. omega arith };
      framed = rw is (e.framed f n B);
      faults = record { later = omega arith; reliable = λ x. refl; device = λ x. let z : ⊥ = cc in absurd z };
      refusals = tt;
      outside = rw (is, own_w.3) (e.outside f B);
    }
