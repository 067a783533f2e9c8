-- SPDX-License-Identifier: MIT
use Rattle.std.proofs.Common.{◌+◌, arith, refl}
use Rattle.imago_drivers.specs.Pending.{IsOwn}
use Rattle.imago_cow.specs.TableView.{entries_of, count_of}
use Rattle.imago_cow.specs.Cow.{cow_pending}
use Rattle.imago_cow.proofs.PrepareSteps.{nothing_unchanged}
use Rattle.imago_cow.proofs.DriverSteps.{own_is_known, own_has_state}
use Rattle.imago_cow.proofs.cow.CowFormatDriverInstance.cancel_data_mapping.Goals as goal

pub returns-then-own-clause-call : goal.returns-then-own-clause-call
returns-then-own-clause-call g c =
    let s = c.args.self.now in
    let m = c.args.mapping in
    let B = g.S.Storage.bytes s.storage in
    let f = g.S.Storage.features s.storage in
    let n = g.S.Storage.fault_count s.storage + s.faults in
    let own : IsOwn (cow_pending s.block.length s.size B s.waiting) m = (c.is_waiting-own.ensures s.block.length s.size B).0 c.if-own.true in
    let u = nothing_unchanged f n n B s.size s.block.length (entries_of s.table) (count_of s.table) (count_of s.table) s.waiting s.waiting in
    record {
      own_spent = λ x. refl;
      others_stay = λ x. absurd (own_has_state (cow_pending s.block.length s.size B s.waiting) m own x);
      untouched = λ x. absurd (own_is_known (cow_pending s.block.length s.size B s.waiting) m m.state refl own x);
      places = rw c.release.ensures.entries u.places;
      reaches = rw c.release.ensures.entries (λ p q w e. (w, e));
      lengths = record { no_shorter = λ i. omega arith; no_longer = λ i. omega arith };
      framed = rw c.release.ensures.entries (record { kind = record { abilities = refl; store_count = refl; store_features = λ i. refl }; size = refl; ends = λ p e. e });
      later = omega arith;
      reliable = λ x. refl;
    }

pub returns-then-own-clause-performed : goal.returns-then-own-clause-performed
returns-then-own-clause-performed g c =
    let s = c.args.self.now in
    let m = c.args.mapping in
    let B = g.S.Storage.bytes s.storage in
    let own : IsOwn (cow_pending s.block.length s.size B s.waiting) m = (c.is_waiting-own.ensures s.block.length s.size B).0 c.if-own.true in
    (((refl, refl, c.release.ensures.count, refl, refl), refl, λ x. absurd (own_has_state (cow_pending s.block.length s.size B s.waiting) m own x)), c.release.ensures.entries)
