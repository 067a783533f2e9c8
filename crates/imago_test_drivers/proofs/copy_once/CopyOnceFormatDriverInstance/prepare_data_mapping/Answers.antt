-- SPDX-License-Identifier: MIT
use Rattle.std.proofs.Common.{◌≡◌, ℕ, arith, refl, ◌+◌, ◌<◌, true}
use Rattle.std.specs.Prelude.{slice_index, IsTrue}
use Rattle.imago_drivers.specs.Place.{Byte, values}
use Rattle.imago_drivers.specs.LayerBelow.{lent}
use Rattle.imago_test_drivers.specs.CopyOnce.{copy_place}
use Rattle.imago_drivers.specs.RawLaws.{raw_in}
use Rattle.imago_test_drivers.proofs.CopySteps.{copied_below, around_copy, copy_near}
use Rattle.imago_test_drivers.proofs.copy_once.CopyOnceFormatDriverInstance.prepare_data_mapping.Goals as goal

pub returns-then-self-clause-prepared : goal.returns-then-self-clause-prepared
returns-then-self-clause-prepared g c =
    let s = c.args.self.now in
    let B = g.S.Storage.bytes s.storage in
    let copied : s.copied ≡ true = c.if-self.true in
    let m = c.existing-then-self.result in
    let n : m.length ≡ c.args.count = c.existing-then-self.ensures.length in
    record {
      within = omega (arith, n);
      some = λ h. omega (arith, n);
      part = tt;
      whole = λ h. absurd h;
      no_memory = λ h. absurd h;
      later = λ i. omega arith;
      around = λ q e. let x = rw c.requires.spent at e in let z : ⊥ = cc in absurd z;
      near = λ q e. let x = rw c.requires.spent at e in let z : ⊥ = cc in absurd z;
      direct = λ e. (
        c.requires.spent,
        λ i h. (
          slice_index B (c.args.offset + i),
          rw (c.existing-then-self.ensures.storage, c.existing-then-self.ensures.offset, copied) (raw_in s.size B (c.args.offset + i) (omega (arith, n, c.requires.inside))),
        ),
      );
      apart = λ t e. let x = c.existing-then-self.ensures.state in let z : ⊥ = cc in absurd z;
      round = λ k told. rw c.requires.spent tt;
    }

pub returns-in_ok-write_copy-in-Ok-clause-prepared : goal.returns-in_ok-write_copy-in-Ok-clause-prepared
returns-in_ok-write_copy-in-Ok-clause-prepared g c =
    let s = c.args.self.now in
    let B = g.S.Storage.bytes s.storage in
    let m = c.to_commit.result in
    let e = c.to_commit.ensures in
    let n : m.length ≡ c.args.count = e.length in
    let items : c.deref.result.now ≡ c.in-Ok.bytes.items = c.deref.ensures.value in
    let shows : IsTrue (g.S.Storage.features s.storage).keeps_data
    → IsTrue (lent g.B.LowerLayer.as_layer_below c.args.below).tells_bytes → (p : ℕ) → p < s.size
    → values (lent g.B.LowerLayer.as_layer_below c.args.below).at (copy_place s.copied s.size B) p ≡ Byte (slice_index (g.S.Storage.bytes c.write_copy.new.storage) p)
    = λ k told. copied_below s.size B _ c.in-Ok.bytes.items s.copied _ c.if-self.false c.in-Ok.ensures.count (c.in-Ok.ensures.bytes told) (rw items at (c.in_ok-write_copy-in-Ok.ensures.written k)) in
    record {
      within = omega (arith, n);
      some = λ h. omega (arith, n);
      part = tt;
      whole = λ h. absurd h;
      no_memory = λ h. absurd h;
      later = λ i. rw (c.in_ok-write_copy-in-Ok.ensures.features) (omega arith);
      around = λ q e. around_copy _ _ _ q e (omega (arith, c.requires.inside));
      near = λ q e. copy_near s.size _ _ q c.args.offset m.length e (omega (arith, n, c.if-count-eq0.false))
          (omega (arith, n, c.requires.inside));
      direct = λ x. let y = e.state in let z : ⊥ = cc in absurd z;
      apart = λ t x. (_, refl, (e.storage, e.offset, e.length, e.state), refl, λ k told over p i. shows k told p (omega (arith, n, i.1, c.requires.inside)));
      round = λ k told p h l out. shows k told p l;
    }
