-- SPDX-License-Identifier: MIT
use Rattle.std.proofs.Common.{◌≡◌, ℕ, ◌+◌, ◌*◌, ◌/◌, length, refl, ◌∙◌, arith}
use Rattle.std.specs.Prelude.{slice_index}
use Rattle.imago_qcow2.specs.Numbers.{be64}
use Rattle.imago_qcow2_check.specs.Sums.{total, one_if}
use Rattle.imago_qcow2_check.specs.Faults.{shared_fault}
use Rattle.imago_qcow2_check.specs.Tallies.{setting_of}
use Rattle.imago_qcow2_check.proofs.SumSteps.{total_none, total_more}
use Rattle.imago_qcow2_check.proofs.TallySteps.{uses_equal}
use Rattle.imago_qcow2_check.proofs.blocks.look_for_shared.Goals as goal

pub loop-index-init : goal.loop-index-init
loop-index-init c = record {
  same = refl;
  corruptions = λ counts. let z = total_none (λ i. shared_fault (setting_of c.args.shape counts) (slice_index c.args.tally.now.uses.items) (be64 c.args.table.now (8 * i))) in omega (arith, z);
  leaks = refl;
}

pub loop-index-preserved : goal.loop-index-preserved
loop-index-preserved c =
    let uses = c.args.tally.now.uses.items in
    let i = c.loop-index.index in
    let e = c.number64-entry.ensures in
    let same : c.deref.result.now ≡ uses = c.deref.ensures.value ∙ c.loop-index.invariant.same in
    let t = c.in_ok-tell.ensures.adds in
    let q : c.tell.new.self.corruptions ≡ c.loop-index.tally.corruptions + one_if c.is_shared-shared.result = t.faults in
    let k : c.tell.new.self.leaks ≡ c.loop-index.tally.leaks = t.leaks in
    record {
      same = c.in_ok-tell.ensures.same ∙ c.loop-index.invariant.same;
      corruptions = λ counts.
          let s = setting_of c.args.shape counts in
          let f = λ (i : ℕ). shared_fault s (slice_index uses) (be64 c.args.table.now (8 * i)) in
          let here : one_if c.is_shared-shared.result ≡ shared_fault s (slice_index uses) (be64 c.args.table.now (8 * i)) = rw (same, e) at (c.is_shared-shared.ensures counts) in
          let before : c.loop-index.tally.corruptions ≡ c.args.tally.now.corruptions + total f i = c.loop-index.invariant.corruptions counts in
          let more = total_more f i in
          omega (arith, here, before, more, q);
      leaks = k ∙ c.loop-index.invariant.leaks;
    }

pub returns : goal.returns
returns c = λ counts.
    let s = setting_of c.args.shape counts in
    let f = λ (i : ℕ). shared_fault s (slice_index c.args.tally.now.uses.items) (be64 c.args.table.now (8 * i)) in
    let k : c.loop-index.index ≡ length c.args.table.now / 8 = omega (arith, c.loop-index.auto.index-end, c.loop-index-test.false) in
    let x : c.loop-index.tally.corruptions ≡ c.args.tally.now.corruptions + total f c.loop-index.index = c.loop-index.invariant.corruptions counts in
    record { uses = uses_equal c.args.tally.now.uses.items c.loop-index.tally.uses.items c.loop-index.invariant.same; faults = rw k at x; leaks = c.loop-index.invariant.leaks }
