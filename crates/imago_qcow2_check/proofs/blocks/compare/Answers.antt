-- SPDX-License-Identifier: MIT
use Rattle.std.proofs.Common.{◌≡◌, ℕ, List, ◌+◌, ◌<◌, nat_lt, ⊎_elim, ◌≤◌, refl, ap, ◌∙◌, arith}
use Rattle.std.proofs.lemmas.Bool.{cases_lt}
use Rattle.std.specs.Prelude.{slice_index}
use Rattle.imago_qcow2_check.specs.CountParts.{most_counted}
use Rattle.imago_qcow2_check.specs.Sums.{total, one_if}
use Rattle.imago_qcow2_check.specs.Faults.{is_overused, is_leaked}
use Rattle.imago_qcow2_check.proofs.SumSteps.{total_none, total_more}
use Rattle.imago_qcow2_check.proofs.blocks.compare.Goals as goal

pub loop-index-init : goal.loop-index-init
loop-index-init c =
    let counts = slice_index c.args.counts.now in
    let uses = slice_index c.args.tally.now.uses.items in
    let x = total_none (is_overused counts uses) in
    let y = total_none (is_leaked counts uses) in
    record { same = refl; corruptions = omega (arith, x); leaks = omega (arith, y); counted = λ i h. absurd (omega (arith, h)) }

pub loop-index-preserved : goal.loop-index-preserved
loop-index-preserved c =
    let i = c.loop-index.index in
    let counts = slice_index c.args.counts.now in
    let uses = slice_index c.args.tally.now.uses.items in
    let u = c.uses_of-uses.result in
    let is : u ≡ uses i = c.uses_of-uses.ensures ∙ ap (λ (l : List ℕ). slice_index l i) c.loop-index.invariant.same in
    let small : u < 4294967296 = c.uses_of-uses.type_inv in
    let least : uses i < most_counted = omega (arith, is, small, c.if-uses.false) in
    let t = c.in_ok-tell.ensures.adds in
    let a : c.tell.new.self.corruptions ≡ c.loop-index.tally.corruptions + one_if (nat_lt (counts i) u) = t.faults in
    let k : c.tell.new.self.leaks ≡ c.loop-index.tally.leaks = t.leaks in
    let b = c.in_ok-tell_leak.ensures in
    let f : c.tell_leak.new.self.corruptions ≡ c.tell.new.self.corruptions = b.faults in
    let l : c.tell_leak.new.self.leaks ≡ c.tell.new.self.leaks + one_if (nat_lt u (counts i)) = b.leaks in
    let a2 : c.tell.new.self.corruptions ≡ c.loop-index.tally.corruptions + one_if (nat_lt (counts i) (uses i)) = rw is at a in
    let l2 : c.tell_leak.new.self.leaks ≡ c.tell.new.self.leaks + one_if (nat_lt (uses i) (counts i)) = rw is at l in
    let x : total (is_overused counts uses) (i + 1) ≡ total (is_overused counts uses) i + one_if (nat_lt (counts i) (uses i)) = total_more (is_overused counts uses) i in
    let y : total (is_leaked counts uses) (i + 1) ≡ total (is_leaked counts uses) i + one_if (nat_lt (uses i) (counts i)) = total_more (is_leaked counts uses) i in
    let p = c.loop-index.invariant.corruptions in
    let q = c.loop-index.invariant.leaks in
    record {
      same = b.uses ∙ c.in_ok-tell.ensures.same ∙ c.loop-index.invariant.same;
      corruptions = omega (arith, a2, f, x, p);
      leaks = omega (arith, k, l2, y, q);
      counted = λ j h. ⊎_elim
          (λ (below : j < i). c.loop-index.invariant.counted j below)
          (λ (above : i ≤ j). let e : j ≡ i = omega (arith, h, above) in rw e least)
          (cases_lt j i);
    }
