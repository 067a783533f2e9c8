-- SPDX-License-Identifier: MIT
use Rattle.std.proofs.Common.{◌≡◌, ◌+◌, Some, sym, subst, ap, ◌∙◌, arith}
use Rattle.imago_cow.specs.Entries.{listed}
use Rattle.imago_cow.specs.Table.{IsEachOnce, held_count}
use Rattle.imago_cow.proofs.TableSteps.{entered, entered_count}
use Rattle.imago_cow.proofs.HeldSteps.{held_small}
use Rattle.imago_cow.proofs.table.Table.enter.Goals as goal

pub invariant_of-self : goal.invariant_of-self
invariant_of-self c =
    let t = c.args.self.now in
    let once : IsEachOnce t.free (listed t.entries) (Some c.in-Some.block) t.count = subst (λ h. IsEachOnce t.free (listed t.entries) h t.count) c.in-Some.is t.each_once in
    let h : held_count t.held ≡ 1 = ap held_count c.in-Some.is in
    record {
      each_once = rw c.enter.ensures.entries (entered t.free (listed t.entries) c.args.index c.in-Some.block t.count c.requires.within c.requires.no_data once);
      all_counted = omega (arith, h, t.all_counted);
      used_counted = rw c.enter.ensures.entries (ap (λ n. n + 1) t.used_counted ∙ sym (entered_count (listed t.entries) c.args.index c.in-Some.block c.requires.within c.requires.no_data));
      has_room = t.has_room;
    }

pub enter-requires-clause-small : goal.enter-requires-clause-small
enter-requires-clause-small c = held_small c.args.self.now c.in-Some.block c.in-Some.is
