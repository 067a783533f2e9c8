-- SPDX-License-Identifier: MIT
use Rattle.std.proofs.Common.{◌≡◌, ◌-◌, ◌≤◌, IsTrue}
use Rattle.imago_access.specs.Chain.{tells_bytes}
use Rattle.imago_access.specs.Disk.{disk}
use Rattle.imago_copy.specs.Compared.{AreSameIn}
use Rattle.imago_copy.specs.RestOf.{disk_of, HasPart}
use Rattle.imago_copy.proofs.compare.first_difference.Given as goal

abbrev pub invariant-loop-at : goal.invariant-loop-at
invariant-loop-at g l =
    let left = g.D.FormatDriverInstance.view in
    let right = g.E.FormatDriverInstance.view in
    record {
      within : l.at ≤ l.size;
      one : disk_of l.one ≡ l.left;
      other : disk_of l.other ≡ l.right;
      one_part : HasPart left l.at l.one;
      other_part : HasPart right l.at l.other;
      same : IsTrue (tells_bytes left l.left) → IsTrue (tells_bytes right l.right) → AreSameIn (disk left l.left) (disk right l.right) 0 l.at;
    }

abbrev pub decreases-loop-at : goal.decreases-loop-at
decreases-loop-at g l = l.size - l.at
