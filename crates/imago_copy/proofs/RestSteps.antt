-- What is at hand of a disk that is compared, further on.
-- SPDX-License-Identifier: MIT
use Rattle.std.proofs.Common.{◌≡◌, ℕ, ◌≤◌, Option, Some, None, arith}
use Rattle.imago_drivers.specs.View.{View}
use Rattle.imago_access.specs.declared.access.FormatAccess.{FormatAccess}
use Rattle.imago_copy.specs.declared.compare.Rest.{Rest}
use Rattle.imago_copy.specs.declared.runs.Run.{Run}
use Rattle.imago_copy.specs.RestOf.{disk_of, end_of, HasPart, IsAtHand}

hand_further : {D St : Type 0} (view : D → View St) (x : FormatAccess D) (p q end : ℕ) (held : Option Run) → p ≤ q → IsAtHand view x p end held → IsAtHand view x q end held
hand_further view x p q end None le h = tt
hand_further view x p q end (Some run) le h =
    let begins : run.at ≤ q = omega (arith, h.1, le) in
    (h.0, begins, h.2, h.3)

-- what has a part from an offset on has one from any later offset on, up to the end of the run
pub further : {D St : Type 0} (view : D → View St) (p q : ℕ) (old new : Rest D) → disk_of new ≡ disk_of old → end_of new ≡ end_of old → HasPart view p new → p ≤ q → q ≤ end_of old → HasPart view q new
further view p q old new same end h le inside =
    let within : q ≤ end_of new = omega (arith, end, inside) in
    (h.0, h.1, within, h.3, h.4, h.5, h.6, hand_further view (disk_of new) p q new.end new.run le h.7)
