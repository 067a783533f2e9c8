-- SPDX-License-Identifier: MIT
use Rattle.std.proofs.Common.{◌≡◌, ◌-◌, ◌≤◌, ◌⊎◌, length, take}
use Rattle.std.specs.Prelude.{IsTrue}
use Rattle.imago_drivers.specs.Place.{HasValues}
use Rattle.imago_access.specs.Chain.{disk_value, tells_bytes, chain_no_memory}
use Rattle.imago_access.specs.Answered.{rest_read}
use Rattle.imago_access.proofs.MadeSteps.{GoesOn}
use Rattle.imago_access.proofs.access.FormatAccess.read_range.Given as goal

abbrev pub invariant-loop-done : goal.invariant-loop-done
invariant-loop-done g l =
    let view = g.D.FormatDriverInstance.view in
    record {
      within : l.done ≤ l.inside;
      bounded : l.inside ≤ length l.buf;
      values : IsTrue (tells_bytes view l.self) → HasValues (disk_value view l.self) l.offset (take l.done l.buf);
      asked : GoesOn (rest_read g.D.FormatDriverInstance.calls l.self l.offset l.inside) l.inside tt l.done tt;
      once : chain_no_memory view l.self l.offset l.inside → (l.done ≡ 0) ⊎ (l.done ≡ l.inside);
    }

abbrev pub decreases-loop-done : goal.decreases-loop-done
decreases-loop-done g l = l.inside - l.done
