-- SPDX-License-Identifier: MIT
use Rattle.std.proofs.Common.{◌≡◌, ◌-◌, ◌≤◌, length, take}
use Rattle.std.specs.Prelude.{IsTrue}
use Rattle.imago_drivers.specs.Place.{HasValues, own_values}
use Rattle.imago_qcow2.specs.Tables.{loaded_of, loaded_disk, loaded_place}
use Rattle.imago_qcow2.proofs.CompressedSteps.{AreRead}
use Rattle.imago_qcow2.proofs.qcow2.Qcow2.unpack_range.Given as goal

abbrev pub invariant-loop-done : goal.invariant-loop-done
invariant-loop-done g l =
    let s = l.self in
    let loaded = loaded_of s.header s.cluster.length s.tables in
    record {
      within : l.done ≤ length l.out;
      len : length l.out ≡ length l.initial.out;
      values : IsTrue (g.S.Storage.features s.storage).tells_bytes → HasValues (own_values (loaded_place (g.S.Storage.features s.storage) loaded (g.S.Storage.bytes s.storage))) l.offset (take l.done l.out);
      asked : AreRead (g.S.Storage.features s.storage) (g.S.Storage.bytes s.storage) (loaded_disk loaded) l.offset l.done;
    }

abbrev pub decreases-loop-done : goal.decreases-loop-done
decreases-loop-done g l = length l.initial.out - l.done
