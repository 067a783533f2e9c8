-- SPDX-License-Identifier: MIT
use Rattle.std.proofs.Common.{◌≡◌, ◌-◌, ◌≤◌, IsTrue}
use Rattle.imago_access.specs.Chain.{tells_bytes}
use Rattle.imago_access.specs.Disk.{disk, value_at}
use Rattle.imago_access.specs.ReaderOf.{image_of, IsKeeping}
use Rattle.imago_qcow2_new.specs.Space.{StoresData}
use Rattle.imago_qcow2_new.proofs.scan.Scan.read_range.Given as goal

abbrev pub invariant-loop-done : goal.invariant-loop-done
invariant-loop-done g l =
    let view = g.D.FormatDriverInstance.view in
    record {
      within : l.done ≤ l.count;
      unit : l.self.unit ≡ l.initial.self.unit;
      keeping : IsKeeping view l.reader;
      image : image_of l.reader ≡ image_of l.initial.reader;
      sparse : IsTrue (tells_bytes view (image_of l.initial.reader)) → StoresData l.initial.self.stored (value_at (disk view (image_of l.initial.reader)))
          → StoresData l.self.stored (value_at (disk view (image_of l.initial.reader)));
    }

abbrev pub decreases-loop-done : goal.decreases-loop-done
decreases-loop-done g l = l.count - l.done
