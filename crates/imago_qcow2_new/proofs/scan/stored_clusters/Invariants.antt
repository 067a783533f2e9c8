-- SPDX-License-Identifier: MIT
use Rattle.std.proofs.Common.{◌≡◌, ◌-◌, IsTrue}
use Rattle.imago_access.specs.Chain.{driver, tells_bytes}
use Rattle.imago_access.specs.Disk.{disk, value_at}
use Rattle.imago_access.specs.ReaderOf.{image_of as read_of, IsKeeping}
use Rattle.imago_copy.specs.RunsOf.{image_of, at_of, IsReady}
use Rattle.imago_qcow2_new.specs.Space.{StoresData}
use Rattle.imago_qcow2_new.proofs.scan.stored_clusters.Given as goal

abbrev pub invariant-loop-reader : goal.invariant-loop-reader
invariant-loop-reader g l =
    let view = g.D.FormatDriverInstance.view in
    record {
      unit : l.scan.unit ≡ l.cluster;
      keeping : IsKeeping view l.reader;
      read : read_of l.reader ≡ l.image;
      image : image_of l.runs ≡ l.image;
      ready : IsReady view l.runs;
      sparse : IsTrue (tells_bytes view l.image) → StoresData l.scan.stored (value_at (disk view l.image));
    }

abbrev pub decreases-loop-reader : goal.decreases-loop-reader
decreases-loop-reader g l = (g.D.FormatDriverInstance.view (driver l.image)).size - at_of l.runs
