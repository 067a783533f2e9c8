-- SPDX-License-Identifier: MIT
use Rattle.std.proofs.Common.{◌≡◌, ◌-◌, ◌≤◌, IsTrue, length}
use Rattle.imago_access.specs.Chain.{driver, disk_value, tells_bytes}
use Rattle.imago_access.specs.ReaderOf.{image_of as read_by, IsKeeping}
use Rattle.imago_copy.specs.RunsOf.{image_of, at_of, IsReady}
use Rattle.imago_copy.specs.Copies.{IsGathered}
use Rattle.imago_copy.proofs.copy.copy_disk.Given as goal

abbrev pub invariant-loop-reader : goal.invariant-loop-reader
invariant-loop-reader g l =
    let view = g.D.FormatDriverInstance.view in
    record {
      image : image_of l.runs ≡ l.image;
      reads : read_by l.reader ≡ l.image;
      keeping : IsKeeping view l.reader;
      same : g.T.Target.made_for l.target ≡ g.T.Target.made_for l.initial.target;
      ready : IsReady view l.runs;
      fits : l.held ≤ length l.buf;
      put : IsTrue (tells_bytes view l.image) → IsGathered (disk_value view l.image) (at_of l.runs) (g.T.Target.contents l.initial.target) (g.T.Target.contents l.target) l.buf l.held;
    }

abbrev pub decreases-loop-reader : goal.decreases-loop-reader
decreases-loop-reader g l = (g.D.FormatDriverInstance.view (driver l.image)).size - at_of l.runs
