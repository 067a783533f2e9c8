-- SPDX-License-Identifier: MIT
use Rattle.std.proofs.Common.{◌≡◌, ◌≤◌, ◌-◌, IsTrue}
use Rattle.imago_access.specs.Chain.{tells_bytes}
use Rattle.imago_access.specs.Disk.{disk, value_at}
use Rattle.imago_access.specs.ReaderOf.{image_of, IsKeeping}
use Rattle.imago_qcow2_new.specs.Space.{Fills}
use Rattle.imago_qcow2_new.proofs.write.put_disk.Given as goal

abbrev pub invariant-loop-at : goal.invariant-loop-at
invariant-loop-at g l =
    let view = g.D.FormatDriverInstance.view in
    record {
      reads : image_of l.reader ≡ l.image;
      keeping : IsKeeping view l.reader;
      within : l.at ≤ l.layout.length;
      same : g.T.Target.made_for l.target ≡ g.T.Target.made_for l.initial.target;
      put : IsTrue (tells_bytes view l.image) → Fills l.layout.clusters l.layout.data_start (value_at (disk view l.image)) (g.T.Target.contents l.initial.target) (g.T.Target.contents l.target) l.at;
    }

abbrev pub decreases-loop-at : goal.decreases-loop-at
decreases-loop-at g l = l.layout.length - l.at
