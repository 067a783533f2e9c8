-- SPDX-License-Identifier: MIT
use Rattle.std.proofs.Common.{◌≡◌, ◌+◌, ◌-◌, ◌≤◌, IsTrue, List, Option, ℕ, length}
use Rattle.imago_access.specs.Chain.{disk_value, tells_bytes}
use Rattle.imago_access.specs.ReaderOf.{image_of, IsKeeping}
use Rattle.imago_copy.specs.Copies.{IsGathered}
use Rattle.imago_copy.proofs.copy.copy_data.Given as goal

abbrev pub invariant-loop-done : goal.invariant-loop-done
invariant-loop-done g l =
    let view = g.D.FormatDriverInstance.view in
    let value = disk_value view (image_of l.initial.reader) in
    record {
      image : image_of l.reader ≡ image_of l.initial.reader;
      keeping : IsKeeping view l.reader;
      same : g.T.Target.made_for l.target ≡ g.T.Target.made_for l.initial.target;
      within : l.done ≤ l.run.count;
      fits : l.held ≤ length l.buf;
      put : IsTrue (tells_bytes view (image_of l.initial.reader)) → (s : Option (List ℕ)) → IsGathered value l.run.at s (g.T.Target.contents l.initial.target) l.initial.buf l.initial.held → IsGathered value (l.run.at + l.done) s (g.T.Target.contents l.target) l.buf l.held;
    }

abbrev pub decreases-loop-done : goal.decreases-loop-done
decreases-loop-done g l = l.run.count - l.done
