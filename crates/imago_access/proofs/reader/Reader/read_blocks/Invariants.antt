-- SPDX-License-Identifier: MIT
use Rattle.std.proofs.Common.{length, ◌-◌, ◌≡◌, ◌≤◌}
use Rattle.imago_access.specs.Specials.{IsMade}
use Rattle.imago_access.specs.ReaderOf.{image_of, IsKeeping}
use Rattle.imago_access.proofs.reader.Reader.read_blocks.Given as goal

abbrev pub invariant-loop-done : goal.invariant-loop-done
invariant-loop-done g l =
    let view = g.D.FormatDriverInstance.view in
    record {
      image : image_of l.self ≡ image_of l.initial.self;
      keeping : IsKeeping view l.self;
      within : l.done ≤ length l.buf;
      bytes : IsMade view (image_of l.initial.self) l.layer l.offset l.done l.buf;
    }

abbrev pub decreases-loop-done : goal.decreases-loop-done
decreases-loop-done g l = length l.initial.buf - l.done
