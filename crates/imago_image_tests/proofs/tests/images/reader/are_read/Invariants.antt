-- SPDX-License-Identifier: MIT
use Rattle.imago_access.specs.ReaderOf.{IsKeeping}
use Rattle.imago_test_drivers.specs.Making.{view_of}
use Rattle.imago_image_tests.proofs.tests.images.reader.are_read.Given as goal

abbrev pub invariant-loop-offset : goal.invariant-loop-offset
invariant-loop-offset g l = IsKeeping view_of l.reader
