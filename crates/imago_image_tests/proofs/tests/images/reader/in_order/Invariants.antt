-- SPDX-License-Identifier: MIT
use Rattle.imago_access.specs.ReaderOf.{IsKeeping}
use Rattle.imago_test_drivers.specs.Making.{view_of}
use Rattle.imago_image_tests.proofs.tests.images.reader.in_order.Given as goal

abbrev pub invariant-loop-i : goal.invariant-loop-i
invariant-loop-i g l = IsKeeping view_of l.reader
