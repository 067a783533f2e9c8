-- SPDX-License-Identifier: MIT
use Rattle.imago_img_files.specs.Printed.{HasPrinted, IsAnyText}
use Rattle.imago_img_files.proofs.info.tell_below.Given as goal

abbrev pub invariant-loop-depth : goal.invariant-loop-depth
invariant-loop-depth g l = HasPrinted IsAnyText (g.W.Write.contents l.initial.output) (g.W.Write.contents l.output)
