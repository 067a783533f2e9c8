-- SPDX-License-Identifier: MIT
use Rattle.std.proofs.Common.{Bool, List, ℕ, sym, subst}
use Rattle.std.specs.Io.KnownBytes.{Appends}
use Rattle.imago_img_disks.specs.Rows.{row_of, row_text}
use Rattle.imago_img_files.proofs.PrintedSteps.{on_ok}
use Rattle.imago_img_disks.proofs.RowSteps.{one_text}
use Rattle.imago_img_disks.proofs.map.Printer.print.Goals as goal

pub returns-then-self-clause-row : goal.returns-then-self-clause-row
returns-then-self-clause-row g c =
    let self = c.args.self.now in
    let row = row_of c.args.line in
    let old = g.W.Write.contents c.args.output.now in
    let mid = g.W.Write.contents c.write_all.new.self in
    let new = g.W.Write.contents c.print_object.new.output in
    on_ok c.print_object.result (λ h. one_text self.json self.is_first row old mid new
    (subst (λ (t : List ℕ). Appends old mid t) c.gap_before-gap.ensures c.in_ok-write_all.ensures.bytes)
    (subst (λ (b : Bool). Appends mid new (row_text b row)) (sym c.if-self.true) h)) c.print_object.ensures
