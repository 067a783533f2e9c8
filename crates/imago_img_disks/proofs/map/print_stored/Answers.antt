-- SPDX-License-Identifier: MIT
use Rattle.std.proofs.Common.{rules, ◌≡◌, ℕ, ◌+◌, ◌<◌, Bool, List, Some, ◌∙◌, subst, arith}
use Rattle.imago_img_disks.specs.Rows.{HasRows, Row}
use Rattle.imago_img_disks.proofs.RowSteps.{both_rows, one_row, in_file}
use Rattle.imago_img_disks.proofs.map.print_stored.Goals as goal

pub loop-done-preserved : goal.loop-done-preserved
loop-done-preserved g c =
    let run = c.args.run.now in
    let before = c.loop-done in
    let json = c.args.printer.now.json in
    let row : Row = record { start = c.saturating_add.result; count = c.run_at-length.result.0; depth = c.args.depth; kind = c.stored_kind.result; place = Some (c.deref.result.now, c.saturating_add-offset.result) } in
    record {
      within = omega (arith, c.run_at-length.ensures.within, before.invariant.within);
      json = c.print.ensures.json ∙ before.invariant.json;
      rows = λ value small.
          let old = g.W.Write.contents c.args.output.now in
          let mid = g.W.Write.contents before.output in
          let new = g.W.Write.contents c.print.new.output in
          let at : row.start ≡ run.at + before.done = search rules in
          let one : HasRows before.printer.json before.printer.is_first c.print.new.self.is_first value (run.at + before.done) (run.at + (before.done + c.run_at-length.result.0)) mid new
          = one_row before.printer.json value before.printer.is_first c.print.new.self.is_first row _ _ mid new c.print.ensures.behind at c.run_at-length.ensures.some
          (omega arith) (λ z. absurd (in_file c.run_at-length.result.1 row.kind _ c.stored_kind.ensures z)) c.in_ok-print.ensures.row in
          both_rows json value c.args.printer.now.is_first before.printer.is_first c.print.new.self.is_first run.at (run.at + before.done) _ old mid new
          (before.invariant.rows value small)
          (subst (λ (b : Bool). HasRows b before.printer.is_first c.print.new.self.is_first value (run.at + before.done) (run.at + (before.done + c.run_at-length.result.0)) mid new) before.invariant.json one);
    }
