-- SPDX-License-Identifier: MIT
use Rattle.imago_img_files.proofs.PrintedSteps.{on_ok}
use Rattle.imago_img_disks.proofs.RowSteps.{placeless_row}
use Rattle.imago_img_disks.proofs.map.print_run.Goals as goal

pub returns-in-None-clause-rows : goal.returns-in-None-clause-rows
returns-in-None-clause-rows g c = λ leads value p q is small shows.
    let self = c.args.printer.now in
    on_ok c.print.result (placeless_row leads value p q c.args.layer_run _ _ c.placeless.result c.placeless.ensures
    (λ z. absurd z) is shows self.json self.is_first c.print.new.self.is_first _ _ c.print.ensures.behind) c.print.ensures.row

pub returns-in-Special-clause-rows : goal.returns-in-Special-clause-rows
returns-in-Special-clause-rows g c = λ leads value p q is small shows.
    let self = c.args.printer.now in
    on_ok c.print-in-Special.result (placeless_row leads value p q c.args.layer_run _ _ c.placeless-in-Special.result c.placeless-in-Special.ensures
    (λ z. absurd z) is shows self.json self.is_first c.print-in-Special.new.self.is_first _ _ c.print-in-Special.ensures.behind) c.print-in-Special.ensures.row

pub returns-in-Zero-clause-rows : goal.returns-in-Zero-clause-rows
returns-in-Zero-clause-rows g c = λ leads value p q is small shows.
    let self = c.args.printer.now in
    on_ok c.print-in-Zero.result (placeless_row leads value p q c.args.layer_run _ _ c.placeless-in-Zero.result c.placeless-in-Zero.ensures
    (λ z. c.in-Zero.is) is shows self.json self.is_first c.print-in-Zero.new.self.is_first _ _ c.print-in-Zero.ensures.behind) c.print-in-Zero.ensures.row
