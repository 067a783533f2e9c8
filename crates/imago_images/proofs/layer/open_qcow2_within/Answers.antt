-- SPDX-License-Identifier: MIT
use Rattle.std.proofs.Common.{ℕ, List, Some, subst}
use Rattle.imago_qcow2.specs.Limit.{HasTablesWithin, TablesNeedMore}
use Rattle.imago_qcow2.specs.Opening.{IsRefusedOpening}
use Rattle.imago_images.proofs.RefusalSteps.{too_large, qcow2_out, driver_fault}
use Rattle.imago_images.proofs.layer.open_qcow2_within.Goals as goal

pub returns-in-Err-TablesTooLarge-clause-refused :
    goal.returns-in-Err-TablesTooLarge-clause-refused
returns-in-Err-TablesTooLarge-clause-refused g c =
    too_large g.S.Storage.features g.S.Storage.bytes (g.H.Files.contents c.args.host.now) c.args.path.now
    c.args.file c.args.most_tables c.of_file.result _ c.in-Err-TablesTooLarge.field-0
    c.in-Err-TablesTooLarge.field-0-is c.in-Err-TablesTooLarge.ensures.refused c.of_file.ensures

pub returns-in-Err-Driver-clause-refused : goal.returns-in-Err-Driver-clause-refused
returns-in-Err-Driver-clause-refused g c =
    qcow2_out g.S.Storage.features g.S.Storage.bytes (g.H.Files.contents c.args.host.now) c.args.path.now
    (Some c.args.most_tables) c.args.file c.in-Err-Driver.cause c.not_opened.result
    (driver_fault (IsRefusedOpening (g.S.Storage.features c.args.file) (g.S.Storage.bytes c.args.file))
    (TablesNeedMore (g.S.Storage.features c.args.file) (g.S.Storage.bytes c.args.file) (Some c.args.most_tables))
    c.in-Err-Driver.field-0 c.in-Err-Driver.cause c.in-Err-Driver.field-0-is c.in-Err-Driver.ensures.refused)
    (c.not_opened.ensures.of_bytes (Some c.args.most_tables))

pub returns-in-Ok-clause-few : goal.returns-in-Ok-clause-few
returns-in-Ok-clause-few g c = λ bytes told.
    subst (λ (b : List ℕ). HasTablesWithin (Some c.args.most_tables) b) told.1 (c.in-Ok.ensures.told told.0)
