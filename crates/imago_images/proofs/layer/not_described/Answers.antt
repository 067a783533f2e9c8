-- SPDX-License-Identifier: MIT
use Rattle.imago_images.proofs.FaultSteps.{extent_out, driver_out}
use Rattle.imago_images.proofs.layer.not_described.Goals as goal

pub returns-in-Some : goal.returns-in-Some
returns-in-Some g c =
    let host = c.args.host.now in
    extent_out (g.H.Files.contents host) (g.H.Files.statuses host) (g.H.Files.real_paths host)
    c.args.how.other_files c.args.how c.args.path.now c.in-Some.refusal c.args.cause c.in-Some.ensures

pub returns-in-None : goal.returns-in-None
returns-in-None g c =
    let host = c.args.host.now in
    driver_out (g.H.Files.contents host) (g.H.Files.statuses host) (g.H.Files.real_paths host)
    c.args.how.other_files c.args.how c.args.path.now c.of_file.result c.args.cause c.reason_of.result
    c.reason_of.ensures c.of_file.ensures
