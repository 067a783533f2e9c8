-- SPDX-License-Identifier: MIT
use Rattle.std.proofs.Common.{◌∙◌, sym}
use Rattle.imago_images.proofs.FaultSteps.{extent_found}
use Rattle.imago_images.proofs.layer.extent_refusal.Goals as goal

pub returns : goal.returns
returns g c =
    let host = c.args.host.now in
    extent_found (g.H.Files.contents host) (g.H.Files.statuses host) (g.H.Files.real_paths host)
    c.args.how.other_files c.args.how c.args.path.now c.in-Err.refusal c.deref-2.result.now c.deref.result.now
    (c.deref.ensures ∙ sym c.deref-2.ensures) (c.in-Ok-true.ensures c.in-Ok-true.field-0-test) c.in-Err.ensures
