-- SPDX-License-Identifier: MIT
use Rattle.std.proofs.Common.{refl}
use Rattle.imago_storage.specs.declared.error.Error.TheVariants as Error
use Rattle.imago_images.specs.declared.failure.Reason.TheVariants as Reason
use Rattle.imago_images.specs.Refusals.{IsByDriver}
use Rattle.imago_images.proofs.RefusalSteps.{refused_for}
use Rattle.imago_images.proofs.layer.text_of.Goals as goal

pub returns-clause-refused : goal.returns-clause-refused
returns-clause-refused c =
    refused_for c.args.path.now IsByDriver (Reason.Image Error.Unsupported) (Error.Unsupported, refl)
    c.of_file.result c.of_file.ensures
