-- SPDX-License-Identifier: MIT
use Rattle.std.proofs.Common.{inr}
use Rattle.imago_storage.specs.Error.{IsDeviceOrMemory}
use Rattle.imago_images.specs.Refusals.{IsUnread}
use Rattle.imago_images.proofs.RefusalSteps.{by_answer}
use Rattle.imago_images.proofs.recognised.length_of.Goals as goal

pub returns-clause-refused : goal.returns-clause-refused
returns-clause-refused g c =
    by_answer c.size.result c.or_image.result c.args.path.now IsDeviceOrMemory IsUnread c.or_image.ensures.given
    c.or_image.ensures.told c.size.ensures.only (λ cause either. inr either)
