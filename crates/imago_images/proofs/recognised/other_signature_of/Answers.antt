-- SPDX-License-Identifier: MIT
use Rattle.std.proofs.Common.{◌≡◌}
use Rattle.std.specs.Option.{option_or}
use Rattle.std.proofs.Common.{Some}
use Rattle.imago_formats.specs.Signatures.{told_by_last, last_block, iso_beside, other_signature_of}
use Rattle.imago_formats.proofs.SignatureSteps.{other_behind}
use Rattle.imago_images.proofs.SignatureSteps.{each_ok}
use Rattle.imago_images.proofs.recognised.other_signature_of.Goals as goal

pub returns-in-None-clause-told : goal.returns-in-None-clause-told
returns-in-None-clause-told g c = λ bytes told.
    each_ok c.signature_behind.result
    (λ other. other ≡ option_or (told_by_last (Some c.args.found) (last_block bytes)) (iso_beside c.args.found bytes))
    (λ other. other ≡ other_signature_of c.args.found bytes)
    (λ other is. other_behind c.args.found bytes c.in_ok-other.field-0 other c.in-None.is
    (c.in_ok-other.ensures.told bytes told) is)
    (c.signature_behind.ensures.told bytes told)
