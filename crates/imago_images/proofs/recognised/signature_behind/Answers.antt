-- SPDX-License-Identifier: MIT
use Rattle.std.proofs.Common.{◌≡◌, Some}
use Rattle.std.specs.Option.{option_or}
use Rattle.imago_formats.specs.Signatures.{told_by_last, last_block, iso_beside}
use Rattle.imago_formats.proofs.SignatureSteps.{other_iso}
use Rattle.imago_images.proofs.SignatureSteps.{each_ok}
use Rattle.imago_images.proofs.recognised.signature_behind.Goals as goal

pub returns-in-None-clause-told : goal.returns-in-None-clause-told
returns-in-None-clause-told g c = λ bytes told.
    each_ok c.iso_signature.result (λ iso. iso ≡ iso_beside c.args.found bytes)
    (λ other. other ≡ option_or (told_by_last (Some c.args.found) (last_block bytes)) (iso_beside c.args.found bytes))
    (λ iso is. other_iso c.args.found bytes c.in_ok-other.field-0 iso c.in-None.is
    (c.in_ok-other.ensures.told bytes told) is)
    (c.iso_signature.ensures.told bytes told)
