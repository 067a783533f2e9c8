-- SPDX-License-Identifier: MIT
use Rattle.std.proofs.Common.{◌≡◌, None}
use Rattle.imago_formats.specs.Signatures.{told_by_last, last_block, signature_of}
use Rattle.imago_formats.proofs.SignatureSteps.{by_last}
use Rattle.imago_images.proofs.SignatureSteps.{each_ok}
use Rattle.imago_images.proofs.recognised.signature_of.Goals as goal

pub returns-in-None-clause-told : goal.returns-in-None-clause-told
returns-in-None-clause-told g c = λ bytes told.
    each_ok c.last_signature.result (λ last. last ≡ told_by_last None (last_block bytes))
    (λ found. found ≡ signature_of bytes)
    (λ last ends. by_last bytes last c.in_ok-found.field-0 c.in-None.is (c.in_ok-found.ensures.told bytes told) ends)
    (c.last_signature.ensures.told bytes told)
