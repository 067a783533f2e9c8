-- SPDX-License-Identifier: MIT
use Rattle.std.proofs.Common.{◌≡◌, ap, refl, ◌∙◌, length, Some}
use Rattle.imago_drivers.specs.RawImage.{storage_in, size_of, writability_of}
use Rattle.imago_images.proofs.NameSteps.{passed_on}
use Rattle.imago_images.proofs.NamedSteps.{only}
use Rattle.imago_images.proofs.layer.raw_layer.Goals as goal

pub returns-clause-files : goal.returns-clause-files
returns-clause-files g c = λ named.
    let has = passed_on c.open_image.result c.or_image.result c.in_ok-raw.raw
    (λ r. (storage_in r ≡ c.args.file) × (size_of r ≡ length (g.S.Storage.bytes c.args.file))
    × (writability_of r ≡ c.args.writable))
    c.open_image.ensures.opened c.or_image.ensures.given c.in_ok-raw.was in
    (refl, λ i less. ap (λ s. (g.S.Storage.features s).filename) has.0 ∙ named ∙ ap Some (only c.args.path.now i less))
