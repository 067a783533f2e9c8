-- SPDX-License-Identifier: MIT
use Rattle.imago_drivers.specs.RawImage.{storage_in}
use Rattle.imago.proofs.RawImages.{mapping_of_range}
use Rattle.imago.proofs.laws.faultless.get_mapping.Goals as goal

pub returns : goal.returns
returns g c = mapping_of_range _ _ _ _ _ (λ r. (c.requires.faultless (storage_in r)).0) (λ r. (c.requires.faultless (storage_in r)).1) c.args.image.now c.inner.result.now c.inner.ensures c.raw_images_refuse_nothing.ensures c.mappings_succeed.ensures c.args.offset c.args.max_length c.get_mapping.result c.get_mapping.ensures.refusals
