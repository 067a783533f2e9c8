-- SPDX-License-Identifier: MIT
use Rattle.std.proofs.Common.{◌<◌, ◌^◌, subst}
use Rattle.imago_drivers.specs.RawImage.{storage_in, size_of}
use Rattle.imago.proofs.RawImages.{memory_alone, ready_to_discard}
use Rattle.imago.proofs.laws.faultless.discard_to_any.Goals as goal

pub returns-clause-succeeds : goal.returns-clause-succeeds
returns-clause-succeeds g c = let s = memory_alone c.discard_to_any.result (c.discards_succeed.ensures c.args.image.now c.discard_to_any.new.self _ c.args.offset c.args.count c.discard_to_any.result (ready_to_discard _ _ _ _ _ (λ r. (c.requires.faultless (storage_in r)).0) (λ r. (c.requires.faultless (storage_in r)).1) c.args.image.now c.inner-raw.result.now c.inner-raw.ensures c.raw_images_refuse_nothing.ensures c.args.offset c.args.count c.requires.writable c.requires.inside c.raw_image_stands_in_its_storage.ensures.fits) c.discard_to_any.ensures.discarded) in record { refusals = s.refusals; sure = λ k. s.sure ((c.requires.inside, k.0, k.1), k.0) }

pub returns-clause-fits : goal.returns-clause-fits
returns-clause-fits g c = subst (λ r. size_of r < 2 ^ 64) c.inner-raw.ensures c.raw_image_stands_in_its_storage.ensures.fits
