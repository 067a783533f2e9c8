-- SPDX-License-Identifier: MIT
use Rattle.std.proofs.Common.{◌<◌, ◌^◌, length, subst}
use Rattle.imago_drivers.specs.RawImage.{storage_in, size_of}
use Rattle.imago.proofs.RawImages.{read_inside}
use Rattle.imago.proofs.laws.faultless.read.Goals as goal

pub returns-clause-succeeds : goal.returns-clause-succeeds
returns-clause-succeeds g c = read_inside _ _ _ _ _ (λ r. (c.requires.faultless (storage_in r)).0) (λ r. (c.requires.faultless (storage_in r)).1) c.args.image.now c.inner-raw.result.now c.inner-raw.ensures c.raw_images_refuse_nothing.ensures c.reads_succeed.ensures c.args.offset (length c.args.buf.now) c.read.result c.requires.inside c.raw_image_stands_in_its_storage.ensures.fits c.requires.room c.read.ensures.refusals

pub returns-clause-fits : goal.returns-clause-fits
returns-clause-fits g c = subst (λ r. size_of r < 2 ^ 64) c.inner-raw.ensures c.raw_image_stands_in_its_storage.ensures.fits
