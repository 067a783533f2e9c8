-- SPDX-License-Identifier: MIT
use Rattle.std.proofs.Common.{◌<◌, ◌≤◌, ◌^◌, length, subst}
use Rattle.imago_drivers.specs.RawImage.{storage_in, size_of}
use Rattle.imago.proofs.RawImages.{write_inside}
use Rattle.imago.proofs.laws.faultless.write.Goals as goal

pub returns-clause-succeeds : goal.returns-clause-succeeds
returns-clause-succeeds g c = write_inside _ _ _ _ _ (λ r. (c.requires.faultless (storage_in r)).0) (λ r. (c.requires.faultless (storage_in r)).1) c.args.image.now c.inner-raw.result.now c.inner-raw.ensures c.raw_images_refuse_nothing.ensures c.writes_succeed.ensures c.write.new.self c.args.offset c.args.source.now c.write.result c.requires.writable c.requires.inside c.raw_image_stands_in_its_storage.ensures.fits c.requires.room c.write.ensures.written

pub returns-clause-stored : goal.returns-clause-stored
returns-clause-stored g c = subst (λ r. size_of r ≤ length (g.S.Storage.bytes (storage_in r))) c.inner-raw.ensures c.raw_image_stands_in_its_storage.ensures.stored

pub returns-clause-fits : goal.returns-clause-fits
returns-clause-fits g c = subst (λ r. size_of r < 2 ^ 64) c.inner-raw.ensures c.raw_image_stands_in_its_storage.ensures.fits
