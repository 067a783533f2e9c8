-- SPDX-License-Identifier: MIT
use Rattle.imago_drivers.specs.RawImage.{storage_in}
use Rattle.imago.proofs.RawImages.{flush_of_all}
use Rattle.imago.proofs.laws.faultless.flush.Goals as goal

pub returns : goal.returns
returns g c = flush_of_all _ _ _ _ _ (λ r. (c.requires.faultless (storage_in r)).0) (λ r. (c.requires.faultless (storage_in r)).1) c.args.image.now c.inner.result.now c.inner.ensures c.raw_images_refuse_nothing.ensures _ c.flushes_succeed.ensures.flushed c.flush.new.self c.flush.result c.flush.ensures
