-- SPDX-License-Identifier: MIT
use Rattle.std.proofs.Common.{◌∙◌, refl, length, slice_index}
use Rattle.imago_test_storages.proofs.Torn.{torn_next, still_plain}
use Rattle.imago_test_storages.proofs.faulty.tear_write.Goals as goal

pub loop-place-preserved : goal.loop-place-preserved
loop-place-preserved c = record {
  plain = still_plain _ _ c.put_if_new.ensures.features c.loop-place.invariant.plain;
  same = c.put_if_new.ensures.features ∙ c.loop-place.invariant.same;
  tearing = torn_next c.args.tear c.args.inner.now.bytes.items c.args.offset (length c.args.source.now) c.loop-place.place (λ k. slice_index c.args.source.now k) c.loop-place.inner.bytes.items c.put_if_new.new.inner.bytes.items
      (slice_index c.args.source.now c.loop-place.place) c.loop-place-test.true c.loop-place.invariant.tearing refl c.put_if_new.ensures.new c.put_if_new.ensures.stays;
}
