-- SPDX-License-Identifier: MIT
use Rattle.std.proofs.Common.{◌≡◌}
use Rattle.imago_storage.specs.MemParts.{features_of}
use Rattle.imago_test_storages.specs.Faulty.{IsPlain}
use Rattle.imago_test_storages.proofs.Torn.{IsTearing}
use Rattle.imago_test_storages.proofs.faulty.tear_zeroes.Given as goal

abbrev pub invariant-loop-place : goal.invariant-loop-place
invariant-loop-place l = record {
  plain : IsPlain (features_of l.inner);
  same : features_of l.inner ≡ features_of l.fn.inner;
  tearing : IsTearing l.tear l.fn.inner.bytes.items l.offset (l.count) l.place (λ k. 0) l.inner.bytes.items;
}
