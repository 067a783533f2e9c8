-- SPDX-License-Identifier: MIT
use Rattle.std.proofs.Common.{ℕ, replicate, true, refl}
use Rattle.imago_storage.specs.Bytes.{splice}
use Rattle.imago_test_storages.proofs.Torn.{refused_outcome, unchanged_write}
use Rattle.imago_test_storages.proofs.recording.RecordingStorage.zero_in_place.Goals as goal

-- zeroes are written as data
pub returns-then-self-clause-written : goal.returns-then-self-clause-written
returns-then-self-clause-written c =
    let old = c.args.self.now.inner.bytes.items in
    refused_outcome {U = Unit {0}} true old (splice old c.args.offset (replicate {A = ℕ} c.args.count 0)) _ _ _ refl (unchanged_write old c.args.offset (replicate {A = ℕ} c.args.count 0) _ refl)

pub returns-then-self-clause-torn : goal.returns-then-self-clause-torn
returns-then-self-clause-torn c = unchanged_write c.args.self.now.inner.bytes.items c.args.offset (replicate {A = ℕ} c.args.count 0) _ refl
