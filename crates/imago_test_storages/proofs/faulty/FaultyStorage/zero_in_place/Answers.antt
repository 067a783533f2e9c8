-- SPDX-License-Identifier: MIT
use Rattle.std.proofs.Common.{ℕ, replicate, true, refl}
use Rattle.std.proofs.lemmas.Result.{err_from_is_err_and}
use Rattle.imago_storage.specs.Bytes.{splice}
use Rattle.imago_test_storages.proofs.Torn.{refused_outcome, on_refusal, torn_zeroes, unchanged_write}
use Rattle.imago_test_storages.proofs.faulty.FaultyStorage.zero_in_place.Goals as goal

-- it isn't offered
pub returns-then-not-self-clause-written : goal.returns-then-not-self-clause-written
returns-then-not-self-clause-written c =
    let old = c.args.self.now.inner.bytes.items in
    refused_outcome {U = Unit {0}} true old (splice old c.args.offset (replicate {A = ℕ} c.args.count 0)) _ _ _ refl (unchanged_write old c.args.offset (replicate {A = ℕ} c.args.count 0) _ refl)

pub returns-then-not-self-clause-torn : goal.returns-then-not-self-clause-torn
returns-then-not-self-clause-torn c = unchanged_write c.args.self.now.inner.bytes.items c.args.offset (replicate {A = ℕ} c.args.count 0) _ refl

-- there was no memory to grow
pub returns-in_err-tear_zeroes-in-Some-clause-written : goal.returns-in_err-tear_zeroes-in-Some-clause-written
returns-in_err-tear_zeroes-in-Some-clause-written c =
    let old = c.args.self.now.inner.bytes.items in
    let p = err_from_is_err_and c.from_residual.result c.from_residual.ensures.1 in
    refused_outcome {U = Unit {0}} true old (splice old c.args.offset (replicate {A = ℕ} c.args.count 0)) _ _ _ p.1 (unchanged_write old c.args.offset (replicate {A = ℕ} c.args.count 0) _ c.in_err-tear_zeroes-in-Some.ensures.unchanged)

pub returns-in_err-tear_zeroes-in-Some-clause-torn : goal.returns-in_err-tear_zeroes-in-Some-clause-torn
returns-in_err-tear_zeroes-in-Some-clause-torn c = on_refusal _ _ (unchanged_write c.args.self.now.inner.bytes.items c.args.offset (replicate {A = ℕ} c.args.count 0) _ c.in_err-tear_zeroes-in-Some.ensures.unchanged)

-- the device failed
pub returns-in_ok-tear_zeroes-in-Some-clause-written : goal.returns-in_ok-tear_zeroes-in-Some-clause-written
returns-in_ok-tear_zeroes-in-Some-clause-written c =
    let old = c.args.self.now.inner.bytes.items in
    refused_outcome {U = Unit {0}} true old (splice old c.args.offset (replicate {A = ℕ} c.args.count 0)) _ _ _ c.fail.ensures.device (torn_zeroes c.in-Some.tear old c.args.offset c.args.count _ c.in_ok-tear_zeroes-in-Some.ensures.torn)

pub returns-in_ok-tear_zeroes-in-Some-clause-torn : goal.returns-in_ok-tear_zeroes-in-Some-clause-torn
returns-in_ok-tear_zeroes-in-Some-clause-torn c = on_refusal _ _ (torn_zeroes c.in-Some.tear c.args.self.now.inner.bytes.items c.args.offset c.args.count _ c.in_ok-tear_zeroes-in-Some.ensures.torn)
