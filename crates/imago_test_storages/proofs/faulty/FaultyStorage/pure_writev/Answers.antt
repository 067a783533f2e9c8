-- SPDX-License-Identifier: MIT
use Rattle.std.proofs.Common.{true}
use Rattle.std.proofs.lemmas.Result.{err_from_is_err_and}
use Rattle.imago_storage.specs.Bytes.{splice}
use Rattle.imago_test_storages.proofs.Torn.{refused_outcome, on_refusal, torn_write, unchanged_write}
use Rattle.imago_test_storages.proofs.faulty.FaultyStorage.pure_writev.Goals as goal

-- there was no memory to grow
pub returns-in_err-tear_write-in-Some-clause-written : goal.returns-in_err-tear_write-in-Some-clause-written
returns-in_err-tear_write-in-Some-clause-written c =
    let old = c.args.self.now.inner.bytes.items in
    let p = err_from_is_err_and c.from_residual.result c.from_residual.ensures.1 in
    refused_outcome {U = Unit {0}} true old (splice old c.args.offset c.args.source.now) _ _ _ p.1 (unchanged_write old c.args.offset c.args.source.now _ c.in_err-tear_write-in-Some.ensures.unchanged)

pub returns-in_err-tear_write-in-Some-clause-torn : goal.returns-in_err-tear_write-in-Some-clause-torn
returns-in_err-tear_write-in-Some-clause-torn c = on_refusal _ _ (unchanged_write c.args.self.now.inner.bytes.items c.args.offset c.args.source.now _ c.in_err-tear_write-in-Some.ensures.unchanged)

-- the device failed
pub returns-in_ok-tear_write-in-Some-clause-written : goal.returns-in_ok-tear_write-in-Some-clause-written
returns-in_ok-tear_write-in-Some-clause-written c =
    let old = c.args.self.now.inner.bytes.items in
    refused_outcome {U = Unit {0}} true old (splice old c.args.offset c.args.source.now) _ _ _ c.fail.ensures.device (torn_write c.in-Some.tear old c.args.offset c.args.source.now _ c.in_ok-tear_write-in-Some.ensures.torn)

pub returns-in_ok-tear_write-in-Some-clause-torn : goal.returns-in_ok-tear_write-in-Some-clause-torn
returns-in_ok-tear_write-in-Some-clause-torn c = on_refusal _ _ (torn_write c.in-Some.tear c.args.self.now.inner.bytes.items c.args.offset c.args.source.now _ c.in_ok-tear_write-in-Some.ensures.torn)
