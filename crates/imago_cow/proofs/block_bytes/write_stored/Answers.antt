-- SPDX-License-Identifier: MIT
use Rattle.std.proofs.Common.{length, refl, true, false}
use Rattle.imago_storage.specs.declared.error.Error.{Error}
use Rattle.imago_drivers.specs.Operation.{Write}
use Rattle.imago_cow.specs.Cow.{cow_no_memory}
use Rattle.imago_cow.proofs.DirectSteps.{refused_some, direct_request}
use Rattle.imago_cow.proofs.StoredSteps.{request_refused, cow_put, on_ok, on_err, ok_holds, err_holds}
use Rattle.imago_cow.proofs.block_bytes.write_stored.Goals as goal

pub returns-clause-written : goal.returns-clause-written
returns-clause-written g c = λ size block entries. on_ok c.write_bytes.result (λ x e. cow_put size block entries _ _ false _ c.args.offset _ (λ k. ok_holds x e (c.write_bytes.ensures.written k)))

pub returns-clause-torn : goal.returns-clause-torn
returns-clause-torn g c = λ size block entries. on_err c.write_bytes.result (λ x e. cow_put size block entries _ _ true _ c.args.offset _ (λ k. err_holds x e (c.write_bytes.ensures.torn k)))

pub returns-clause-refusals : goal.returns-clause-refusals
returns-clause-refusals g c = λ faults size block entries blocks waiting positive known.
    let f = g.S.Storage.features c.args.storage.now in
    let bytes = g.S.Storage.bytes c.args.storage.now in
    let at = c.args.offset in
    let n = length c.args.source.now in
    let e = c.write_bytes.ensures in
    request_refused f bytes size block entries blocks waiting Write 0 at n _ c.write_bytes.result (λ x. cow_no_memory f (length bytes) block entries Write x n)
    (λ refused x stands d.
    let some = refused_some n c.write_bytes.result Error.Memory (λ zero. (e.empty zero).0) refused in
    let q = direct_request f f.write_memory (length bytes) block entries x n bytes size 0 at some stands d in (q.1) (e.memory refused (q.0)))
    positive known refl e.only (λ e. tt) e.wraps
