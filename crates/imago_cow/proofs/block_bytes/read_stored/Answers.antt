-- SPDX-License-Identifier: MIT
use Rattle.std.proofs.Common.{length, refl, ⊎_elim}
use Rattle.imago_storage.specs.declared.error.Error.{Error}
use Rattle.imago_drivers.specs.Operation.{Read}
use Rattle.imago_cow.specs.Cow.{cow_no_memory}
use Rattle.imago_cow.proofs.DirectSteps.{refused_some, stands_in_data, direct_request}
use Rattle.imago_cow.proofs.StoredSteps.{request_refused}
use Rattle.imago_cow.proofs.block_bytes.read_stored.Goals as goal

pub returns-clause-refusals : goal.returns-clause-refusals
returns-clause-refusals g c = λ faults size block entries blocks waiting positive known.
    let f = g.S.Storage.features c.args.storage.now in
    let bytes = g.S.Storage.bytes c.args.storage.now in
    let at = c.args.offset in
    let n = length c.args.buf.now in
    let e = c.read.ensures in
    request_refused f bytes size block entries blocks waiting Read 0 at n _ c.read.result (λ x. cow_no_memory f (length bytes) block entries Read x n)
    (λ refused x stands.
    let some = refused_some n c.read.result Error.Memory e.empty refused in
    ⊎_elim
    (λ empty. stands_in_data f f.read_memory (length bytes) block entries x n bytes size 0 at some stands (empty.1))
    (λ d. let q = direct_request f f.read_memory (length bytes) block entries x n bytes size 0 at some stands d in (q.1) (e.memory refused (q.0))))
    positive known refl e.only e.device e.wraps.0
