-- SPDX-License-Identifier: MIT
use Rattle.std.proofs.Common.{◌≤◌, length, arith}
use Rattle.std.proofs.lemmas.Grind.{common_steps}
use Rattle.imago_storage.specs.Bytes.{splice}
use Rattle.imago_storage.proofs.Outcomes.{OnErr_map, WriteOutcome_whole}
use Rattle.imago_storage.proofs.Splices.{length-splice, OldOrNew_old}
use Rattle.imago_storage.proofs.mem.MemStorageStorage.pure_writev.Goals as goal

pub returns-clause-written : goal.returns-clause-written
returns-clause-written c =
    let xs = c.args.self.now.bytes.items in
    let longer : length xs ≤ length (splice xs c.args.offset c.args.source.now) = omega (arith, length-splice xs c.args.offset c.args.source.now) in
    WriteOutcome_whole _ xs _ _ _ c.put.ensures.ok c.put.ensures.err longer

pub returns-clause-torn : goal.returns-clause-torn
returns-clause-torn c =
    let xs = c.args.self.now.bytes.items in
    let longer : length xs ≤ length (splice xs c.args.offset c.args.source.now) = omega (arith, length-splice xs c.args.offset c.args.source.now) in
    OnErr_map c.put.result (λ kept. rw kept (OldOrNew_old xs _ longer)) c.put.ensures.err

pub returns-clause-atomic : goal.returns-clause-atomic
returns-clause-atomic c = λ _. c.put.ensures.err

pub returns-clause-memory : goal.returns-clause-memory
returns-clause-memory c = grind (arith, common_steps)
