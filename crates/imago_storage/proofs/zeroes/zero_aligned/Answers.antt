-- SPDX-License-Identifier: MIT
use Rattle.imago_storage.proofs.Padding.{len_positive}
use Rattle.imago_storage.proofs.ZeroRanges.{HasZeroed_pure}
use Rattle.imago_storage.proofs.zeroes.zero_aligned.Goals as goal

pub returns-in-Allocated-clause-written : goal.returns-in-Allocated-clause-written
returns-in-Allocated-clause-written g c = HasZeroed_pure _ _ _ _ _ _ (len_positive _ (g.met.S.Storage.lawful c.args.storage.now)) c.pure_write_allocated_zeroes.ensures.written

pub returns-in-Any-clause-written : goal.returns-in-Any-clause-written
returns-in-Any-clause-written g c = HasZeroed_pure _ _ _ _ _ _ (len_positive _ (g.met.S.Storage.lawful c.args.storage.now)) c.pure_write_zeroes.ensures.written
