-- SPDX-License-Identifier: MIT
use Rattle.std.proofs.Common.{ℕ, List, subst}
use Rattle.imago_access.specs.Calls.{IsWrite, IsMappedWrite}
use Rattle.imago_access.specs.Performed.{IsWrittenBy, IsMappedBy}
use Rattle.imago_access.proofs.run.step.Goals as goal

pub returns-in-Write-clause-step : goal.returns-in-Write-clause-step
returns-in-Write-clause-step g c =
    let w = c.write in
    let h = subst (λ (bytes : List ℕ). IsWrite g.D.FormatDriverInstance.view c.args.image.now w.new.self c.in-Write.offset bytes w.result × IsWrittenBy g.D.FormatDriverInstance.view g.D.FormatDriverInstance.calls c.args.image.now w.new.self c.in-Write.offset bytes w.result) c.deref.ensures.value (w.ensures.written, w.ensures.performed) in
    rw c.in-Write.is (w.result, c.done_or_refused.ensures, h)

pub returns-in-WriteZeroes-clause-step : goal.returns-in-WriteZeroes-clause-step
returns-in-WriteZeroes-clause-step g c = rw c.in-WriteZeroes.is (c.write_zeroes.result, c.done_or_refused-in-WriteZeroes.ensures, (c.write_zeroes.ensures.zeroed, c.write_zeroes.ensures.performed))

pub returns-in-DiscardToZero-clause-step : goal.returns-in-DiscardToZero-clause-step
returns-in-DiscardToZero-clause-step g c = rw c.in-DiscardToZero.is (c.discard_to_zero.result, c.done_or_refused-in-DiscardToZero.ensures, (c.discard_to_zero.ensures.zeroed, c.discard_to_zero.ensures.performed))

pub returns-in-DiscardToAny-clause-step : goal.returns-in-DiscardToAny-clause-step
returns-in-DiscardToAny-clause-step g c = rw c.in-DiscardToAny.is (c.discard_to_any.result, c.done_or_refused-in-DiscardToAny.ensures, c.discard_to_any.ensures.discarded)

pub returns-in-DiscardToBacking-clause-step : goal.returns-in-DiscardToBacking-clause-step
returns-in-DiscardToBacking-clause-step g c = rw c.in-DiscardToBacking.is (c.discard_to_backing.result, c.done_or_refused-in-DiscardToBacking.ensures, c.discard_to_backing.ensures.discarded)

pub returns-in-EnsureData-clause-step : goal.returns-in-EnsureData-clause-step
returns-in-EnsureData-clause-step g c = rw c.in-EnsureData.is (c.ensure_data_mapping.result, c.data_or_refused.ensures, (record { mapped = c.ensure_data_mapping.ensures.mapped; call = c.ensure_data_mapping.ensures.call; lengths = c.ensure_data_mapping.ensures.lengths }, c.ensure_data_mapping.ensures.performed))

pub returns-in-Prepared-clause-step : goal.returns-in-Prepared-clause-step
returns-in-Prepared-clause-step g c =
    let w = c.write_mapping in
    let p = c.in-Prepared in
    let h = subst (λ (bytes : List ℕ). IsMappedWrite g.D.FormatDriverInstance.view c.args.image.now w.new.self p.offset p.length p.overwrite bytes p.commit w.result × IsMappedBy g.D.FormatDriverInstance.view g.D.FormatDriverInstance.calls c.args.image.now w.new.self p.offset p.length p.overwrite bytes p.commit w.result) c.deref-in-Prepared.ensures.value (rw c.spending_of.ensures at w.ensures.mapped, rw c.spending_of.ensures at w.ensures.performed) in
    rw c.in-Prepared.is (w.result, c.prepared_or_refused.ensures, h)

pub returns-in-Sync-clause-step : goal.returns-in-Sync-clause-step
returns-in-Sync-clause-step g c = rw c.in-Sync.is (c.sync.result, c.done_or_refused-in-Sync.ensures, c.sync.ensures)
