-- SPDX-License-Identifier: MIT
use Rattle.std.proofs.Common.{arith, inl, inr, ◌≡◌, ◌+◌, ◌<◌, length, refl}
use Rattle.imago_storage.specs.Padding.{padded_end, IsPaddedRequest}
use Rattle.imago_storage.proofs.Outcomes.{WriteOutcome_unchanged}
use Rattle.imago_storage.proofs.Writes.{splice_is_part, part_no_shorter}
use Rattle.imago_storage.specs.Features.{IsAlignedRequest, len_align}
use Rattle.imago_storage.proofs.Padding.{len_positive}
use Rattle.imago_storage.proofs.Steps.{pure_write, aligned_step, padded_steps, no_steps}
use Rattle.imago_storage.proofs.zeroes.write_by.Goals as goal

pub returns-in_default-clause-written : goal.returns-in_default-clause-written
returns-in_default-clause-written g c = λ some. WriteOutcome_unchanged _ _ _ _ _ refl (part_no_shorter _ _ _ _)

pub returns-then-len-source-clause-written : goal.returns-then-len-source-clause-written
returns-then-len-source-clause-written g c = λ some. (
    let f = g.S.Storage.features c.args.storage.now in
    let at = c.args.offset in
    let source = c.args.source.now in
    let q : IsPaddedRequest f at (length source) c.in-Some.start c.in-Some.len = rw (c.in-Some.start-is, c.in-Some.len-is) c.in-Some.ensures in
    let ends : at + length source ≡ padded_end f at (length source) = omega (arith, q.is_start, q.is_len, c.if-start-offset.true, c.if-len-source.true) in
    rw (splice_is_part (g.S.Storage.bytes c.args.storage.now) at source (padded_end f at (length source)) ends) at c.pure_writev.ensures.written)

pub write_parts-requires : goal.write_parts-requires
write_parts-requires g c =
    let f = g.S.Storage.features c.args.storage.now in
    let q : IsPaddedRequest f c.args.offset (length c.args.source.now) c.in-Some.start c.in-Some.len = rw (c.in-Some.start-is, c.in-Some.len-is) c.in-Some.ensures in
    let some : 0 < length c.args.source.now = grind (arith, c.if-is_empty.false, c.is_empty.ensures) in
    record { lawful = g.met.S.Storage.lawful c.args.storage.now; is_block = elim c.requires [ inl aligned ↦ absurd (grind (arith, q.same_start aligned, q.same_len aligned, c.else-start-offset)) | inr b ↦ b ]; some = some; padded = q }

pub returns-in_default-clause-performed : goal.returns-in_default-clause-performed
returns-in_default-clause-performed g c = λ fits. absurd (grind (arith, fits, c.padded_request.ensures))

pub returns-then-is_empty-clause-performed : goal.returns-then-is_empty-clause-performed
returns-then-is_empty-clause-performed g c = λ fits. (
    let zero : length c.args.source.now ≡ 0 = grind (arith, c.if-is_empty.true, c.is_empty.ensures) in
    no_steps _ _ _ (g.S.Storage.features c.args.storage.now) c.args.offset c.args.source.now c.args.storage.now zero)

pub returns-then-len-source-clause-performed : goal.returns-then-len-source-clause-performed
returns-then-len-source-clause-performed g c = λ fits. (
    let f = g.S.Storage.features c.args.storage.now in
    let at = c.args.offset in
    let source = c.args.source.now in
    let e = c.pure_writev.ensures in
    let some : 0 < length source = grind (arith, c.if-is_empty.false, c.is_empty.ensures) in
    let q : IsPaddedRequest f at (length source) c.in-Some.start c.in-Some.len = rw (c.in-Some.start-is, c.in-Some.len-is) c.in-Some.ensures in
    let aligned : IsAlignedRequest f at (length source) = rw (c.if-start-offset.true, c.if-len-source.true) at q.aligned in
    aligned_step _ _ _ _ f at source refl (len_positive f (g.met.S.Storage.lawful c.args.storage.now)) some aligned (pure_write g.S.Storage.features g.S.Storage.bytes g.S.Storage.maintenance e.performed e.written e.features))

pub returns-clause-performed : goal.returns-clause-performed
returns-clause-performed g c = λ fits. (
    let f = g.S.Storage.features c.args.storage.now in
    let q : IsPaddedRequest f c.args.offset (length c.args.source.now) c.in-Some.start c.in-Some.len = rw (c.in-Some.start-is, c.in-Some.len-is) c.in-Some.ensures in
    let block : length c.args.block.now ≡ len_align f = elim c.requires [ inl aligned ↦ absurd (grind (arith, q.same_start aligned, q.same_len aligned, c.else-start-offset)) | inr b ↦ b ] in
    padded_steps _ _ _ f _ _ _ _ _ _ _ _ block q c.write_parts.ensures.performed)
