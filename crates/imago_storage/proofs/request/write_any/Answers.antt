-- SPDX-License-Identifier: MIT
use Rattle.std.proofs.Common.{rules, arith, inl, inr, ◌≡◌, ◌+◌, length, refl, ap, ◌∙◌}
use Rattle.std.proofs.lemmas.List.{length-replicate}
use Rattle.imago_storage.specs.Features.{IsAlignedRequest, len_align}
use Rattle.imago_storage.specs.Padding.{padded_end, IsPaddedRequest}
use Rattle.imago_storage.proofs.Padding.{len_positive}
use Rattle.imago_storage.proofs.Outcomes.{WriteOutcome_unchanged}
use Rattle.imago_storage.proofs.Writes.{splice_is_part, part_no_shorter, refused_at_once}
use Rattle.imago_storage.proofs.Steps.{pure_write, aligned_step, padded_steps}
use Rattle.imago_storage.proofs.request.write_any.Goals as goal

pub returns-in_default : goal.returns-in_default
returns-in_default g c = record {
  empty = search rules;
  written = λ some. WriteOutcome_unchanged _ _ _ _ _ refl (part_no_shorter _ _ _ _);
  wraps = search rules;
  unchanged = λ w. refl;
  features = refl;
  work = search rules;
  direct = search rules;
  early = λ m none. refl;
  only = search rules;
  cause = search rules;
  memory = search rules;
  performed = λ some fits. absurd (grind (arith, fits, some, c.padded_request.ensures));
}

pub returns-then-len-source : goal.returns-then-len-source
returns-then-len-source g c =
    let e = c.pure_writev.ensures in
    let f = g.S.Storage.features c.args.storage.now in
    let at = c.args.offset in
    let source = c.args.source.now in
    let q : IsPaddedRequest f at (length source) c.in-Some.start c.in-Some.len = rw (c.in-Some.start-is, c.in-Some.len-is) c.in-Some.ensures in
    let ends : at + length source ≡ padded_end f at (length source) = omega (arith, q.is_start, q.is_len, c.if-start-offset.true, c.if-len-source.true) in
    let aligned : IsAlignedRequest f at (length source) = rw (c.if-start-offset.true, c.if-len-source.true) at q.aligned in
    record {
      empty = search rules;
      written = λ some. rw (splice_is_part (g.S.Storage.bytes c.args.storage.now) at source (padded_end f at (length source)) ends) at e.written;
      wraps = search rules;
      unchanged = search rules;
      features = e.features;
      work = search rules;
      direct = λ aligned. e.work;
      early = search rules;
      only = search rules;
      cause = e.cause;
      memory = λ m aligned. e.memory m;
      performed = λ some fits. inl (aligned_step _ _ _ _ f at source refl (len_positive f (g.met.S.Storage.lawful c.args.storage.now)) some aligned (pure_write g.S.Storage.features g.S.Storage.bytes g.S.Storage.maintenance e.performed e.written e.features));
    }

pub returns-in_err-block : goal.returns-in_err-block
returns-in_err-block g c =
    let f = g.S.Storage.features c.args.storage.now in
    let q : IsPaddedRequest f c.args.offset (length c.args.source.now) c.in-Some.start c.in-Some.len = rw (c.in-Some.start-is, c.in-Some.len-is) c.in-Some.ensures in
    let needs_block : ¬ IsAlignedRequest f c.args.offset (length c.args.source.now) = λ aligned. grind (arith, q.same_start aligned, q.same_len aligned, c.else-start-offset) in
    record {
      empty = search rules;
      written = λ some. refused_at_once _ c.from_residual.result _ _ _ refl c.from_residual.ensures.1;
      wraps = search rules;
      unchanged = λ w. refl;
      features = refl;
      work = search rules;
      direct = search rules;
      early = λ m none. refl;
      only = search rules;
      cause = search rules;
      memory = search rules;
      performed = λ some fits. inr (needs_block, refl, search rules);
    }

pub returns : goal.returns
returns g c =
    let f = g.S.Storage.features c.args.storage.now in
    let w = c.write_parts.ensures in
    let q : IsPaddedRequest f c.args.offset (length c.args.source.now) c.in-Some.start c.in-Some.len = rw (c.in-Some.start-is, c.in-Some.len-is) c.in-Some.ensures in
    let block : length c.deref_mut.result.now ≡ len_align f = ap length c.deref_mut.ensures.value ∙ ap length c.in_ok-block.ensures.zeroes ∙ length-replicate (c.length_align.result) 0 ∙ c.length_align.ensures.value in
    let unaligned : ¬ IsAlignedRequest f c.args.offset (length c.args.source.now) = λ aligned. grind (arith, q.same_start aligned, q.same_len aligned, c.else-start-offset) in
    record {
      empty = search rules;
      written = search rules;
      wraps = search rules;
      unchanged = search rules;
      features = w.features;
      work = search rules;
      direct = λ aligned. absurd (unaligned aligned);
      early = search rules;
      only = search rules;
      cause = w.cause;
      memory = λ m aligned. absurd (unaligned aligned);
      performed = λ some fits. inl (padded_steps _ _ _ f _ _ _ _ _ _ _ _ block q w.performed);
    }
