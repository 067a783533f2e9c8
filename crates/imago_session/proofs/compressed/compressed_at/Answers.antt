-- SPDX-License-Identifier: MIT
use Rattle.std.proofs.Common.{◌≡◌, ◌+◌, ◌∙◌, ℕ, suc, List, true, Some, sym, ap, subst, arith}
use Rattle.imago_access.specs.Chain.{backing}
use Rattle.imago_qcow2.specs.Compressed.{packed_value}
use Rattle.imago_qcow2.specs.Entry.{place_by}
use Rattle.imago_session.specs.Files.{File, Layer, IsOver, AreLayersOf, described_by, described_value}
use Rattle.imago_session.proofs.StreamSteps.{some_more, some_all, shows_stream, own_layer, next_layers, leads_on}
use Rattle.imago_session.proofs.compressed.compressed_at.Goals as goal

pub loop-part-preserved : goal.loop-part-preserved
loop-part-preserved c =
    let l = c.loop-part in
    let x = l.layer.now in
    let y = c.in_ok-layer-in-Absent.layer.now in
    let p = c.in_ok-part.part in
    let at = c.args.at in
    let n = c.in_ok-file-in-Absent.file in
    let next : n ≡ l.file + 1 = c.in_ok-file-in-Absent.ensures.1 in
    let on : backing x ≡ Some y = sym c.in_ok-layer-in-Absent.ensures in
    let far : (k : ℕ) → l.file + suc k ≡ n + k = λ k. omega (arith, next) in
    let m = c.min-left.ensures in
    record {
      some = let some = c.in_ok-part.ensures.some in omega (arith, m, some, l.invariant.some);
      within = omega (arith, m, l.invariant.within);
      layers = λ permitted files are.
          subst (λ (f : ℕ → File). AreLayersOf permitted f y) (λ i k. files (far k i)) (next_layers permitted (λ k. files (l.file + k)) x y on (l.invariant.layers permitted files are));
      shows = λ permitted files are i near.
          let b : ℕ → List ℕ = λ k. (files (l.file + k)).bytes in
          let over : IsOver permitted c.inner.result.now (b 0) = subst (λ (d : Layer). IsOver permitted d (b 0)) (sym c.inner.ensures) (own_layer permitted (λ k. files (l.file + k)) x (l.invariant.layers permitted files are)).1 in
          l.invariant.shows permitted files are i (omega (arith, near, m))
          ∙ leads_on (λ k. files (l.file + k)) x y (at + i) on
          (ap (λ (d : Layer). described_by d b (at + i)) (sym c.inner.ensures)
          ∙ c.in_ok-part.ensures.places permitted b i over (omega (arith, near, m))
          ∙ ap (place_by (packed_value true p.compression (b 0) p.length) (b 0) (p.skip + i) (at + i)) c.in-Absent.is)
          ∙ (λ j. described_value (λ k. files (far k j)) y (at + i));
    }

pub returns-in_default-clause-shows : goal.returns-in_default-clause-shows
returns-in_default-clause-shows c =
    let l = c.loop-part in
    let x = l.layer.now in
    let p = c.in_ok-part.part in
    let at = c.args.at in
    let m = c.min-left.ensures in
    some_all c.stream_of.result _ _ _ _ c.stream_of.ensures.told c.stream_of.ensures.stream c.stream_of.ensures.deflated
    (λ r is stream deflate permitted files are i near.
    let b : ℕ → List ℕ = λ k. (files (l.file + k)).bytes in
    let over : IsOver permitted c.inner.result.now (b 0) = subst (λ (d : Layer). IsOver permitted d (b 0)) (sym c.inner.ensures) (own_layer permitted (λ k. files (l.file + k)) x (l.invariant.layers permitted files are)).1 in
    ap (λ (a : ℕ). described_value files c.args.image.now (a + i)) is.0
    ∙ l.invariant.shows permitted files are i (omega (arith, near, is.1, m))
    ∙ ap (λ (a : ℕ). described_value (λ k. files (l.file + k)) x (a + i)) (sym is.0)
    ∙ shows_stream permitted files x r p.compression p.cluster at l.file p.length p.skip c.min-left.result is stream deflate
    (λ j lt. ap (λ (d : Layer). described_by d b (at + j)) (sym c.inner.ensures) ∙ c.in_ok-part.ensures.places permitted b j over (omega (arith, lt, m)))
    i near)

pub returns-in_default-clause-part : goal.returns-in_default-clause-part
returns-in_default-clause-part c =
    let l = c.loop-part in
    let m = c.min-left.ensures in
    let some = c.in_ok-part.ensures.some in
    let inside = c.in_ok-part.ensures.inside in
    some_more c.stream_of.result _ _ c.stream_of.ensures.told
    (λ r is. (
      is.0,
      omega (arith, is.1, m, some, l.invariant.some),
      omega (arith, is.1, m, l.invariant.within),
      omega (arith, is.1, is.3, is.4, m, inside),
    ))
