-- SPDX-License-Identifier: MIT
use Rattle.std.proofs.Common.{sym, ap, Some, ◌∙◌, ◌∷◌, ◌+◌, ◌≡◌, ℕ, [], subst, List, length, length-append, arith}
use Rattle.imago_session.specs.Files.{Layer, AreAbove, AreLayersOf, names_in}
use Rattle.imago_session.proofs.LaidSteps.{above_last, laid_first, laid_more, laid_all, nil_of, names_first, names_more, names_all, layers_first, layers_more}
use Rattle.imago_session.proofs.session.chain.Goals as goal

pub loop-driver-init : goal.loop-driver-init
loop-driver-init c =
    let n = length c.args.above.now.items in
    let x = c.new-image.result in
    let is = c.new-image.ensures.driver in
    let none = c.new-image.ensures.backing in
    let one = layers_first x none in
    record {
      layers = λ permitted files are own low. (are, laid_first permitted files n x c.args.lowest is none own low);
      names = λ files. names_first files n x c.args.lowest is none;
      count = omega (arith, one);
    }

pub loop-driver-preserved : goal.loop-driver-preserved
loop-driver-preserved c =
    let d = c.in-Some.driver in
    let ds = c.pop.new.self.items in
    let e = c.in-Some.ensures.items in
    let x = c.loop-driver.image in
    let y = c.with_backing-image.result in
    let on = c.with_backing-image.ensures.backing ∙ ap Some c.in_ok-below.ensures.ok in
    let more = layers_more x y on in
    let len : length c.loop-driver.above.items ≡ length ds + 1 = ap length e ∙ length-append ds (d ∷ []) in
    let old = c.loop-driver.invariant.count in
    record {
      layers = λ permitted files are own low.
          let inv = c.loop-driver.invariant.layers permitted files are own low in
          let last = above_last permitted files ds d (subst (λ (xs : List Layer). AreAbove permitted files xs) e inv.0) in (
            last.0,
            laid_more permitted files ds d x y c.with_backing-image.ensures.driver on last.1 last.2
                (subst (λ (xs : List Layer). AreLayersOf permitted (λ (k : ℕ). files (length xs + k)) x) e inv.1),
          );
      names = λ files.
          names_more files ds d x y on
          ∙ sym (ap (λ (xs : List Layer). names_in (λ (k : ℕ). files (length xs + k)) x) e)
          ∙ c.loop-driver.invariant.names files;
      count = omega (arith, more, len, old);
    }

pub returns-clause-layers : goal.returns-clause-layers
returns-clause-layers c = λ permitted files are own low.
    let inv = c.loop-driver.invariant.layers permitted files are own low in
    let empty = c.in_default.ensures.cases.0 in
    let whole = c.loop-driver.above.ok.0 in
    laid_all permitted files c.loop-driver.above.items c.loop-driver.image (nil_of c.loop-driver.above.items (omega (arith, empty, whole))) inv.1

pub returns-clause-names : goal.returns-clause-names
returns-clause-names c = λ files.
    let empty = c.in_default.ensures.cases.0 in
    let whole = c.loop-driver.above.ok.0 in
    names_all files c.loop-driver.above.items c.loop-driver.image (nil_of c.loop-driver.above.items (omega (arith, empty, whole)))
    ∙ c.loop-driver.invariant.names files
