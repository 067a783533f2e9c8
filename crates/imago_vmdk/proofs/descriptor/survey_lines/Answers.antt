-- SPDX-License-Identifier: MIT
use Rattle.std.proofs.Common.{ℕ, ◌+◌, List, ◌++◌, map, [], option_map, refl, sym, ◌∙◌}
use Rattle.std.proofs.lemmas.Result.{err_from_is_err_and}
use Rattle.std.specs.String.{string_bytes}
use Rattle.imago_vmdk.specs.declared.line.Line.{Line}
use Rattle.imago_vmdk.specs.declared.line.Extent.{Extent}
use Rattle.imago_vmdk.specs.Text.{lines_of, lines_left}
use Rattle.imago_vmdk.specs.Line.{extent_with, line_with}
use Rattle.imago_vmdk.specs.Reading.{extents_in, extent_in, extents_of, size_in}
use Rattle.imago_vmdk.proofs.Cuts.{next_line, no_line, fewer_left}
use Rattle.imago_vmdk.proofs.Lines.{surveyed, onward, fault, counted, starts, done, appended, behind_none, kept_are}
use Rattle.imago_vmdk.proofs.descriptor.survey_lines.Goals as goal

pub loop-left-init : goal.loop-left-init
loop-left-init c = (0, [], refl, rw c.new.ensures.items refl, starts c.args.accepted (lines_of c.args.text.now), refl)

pub returns-in_err-said-clause-found : goal.returns-in_err-said-clause-found
returns-in_err-said-clause-found c =
    let i = c.loop-left.invariant in
    let p = err_from_is_err_and c.from_residual.result c.from_residual.ensures.1 in
    let so_far = surveyed c.loop-left.survey.version i.0 in
    let e = next_line (onward c.args.accepted so_far) c.loop-left.left c.cut_line.result.1 c.in-Some.text c.cut_line.result.0.now c.in-Some.is c.cut_line.ensures.lines in
    let f = fault c.args.accepted so_far c.cut_line.result.0.now (lines_left (option_map (λ s. s.now) c.cut_line.result.1)) _ c.in_err-said.ensures in
    rw (p.1, p.2) (sym i.4 ∙ e ∙ f)

pub loop-left-smaller : goal.loop-left-smaller
loop-left-smaller c = fewer_left c.loop-left.left c.cut_line.result.1 c.in-Some.text c.in-Some.is c.cut_line.ensures.shorter

pub loop-left-preserved : goal.loop-left-preserved
loop-left-preserved c =
    let i = c.loop-left.invariant in
    let accepted = c.args.accepted in
    let x = c.cut_line.result.0.now in
    let l = c.in_ok-said.said in
    let rest = lines_left (option_map (λ s. s.now) c.cut_line.result.1) in
    let more = c.with-survey.ensures in
    let so_far = surveyed c.loop-left.survey.version i.0 in
    let kept : List (Line (List ℕ)) → List (Extent (List ℕ)) = λ ls. i.1 ++ extents_in ls in
    let e = next_line (onward accepted so_far) c.loop-left.left c.cut_line.result.1 c.in-Some.text x c.in-Some.is c.cut_line.ensures.lines in
    let d = next_line (onward accepted kept) c.loop-left.left c.cut_line.result.1 c.in-Some.text x c.in-Some.is c.cut_line.ensures.lines in (
      i.0 + size_in l,
      i.1 ++ extent_in (line_with (λ s. s.now) l),
      more.size i.0 i.2,
      more.extents i.1 i.3,
      rw more.version (sym (e ∙ counted accepted c.loop-left.survey.version i.0 (λ s. s.now) l x rest c.in_ok-said.ensures) ∙ i.4),
      sym (d ∙ appended accepted i.1 (line_with (λ s. s.now) l) x rest c.in_ok-said.ensures) ∙ i.5,
    )

pub returns-clause-found : goal.returns-clause-found
returns-clause-found c =
    let i = c.loop-left.invariant in
    let none = no_line (onward c.args.accepted (surveyed c.loop-left.survey.version i.0)) c.loop-left.left c.in_default.is in
    rw i.2 (sym i.4 ∙ none ∙ done c.args.accepted c.loop-left.survey.version i.0)

pub returns-clause-extents : goal.returns-clause-extents
returns-clause-extents c =
    let i = c.loop-left.invariant in
    let kept : List (Line (List ℕ)) → List (Extent (List ℕ)) = λ ls. i.1 ++ extents_in ls in
    let none = no_line (onward c.args.accepted kept) c.loop-left.left c.in_default.is in
    kept_are (λ v. map (extent_with string_bytes) v.items) c.loop-left.survey.extents i.1 (extents_of c.args.accepted (lines_of c.args.text.now)) i.3 (sym i.5 ∙ none ∙ behind_none c.args.accepted i.1)
