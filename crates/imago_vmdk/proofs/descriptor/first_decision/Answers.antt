-- SPDX-License-Identifier: MIT
use Rattle.std.proofs.Common.{◌≡◌, ℕ, Bool, false, Option, Some, None, option_map, map, List, [], ◌∷◌, refl, sym, ◌∙◌}
use Rattle.imago_vmdk.specs.Text.{lines_left}
use Rattle.imago_vmdk.specs.Probe.{line_decides, first_answer, probe_lines}
use Rattle.imago_vmdk.proofs.Cuts.{next_line, no_line, fewer_left}
use Rattle.imago_vmdk.proofs.descriptor.first_decision.Goals as goal

decides : (x : List ℕ) (lines : List (List ℕ)) (d : Option Bool) → d ≡ line_decides x → probe_lines (x ∷ lines) ≡ first_answer (d ∷ map line_decides lines)
unfolding probe_lines
decides x lines d e = rw (← e) refl

goes_on : (lines : List (List ℕ)) → first_answer (None ∷ map line_decides lines) ≡ probe_lines lines
unfolding probe_lines
goes_on lines = refl

ends : probe_lines [] ≡ false
unfolding probe_lines
ends = refl

pub loop-left-smaller : goal.loop-left-smaller
loop-left-smaller c = fewer_left c.loop-left.left c.cut_line.result.1 c.in-Some.text c.in-Some.is c.cut_line.ensures.shorter

pub returns-in-Some-decision : goal.returns-in-Some-decision
returns-in-Some-decision c =
    let rest = lines_left (option_map (λ s. s.now) c.cut_line.result.1) in
    let e = next_line probe_lines c.loop-left.left c.cut_line.result.1 c.in-Some.text c.cut_line.result.0.now c.in-Some.is c.cut_line.ensures.lines in
    sym (e ∙ decides c.cut_line.result.0.now rest (Some c.in-Some-decision.answer) (sym c.in-Some-decision.is ∙ c.decision.ensures)) ∙ c.loop-left.invariant

pub loop-left-preserved : goal.loop-left-preserved
loop-left-preserved c =
    let rest = lines_left (option_map (λ s. s.now) c.cut_line.result.1) in
    let e = next_line probe_lines c.loop-left.left c.cut_line.result.1 c.in-Some.text c.cut_line.result.0.now c.in-Some.is c.cut_line.ensures.lines in
    sym (e ∙ decides c.cut_line.result.0.now rest None (sym c.in_default-decision.is ∙ c.decision.ensures) ∙ goes_on rest) ∙ c.loop-left.invariant

pub returns : goal.returns
returns c = sym (no_line probe_lines c.loop-left.left c.in_default.is ∙ ends) ∙ c.loop-left.invariant
