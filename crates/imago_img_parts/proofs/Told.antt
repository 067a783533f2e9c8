-- The answers to questions, from what the functions that find them say.
-- SPDX-License-Identifier: MIT
use Rattle.std.proofs.Common.{◌≡◌, ◌≢◌, ◌≤◌, ◌&&◌, ◌==◌, arith, inl, inr, ℕ, Bool, true, false, not, is_some, List, Option, Some, None, IfSome, refl, sym, subst, subst₂, ◌∙◌}
use Rattle.std.proofs.lemmas.Bool.{eqb-true, eqb-false, false≢true, not-false, not-true}
use Rattle.std.proofs.lemmas.Option.{IfSome_then}
use Rattle.std.specs.Io.KnownBytes.{Keeps}
use Rattle.imago_images.specs.declared.format.ImageFormat.{ImageFormat}
use Rattle.imago_images.specs.declared.opening.Opening.{Opening}
use Rattle.imago_img_disks.specs.Disks.{AreCompared, is_left_out}
use Rattle.imago_img_disks.specs.Rows.{TellsMap}
use Rattle.imago_qcow2_check.specs.declared.fault.Verdict.{Verdict}
use Rattle.imago_qcow2_check.specs.declared.fault.Verdict.TheVariants as V
use Rattle.imago_img_parts.specs.declared.run.Outcome.{Outcome}
use Rattle.imago_img_parts.specs.declared.run.Outcome.TheVariants.{Fine, Unlike, Checked, Vetted}
use Rattle.imago_img_checks.specs.Checked.{IsChecked}
use Rattle.imago_img_files.proofs.PrintedSteps.{kept_printed}
use Rattle.imago_img_parts.specs.declared.question.Question.{Question}
use Rattle.imago_img_parts.specs.declared.question.Question.TheVariants as Q
use Rattle.imago_img_parts.specs.Commands.{AreToldApart, IsAnswered, IsStatus, outcome_status}

-- two disks have to have the same size, and haven't
must_differ : (same_size : Bool) (m n : ℕ) → is_left_out same_size m n ≡ true
    → (same_size ≡ true) × (m ≢ n)
must_differ true m n e = (refl, eqb-false m n (not-true (m == n) e))
must_differ false m n e = absurd (false≢true e)

-- or they have the same size, if they have to
must_be_same : (same_size : Bool) (m n : ℕ) → is_left_out same_size m n ≡ false
    → same_size ≡ true → m ≡ n
must_be_same true m n e is = eqb-true m n (not-false (m == n) e)
must_be_same false m n e is = absurd (false≢true is)

-- what a comparison found tells whether two disks are alike
told : (how : Opening) (other : Option ImageFormat) (same_size : Bool) (files : List ℕ → List ℕ)
    (first second : List ℕ) (size other_size : ℕ) (found : Option ℕ) (skips : Bool)
    → is_left_out same_size size other_size ≡ skips
    → AreCompared how other same_size files first second size
    other_size found
    → AreToldApart how other same_size files first second (not skips && not (is_some found))
told how other same_size files first second size other_size found true e (x, y, a, b, l, m, h) =
    let (is, differ) = must_differ same_size size other_size e in
    (x, y, a, b, inr (is, λ s. differ (l ∙ s ∙ sym m)))
told how other same_size files first second size other_size None false e (x, y, a, b, l, m, h) =
    (x, y, a, b, λ is. sym l ∙ must_be_same same_size size other_size e is ∙ m, h e)
told how other same_size files first second size other_size (Some at) false e (x, y, a, b, l, m, h) =
    (x, y, a, b, inl (at, h e))

pub told_apart : (how : Opening) (other : Option ImageFormat) (same_size : Bool)
    (contents : Option (List ℕ → List ℕ)) (first second : List ℕ) (size other_size : ℕ)
    (found : Option ℕ) (alike : Bool)
    → alike ≡ (not (is_left_out same_size size other_size) && not (is_some found))
    → IfSome contents (λ files. AreCompared how other same_size
    files first second size other_size found)
    → IfSome contents (λ files. AreToldApart how other same_size files first second alike)
told_apart how other same_size contents first second size other_size found alike is h =
    subst (λ (b : Bool).
    IfSome contents (λ files. AreToldApart how other same_size files first second b))
    (sym is) (IfSome_then contents h
    (λ files. told how other same_size files first second size other_size found _ refl))

-- the same by how the first image is opened
pub told_by : (how said : Opening) (other named : Option ImageFormat) → how ≡ said → other ≡ named
    → (same_size : Bool) (contents : Option (List ℕ → List ℕ)) (first second : List ℕ)
    (alike : Bool)
    → IfSome contents (λ files. AreToldApart how other same_size files first second alike)
    → IfSome contents (λ files. AreToldApart said named same_size files first second alike)
told_by how said other named e n same_size contents first second alike h =
    let one : IfSome contents (λ files. AreToldApart said other same_size files first second alike) =
    subst (λ (w : Opening). IfSome contents (λ files. AreToldApart w other same_size files first second alike)) e h in
    subst (λ (o : Option ImageFormat). IfSome contents (λ files. AreToldApart said o same_size files first second alike)) n one

-- the same of a check
pub checked_as_said : (how said : Opening) → how ≡ said → (contents : Option (List ℕ → List ℕ))
    (path : List ℕ) (verdict : Option Verdict)
    → IfSome contents (λ files. IsChecked how files path verdict)
    → IfSome contents (λ files. IsChecked said files path verdict)
checked_as_said how said e contents path verdict h =
    subst (λ (w : Opening). IfSome contents (λ files. IsChecked w files path verdict)) e h

-- each outcome has one of the statuses that there are
pub outcome_has_status : (outcome : Outcome) → IsStatus (outcome_status outcome)
outcome_has_status Fine = inl (omega arith)
outcome_has_status Unlike = inl (omega arith)
outcome_has_status (Checked None) = inr refl
outcome_has_status (Checked (Some V.Faultless)) = inl (omega arith)
outcome_has_status (Checked (Some V.Corrupt)) = inl (omega arith)
outcome_has_status (Checked (Some V.Leaks)) = inl (omega arith)
outcome_has_status (Vetted true) = inl (omega arith)
outcome_has_status (Vetted false) = inl (omega arith)

-- a status that says little is one of these too
pub small_status : (status most : ℕ) → status ≤ most → most ≤ 2 → IsStatus status
small_status status most h k = inl (omega (arith, h, k))

-- an answer is still there once the output is flushed
pub still_answered : (question : Question) (contents : Option (List ℕ → List ℕ)) (had has flushed : Option (List ℕ)) (outcome : Outcome)
    → Keeps has flushed → IsAnswered question contents had has outcome → IsAnswered question contents had flushed outcome
still_answered (Q.Help kind) contents had has flushed outcome k h = h
still_answered Q.Version contents had has flushed outcome k h = h
still_answered (Q.Settings format) contents had has flushed outcome k h = h
still_answered (Q.Info c) contents had has flushed outcome k h = (h.0, kept_printed _ had has flushed h.1 k)
still_answered (Q.Map c) contents had has flushed outcome k h = (h.0, kept_printed _ had has flushed h.1 k)
still_answered (Q.Check c) contents had has flushed outcome k h = h
still_answered (Q.Vet c) contents had has flushed outcome k h = h
still_answered (Q.Measure c) contents had has flushed outcome k h = (h.0, kept_printed _ had has flushed h.1 k)
still_answered (Q.Compare c) contents had has flushed outcome k h = h

-- what is told of an image is what the words of a command line say
pub mapped_as_said : (how said : Opening) → how ≡ said → (json typed : Bool) → json ≡ typed → (contents : Option (List ℕ → List ℕ)) (path text : List ℕ)
    → IfSome contents (λ files. TellsMap how json files path text) → IfSome contents (λ files. TellsMap said typed files path text)
mapped_as_said how said e json typed j contents path text h =
    subst₂ (λ (o : Opening) (b : Bool). IfSome contents (λ files. TellsMap o b files path text)) e j h
