-- The two lines of the laws, computed.
-- SPDX-License-Identifier: MIT
use Rattle.std.proofs.Common.{◌≡◌, ◌∙◌, ◌⊎◌, ⊎_elim, true, false, refl, sym, ap, subst, List}
use Rattle.std.proofs.lemmas.Bool.{true≢false}
use Rattle.std.specs.Prelude.{Result, Ok, Err, IfOk, IsErr, unwrap_or}
use Rattle.imago_words.specs.Options.{options_of}
use Rattle.imago_words.specs.Reading.{Text, first_letter, letters, steps}
use Rattle.imago_words.specs.Sizes.{size_from, unit_of}
use Rattle.imago_words.specs.declared.command.Command.{Command}
use Rattle.imago_words.specs.declared.command.Command.TheVariants as Asked
use Rattle.imago_words.specs.declared.kind.Kind.{Kind}
use Rattle.imago_words.specs.declared.kind.Kind.TheVariants.{Info, Map, Check, Vet}
use Rattle.imago_words.specs.declared.kind.Kind.TheVariants.{Compare, Convert}
use Rattle.imago_words.specs.declared.kind.Kind.TheVariants.{Create, Measure, Resize}
use Rattle.imago_words.specs.declared.settings.NewFormat.TheVariants.{Raw}
use Rattle.imago_words.specs.Laws.{IsWorked, options_differ, refused_line, worked_line}
use Rattle.imago_words.specs.Commands.{format_named}
use Rattle.imago_words.specs.Line.{Asks, answer_of, kind_named, kind_typed, line_is_meant}
use Rattle.imago_words.specs.Line.{status_for}

-- the first line is meant, the second isn't
pub worked_is_meant : line_is_meant worked_line ≡ true
unfolding answer_of kind_named letters steps first_letter size_from unit_of format_named
worked_is_meant = refl

pub refused_isnt_meant : line_is_meant refused_line ≡ false
unfolding answer_of kind_named letters steps first_letter
refused_isnt_meant = refl

-- what the first one asks for
pub worked_asks : (c : Command) → Asks worked_line c → IsWorked c
unfolding answer_of kind_named letters steps first_letter size_from unit_of format_named
worked_asks (Asked.Convert c) a = record {
  files = sym a.files;
  source_format = a.source_format;
  target_format = sym (ap (λ f. unwrap_or f Raw) a.target_format);
  force = a.force;
  existing = a.existing;
  sparse = a.sparse;
  progress = a.progress;
  quiet = a.quiet;
  strict = a.opening.strict;
  allow_outside = a.opening.allow_outside;
  tables = a.opening.tables;
}
worked_asks (Asked.Help _) a = a
worked_asks Asked.Version a = a
worked_asks (Asked.Settings _) a = a
worked_asks (Asked.Info _) a = a
worked_asks (Asked.Map _) a = a
worked_asks (Asked.Check _) a = a
worked_asks (Asked.Vet _) a = a
worked_asks (Asked.Compare _) a = a
worked_asks (Asked.Create _) a = a
worked_asks (Asked.Measure _) a = a
worked_asks (Asked.Resize _) a = a

-- the same of words that are that line
pub asks_of : (words : List Text) → words ≡ worked_line → (c : Command) → Asks words c → IsWorked c
asks_of words e c a = worked_asks c (subst (λ w. Asks w c) e a)

-- such words aren't refused as unmeant
pub memory_of : (words : List Text) → words ≡ worked_line → (P : Type 0)
    → P ⊎ (line_is_meant words ≡ false) → P
memory_of words e P =
    let meant = sym worked_is_meant ∙ sym (ap line_is_meant e) in
    ⊎_elim (λ p. p) (λ f. absurd (true≢false (meant ∙ f)))

-- words that are the other line aren't meant
pub refused_of : (words : List Text) → words ≡ refused_line → line_is_meant words ≡ true → ⊥
refused_of words e t = true≢false (sym t ∙ (ap line_is_meant e ∙ refused_isnt_meant))

-- whose first word decides the status
pub status_of_line : status_for (kind_typed refused_line) ≡ 2
unfolding kind_named
status_of_line = refl

pub is_err : {T E : Type 0} (r : Result T E) → IfOk r (λ _. ⊥) → IsErr r
is_err (Ok x) h = absurd h
is_err (Err e) h = refl

-- the options of each command, compared
pub differ : (kind : Kind) → options_differ (options_of kind) ≡ true
differ Info = refl
differ Map = refl
differ Check = refl
differ Vet = refl
differ Compare = refl
differ Convert = refl
differ Create = refl
differ Measure = refl
differ Resize = refl
