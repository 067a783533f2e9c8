-- SPDX-License-Identifier: MIT
use Rattle.std.proofs.Common.{◌≡◌, List, ℕ, Bool, true, false, refl, Result, Ok, Err, Bor}
use Rattle.std.specs.Str.{is_utf8, IsUtf8}
use Rattle.std.specs.Option.{option_map}
use Rattle.std.specs.Result.{result_ok, MatchResult}
use Rattle.std.proofs.lemmas.Str.{is_utf8-from_IsUtf8, IsUtf8-from_is_utf8}
use Rattle.imago_vmdk.specs.Text.{utf8_of}
use Rattle.imago_vmdk.proofs.line.utf8.Goals as goal

not_true : (b : Bool) → (b ≡ true → ⊥) → b ≡ false
not_true true h = absurd (h refl)
not_true false h = refl

by_cases : {E : Type 0} (V : E → Type 0) (bytes : List ℕ) (r : Result (Bor (List ℕ)) E) → MatchResult r (λ s. (s.now ≡ bytes) × IsUtf8 bytes) (λ e. ¬ (IsUtf8 bytes) × V e) → option_map (λ s. s.now) (result_ok r) ≡ utf8_of bytes
unfolding utf8_of
by_cases V bytes (Ok s) h = let yes : is_utf8 bytes ≡ true = is_utf8-from_IsUtf8 bytes h.1 in rw (yes, h.0) refl
by_cases V bytes (Err e) h = let no : is_utf8 bytes ≡ false = not_true _ (λ y. h.0 (IsUtf8-from_is_utf8 bytes y)) in rw no refl

pub returns : goal.returns
returns c = rw c.ok.ensures.value (by_cases _ c.args.bytes.now c.from_utf8.result c.from_utf8.ensures.cases)
