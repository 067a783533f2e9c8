-- SPDX-License-Identifier: MIT
use Rattle.std.proofs.Common.{◌≡◌, ℕ, ◌+◌, ◌-◌, ◌<◌, List, [], ◌∷◌, ◌++◌, length, take, drop, get_or, slice_index, refl, sym, ap, ◌∙◌, arith, inl, inr}
use Rattle.std.proofs.lemmas.List.{places, take_all, take_more, append_assoc, take-append-drop, length-drop}
use Rattle.imago_script_parts.specs.Words.{IsCut}

-- what stands behind a place, as a slice to the end
behind : (at : ℕ) (text : List ℕ) → take (length text - (at + 1)) (drop (at + 1) text) ≡ drop (at + 1) text
behind at text = take_all (length text - (at + 1)) (drop (at + 1) text) (omega (arith, length-drop (at + 1) text))

-- a text is cut at its first byte of that value
pub cut_there : (separator at : ℕ) (text : List ℕ) → at < length text → slice_index text at ≡ separator → ((k : ℕ) → k < at → slice_index text k ≡ separator → ⊥) → IsCut separator text (take at text) (take (length text - (at + 1)) (drop (at + 1) text))
cut_there separator at text inside there before = rw (behind at text) (record {
  none_before = λ i h e.
      let l : i < at = grind (arith, places) in
      let s : slice_index (take at text) i ≡ slice_index text i = grind (arith, places) in
      before i l (sym s ∙ e);
  whole = inl (
      sym (take-append-drop (at + 1) text)
      ∙ ap (λ x. x ++ drop (at + 1) text) (take_more text at 0 inside)
      ∙ append_assoc (take at text) (get_or text at 0 ∷ []) (drop (at + 1) text)
      ∙ ap (λ k. take at text ++ k ∷ drop (at + 1) text) there);
})

-- a text without such a byte stands before the cut
pub cut_nowhere : (separator : ℕ) (text : List ℕ) → ((k : ℕ) → k < length text → slice_index text k ≡ separator → ⊥) → IsCut separator text text []
cut_nowhere separator text none = record { none_before = none; whole = inr (refl, refl) }
