-- What is asked for, by what it is told to be.
-- SPDX-License-Identifier: MIT
use Rattle.std.proofs.Common.{◌≡◌, ◌∙◌, ℕ, List, length, refl, ap, subst}
use Rattle.std.specs.Prelude.{slice_index}
use Rattle.std.proofs.lemmas.List.FromFn.{length-map-range_with_len}
use Rattle.imago_session.specs.Files.{File}
use Rattle.imago_session.specs.declared.session.Want.{Want}
use Rattle.imago_session.specs.declared.session.Want.TheVariants as W
use Rattle.imago_session.specs.Opening.{AsksNoBytes, AsksOtherCount, AsksCount, IsAnswer}

-- no bytes are asked for, so no count of them is wrong or right
pub no_other : (w : Want) (n : ℕ) → ((k from count : ℕ) → w ≡ Want.Bytes k from count → ⊥) → AsksOtherCount w n → ⊥
no_other (W.Bytes k from count) n not h = not k from count refl
no_other (W.Backing k) n not h = h
no_other (W.Extent k) n not h = h
no_other W.Nothing n not h = h
no_other W.Refused n not h = h

pub no_count : (w : Want) (n : ℕ) → ((k from count : ℕ) → w ≡ Want.Bytes k from count → ⊥) → AsksCount w n → ⊥
no_count (W.Bytes k from count) n not h = not k from count refl
no_count (W.Backing k) n not h = h
no_count (W.Extent k) n not h = h
no_count W.Nothing n not h = h
no_count W.Refused n not h = h

-- so many are asked for
pub some_asked : (w : Want) (k from count : ℕ) → w ≡ Want.Bytes k from count → AsksNoBytes w → ⊥
some_asked w k from count is h = subst AsksNoBytes is h

pub count_of : (w : Want) (k from count n : ℕ) → w ≡ Want.Bytes k from count → AsksCount w n → n ≡ count
count_of w k from count n is h = subst (λ (x : Want). AsksCount x n) is h

pub other_of : (w : Want) (k from count n : ℕ) → w ≡ Want.Bytes k from count → AsksOtherCount w n → n ≡ count → ⊥
other_of w k from count n is h = subst (λ (x : Want). AsksOtherCount x n) is h

-- no bytes answer what isn't a want of them, and those that do are so many
pub no_answer : (files : ℕ → File) (w : Want) (bytes : List ℕ) → ((k from count : ℕ) → w ≡ Want.Bytes k from count → ⊥) → IsAnswer files w bytes → ⊥
no_answer files (W.Bytes k from count) bytes not h = not k from count refl
no_answer files (W.Backing k) bytes not h = h
no_answer files (W.Extent k) bytes not h = h
no_answer files W.Nothing bytes not h = h
no_answer files W.Refused bytes not h = h

pub answer_count : (files : ℕ → File) (w : Want) (k from count : ℕ) (bytes : List ℕ) → w ≡ Want.Bytes k from count → IsAnswer files w bytes → length bytes ≡ count
answer_count files w k from count bytes is h =
    ap length (subst (λ (x : Want). IsAnswer files x bytes) is h)
    ∙ length-map-range_with_len (slice_index (files k).bytes) from count
