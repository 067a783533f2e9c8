-- What accepting VMFS extents changes.
-- SPDX-License-Identifier: MIT
use Rattle.std.proofs.Common.{◌≡◌, ℕ, Bool, true, false, ◌&&◌, ◌||◌, ◌==◌, codes, slice_index, cond, if◌then◌else◌, List, [], ◌∷◌, length, Option, Some, None, Result, Ok, Err, refl, ap, subst}
use Rattle.std.specs.Str.{trim}
use Rattle.std.proofs.lemmas.Slice.Eq.{bytes_eq-Decides}
use Rattle.imago_storage.specs.declared.error.Error.{Error}
use Rattle.imago_storage.specs.declared.error.Error.TheVariants.{InvalidData, Unsupported}
use Rattle.imago_vmdk.specs.declared.line.Accepted.{Accepted}
use Rattle.imago_vmdk.specs.declared.line.Access.{Access}
use Rattle.imago_vmdk.specs.declared.line.Extent.{Extent}
use Rattle.imago_vmdk.specs.declared.line.Line.{Line}
use Rattle.imago_vmdk.specs.Text.{utf8_of, lines_of, words_of, cut_at, number_of, is_text}
use Rattle.imago_vmdk.specs.Line.{◌>>=◌, or_invalid, access_of, flat_of, typed_of, sized_of, extent_of, setting_of, pair_of, worded_of, text_of, verdict_of}
use Rattle.imago_vmdk.specs.Vmfs.{has_type, is_count, are_vmfs_words, is_vmfs_text, is_vmfs_line, has_vmfs_line}
use Rattle.imago_vmdk.specs.Reading.{lines_say, reading_of, is_length, is_sparse, disk_in}

-- a VMFS extent is unsupported where it isn't accepted
typed_refused : (accepted : Accepted) (w : Bool) (n : ℕ) (type : List ℕ) (words : List (List ℕ)) (text : List ℕ)
    → accepted.vmfs ≡ false → is_text type (codes "VMFS") ≡ true → typed_of accepted w n (type ∷ words) text ≡ Err Unsupported
unfolding typed_of
typed_refused accepted w n type words text off is =
    let same : type ≡ codes "VMFS" = (bytes_eq-Decides type (codes "VMFS")).0 is in
    rw (same, off) refl

sized_refused : (accepted : Accepted) (first : Option Access) (n : ℕ) (type : List ℕ) (words : List (List ℕ)) (text : List ℕ) (count : List ℕ)
    → accepted.vmfs ≡ false → has_type first ≡ true → number_of 64 count ≡ Some n → is_text type (codes "VMFS") ≡ true
    → worded_of accepted first (count ∷ type ∷ words) text ≡ Err Unsupported
unfolding sized_of extent_of
sized_refused accepted None n type words text count off may number is = let z : ⊥ = cc in absurd z
sized_refused accepted (Some Access.NoAccess) n type words text count off may number is = let z : ⊥ = cc in absurd z
sized_refused accepted (Some Access.ReadOnly) n type words text count off may number is = rw (number, typed_refused accepted false n type words text off is) refl
sized_refused accepted (Some Access.ReadWrite) n type words text count off may number is = rw (number, typed_refused accepted true n type words text off is) refl

both : (a b : Bool) → (a && b) ≡ true → (a ≡ true) × (b ≡ true)
both true true h = (refl, refl)
both true false h = let z : ⊥ = cc in absurd z
both false b h = let z : ⊥ = cc in absurd z

numbered : (o : Option ℕ) → is_count o ≡ true → (n : ℕ) × (o ≡ Some n)
numbered None h = let z : ⊥ = cc in absurd z
numbered (Some n) h = (n, refl)

words_refused : (accepted : Accepted) (comment : Bool) (words : List (List ℕ)) (text : List ℕ) → slice_index text 0 == 35 ≡ comment
    → accepted.vmfs ≡ false → (if comment then false else are_vmfs_words words) ≡ true → text_of accepted words text ≡ Err Unsupported
unfolding are_vmfs_words text_of
words_refused accepted true words text is off h = let z : ⊥ = cc in absurd z
words_refused accepted false [] text is off h = let z : ⊥ = cc in absurd z
words_refused accepted false (first ∷ []) text is off h = let z : ⊥ = cc in absurd z
words_refused accepted false (first ∷ count ∷ []) text is off h = let z : ⊥ = cc in absurd z
words_refused accepted false (first ∷ count ∷ type ∷ words) text is off h =
    let p = both (has_type (access_of first) && is_count (number_of 64 count)) (is_text type (codes "VMFS")) h in
    let q = both (has_type (access_of first)) (is_count (number_of 64 count)) p.0 in
    let n = numbered (number_of 64 count) q.1 in
    rw is (sized_refused accepted (access_of first) n.0 type words text count off q.0 n.1 p.1)

utf8_refused : (accepted : Accepted) (utf8 : Option (List ℕ)) → accepted.vmfs ≡ false → is_vmfs_text utf8 ≡ true
    → (or_invalid utf8 >>= λ text. text_of accepted (words_of (trim text)) (trim text)) ≡ Err Unsupported
utf8_refused accepted None off h = let z : ⊥ = cc in absurd z
utf8_refused accepted (Some text) off h = words_refused accepted (slice_index (trim text) 0 == 35) (words_of (trim text)) (trim text) refl off h

pub line_refused : (accepted : Accepted) (line : List ℕ) → accepted.vmfs ≡ false → is_vmfs_line line ≡ true → verdict_of accepted line ≡ Err Unsupported
unfolding is_vmfs_line verdict_of
line_refused accepted line off h = utf8_refused accepted (utf8_of line) off h

-- and so is a descriptor with such a line, where no line before it is at fault
reading_by : (long sparse : Bool) (r : Result (List (Line (List ℕ))) Error) → long ≡ true → r ≡ Err Unsupported
    → (cond long (cond sparse (Err Unsupported) (r >>= disk_in)) (Err InvalidData)) ≡ Err Unsupported
reading_by false sparse r long h = let z : ⊥ = cc in absurd z
reading_by true true r long h = refl
reading_by true false r long h = rw h refl

pub text_refused : (accepted : Accepted) (text : List ℕ) → is_length (length text) ≡ true → lines_say accepted (lines_of text) ≡ Err Unsupported → reading_of accepted text ≡ Err Unsupported
unfolding reading_of
text_refused accepted text long h = reading_by (is_length (length text)) (is_sparse text) (lines_say accepted (lines_of text)) long h

-- where a line is no VMFS extent, it says the same whether these are accepted or not
abbrev as_line : Result (Extent (List ℕ)) Error → Result (Line (List ℕ)) Error
as_line r = r >>= λ e. Ok (Line.Extent e)

module _ (unknown_keys : Bool) where
  abbrev on : Accepted
  on = record { unknown_keys = unknown_keys; vmfs = true }

  abbrev off : Accepted
  off = record { unknown_keys = unknown_keys; vmfs = false }

  same_by : (zero flat vmfs : Bool) (a b c d : Result (Extent (List ℕ)) Error) → vmfs ≡ false
      → cond zero a (cond flat b (cond (vmfs && true) c d)) ≡ cond zero a (cond flat b (cond (vmfs && false) c d))
  same_by zero flat true a b c d h = let z : ⊥ = cc in absurd z
  same_by zero flat false a b c d h = refl

  typed_same : (w : Bool) (n : ℕ) (type : List ℕ) (words : List (List ℕ)) (text : List ℕ) → is_text type (codes "VMFS") ≡ false
      → typed_of on w n (type ∷ words) text ≡ typed_of off w n (type ∷ words) text
  unfolding typed_of
  typed_same w n type words text apart =
      same_by (is_text type (codes "ZERO")) (is_text type (codes "FLAT")) (is_text type (codes "VMFS")) (Ok (Extent.Zero n)) (flat_of false w n text) (flat_of true w n text) (Err Unsupported) apart

  counted_same : (first : Access) (count : Option ℕ) (type : List ℕ) (words : List (List ℕ)) (text : List ℕ)
      → ((has_type (Some first) && is_count count) && is_text type (codes "VMFS")) ≡ false
      → (or_invalid count >>= λ n. as_line (sized_of on first n (type ∷ words) text)) ≡ (or_invalid count >>= λ n. as_line (sized_of off first n (type ∷ words) text))
  unfolding sized_of
  counted_same first None type words text apart = refl
  counted_same Access.NoAccess (Some n) type words text apart = refl
  counted_same Access.ReadOnly (Some n) type words text apart = ap as_line (typed_same false n type words text apart)
  counted_same Access.ReadWrite (Some n) type words text apart = ap as_line (typed_same true n type words text apart)

  untyped_same : (first : Access) (count : Option ℕ) (text : List ℕ)
      → (or_invalid count >>= λ n. as_line (sized_of on first n [] text)) ≡ (or_invalid count >>= λ n. as_line (sized_of off first n [] text))
  unfolding sized_of typed_of
  untyped_same first None text = refl
  untyped_same Access.NoAccess (Some n) text = refl
  untyped_same Access.ReadOnly (Some n) text = refl
  untyped_same Access.ReadWrite (Some n) text = refl

  key_same : (key value : List ℕ) → setting_of on key value ≡ setting_of off key value
  unfolding setting_of
  key_same key value = refl

  pair_same : (pair : Option (List ℕ × List ℕ)) → pair_of on pair ≡ pair_of off pair
  pair_same None = refl
  pair_same (Some p) = key_same (trim p.0) (trim p.1)

  worded_same : (first : List ℕ) (access : Option Access) (words : List (List ℕ)) (text : List ℕ) → access_of first ≡ access
      → are_vmfs_words (first ∷ words) ≡ false → worded_of on access words text ≡ worded_of off access words text
  unfolding are_vmfs_words extent_of
  worded_same first None words text is apart = pair_same (cut_at 61 text)
  worded_same first (Some word) [] text is apart = refl
  worded_same first (Some word) (count ∷ []) text is apart = untyped_same word (number_of 64 count) text
  worded_same first (Some word) (count ∷ type ∷ words) text is apart =
      counted_same word (number_of 64 count) type words text
      (subst (λ (o : Option Access). ((has_type o && is_count (number_of 64 count)) && is_text type (codes "VMFS")) ≡ false) is apart)

  words_same : (comment : Bool) (words : List (List ℕ)) (text : List ℕ) → slice_index text 0 == 35 ≡ comment
      → (if comment then false else are_vmfs_words words) ≡ false → text_of on words text ≡ text_of off words text
  unfolding text_of
  words_same comment [] text is apart = refl
  words_same true (first ∷ words) text is apart = rw is refl
  words_same false (first ∷ words) text is apart = rw is (worded_same first (access_of first) words text refl apart)

  utf8_same : (utf8 : Option (List ℕ)) → is_vmfs_text utf8 ≡ false
      → (or_invalid utf8 >>= λ text. text_of on (words_of (trim text)) (trim text)) ≡ (or_invalid utf8 >>= λ text. text_of off (words_of (trim text)) (trim text))
  utf8_same None apart = refl
  utf8_same (Some text) apart = words_same (slice_index (trim text) 0 == 35) (words_of (trim text)) (trim text) refl apart

  pub line_same : (line : List ℕ) → is_vmfs_line line ≡ false → verdict_of on line ≡ verdict_of off line
  unfolding is_vmfs_line verdict_of
  line_same line apart = utf8_same (utf8_of line) apart

  neither : (a b : Bool) → (a || b) ≡ false → (a ≡ false) × (b ≡ false)
  neither false false h = (refl, refl)
  neither false true h = let z : ⊥ = cc in absurd z
  neither true b h = let z : ⊥ = cc in absurd z

  lines_same : (lines : List (List ℕ)) → has_vmfs_line lines ≡ false → lines_say on lines ≡ lines_say off lines
  lines_same [] apart = refl
  lines_same (line ∷ lines) apart =
      let p = neither (is_vmfs_line line) (has_vmfs_line lines) apart in
      rw (line_same line p.0, lines_same lines p.1) refl

  pub text_same : (text : List ℕ) → has_vmfs_line (lines_of text) ≡ false → reading_of on text ≡ reading_of off text
  unfolding reading_of
  text_same text apart = rw (lines_same (lines_of text) apart) refl
