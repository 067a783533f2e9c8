-- The bytes of a host's file that are shown of it.
-- SPDX-License-Identifier: MIT
use Rattle.std.proofs.Common.{◌≡◌, ℕ, ◌+◌, ◌<◌, ◌≤◌, ◌⊎◌, inl, inr, List, length, slice_index, Option, Some, None, IfSome, refl, sym, ap, ◌∙◌, arith}
use Rattle.std.proofs.lemmas.Bool.{cases_lt}
use Rattle.std.proofs.lemmas.List.{places, same_lists}
use Rattle.std.proofs.lemmas.List.FromFn.{get_or-map-range_with_len}
use Rattle.imago_file.specs.Contents.{sized, resized, HoldsAt}
use Rattle.imago_storage.specs.Bytes.{bytes_at}
use Rattle.imago_images.specs.HostBytes.{shown_bytes}

at_shown : (xs : List ℕ) (n p : ℕ) → p < n → slice_index (sized xs n) p ≡ slice_index xs p
at_shown xs n p lt = grind (arith, places, lt)

at_hidden : (xs : List ℕ) (n p : ℕ) → n ≤ p → slice_index (sized xs n) p ≡ 0
at_hidden xs n p le = grind (arith, places, le)

at_each : (xs buf now : List ℕ) (n offset i : ℕ) → slice_index buf i ≡ slice_index xs (offset + i)
    → (offset + i < n → slice_index now i ≡ slice_index buf i)
    → (n ≤ offset + i → slice_index now i ≡ 0)
    → (offset + i < n) ⊎ (n ≤ offset + i)
    → slice_index now i ≡ slice_index (sized xs n) (offset + i)
at_each xs buf now n offset i read shown hidden (inl lt) = shown lt ∙ read ∙ sym (at_shown xs n (offset + i) lt)
at_each xs buf now n offset i read shown hidden (inr le) = hidden le ∙ sym (at_hidden xs n (offset + i) le)

-- what a host gives, where what isn't shown is hidden
pub shown_read :
    (known : Option (List ℕ → List ℕ)) (name path buf now : List ℕ) (n offset : ℕ) → name ≡ path
    → IfSome known (λ files. buf ≡ bytes_at (files name) offset (length buf))
    → length now ≡ length buf
    → ((k : ℕ) → offset + k < n → slice_index now k ≡ slice_index buf k)
    → ((k : ℕ) → n ≤ offset + k → slice_index now k ≡ 0)
    → HoldsAt (shown_bytes known path n) offset now
shown_read None name path buf now n offset e read long shown hidden = tt
shown_read (Some files) name path buf now n offset e read long shown hidden = λ i lt.
    let within : i < length buf = omega (arith, long, lt) in
    let here : slice_index buf i ≡ slice_index (files path) (offset + i) =
    ap (λ (xs : List ℕ). slice_index xs i) read
    ∙ ap (λ (p : List ℕ). slice_index (bytes_at (files p) offset (length buf)) i) e
    ∙ get_or-map-range_with_len (slice_index (files path)) offset (length buf) i (offset + i) 0 within refl in
    at_each (files path) buf now n offset i here (shown i) (hidden i) (cases_lt (offset + i) n)

cut_more : (xs : List ℕ) (m n : ℕ) → m ≤ n → sized xs m ≡ sized (sized xs n) m
cut_more xs m n h = same_lists _ _ (grind (arith, places, h)) (λ k d lt. grind (arith, places, h))

-- fewer of the bytes
pub shown_less :
    (known : Option (List ℕ → List ℕ)) (path : List ℕ) (m n : ℕ) → m ≤ n
    → shown_bytes known path m ≡ resized (shown_bytes known path n) m
shown_less None path m n h = refl
shown_less (Some files) path m n h = ap Some (cut_more (files path) m n h)
