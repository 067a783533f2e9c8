-- What the reader makes of the names of the layer below.
-- SPDX-License-Identifier: MIT
use Rattle.std.proofs.Common.{◌≡◌, ℕ, zero, suc, ◌+◌, ◌-◌, ◌*◌, ◌/◌, ◌%◌, ◌<◌, ◌≤◌, ◌^◌, ⊎_elim, true, false, nat_eq, nat_lt, List, [], ◌∷◌, ◌++◌, length, get_or, replicate, Option, Some, None, Ok, refl, sym, ap, ◌∙◌, arith}
use Rattle.std.specs.Prelude.{slice_index, min}
use Rattle.std.specs.Int.{w32, w64, to_be_bytes, from_be_bytes, next_multiple_of}
use Rattle.std.proofs.lemmas.Bool.Decides.{nat_tests}
use Rattle.std.proofs.lemmas.Nat.{be_bytes_8, from_be_bytes-to_be_bytes_4}
use Rattle.std.specs.declared.vec.Vec.{Vec}
use Rattle.std.specs.declared.alloc.Global.{Global}
use Rattle.std.proofs.lemmas.List.{get_or_append_left, get_or-append_right, get_or-replicate, length-append, length-replicate}
use Rattle.imago_storage.specs.Bytes.{IsReadAt}
use Rattle.imago_drivers.specs.Place.{Value}
use Rattle.imago_qcow2.specs.Numbers.{be32, be64}
use Rattle.imago_qcow2.specs.Header.{own_length}
use Rattle.imago_qcow2.specs.Backing.{extensions_end, format_of, IsBackingName, IsFormatName}
use Rattle.imago_qcow2.proofs.BackingSteps.{goes_on, none_left}
use Rattle.imago_qcow2.proofs.NumberSteps.{read32}
use Rattle.imago_qcow2_check.specs.Known.{known_from, IsKnown}
use Rattle.imago_qcow2_check.proofs.KnownSteps.{known_goes_on, known_end}
use Rattle.imago_qcow2_new.specs.declared.format.Version.TheVariants as V
use Rattle.imago_qcow2_new.specs.declared.layout.Layout.{Layout}
use Rattle.imago_qcow2_new.specs.Header.{words_of, number_of, name_start}
use Rattle.imago_qcow2_new.specs.Names.{padding, extension, AreNames}
use Rattle.imago_qcow2_new.specs.Words.{byte_of}
use Rattle.imago_qcow2_new.specs.Layout.{head_word}
use Rattle.imago_qcow2_new.specs.Image.{IsWritten}
use Rattle.imago_qcow2_new.specs.declared.format.Version.{Version}
use Rattle.imago_qcow2_new.proofs.Whole.{power_most}
use Rattle.imago_qcow2_new.proofs.FileSteps.{per_cluster}
use Rattle.imago_qcow2_new.proofs.Reading.{versions, words_most, least, cluster_is, features_none, first_word, own_word, name_start_is, name_length_is}

-- no bytes are bytes
pub none_fit : (xs : List ℕ) → xs ≡ [] → (i : ℕ) → slice_index xs i < 256
none_fit xs none i = let e : slice_index xs i ≡ 0 = ap (λ (y : List ℕ). slice_index y i) none in omega (arith, e)

words_some : (v : Version) → 0 < 8 * words_of v
words_some V.Two = omega arith
words_some V.Three = omega arith

-- the bytes of a number that is made of 8 bytes are these
module _ (bytes : List ℕ) (at : ℕ) (fit : (i : ℕ) → slice_index bytes i < 256) where
  eight : List ℕ
  eight = slice_index bytes at ∷ slice_index bytes (at + 1) ∷ slice_index bytes (at + 2) ∷ slice_index bytes (at + 3)
      ∷ slice_index bytes (at + 4) ∷ slice_index bytes (at + 5) ∷ slice_index bytes (at + 6) ∷ slice_index bytes (at + 7) ∷ []

  each : (i : ℕ) → get_or eight i 0 < 256
  unfolding eight
  each zero = fit at
  each (suc zero) = fit (at + 1)
  each (suc (suc zero)) = fit (at + 2)
  each (suc (suc (suc zero))) = fit (at + 3)
  each (suc (suc (suc (suc zero)))) = fit (at + 4)
  each (suc (suc (suc (suc (suc zero))))) = fit (at + 5)
  each (suc (suc (suc (suc (suc (suc zero)))))) = fit (at + 6)
  each (suc (suc (suc (suc (suc (suc (suc zero))))))) = fit (at + 7)
  each (suc (suc (suc (suc (suc (suc (suc (suc i)))))))) = omega arith

  number : be64 bytes at ≡ from_be_bytes w64 eight
  unfolding be64 be32 eight
  number =
      let e : at + 4 + 1 ≡ at + 5 = omega arith in
      let f : at + 4 + 2 ≡ at + 6 = omega arith in
      let g : at + 4 + 3 ≡ at + 7 = omega arith in
      rw (e, f, g) (omega arith)

  back : to_be_bytes w64 (be64 bytes at) ≡ eight
  unfolding eight
  back = be_bytes_8 eight (be64 bytes at) refl each number

  pub byte_back : (j : ℕ) → j < 8 → get_or (to_be_bytes w64 (be64 bytes at)) j 0 ≡ slice_index bytes (at + j)
  unfolding eight
  byte_back zero lt = ap (λ (x : List ℕ). get_or x 0 0) back ∙ (let e : at + 0 ≡ at = omega arith in ap (slice_index bytes) (sym e))
  byte_back (suc zero) lt = ap (λ (x : List ℕ). get_or x 1 0) back
  byte_back (suc (suc zero)) lt = ap (λ (x : List ℕ). get_or x 2 0) back
  byte_back (suc (suc (suc zero))) lt = ap (λ (x : List ℕ). get_or x 3 0) back
  byte_back (suc (suc (suc (suc zero)))) lt = ap (λ (x : List ℕ). get_or x 4 0) back
  byte_back (suc (suc (suc (suc (suc zero))))) lt = ap (λ (x : List ℕ). get_or x 5 0) back
  byte_back (suc (suc (suc (suc (suc (suc zero)))))) lt = ap (λ (x : List ℕ). get_or x 6 0) back
  byte_back (suc (suc (suc (suc (suc (suc (suc zero))))))) lt = ap (λ (x : List ℕ). get_or x 7 0) back
  byte_back (suc (suc (suc (suc (suc (suc (suc (suc j)))))))) lt = absurd (omega (arith, lt))

module _ (l : Layout) (values : ℕ → Value) (file : List ℕ) (is : IsWritten l values file) (fit : (i : ℕ) → slice_index l.header.names.bytes.items i < 256) where
  -- a byte behind the header
  pub name_byte : (p : ℕ) → 8 * words_of l.header.version + p < l.cluster → slice_index file (8 * words_of l.header.version + p) ≡ slice_index l.header.names.bytes.items p
  unfolding byte_of head_word
  name_byte p lt =
      let c8 = per_cluster l in
      let q : ℕ = 8 * words_of l.header.version + p in
      let far : q < l.tables_start = omega (arith, lt, l.blocks_behind, l.l1_at, l.tables_behind) in
      let index : q / 8 ≡ words_of l.header.version + p / 8 = omega arith in
      let rest : q % 8 ≡ p % 8 = omega arith in
      let inside : nat_lt (words_of l.header.version + p / 8) (l.cluster / 8) ≡ true = (let b : words_of l.header.version + p / 8 < l.cluster / 8 = omega (arith, lt, c8) in grind (arith, nat_tests, b)) in
      let past : nat_lt (words_of l.header.version + p / 8) (words_of l.header.version) ≡ false = grind (arith, nat_tests) in
      let less : words_of l.header.version + p / 8 - words_of l.header.version ≡ p / 8 = omega arith in
      let word : head_word l (words_of l.header.version + p / 8) ≡ be64 l.header.names.bytes.items (8 * (p / 8)) = rw (inside, past, less) refl in
      let small : p % 8 < 8 = omega arith in
      let whole : 8 * (p / 8) + p % 8 ≡ p = omega arith in
      is.head q far
      ∙ ap (λ x. get_or (to_be_bytes w64 (head_word l x)) (q % 8) 0) index
      ∙ ap (λ x. get_or (to_be_bytes w64 (head_word l (words_of l.header.version + p / 8))) x 0) rest
      ∙ ap (λ x. get_or (to_be_bytes w64 x) (p % 8) 0) word
      ∙ byte_back l.header.names.bytes.items (8 * (p / 8)) fit (p % 8) small
      ∙ ap (slice_index l.header.names.bytes.items) whole

  -- where the header ends by its own words
  pub own_is : own_length file ≡ 8 * words_of l.header.version
  unfolding own_length
  own_is = ⊎_elim
      (λ (second : l.header.version ≡ V.Two).
      let v : be32 file 4 ≡ 2 = (first_word l values file is).1 ∙ ap number_of second in
      let w : 8 * words_of l.header.version ≡ 72 = ap (λ x. 8 * words_of x) second in
      rw (v, w) refl)
      (λ (third : l.header.version ≡ V.Three).
      let v : be32 file 4 ≡ 3 = (first_word l values file is).1 ∙ ap number_of third in
      let w : 8 * words_of l.header.version ≡ 112 = ap (λ x. 8 * words_of x) third in
      let o = own_word l values file is third in
      rw (v, o.1, w) refl)
      (versions l.header.version)

  module _ (name format : List ℕ) (are : AreNames name format l.header.names) (some : 0 < length name) where
    long : length (extension format) ≡ 8 + length format + padding (length format)
    long =
        let z : length (replicate {A = ℕ} (padding (length format)) 0) ≡ padding (length format) = length-replicate (padding (length format)) 0 in
        let a : length ((to_be_bytes w32 0xe2792aca ++ to_be_bytes w32 (length format)) ++ format) ≡ 8 + length format = length-append (to_be_bytes w32 0xe2792aca ++ to_be_bytes w32 (length format)) format in
        let b : length (extension format) ≡ length ((to_be_bytes w32 0xe2792aca ++ to_be_bytes w32 (length format)) ++ format) + length (replicate {A = ℕ} (padding (length format)) 0) = length-append ((to_be_bytes w32 0xe2792aca ++ to_be_bytes w32 (length format)) ++ format) (replicate (padding (length format)) 0) in
        omega (arith, a, b, z)

    all : length l.header.names.bytes.items ≡ l.header.names.start + l.header.names.count
    all =
        let a : length l.header.names.bytes.items ≡ length (extension format) + length name = ap length are.bytes ∙ length-append (extension format) name in
        omega (arith, a, are.start, are.count)

    room : 8 * words_of l.header.version + l.header.names.start + l.header.names.count ≤ l.cluster
    room = let w = words_most l.header.version in omega (arith, w, l.name_inside)

    read : IsReadAt file (8 * words_of l.header.version) l.header.names.bytes.items
    read p lt = let a = all in let r = room in sym (name_byte p (omega (arith, a, r, lt)))

    -- the bytes behind the header, by their parts
    in_extension : (p : ℕ) → p < length (extension format) → slice_index l.header.names.bytes.items p ≡ slice_index (extension format) p
    in_extension p lt = ap (λ (x : List ℕ). slice_index x p) are.bytes ∙ get_or_append_left (extension format) name 0 p lt

    in_first : (p : ℕ) → p < 8 + length format → slice_index l.header.names.bytes.items p ≡ slice_index ((to_be_bytes w32 0xe2792aca ++ to_be_bytes w32 (length format)) ++ format) p
    in_first p lt =
        let n = long in
        let a : length ((to_be_bytes w32 0xe2792aca ++ to_be_bytes w32 (length format)) ++ format) ≡ 8 + length format = length-append (to_be_bytes w32 0xe2792aca ++ to_be_bytes w32 (length format)) format in
        let here : p < length ((to_be_bytes w32 0xe2792aca ++ to_be_bytes w32 (length format)) ++ format) = omega (arith, a, lt) in
        in_extension p (omega (arith, n, lt)) ∙ get_or_append_left ((to_be_bytes w32 0xe2792aca ++ to_be_bytes w32 (length format)) ++ format) (replicate (padding (length format)) 0) 0 p here

    in_words : (p : ℕ) → p < 8 → slice_index l.header.names.bytes.items p ≡ slice_index (to_be_bytes w32 0xe2792aca ++ to_be_bytes w32 (length format)) p
    in_words p lt =
        let here : p < length (to_be_bytes w32 0xe2792aca ++ to_be_bytes w32 (length format)) = omega (arith, lt) in
        in_first p (omega (arith, lt)) ∙ get_or_append_left (to_be_bytes w32 0xe2792aca ++ to_be_bytes w32 (length format)) format 0 p here

    in_format : (i : ℕ) → i < length format → slice_index l.header.names.bytes.items (8 + i) ≡ slice_index format i
    in_format i lt =
        let less : 8 + i - 8 ≡ i = omega arith in
        in_first (8 + i) (omega (arith, lt)) ∙ get_or-append_right (to_be_bytes w32 0xe2792aca ++ to_be_bytes w32 (length format)) format 8 (8 + i) 0 refl (omega arith) ∙ ap (slice_index format) less

    in_zeroes : (p : ℕ) → 8 + length format ≤ p → p < 8 + length format + padding (length format) → slice_index l.header.names.bytes.items p ≡ 0
    in_zeroes p ge lt =
        let n = long in
        let a : length ((to_be_bytes w32 0xe2792aca ++ to_be_bytes w32 (length format)) ++ format) ≡ 8 + length format = length-append (to_be_bytes w32 0xe2792aca ++ to_be_bytes w32 (length format)) format in
        in_extension p (omega (arith, n, lt)) ∙ get_or-append_right ((to_be_bytes w32 0xe2792aca ++ to_be_bytes w32 (length format)) ++ format) (replicate (padding (length format)) 0) (8 + length format) p 0 a ge
        ∙ get_or-replicate (padding (length format)) (p - (8 + length format)) 0 0 (omega (arith, ge, lt))

    in_name : (i : ℕ) → slice_index l.header.names.bytes.items (l.header.names.start + i) ≡ slice_index name i
    in_name i =
        let less : l.header.names.start + i - l.header.names.start ≡ i = omega arith in
        ap (λ (x : List ℕ). slice_index x (l.header.names.start + i)) are.bytes ∙ get_or-append_right (extension format) name l.header.names.start (l.header.names.start + i) 0 (sym are.start) (omega arith) ∙ ap (slice_index name) less

    -- the type and the length of the extension
    type_is : be32 l.header.names.bytes.items 0 ≡ 3799591626
    unfolding be32
    type_is =
        let a : slice_index l.header.names.bytes.items 0 ≡ 226 = in_words 0 (omega arith) in
        let b : slice_index l.header.names.bytes.items 1 ≡ 121 = in_words 1 (omega arith) in
        let c : slice_index l.header.names.bytes.items 2 ≡ 42 = in_words 2 (omega arith) in
        let d : slice_index l.header.names.bytes.items 3 ≡ 202 = in_words 3 (omega arith) in
        omega (arith, a, b, c, d)

    count_is : be32 l.header.names.bytes.items 4 ≡ length format
    unfolding be32
    count_is =
        let a : slice_index l.header.names.bytes.items 4 ≡ get_or (to_be_bytes w32 (length format)) 0 0 = in_words 4 (omega arith) in
        let b : slice_index l.header.names.bytes.items 5 ≡ get_or (to_be_bytes w32 (length format)) 1 0 = in_words 5 (omega arith) in
        let c : slice_index l.header.names.bytes.items 6 ≡ get_or (to_be_bytes w32 (length format)) 2 0 = in_words 6 (omega arith) in
        let d : slice_index l.header.names.bytes.items 7 ≡ get_or (to_be_bytes w32 (length format)) 3 0 = in_words 7 (omega arith) in
        let n = long in
        let m = power_most l.cluster l.header.cluster_bits l.power l.most in
        let small : length format < 2 ^ 32 = omega (arith, n, are.start, l.name_inside, m) in
        let r : from_be_bytes w32 (to_be_bytes w32 (length format)) ≡ length format = from_be_bytes-to_be_bytes_4 (length format) small in
        omega (arith, a, b, c, d, r)

    end_is : be32 l.header.names.bytes.items (8 + next_multiple_of (length format) 8) ≡ 0
    unfolding be32
    end_is =
        let at : ℕ = 8 + next_multiple_of (length format) 8 in
        let a : slice_index l.header.names.bytes.items (8 + next_multiple_of (length format) 8) ≡ 0 = in_zeroes (8 + next_multiple_of (length format) 8) (omega arith) (omega arith) in
        let b : slice_index l.header.names.bytes.items (8 + next_multiple_of (length format) 8 + 1) ≡ 0 = in_zeroes (8 + next_multiple_of (length format) 8 + 1) (omega arith) (omega arith) in
        let c : slice_index l.header.names.bytes.items (8 + next_multiple_of (length format) 8 + 2) ≡ 0 = in_zeroes (8 + next_multiple_of (length format) 8 + 2) (omega arith) (omega arith) in
        let d : slice_index l.header.names.bytes.items (8 + next_multiple_of (length format) 8 + 3) ≡ 0 = in_zeroes (8 + next_multiple_of (length format) 8 + 3) (omega arith) (omega arith) in
        omega (arith, a, b, c, d)

    end_long : be32 l.header.names.bytes.items (8 + next_multiple_of (length format) 8 + 4) ≡ 0
    unfolding be32
    end_long =
        let a : slice_index l.header.names.bytes.items (8 + next_multiple_of (length format) 8 + 4) ≡ 0 = in_zeroes (8 + next_multiple_of (length format) 8 + 4) (omega arith) (omega arith) in
        let b : slice_index l.header.names.bytes.items (8 + next_multiple_of (length format) 8 + 4 + 1) ≡ 0 = in_zeroes (8 + next_multiple_of (length format) 8 + 4 + 1) (omega arith) (omega arith) in
        let c : slice_index l.header.names.bytes.items (8 + next_multiple_of (length format) 8 + 4 + 2) ≡ 0 = in_zeroes (8 + next_multiple_of (length format) 8 + 4 + 2) (omega arith) (omega arith) in
        let d : slice_index l.header.names.bytes.items (8 + next_multiple_of (length format) 8 + 4 + 3) ≡ 0 = in_zeroes (8 + next_multiple_of (length format) 8 + 4 + 3) (omega arith) (omega arith) in
        omega (arith, a, b, c, d)

    -- the same in the file
    start_here : be64 file 8 ≡ 8 * words_of l.header.version + l.header.names.start
    start_here =
        let z : nat_eq l.header.names.count 0 ≡ false = grind (arith, nat_tests, some, are.count) in
        let e : name_start l.header ≡ 8 * words_of l.header.version + l.header.names.start = rw z refl in
        name_start_is l values file is ∙ e

    pub name_there : (n : Vec ℕ Global) → n.items ≡ name → IsBackingName file (Some n)
    name_there n same =
        let s = start_here in
        let w : 0 < 8 * words_of l.header.version = words_some l.header.version in
        let positive : 0 < be64 file 8 = omega (arith, s, w) in
        let count : length n.items ≡ be32 file 16 = ap length same ∙ sym are.count ∙ sym (name_length_is l values file is) in (
          positive,
          count,
          (λ i lt.
              let a = all in
              let m : length n.items ≡ length name = ap length same in
              let there : l.header.names.start + i < length l.header.names.bytes.items = omega (arith, a, lt, m, are.count) in
              let e : 8 * words_of l.header.version + (l.header.names.start + i) ≡ be64 file 8 + i = omega (arith, s) in
              ap (λ (x : List ℕ). slice_index x i) same ∙ sym (in_name i) ∙ read (l.header.names.start + i) there ∙ ap (slice_index file) e),
        )

    ends_here : extensions_end file ≡ 8 * words_of l.header.version + l.header.names.start
    ends_here =
        let s = start_here in
        let w : 0 < 8 * words_of l.header.version = words_some l.header.version in
        let z : nat_eq (8 * words_of l.header.version + l.header.names.start) 0 ≡ false = grind (arith, nat_tests, w) in
        let c = cluster_is l values file is in
        let r = room in
        let least_is : min l.cluster (8 * words_of l.header.version + l.header.names.start) ≡ 8 * words_of l.header.version + l.header.names.start = omega (arith, r) in
        rw (s, z, c) least_is

    words_long : 8 + length format + padding (length format) + length name ≡ length l.header.names.bytes.items
    words_long = let a = all in let n = long in omega (arith, a, n, are.start, are.count)

    type_there : 3799591626 ≡ be32 file (own_length file)
    type_there =
        let o = own_is in
        let w = words_long in
        let e : 8 * words_of l.header.version + 0 ≡ own_length file = omega (arith, o) in
        sym type_is ∙ read32 file l.header.names.bytes.items (8 * words_of l.header.version) read 0 (omega (arith, w)) ∙ ap (be32 file) e

    count_there : length format ≡ be32 file (own_length file + 4)
    count_there =
        let o = own_is in
        let w = words_long in
        let e : 8 * words_of l.header.version + 4 ≡ own_length file + 4 = omega (arith, o) in
        sym count_is ∙ read32 file l.header.names.bytes.items (8 * words_of l.header.version) read 4 (omega (arith, w)) ∙ ap (be32 file) e

    -- the end of the extensions behind it
    abbrev behind : ℕ
    behind = own_length file + (8 + next_multiple_of (length format) 8)

    zero_there : 0 ≡ be32 file behind
    zero_there =
        let o = own_is in
        let w = words_long in
        let p : 8 * words_of l.header.version + (8 + next_multiple_of (length format) 8) ≡ behind = omega (arith, o) in
        sym end_is ∙ read32 file l.header.names.bytes.items (8 * words_of l.header.version) read (8 + next_multiple_of (length format) 8) (omega (arith, w)) ∙ ap (be32 file) p

    zero_long : 0 ≡ be32 file (behind + 4)
    zero_long =
        let o = own_is in
        let w = words_long in
        let p : 8 * words_of l.header.version + (8 + next_multiple_of (length format) 8 + 4) ≡ behind + 4 = omega (arith, o) in
        sym end_long ∙ read32 file l.header.names.bytes.items (8 * words_of l.header.version) read (8 + next_multiple_of (length format) 8 + 4) (omega (arith, w)) ∙ ap (be32 file) p

    format_found : format_of file ≡ Ok (Some (own_length file + 8, length format))
    unfolding format_of
    format_found =
        let o = own_is in
        let e = ends_here in
        let n = long in
        let name : Option (ℕ × ℕ) = Some (own_length file + 8, length format) in
        sym (goes_on file (extensions_end file) None (own_length file) 3799591626 (length format) type_there count_there (omega (arith, o, e, n, are.start)) name behind refl refl (omega (arith, o, e, n, are.start)) (λ z. absurd (omega (arith, z))))
        ∙ none_left file (extensions_end file) name behind 0 0 zero_there zero_long (omega (arith, o, e, n, are.start)) (omega (arith, o, e, n, are.start)) refl

    pub format_there : (n : Vec ℕ Global) → n.items ≡ format → IsFormatName file (Some n)
    format_there n same =
        let o = own_is in
        let w = words_long in
        let f : format_of file ≡ Ok (Some (own_length file + 8, length n.items)) = format_found ∙ ap (λ x. Ok (Some (own_length file + 8, x))) (sym (ap length same)) in (
          own_length file + 8,
          f,
          (λ i lt.
              let m : length n.items ≡ length format = ap length same in
              let less : i < length format = omega (arith, lt, m) in
              let there : 8 + i < length l.header.names.bytes.items = omega (arith, w, less) in
              let e : 8 * words_of l.header.version + (8 + i) ≡ own_length file + 8 + i = omega (arith, o) in
              ap (λ (x : List ℕ). slice_index x i) same ∙ sym (in_format i less) ∙ read (8 + i) there ∙ ap (slice_index file) e),
        )

    -- all extensions are known
    pub known_here : known_from file (own_length file) (extensions_end file) ≡ true
    known_here =
        let o = own_is in
        let e = ends_here in
        let n = long in
        sym (known_goes_on file (extensions_end file) (own_length file) 3799591626 (length format) type_there count_there (omega (arith, o, e, n, are.start)) behind refl (omega (arith, o, e, n, are.start)) (λ z. absurd (omega (arith, z))) refl)
        ∙ known_end file (extensions_end file) behind 0 (be32 file (behind + 4)) zero_there refl (omega (arith, o, e, n, are.start)) refl

  -- where there are no names
  module _ (none : l.header.names.bytes.items ≡ []) (few : l.header.names.count ≡ 0) where
    pub no_extension : known_from file (own_length file) (extensions_end file) ≡ true
    unfolding be32
    no_extension =
        let o = own_is in
        let w = words_most l.header.version in
        let x = least l values file is in
        let z : nat_eq l.header.names.count 0 ≡ true = grind (arith, nat_tests, few) in
        let s : name_start l.header ≡ 0 = rw z refl in
        let b : be64 file 8 ≡ 0 = name_start_is l values file is ∙ s in
        let c = cluster_is l values file is in
        let e : extensions_end file ≡ l.cluster = rw (b, c) refl in
        let byte : (p : ℕ) → p < 4 → slice_index file (8 * words_of l.header.version + p) ≡ 0 = λ p lt. name_byte p (omega (arith, lt, w, x)) ∙ ap (λ (y : List ℕ). slice_index y p) none in
        let a0 : slice_index file (8 * words_of l.header.version) ≡ 0 = (let q : 8 * words_of l.header.version + 0 ≡ 8 * words_of l.header.version = omega arith in ap (slice_index file) (sym q) ∙ byte 0 (omega arith)) in
        let a1 = byte 1 (omega arith) in
        let a2 = byte 2 (omega arith) in
        let a3 = byte 3 (omega arith) in
        let kind : be32 file (8 * words_of l.header.version) ≡ 0 = omega (arith, a0, a1, a2, a3) in
        let there : 0 ≡ be32 file (own_length file) = sym (ap (be32 file) o ∙ kind) in
        known_end file (extensions_end file) (own_length file) 0 (be32 file (own_length file + 4)) there refl (omega (arith, o, e, w, x)) refl

  pub known_named : (name format : List ℕ) → AreNames name format l.header.names → 0 < length name → IsKnown file
  known_named name format are some = record { features = omega (arith, features_none l values file is); extensions = known_here name format are some }

  pub known_none : l.header.names.bytes.items ≡ [] → l.header.names.count ≡ 0 → IsKnown file
  known_none none few = record { features = omega (arith, features_none l values file is); extensions = no_extension none few }
