-- What a file is recognised as by its blocks.
-- SPDX-License-Identifier: MIT
use Rattle.std.proofs.Common.{◌≡◌, ◌∙◌, ◌<◌, ap, sym, refl, List, ℕ, Option, Some, None, length, arith, min, nat_lt, true, false, ◌-◌, ◌≤◌}
use Rattle.std.proofs.lemmas.Bool.Decides.{nat_tests}
use Rattle.std.specs.Option.{option_or}
use Rattle.imago_storage.specs.Bytes.{bytes_at}
use Rattle.imago_formats.specs.declared.signature.Signature.{Signature}
use Rattle.imago_formats.specs.Signatures.{found_first, first_marks, told_by_text, told_by_first, told_by_last, first_block, last_block, signature_of, other_signature_of, iso_beside}

-- the first mark that stands in a block tells
pub told_by_mark :
    (besides : Option Signature) (block : List ℕ) (s : Signature)
    → found_first besides first_marks block ≡ Some s → Some s ≡ told_by_first besides block
unfolding told_by_first
told_by_mark besides block s is =
    sym (ap (λ (o : Option Signature). option_or o (told_by_text besides block)) is)

-- where none stands there, the text does
pub told_unmarked :
    (besides : Option Signature) (block : List ℕ) → found_first besides first_marks block ≡ None
    → told_by_text besides block ≡ told_by_first besides block
unfolding told_by_first
told_unmarked besides block is =
    sym (ap (λ (o : Option Signature). option_or o (told_by_text besides block)) is)

-- a file is what its first block tells
pub by_first :
    (bytes : List ℕ) (s : Signature) (found : Option Signature) → found ≡ Some s
    → found ≡ told_by_first None (first_block bytes) → Some s ≡ signature_of bytes
by_first bytes s found is told =
    sym (ap (λ (o : Option Signature). option_or o (told_by_last None (last_block bytes))) (sym told ∙ is))

-- where that tells nothing, it is what its last block tells
pub by_last :
    (bytes : List ℕ) (last found : Option Signature) → found ≡ None
    → found ≡ told_by_first None (first_block bytes) → last ≡ told_by_last None (last_block bytes)
    → last ≡ signature_of bytes
by_last bytes last found is told ends =
    ends ∙ sym (ap (λ (o : Option Signature). option_or o (told_by_last None (last_block bytes))) (sym told ∙ is))

-- what a file is besides: by its first block, or else its last one, or else by the mark of ISO 9660
pub other_first :
    (known : Signature) (bytes : List ℕ) (s : Signature) (found : Option Signature) → found ≡ Some s
    → found ≡ told_by_first (Some known) (first_block bytes) → Some s ≡ other_signature_of known bytes
other_first known bytes s found is told = sym (ap (λ (o : Option Signature). option_or o
    (option_or (told_by_last (Some known) (last_block bytes)) (iso_beside known bytes))) (sym told ∙ is))

pub other_behind :
    (known : Signature) (bytes : List ℕ) (found rest : Option Signature) → found ≡ None
    → found ≡ told_by_first (Some known) (first_block bytes)
    → rest ≡ option_or (told_by_last (Some known) (last_block bytes)) (iso_beside known bytes)
    → rest ≡ other_signature_of known bytes
other_behind known bytes found rest is told ends = ends ∙ sym (ap (λ (o : Option Signature). option_or o
    (option_or (told_by_last (Some known) (last_block bytes)) (iso_beside known bytes))) (sym told ∙ is))

pub other_last :
    (known : Signature) (bytes : List ℕ) (s : Signature) (last : Option Signature) → last ≡ Some s
    → last ≡ told_by_last (Some known) (last_block bytes)
    → Some s ≡ option_or (told_by_last (Some known) (last_block bytes)) (iso_beside known bytes)
other_last known bytes s last is told =
    sym (ap (λ (o : Option Signature). option_or o (iso_beside known bytes)) (sym told ∙ is))

pub other_iso :
    (known : Signature) (bytes : List ℕ) (last iso : Option Signature) → last ≡ None
    → last ≡ told_by_last (Some known) (last_block bytes) → iso ≡ iso_beside known bytes
    → iso ≡ option_or (told_by_last (Some known) (last_block bytes)) (iso_beside known bytes)
other_iso known bytes last iso is told ends =
    ends ∙ sym (ap (λ (o : Option Signature). option_or o (iso_beside known bytes)) (sym told ∙ is))

-- a file that is shorter than a block has no last one, which tells nothing
pub no_last :
    (besides : Option Signature) (bytes : List ℕ) → length bytes < 512
    → None ≡ told_by_last besides (last_block bytes)
unfolding told_by_last
no_last besides bytes short =
    let t : nat_lt (length bytes) 512 ≡ true = grind (arith, nat_tests) in rw t refl

-- what the blocks of a file tell, as they were read
pub first_told :
    (besides : Option Signature) (bytes block : List ℕ) (n count : ℕ) (found : Option Signature) → n ≡ length bytes
    → count ≡ min n 512 → block ≡ bytes_at bytes 0 count → found ≡ told_by_first besides block
    → found ≡ told_by_first besides (first_block bytes)
first_told besides bytes block n count found long all read told =
    told ∙ ap (told_by_first besides) (read ∙ ap (bytes_at bytes 0) (all ∙ ap (λ (k : ℕ). min k 512) long))

pub last_told :
    (besides : Option Signature) (bytes block : List ℕ) (n at : ℕ) (found : Option Signature) → n ≡ length bytes → 512 ≤ n
    → at ≡ n - 512 → block ≡ bytes_at bytes at 512 → found ≡ told_by_last besides block
    → found ≡ told_by_last besides (last_block bytes)
last_told besides bytes block n at found long enough is read told =
    let t : nat_lt (length bytes) 512 ≡ false = grind (arith, nat_tests, long, enough) in
    let here : at ≡ length bytes - 512 = is ∙ ap (λ (k : ℕ). k - 512) long in
    rw t (told ∙ ap (told_by_last besides) (read ∙ ap (λ (k : ℕ). bytes_at bytes k 512) here))
