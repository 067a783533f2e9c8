-- Which calls a copy-on-write disk makes of its storage to fill data blocks.
-- SPDX-License-Identifier: MIT
use Rattle.std.specs.Prelude.{◌≡◌, ℕ, zero, suc, ◌+◌, ◌-◌, ◌*◌, ◌/◌, ◌%◌, ◌<◌, ◌≤◌, ◌⊎◌, ◌++◌, ◌∷◌}
use Rattle.std.specs.Prelude.{[], min, max, slice_set, OnOk, OnErr, Bool, true}
use Rattle.std.specs.Prelude.{false, List, length, slice_get, Option, Some, None, Result, Ok, Err}
use Rattle.std.specs.Prelude.{IsTrue, IsErr}
use Rattle.imago_storage.specs.declared.error.Error.{Error}
use Rattle.imago_storage.specs.declared.options.ZeroKind.{ZeroKind}
use Rattle.imago_storage.specs.Calls.{IsRangeWrite, IsRangeZeroing}
use Rattle.imago_storage.specs.Features.{Features}
use Rattle.imago_storage.specs.IoCount.{IoCount}
use Rattle.imago_storage.specs.Maintenance.{Maintenance, IsNothing}
use Rattle.imago_storage.specs.Steps.{IsThen}
use Rattle.imago_drivers.specs.CallRelations.{Changing}
use Rattle.imago_drivers.specs.LayerBelow.{LayerBelow}
use Rattle.imago_drivers.specs.declared.format.PreallocateMode.{PreallocateMode}
use Rattle.imago_cow.specs.declared.table.GuestBlock.{GuestBlock}
use Rattle.imago_cow.specs.declared.table.GuestBlock.TheVariants as G
use Rattle.imago_cow.specs.Copies.{are_told, HasOldBytes, block_from}
use Rattle.imago_cow.specs.Cow.{in_block}
use Rattle.imago_cow.specs.Cut.{shows_below}
use Rattle.imago_cow.specs.Guest.{is_data}
use Rattle.imago_cow.specs.Table.{IsLowestUnused}

-- whether a call was done, or what it was refused for, without what it answers
abbrev pub outcome : {T : Type 0} → Result T Error → Result (Unit {0}) Error
outcome (Ok x) = Ok tt
outcome (Err e) = Err e

-- the guest block leads to the layer below
abbrev pub leads_below : Option GuestBlock → Bool
leads_below None = false
leads_below (Some G.Absent) = true
leads_below (Some G.Zero) = false
leads_below (Some (G.Data j)) = false

-- The places show zeroes for certain, as explicit zeroes or past the end of the layer below, and
-- the storage's zero write takes the range that they are copied to as it is.
unfoldable pub CopiesZeroes : Features → LayerBelow → Bool → ℕ → ℕ → ℕ → Type 0
CopiesZeroes f l absent o n to = ((absent ≡ false) ⊎ (l.size ≤ o)) × (to % f.zero_align ≡ 0)
    × (n % f.zero_align ≡ 0)

-- Copies to the lowest data block that nothing uses. Where they are refused before the first one,
-- none is made.
unfoldable pub IsIntoLowest : {S : Type 0} → List GuestBlock → ℕ → (ℕ → Changing S (Unit {0}))
    → S → S → Result (Unit {0}) Error → Type 0
IsIntoLowest entries blocks copies old new result = ((new ≡ old) × IsErr result)
    ⊎ ((number : ℕ) × IsLowestUnused entries None blocks number × copies number old new result)

module _ {S : Type 0} (features_of : S → Features) (bytes_of : S → List ℕ) (faults_of : S → ℕ)
    (work_of : S → IoCount) (calls : Maintenance S) where
  -- the storage's zero write of that range
  unfoldable pub IsZeroed : ℕ → ℕ → S → S → Result (Unit {0}) Error → Type 0
  IsZeroed to n old new result = IsRangeZeroing features_of bytes_of faults_of work_of calls
      ZeroKind.Any (features_of old).zeroes to n old new result

  -- What n places without data from o on show is written to that offset of the storage: what the
  -- layer below has there, where it tells its bytes, or zeroes. Where it is refused before the
  -- write, none is made.
  unfoldable pub IsWritten : LayerBelow → Bool → ℕ → ℕ → ℕ → S → S → Result (Unit {0}) Error
      → Type 0
  IsWritten l absent o n to old new result = ((new ≡ old) × IsErr result)
      ⊎ ((buffer : List ℕ) × (length buffer ≡ n)
      × (IsTrue (are_told l absent) → HasOldBytes l.at absent o buffer)
      × IsRangeWrite features_of bytes_of faults_of work_of calls to buffer old new result)

  -- The one call that copies such places: the storage's zero write, where it copies zeroes, or else
  -- that write. For no place none is made.
  unfoldable pub IsCopied : LayerBelow → Bool → ℕ → ℕ → ℕ → S → S → Result (Unit {0}) Error
      → Type 0
  IsCopied l absent o n to old new result = (n ≡ 0 → (new ≡ old) × (result ≡ Ok tt))
      × (0 < n → CopiesZeroes (features_of old) l absent o n to → IsZeroed to n old new result)
      × (0 < n → (CopiesZeroes (features_of old) l absent o n to → ⊥)
      → IsWritten l absent o n to old new result)

  -- The guest block of n places from o on is copied to that offset, as far as the disk goes: whole,
  -- or, for overwriting, what stands before the places and then what stands behind them.
  unfoldable pub IsRoundCopied : LayerBelow → Bool → Bool → ℕ → ℕ → ℕ → ℕ → ℕ → S → S
      → Result (Unit {0}) Error → Type 0
  IsRoundCopied l absent false block size o n to =
      IsCopied l absent (block_from block o) (min block (size - block_from block o)) to
  IsRoundCopied l absent true block size o n to =
      IsThen (IsCopied l absent (block_from block o) (o % block) to)
      (IsCopied l absent (o + n) (min block (size - block_from block o) - (o % block + n))
      (to + (o % block + n)))

  -- It is copied to the lowest data block that nothing uses. Where that is refused before the first
  -- copy, none is made.
  unfoldable pub IsRoundTaken : LayerBelow → Bool → Bool → List GuestBlock → ℕ → ℕ → ℕ → ℕ → ℕ
      → S → S → Result (Unit {0}) Error → Type 0
  IsRoundTaken l absent overwrite entries blocks block size o n old new result =
      IsIntoLowest entries blocks (λ number x y answer. IsRoundCopied l absent overwrite block size
      o n (number * block) x y answer) old new result

  -- What a preparing of n bytes from o on does to the storage: nothing where none are asked for, or
  -- where they are in data; else their guest block is copied to the lowest unused data block.
  pub record IsCopiedFor (l : LayerBelow) (entries : List GuestBlock) (blocks block size o n : ℕ)
      (overwrite : Bool) (old new : S) (result : Result (Unit {0}) Error) : Type 0 where
    pub none : n ≡ 0 → new ≡ old
    pub in_data : is_data (slice_get entries (o / block)) ≡ true → new ≡ old
    pub copied : 0 < n → is_data (slice_get entries (o / block)) ≡ false
        → IsRoundTaken l (leads_below (slice_get entries (o / block))) overwrite entries blocks
        block size o (in_block block o n) old new result

  -- Two copies into the data block that begins at that offset, for the guest block that the end of
  -- a disk of that size cuts: of what it shows before the end, and then of what so many places
  -- behind the end are to show.
  unfoldable pub IsCutCopied : LayerBelow → Bool → Bool → ℕ → ℕ → ℕ → ℕ → S → S
      → Result (Unit {0}) Error → Type 0
  IsCutCopied l absent lower block size count to =
      IsThen (IsCopied l absent (size - size % block) (size % block) to)
      (IsCopied l lower size count (to + size % block))

  -- Those copies go to the lowest data block that nothing uses, which the guest block is in then.
  unfoldable pub IsCutTaken : LayerBelow → Bool → Bool → ℕ → ℕ → ℕ → List GuestBlock → ℕ
      → List GuestBlock → ℕ → S → S → Result (Unit {0}) Error → Type 0
  IsCutTaken l absent lower block size count entries blocks entries_now blocks_now old new result =
      IsIntoLowest entries blocks (λ number x y answer.
      IsCutCopied l absent lower block size count (number * block) x y answer
      × OnOk answer ((entries_now ≡ slice_set entries (size / block) (GuestBlock.Data number))
      × (blocks_now ≡ max blocks (number + 1)))) old new result

  -- A guest block is added behind the others: it is copied from the layer below to the lowest data
  -- block that nothing uses, as far as the disk goes, and is in that one then.
  unfoldable pub IsPushedCopy : LayerBelow → ℕ → ℕ → List GuestBlock → ℕ → List GuestBlock → ℕ
      → S → S → Result (Unit {0}) Error → Type 0
  IsPushedCopy l block end entries blocks entries_now blocks_now old new result =
      IsIntoLowest entries blocks (λ number x y answer.
      IsCopied l true (length entries * block) (min block (end - length entries * block))
      (number * block) x y answer
      × OnOk answer ((entries_now ≡ entries ++ GuestBlock.Data number ∷ [])
      × (blocks_now ≡ max blocks (number + 1)))) old new result

  -- Guest blocks are added behind the others, one by one: each is copied from the layer below to
  -- the lowest data block that nothing uses then, as far as the disk goes.
  unfoldable pub ArePushedInTurn : LayerBelow → ℕ → ℕ → ℕ → List GuestBlock → ℕ → S → S
      → Result (Unit {0}) Error → Type 0
  ArePushedInTurn l block end zero entries blocks = IsNothing
  ArePushedInTurn l block end (suc more) entries blocks = IsIntoLowest entries blocks
      (λ number. IsThen (IsCopied l true (length entries * block)
      (min block (end - length entries * block)) (number * block))
      (ArePushedInTurn l block end more (entries ++ GuestBlock.Data number ∷ [])
      (max blocks (number + 1))))

  -- Guest blocks are added until there are so many: by such copies where new places show the layer
  -- below, and else by none. Where there is no room for their entries, none is made.
  unfoldable pub AreAddedInTurn : LayerBelow → Bool → ℕ → ℕ → ℕ → List GuestBlock → ℕ → S → S
      → Result (Unit {0}) Error → Type 0
  AreAddedInTurn l false block end wanted entries blocks old new result = new ≡ old
  AreAddedInTurn l true block end wanted entries blocks old new result =
      ((new ≡ old) × IsErr result)
      ⊎ ArePushedInTurn l block end (wanted - length entries) entries blocks old new result

  -- The guest block that the end cuts is filled, by what it is, and then others are added: one
  -- without data is copied to the lowest data block that nothing uses, but for an explicit zero
  -- whose new places are zeroes; in data, what its new places show is copied behind its old ones.
  unfoldable pub IsFilledAndAdded : LayerBelow → Bool → ℕ → ℕ → ℕ → ℕ → List GuestBlock → ℕ
      → Option GuestBlock → S → S → Result (Unit {0}) Error → Type 0
  IsFilledAndAdded l lower block size end wanted entries blocks None =
      AreAddedInTurn l lower block end wanted entries blocks
  IsFilledAndAdded l lower block size end wanted entries blocks (Some G.Absent) =
      IsIntoLowest entries blocks (λ number. IsThen
      (IsCutCopied l true lower block size (min (block - size % block) (end - size))
      (number * block))
      (AreAddedInTurn l lower block end wanted
      (slice_set entries (size / block) (GuestBlock.Data number)) (max blocks (number + 1))))
  IsFilledAndAdded l false block size end wanted entries blocks (Some G.Zero) =
      AreAddedInTurn l false block end wanted entries blocks
  IsFilledAndAdded l true block size end wanted entries blocks (Some G.Zero) =
      IsIntoLowest entries blocks (λ number. IsThen
      (IsCutCopied l false true block size (min (block - size % block) (end - size))
      (number * block))
      (AreAddedInTurn l true block end wanted
      (slice_set entries (size / block) (GuestBlock.Data number)) (max blocks (number + 1))))
  IsFilledAndAdded l lower block size end wanted entries blocks (Some (G.Data j)) =
      IsThen (IsCopied l lower size (min (block - size % block) (end - size))
      (j * block + size % block))
      (AreAddedInTurn l lower block end wanted entries blocks)

  -- The filling of the cut guest block is the first part of that: what is added behind it makes it
  -- whole, and a refusal is all of it.
  unfoldable pub IsFilledFirst : LayerBelow → Bool → ℕ → ℕ → ℕ → List GuestBlock → ℕ
      → Option GuestBlock → List GuestBlock → ℕ → S → S → Result (Unit {0}) Error → Type 0
  IsFilledFirst l lower block size end entries blocks entry entries_now blocks_now old new result =
      (wanted : ℕ) → OnOk result ((last : S) (answer : Result (Unit {0}) Error)
      → AreAddedInTurn l lower block end wanted entries_now blocks_now new last answer
      → IsFilledAndAdded l lower block size end wanted entries blocks entry old last answer)
      × OnErr result
      (IsFilledAndAdded l lower block size end wanted entries blocks entry old new result)

  -- What a growth to an end does to the storage: nothing where new places are unspecified or there
  -- are none; else these copies, in this order. Where there is no room for entries, none is made.
  pub record IsCopiedInGrowth (l : LayerBelow) (mode : PreallocateMode) (entries : List GuestBlock)
      (blocks block size end : ℕ) (old new : S) (result : Result (Unit {0}) Error) : Type 0 where
    pub idle : end ≤ size → new ≡ old
    pub unspecified : mode ≡ PreallocateMode.None → new ≡ old
    pub copied : size < end → (mode ≡ PreallocateMode.None → ⊥) → (wanted : ℕ)
        → end ≤ wanted * block → wanted * block < end + block → ((new ≡ old) × IsErr result)
        ⊎ ((size % block ≡ 0 → AreAddedInTurn l (shows_below mode) block end wanted entries blocks
        old new result)
        × (0 < size % block → IsFilledAndAdded l (shows_below mode) block size end wanted entries
        blocks (slice_get entries (size / block)) old new result))
