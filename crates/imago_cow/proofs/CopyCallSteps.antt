-- The calls that copies are made of.
-- SPDX-License-Identifier: MIT
use Rattle.std.proofs.Common.{◌≡◌, ℕ, ◌+◌, ◌-◌, ◌*◌, ◌/◌, ◌%◌, ◌∙◌, ◌<◌, Bool, true, false, List, min, refl, sym, arith, inl, inr, Result, Ok, Err, Option, None, Some}
use Rattle.std.specs.Prelude.{IsErr}
use Rattle.imago_storage.specs.declared.error.Error.{Error}
use Rattle.imago_storage.specs.Features.{Features}
use Rattle.imago_storage.specs.IoCount.{IoCount}
use Rattle.imago_storage.specs.Maintenance.{Maintenance}
use Rattle.imago_drivers.specs.LayerBelow.{LayerBelow}
use Rattle.imago_cow.specs.declared.table.GuestBlock.{GuestBlock}
use Rattle.imago_cow.specs.declared.table.WithoutData.{WithoutData}
use Rattle.imago_cow.specs.declared.table.WithoutData.TheVariants as W
use Rattle.imago_cow.specs.Copies.{block_from}
use Rattle.std.specs.Prelude.{slice_get}
use Rattle.imago_cow.specs.Cow.{in_block}
use Rattle.imago_cow.specs.Guest.{is_data}
use Rattle.imago_cow.specs.Table.{without_data, is_absent, IsLowestUnused}
use Rattle.imago_cow.proofs.PrepareSteps.{kind_entry}
use Rattle.imago_cow.specs.CopyCalls.{CopiesZeroes, IsZeroed, IsWritten, IsCopied, IsRoundCopied, IsRoundTaken, IsIntoLowest, IsCopiedFor, leads_below}

-- whether a guest block of that kind leads below, by its entry
pub kind_leads : (kind : WithoutData) (e : Option GuestBlock) → e ≡ Some (without_data kind) → leads_below e ≡ is_absent kind
kind_leads W.Absent e h = rw h refl
kind_leads W.Zero e h = rw h refl

module _ {S : Type 0} (features_of : S → Features) (bytes_of : S → List ℕ) (faults_of : S → ℕ) (work_of : S → IoCount) (calls : Maintenance S) (l : LayerBelow) (absent : Bool) where
  -- nothing is copied
  pub none_copied : (o n to : ℕ) (old : S) → n ≡ 0 → IsCopied features_of bytes_of faults_of work_of calls l absent o n to old old (Ok tt)
  unfolding IsCopied
  none_copied o n to old none = (λ e. (refl, refl), λ some c. absurd (omega (arith, some, none)), λ some c. absurd (omega (arith, some, none)))

  pub zeroes_copied : (o n to : ℕ) (old new : S) (result : Result (Unit {0}) Error) → 0 < n → CopiesZeroes (features_of old) l absent o n to → IsZeroed features_of bytes_of faults_of work_of calls to n old new result
      → IsCopied features_of bytes_of faults_of work_of calls l absent o n to old new result
  unfolding IsCopied
  zeroes_copied o n to old new result some zeroes made = (λ e. absurd (omega (arith, some, e)), λ h c. made, λ h c. absurd (c zeroes))

  pub bytes_copied : (o n m to : ℕ) (old new : S) (result : Result (Unit {0}) Error) → 0 < n → m ≡ n → (CopiesZeroes (features_of old) l absent o n to → ⊥) → IsWritten features_of bytes_of faults_of work_of calls l absent o m to old new result
      → IsCopied features_of bytes_of faults_of work_of calls l absent o n to old new result
  unfolding IsCopied
  bytes_copied o n m to old new result some len other made = (λ e. absurd (omega (arith, some, e)), λ h c. absurd (other c), λ h c. rw len at made)

  -- it is refused before its write
  pub refused_before : (o n to : ℕ) (old : S) (result : Result (Unit {0}) Error) → IsErr result → IsWritten features_of bytes_of faults_of work_of calls l absent o n to old old result
  unfolding IsWritten
  refused_before o n to old result refused = inl (refl, refused)

  -- the whole guest block is copied
  pub whole_round : (overwrite : Bool) (block size o n to first count : ℕ) (old new : S) (result : Result (Unit {0}) Error) → overwrite ≡ false → first ≡ block_from block o → count ≡ min block (size - first)
      → IsCopied features_of bytes_of faults_of work_of calls l absent first count to old new result → IsRoundCopied features_of bytes_of faults_of work_of calls l absent overwrite block size o n to old new result
  unfolding IsRoundCopied
  whole_round true block size o n to first count old new result over begins len made = let z : ⊥ = cc in absurd z
  whole_round false block size o n to first count old new result over begins len made = rw (len, begins) at made

  -- what stands before the range can't be copied
  pub before_refused : (overwrite : Bool) (block size o n to first rest : ℕ) (old new : S) (e : Error) → overwrite ≡ true → first ≡ block_from block o → rest ≡ o % block
      → IsCopied features_of bytes_of faults_of work_of calls l absent first rest to old new (Err e) → IsRoundCopied features_of bytes_of faults_of work_of calls l absent overwrite block size o n to old new (Err e)
  unfolding IsRoundCopied
  before_refused false block size o n to first rest old new e over begins len made = let z : ⊥ = cc in absurd z
  before_refused true block size o n to first rest old new e over begins len made = record {
    answer = Err e;
    between = new;
    made = rw (begins, len) at made;
    refused = λ x h. (refl, h);
    behind = λ h. let z : ⊥ = cc in absurd z;
  }

  -- it is, and then what stands behind it
  pub round_then : (overwrite : Bool) (block size o n to first rest behind count : ℕ) (old mid new : S) (result : Result (Unit {0}) Error) → overwrite ≡ true → first ≡ block_from block o → rest ≡ o % block → behind ≡ o + n → count ≡ min block (size - first) - (rest + n)
      → IsCopied features_of bytes_of faults_of work_of calls l absent first rest to old mid (Ok tt) → IsCopied features_of bytes_of faults_of work_of calls l absent behind count (to + (rest + n)) mid new result
      → IsRoundCopied features_of bytes_of faults_of work_of calls l absent overwrite block size o n to old new result
  unfolding IsRoundCopied
  round_then false block size o n to first rest behind count old mid new result over begins len ends some one two = let z : ⊥ = cc in absurd z
  round_then true block size o n to first rest behind count old mid new result over begins len ends some one two = record {
    answer = Ok tt;
    between = mid;
    made = rw (begins, len) at one;
    refused = λ x h. let z : ⊥ = cc in absurd z;
    behind = λ h. rw (ends, some, begins, len) at two;
  }

  -- it is copied to the lowest unused data block
  pub round_taken : (overwrite : Bool) (entries : List GuestBlock) (blocks block size o n number : ℕ) (old new : S) (result : Result (Unit {0}) Error) → IsLowestUnused entries None blocks number
      → IsRoundCopied features_of bytes_of faults_of work_of calls l absent overwrite block size o n (number * block) old new result → IsRoundTaken features_of bytes_of faults_of work_of calls l absent overwrite entries blocks block size o n old new result
  unfolding IsRoundTaken IsIntoLowest
  round_taken overwrite entries blocks block size o n number old new result lowest made = inr (number, lowest, made)

  -- no data block can be taken
  pub none_taken : (overwrite : Bool) (entries : List GuestBlock) (blocks block size o n : ℕ) (old : S) (result : Result (Unit {0}) Error) → IsErr result → IsRoundTaken features_of bytes_of faults_of work_of calls l absent overwrite entries blocks block size o n old old result
  unfolding IsRoundTaken IsIntoLowest
  none_taken overwrite entries blocks block size o n old result refused = inl (refl, refused)

module _ {S : Type 0} (features_of : S → Features) (bytes_of : S → List ℕ) (faults_of : S → ℕ) (work_of : S → IoCount) (calls : Maintenance S) (l : LayerBelow) (overwrite : Bool) (entries : List GuestBlock) (blocks block size o n : ℕ) where
  -- nothing is asked for
  pub asked_none : (old : S) (result : Result (Unit {0}) Error) → n ≡ 0 → IsCopiedFor features_of bytes_of faults_of work_of calls l entries blocks block size o n overwrite old old result
  asked_none old result none = record { none = λ e. refl; in_data = λ e. refl; copied = λ some e. absurd (omega (arith, some, none)) }

  -- the bytes stand in a data block already
  pub found_in_data : (old : S) (result : Result (Unit {0}) Error) (e : Option GuestBlock) → slice_get entries (o / block) ≡ e → is_data e ≡ true → IsCopiedFor features_of bytes_of faults_of work_of calls l entries blocks block size o n overwrite old old result
  found_in_data old result e at data_block = record { none = λ e. refl; in_data = λ e. refl; copied = λ some h. let t : true ≡ false = sym (rw at data_block) ∙ h in let z : ⊥ = cc in absurd z }

  -- what stands round them is copied
  pub copied_for : (kind : WithoutData) (run : ℕ) (old new : S) (result : Result (Unit {0}) Error) → slice_get entries (o / block) ≡ Some (without_data kind) → 0 < n → run ≡ in_block block o n
      → IsRoundTaken features_of bytes_of faults_of work_of calls l (is_absent kind) overwrite entries blocks block size o run old new result → IsCopiedFor features_of bytes_of faults_of work_of calls l entries blocks block size o n overwrite old new result
  copied_for kind run old new result at some len made = record {
    none = λ e. absurd (omega (arith, some, e));
    in_data = λ e. let t : true ≡ false = sym e ∙ kind_entry kind _ at in let z : ⊥ = cc in absurd z;
    copied = λ h e. rw (kind_leads kind _ at, ← len) made;
  }
