-- Calls of a storage as they are seen where its bytes aren't told.
-- SPDX-License-Identifier: MIT
use Rattle.std.proofs.Common.{◌≡◌, ◌≢◌, ℕ, ◌+◌, ◌-◌, ◌<◌, ◌≤◌, ◌⊎◌, ⊎_elim, inl, inr, Bool, true, false, List, length, replicate, max, min, arith, refl, sym, ap, ◌∙◌}
use Rattle.std.proofs.lemmas.Bool.{cases_lt}
use Rattle.std.proofs.lemmas.List.{places, length-replicate}
use Rattle.std.specs.Prelude.{slice_index, IsTrue, Result, Ok, Err, OnOk, OnErr}
use Rattle.imago_storage.specs.Bytes.{splice, OldOrNew, WriteOutcome, SameOutside, IsResized, IsZeroFrom}
use Rattle.imago_storage.specs.declared.error.Error.{Error}
use Rattle.imago_storage.specs.declared.options.PreallocateMode.{PreallocateMode}
use Rattle.imago_storage.specs.declared.options.PreallocateMode.TheVariants as Mode
use Rattle.imago_test_storages.specs.Forgetful.{zeroes_of}
use Rattle.imago_test_storages.proofs.Torn.{splice_size}

pub length_of_zeroes : (bytes : List ℕ) → length (zeroes_of bytes) ≡ length bytes
length_of_zeroes bytes = length-replicate (length bytes) 0

pub zero_at : (bytes : List ℕ) (p : ℕ) → slice_index (zeroes_of bytes) p ≡ 0
zero_at bytes p = grind (arith, places)

-- a byte of one is that of any other
same_zero : (old now : List ℕ) (p : ℕ) → slice_index (zeroes_of now) p ≡ slice_index (zeroes_of old) p
same_zero old now p = zero_at now p ∙ sym (zero_at old p)

target_length : (old source : List ℕ) (at : ℕ) → length (splice (zeroes_of old) at source) ≡ length (splice old at source)
target_length old source at = splice_size (zeroes_of old) at source
    ∙ ap (λ n. max n (at + length source)) (length_of_zeroes old) ∙ sym (splice_size old at source)

-- a write
module _ {T : Type 0} (keeps : Bool) (old source now : List ℕ) (at : ℕ) (r : Result T Error)
    (w : WriteOutcome keeps old (splice old at source) now r) where
  no_shorter : length (zeroes_of old) ≤ length (zeroes_of now)
  no_shorter = omega (arith, w.no_shorter, length_of_zeroes old, length_of_zeroes now)

  no_longer : length (zeroes_of now) ≤ length (splice (zeroes_of old) at source)
  no_longer = omega (arith, w.no_longer, target_length old source at, length_of_zeroes now)

  pub untold_outcome : WriteOutcome false (zeroes_of old) (splice (zeroes_of old) at source) (zeroes_of now) r
  untold_outcome = record {
    done = λ k. let z : ⊥ = cc in absurd z;
    len = long r w.len;
    refused = λ k. let z : ⊥ = cc in absurd z;
    no_shorter = no_shorter;
    no_longer = no_longer;
  } where
    long : (q : Result T Error) → OnOk q (length now ≡ length (splice old at source))
        → OnOk q (length (zeroes_of now) ≡ length (splice (zeroes_of old) at source))
    long (Ok x) e = length_of_zeroes now ∙ e ∙ sym (target_length old source at)
    long (Err x) e = tt

  pub untold_torn : OnErr r (OldOrNew (zeroes_of old) (splice (zeroes_of old) at source) (zeroes_of now))
  untold_torn = torn r where
    torn : (q : Result T Error) → OnErr q (OldOrNew (zeroes_of old) (splice (zeroes_of old) at source) (zeroes_of now))
    torn (Ok x) = tt
    torn (Err x) = record { each = λ p. inl (same_zero old now p); no_shorter = no_shorter; no_longer = no_longer }
