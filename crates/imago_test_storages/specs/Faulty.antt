-- SPDX-License-Identifier: MIT
use Rattle.std.specs.Prelude.{◌≡◌, ℕ, ◌+◌, ◌-◌, ◌%◌, ◌<◌, ◌≤◌, Bool, true, false, cond, List}
use Rattle.std.specs.Prelude.{length, slice_index, if◌then◌else◌, nat_eq, nat_lt, max, Option, Some}
use Rattle.std.specs.Prelude.{None, Result, Err}
use Rattle.imago_storage.specs.declared.error.Error.{Error}
use Rattle.imago_storage.specs.declared.error.Error.TheVariants.{Unsupported}
use Rattle.imago_storage.specs.declared.options.ZeroKind.{ZeroKind}
use Rattle.imago_storage.specs.Features.{Features, InPlace, NotOffered, AreLawful}
use Rattle.imago_storage.specs.Mem.{mem_features}
use Rattle.imago_test_storages.specs.declared.faulty.Tear.{Tear}
use Rattle.imago_test_storages.specs.declared.faulty.Tear.TheVariants.{Nothing, All, First, Odd}
use Rattle.imago_test_storages.specs.declared.faulty.Armed.{Armed}
use Rattle.imago_test_storages.specs.declared.faulty.Plan.{Plan}

-- what never changes in a storage whose device fails, over what never changes in the one inside
abbrev pub faulty_features : Bool → Features → Features
faulty_features zero_writes f = record f {
  is_reliable = false;
  atomic = false;
  zeroes = cond zero_writes InPlace NotOffered;
  allocated_zeroes = cond zero_writes InPlace NotOffered;
}

-- and what never changes in the one inside
abbrev pub features_inside : Features → Features
features_inside f = mem_features f.filename f.mem_align f.req_align f.zero_align

-- the one inside, but for its alignments
abbrev pub features_outside : Features → ℕ → ℕ → ℕ → Features
features_outside f mem req zeroed = mem_features f.filename mem req zeroed

-- it takes every range as it is
abbrev pub IsPlain : Features → Type 0
IsPlain f = f ≡ mem_features f.filename 1 1 1

pub faulty_lawful : (zero_writes : Bool) (f : Features) → AreLawful f
    → AreLawful (faulty_features zero_writes f)
faulty_lawful zero_writes f l = record {
  mem = l.mem;
  req = l.req;
  zero = l.zero;
  discard = l.discard;
  zero_whole = l.zero_whole;
  discard_whole = l.discard_whole;
  told = l.told;
}

-- a zero write that the storage doesn't offer: nothing is changed or counted
abbrev pub IsNotZeroed : {S : Type 0} → ZeroKind → ℕ → ℕ → S → S → Result (Unit {0}) Error → Type 0
IsNotZeroed kind at n old new result = (new ≡ old) × (result ≡ Err Unsupported)

-- whether the byte at that place of a refused request is new
abbrev pub is_new : Tear → ℕ → Bool
is_new Nothing k = false
is_new All k = true
is_new (First n) k = nat_lt k n
is_new Odd k = nat_eq (k % 2) 1

-- whether a refused request grows the storage as success does
abbrev pub has_grown : Tear → Bool
has_grown Nothing = false
has_grown All = true
has_grown (First n) = true
has_grown Odd = true

-- Of the n bytes from the offset on those at the places that the tear says are new, and all others
-- are as they were.
pub record IsTorn (tear : Tear) (old : List ℕ) (at n : ℕ) (new : ℕ → ℕ) (now : List ℕ) : Type 0
  where
    pub inside : (k : ℕ) → k < n → slice_index now (at + k)
        ≡ (if is_new tear k then new k else slice_index old (at + k))
    pub before : (p : ℕ) → p < at → slice_index now p ≡ slice_index old p
    pub behind : (p : ℕ) → at + n ≤ p → slice_index now p ≡ slice_index old p

-- What a refused request leaves: these bytes, and the old length or that of a success.
pub record IsTornRequest (tear : Tear) (old : List ℕ) (at n : ℕ) (new : ℕ → ℕ) (now : List ℕ) : Type
    0 where
  pub torn : IsTorn tear old at n new now
  pub len : length now ≡ (if has_grown tear then max (length old) (at + n) else length old)

-- nothing is refused, and nothing was
abbrev pub no_faults : Plan
no_faults = record { armed = None; resizes = 0; reads_fail = false; faults = 0 }

-- what the next call leaves, where it is the one that is refused
abbrev pub refused_next : Option Armed → Option Tear
refused_next None = None
refused_next (Some a) = if nat_eq a.pass 0 then Some a.tear else None

-- what is armed after that call: with one call less to go, or no more
abbrev pub after_call : Option Armed → Option Armed
after_call None = None
after_call (Some a) = if nat_eq a.pass 0 then None else Some (record a { pass = a.pass - 1 })
