-- SPDX-License-Identifier: MIT
use Rattle.std.specs.Prelude.{◌≡◌, ℕ, ◌++◌, Bool, cond, false, List, codes}
use Rattle.imago_storage.specs.Features.{Features, AsData, AreLawful}

-- the same storage with its zeroes written as data
abbrev pub zeroing : Features → Features
zeroing f = record f { zeroes = AsData; allocated_zeroes = AsData }

-- the same storage without discards
abbrev pub discarding : Features → Features
discarding f = record f { offers_discard = false }

-- what never changes in a storage that records, over what never changes in the one inside
abbrev pub recording_features : Bool → Bool → Features → Features
recording_features as_data no_discards f = record f {
  zeroes = cond as_data AsData f.zeroes;
  allocated_zeroes = cond as_data AsData f.allocated_zeroes;
  offers_discard = cond no_discards false f.offers_discard;
}

-- a relative name stands for one in a folder beside the storage
abbrev pub IsBeside : {S : Type 0} → S → List ℕ → List ℕ → Type 0
IsBeside storage relative name = name ≡ codes "beside/" ++ relative

-- its alignments are lawful
pub recording_lawful : (as_data no_discards : Bool) (f : Features) → AreLawful f
    → AreLawful (recording_features as_data no_discards f)
recording_lawful as_data no_discards f l = record {
  mem = l.mem;
  req = l.req;
  zero = l.zero;
  discard = l.discard;
  zero_whole = l.zero_whole;
  discard_whole = l.discard_whole;
  told = l.told;
}
