-- SPDX-License-Identifier: MIT
use Rattle.std.specs.Prelude.{◌≡◌, ◌≢◌, ℕ, max, Bool, true, false, List, Option, Some}
use Rattle.std.proofs.Common.{arith}
use Rattle.imago_storage.specs.declared.error.Error.{Error}
use Rattle.imago_storage.specs.declared.error.Error.TheVariants as E
use Rattle.imago_storage.specs.Features.{Features, AreLawful}
use Rattle.imago_drivers.specs.declared.raw.Raw.{Raw}
use Rattle.imago_drivers.specs.Operation.{Operation}
use Rattle.imago_drivers.specs.Laws.{IsLawful, AreCauses, CauseBound}
use Rattle.imago_drivers.specs.RawImage.{storage_in, size_of, writability_of}
use Rattle.imago_drivers.specs.RawLaws.{raw_lawful, raw_causes}
use Rattle.imago_drivers.specs.View.{View}
use Rattle.imago_test_drivers.specs.Choppy.{told, chopped, choppy_view}

never_zero : (granular : Bool) (cut : ℕ) → told granular cut ≢ Some 0
never_zero true cut e = let x : max cut 1 ≡ 0 = cc in omega (arith, x)
never_zero false cut e = let z : ⊥ = cc in z

bound : {St : Type 0} (granularity : Option ℕ) (v : View St) (op : Operation) (o n : ℕ) (e : Error)
    → CauseBound v op o n e → CauseBound (chopped granularity v) op o n e
bound granularity v op o n E.WrapAround c = c
bound granularity v op o n E.Unsupported c = c
bound granularity v op o n E.InvalidData c = c
bound granularity v op o n E.NoAccess c = c
bound granularity v op o n E.ReadOnly c = c
bound granularity v op o n E.BeyondDisk c = c
bound granularity v op o n E.RangeOverflow c = c
bound granularity v op o n E.Device c = c
bound granularity v op o n E.Memory c = c
bound granularity v op o n E.ForeignMapping c = c
bound granularity v op o n E.Denied c = c
bound granularity v op o n E.NotFound c = c

-- the laws of a driver are those of the driver in blocks
module _ {St : Type 0} (granularity : Option ℕ) (v : View St) where
  chopped_lawful : granularity ≢ Some 0 → IsLawful v → IsLawful (chopped granularity v)
  chopped_lawful some x = record {
    ends = x.ends;
    bounded = x.bounded;
    stored = x.stored;
    special = x.special;
    faulty = x.faulty;
    lower = x.lower;
    own = x.own;
    refused = x.refused;
    told = x.told;
    granularity = some;
    blocks = x.blocks;
  }

  chopped_causes : AreCauses v → AreCauses (chopped granularity v)
  chopped_causes x = record {
    part = x.part;
    part_copied = x.part_copied;
    bound = λ op o n e c. bound granularity v op o n e (x.bound op o n e c);
    lends = x.lends;
  }

module _ {S : Type 0} {g : _} {h : _} (features : S → Features) (fault_count : S → ℕ)
    (bytes : S → List ℕ) (granular : Bool) (cut : ℕ) (r : Raw S g h) where
  pub choppy_lawful : AreLawful (features (storage_in r))
      → IsLawful (choppy_view features fault_count bytes (told granular cut) r)
  choppy_lawful lawful = chopped_lawful _ _ (never_zero granular cut)
      (raw_lawful (features (storage_in r)) (fault_count (storage_in r)) (bytes (storage_in r))
      (size_of r) (writability_of r) lawful)

  pub choppy_causes : AreCauses (choppy_view features fault_count bytes (told granular cut) r)
  choppy_causes = chopped_causes _ _
      (raw_causes (features (storage_in r)) (fault_count (storage_in r)) (bytes (storage_in r))
      (size_of r) (writability_of r))
