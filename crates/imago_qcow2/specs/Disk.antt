-- SPDX-License-Identifier: MIT
use Rattle.std.specs.Prelude.{◌≡◌, ℕ, ◌+◌, ◌*◌, ◌<◌, List, length, slice_index}
use Rattle.imago_drivers.specs.Place.{Value, Place, Stored, Zeroed, Special, Lower, Refused, End}
use Rattle.imago_qcow2.specs.declared.entry.L2Table.{L2Table}
use Rattle.imago_qcow2.specs.Entry.{cluster_length, l1_start, table_of}
use Rattle.imago_qcow2.specs.Opening.{table_count}

-- the n bytes from that offset on are the same
abbrev pub AreSameBytes : List ℕ → List ℕ → ℕ → ℕ → Type 0
AreSameBytes a b at n = (i : ℕ) → i < n → slice_index a (at + i) ≡ slice_index b (at + i)

-- Two files are as long, and agree on the header, on the L1 entries of the disk, and on the L2
-- tables that these name. All else may differ.
pub record HaveSameTables (a b : List ℕ) : Type 0 where
  pub len : length a ≡ length b
  pub header : AreSameBytes a b 0 112
  pub l1 : AreSameBytes a b (l1_start a) (8 * table_count a)
  pub l2 : (i at : ℕ) → i < table_count a → table_of a i ≡ L2Table.Stored at
      → AreSameBytes a b at (cluster_length a)

-- the place stands where the other one does, or is made up at the same offset, though its byte may
-- be another; any other place is the same
abbrev pub StandsAlike : Place → Place → Type 0
StandsAlike (Stored byte storage offset writable) place = (other : ℕ)
    × (place ≡ Stored other storage offset writable)
StandsAlike (Zeroed explicit) place = place ≡ Zeroed explicit
StandsAlike (Special value offset) place = (other : Value) × (place ≡ Special other offset)
StandsAlike (Lower offset writable) place = place ≡ Lower offset writable
StandsAlike (Refused e) place = place ≡ Refused e
StandsAlike End place = place ≡ End
