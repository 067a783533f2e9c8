-- The places of qcow2 files with the same tables.
-- SPDX-License-Identifier: MIT
use Rattle.std.proofs.Common.{◌≡◌, ℕ, ◌^◌, ◌%◌, ◌/◌, ◌≤◌, List, true, refl, ap, ◌∙◌, arith, ⊎_elim}
use Rattle.std.proofs.lemmas.Bool.{cases_lt}
use Rattle.imago_drivers.specs.Place.{Place, Stored, Zeroed, Special, Lower, Refused, End, Value}
use Rattle.imago_vmdk.specs.Disk.{with_bytes}
use Rattle.imago_qcow2.specs.declared.entry.GuestCluster.{GuestCluster}
use Rattle.imago_qcow2.specs.declared.entry.GuestCluster.TheVariants as C
use Rattle.imago_qcow2.specs.Entry.{disk_size, cluster_length, cluster_of, place_by, disk_of, qcow2_place}
use Rattle.imago_qcow2.specs.Qcow2Laws.{packed_of, place_in, place_out}
use Rattle.imago_qcow2.specs.Disk.{HaveSameTables, StandsAlike}
use Rattle.imago_qcow2.proofs.NumberSteps.{range32}

-- a place as the file has it
own_by : (packed : ℕ → ℕ → ℕ → Value) (bytes : ℕ → List ℕ) (rest p : ℕ) (k : GuestCluster) → with_bytes bytes (place_by packed (bytes 0) rest p k) ≡ place_by packed (bytes 0) rest p k
own_by packed bytes rest p C.Absent = refl
own_by packed bytes rest p C.Zero = refl
own_by packed bytes rest p (C.Stored at) = refl
own_by packed bytes rest p (C.Compressed at n) = refl
own_by packed bytes rest p C.Invalid = refl

own_place : (bytes : ℕ → List ℕ) (p : ℕ) → with_bytes bytes (qcow2_place (bytes 0) p) ≡ qcow2_place (bytes 0) p
own_place bytes p = ⊎_elim
    (λ inside. rw (place_in (bytes 0) p inside) (own_by (packed_of true (bytes 0) (disk_of (bytes 0))) bytes (p % cluster_length (bytes 0)) p (cluster_of (bytes 0) (p / cluster_length (bytes 0)))))
    (λ behind. rw (place_out (bytes 0) p behind) refl)
    (cases_lt p (disk_size (bytes 0)))

-- the place isn't made up
abbrev pub IsNoSpecial : Place → Type 0
IsNoSpecial place = (v : Value) (o : ℕ) → place ≡ Special v o → ⊥

-- places that stand alike are one with the bytes of a file, unless they are made up: of what, only
-- the whole file says
alike : (bytes : ℕ → List ℕ) (x y : Place) → StandsAlike x y → IsNoSpecial y → with_bytes bytes y ≡ with_bytes bytes x
alike bytes (Stored b s o w) y h other = ap (with_bytes bytes) (h.1)
alike bytes (Zeroed e) y h other = ap (with_bytes bytes) h
alike bytes (Special b o) y h other = absurd (other h.0 o h.1)
alike bytes (Lower o w) y h other = ap (with_bytes bytes) h
alike bytes (Refused e) y h other = ap (with_bytes bytes) h
alike bytes End y h other = ap (with_bytes bytes) h

pub same_place : (bytes : ℕ → List ℕ) (own : List ℕ) (p : ℕ) → StandsAlike (qcow2_place (bytes 0) p) (qcow2_place own p) → IsNoSpecial (qcow2_place own p) → with_bytes bytes (qcow2_place own p) ≡ qcow2_place (bytes 0) p
same_place bytes own p h other = alike bytes (qcow2_place (bytes 0) p) (qcow2_place own p) h other ∙ own_place bytes p

-- files with the same header have clusters of one length
pub same_clusters : (a b : List ℕ) → HaveSameTables a b → 512 ≤ cluster_length b → 8 ≤ cluster_length a
same_clusters a b same least =
    let e : cluster_length a ≡ cluster_length b = ap (λ x. 2 ^ x) (range32 a b 0 112 same.header 20 (omega arith)) in
    omega (arith, e, least)
