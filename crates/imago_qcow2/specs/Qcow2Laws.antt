-- SPDX-License-Identifier: MIT
use Rattle.std.specs.Prelude.{◌≡◌, ℕ, ◌+◌, ◌%◌, ◌/◌, ◌<◌, ◌≤◌, Bool, true, false, List, slice_index}
use Rattle.std.specs.Prelude.{nat_lt, refl, Result, Ok, Err}
use Rattle.std.proofs.Common.{arith, sym, ap, ◌∙◌, ⊎_elim, inl, inr}
use Rattle.std.proofs.lemmas.Bool.{cases_lt}
use Rattle.std.proofs.lemmas.Bool.Decides.{nat_tests}
use Rattle.imago_storage.specs.Bytes.{bytes_at}
use Rattle.imago_storage.specs.declared.error.Error.{Error}
use Rattle.imago_storage.specs.declared.error.Error.TheVariants as E
use Rattle.imago_storage.specs.Features.{Features}
use Rattle.imago_drivers.specs.Operation.{Operation, Map, Read}
use Rattle.imago_drivers.specs.Place.{Value, Byte, Unreadable, Place, Stored, Special, Refused, End}
use Rattle.imago_drivers.specs.Place.{IsIn, shown, own_values}
use Rattle.imago_drivers.specs.Ranges.{HasWrappingPart}
use Rattle.imago_drivers.specs.Laws.{IsLawful, AreCauses, CauseBound, refused_unreadable}
use Rattle.imago_qcow2.specs.declared.entry.GuestCluster.{GuestCluster}
use Rattle.imago_qcow2.specs.declared.entry.GuestCluster.TheVariants as C
use Rattle.imago_inflate.specs.declared.fault.InflateError.{InflateError}
use Rattle.imago_inflate.specs.Inflate.{inflated}
use Rattle.imago_qcow2.specs.declared.header.Compression.{Compression}
use Rattle.imago_qcow2.specs.declared.header.Compression.TheVariants as By
use Rattle.imago_qcow2.specs.Compressed.{value_in, packed_value}
use Rattle.imago_qcow2.specs.Entry.{disk_size, GuestDisk, place_by, disk_place, disk_of}
use Rattle.imago_qcow2.specs.Entry.{qcow2_place}
use Rattle.imago_qcow2.specs.Tables.{LoadedImage, loaded_disk, loaded_place}
use Rattle.imago_qcow2.specs.Qcow2.{qcow2_cause, is_read, ReadWraps, view_with, loaded_view}

-- The places of the disk, and the laws of a driver that has them.

module _ (tells : Bool) (bytes : List ℕ) (disk : GuestDisk) where
  -- what the bytes of a compressed cluster are, by where its stream stands
  abbrev pub packed_of : ℕ → ℕ → ℕ → Value
  packed_of at n i = packed_value tells disk.compression bytes disk.cluster at n i

  -- a place by its guest cluster
  abbrev pub cluster_place : ℕ → Place
  cluster_place p =
      place_by packed_of bytes (p % disk.cluster) p (disk.clusters (p / disk.cluster))

  pub in_disk : (p : ℕ) → p < disk.size → disk_place tells bytes disk p ≡ cluster_place p
  unfolding disk_place
  in_disk p h = let t : nat_lt p disk.size ≡ true = grind (arith, nat_tests) in rw t refl

  pub past_disk : (p : ℕ) → disk.size ≤ p → disk_place tells bytes disk p ≡ End
  unfolding disk_place
  past_disk p h = let t : nat_lt p disk.size ≡ false = grind (arith, nat_tests) in rw t refl

-- a place of the disk by its guest cluster
abbrev pub place_at : List ℕ → ℕ → Place
place_at bytes p = cluster_place true bytes (disk_of bytes) p

pub place_in : (bytes : List ℕ) (p : ℕ) → p < disk_size bytes → qcow2_place bytes p
    ≡ place_at bytes p
place_in bytes p h = in_disk true bytes (disk_of bytes) p h

pub place_out : (bytes : List ℕ) (p : ℕ) → disk_size bytes ≤ p → qcow2_place bytes p ≡ End
place_out bytes p h = past_disk true bytes (disk_of bytes) p h

-- what a stream puts out is bytes, or invalid data
value_faulty : (put : Result (List ℕ) InflateError) (i : ℕ) (e : Error)
    → value_in put i ≡ Unreadable e → e ≡ Error.InvalidData
value_faulty (Ok out) i e h = let z : ⊥ = cc in absurd z
value_faulty (Err fault) i e h = cc

packed_faulty : (tells : Bool) (by : Compression) (bytes : List ℕ) (cluster at n i : ℕ) (e : Error)
    → packed_value tells by bytes cluster at n i ≡ Unreadable e → e ≡ Error.InvalidData
packed_faulty tells By.Zstd bytes cluster at n i e h = let z : ⊥ = cc in absurd z
packed_faulty true By.Deflate bytes cluster at n i e h =
    value_faulty (inflated (bytes_at bytes at n) cluster) i e h
packed_faulty false By.Deflate bytes cluster at n i e h = cc

module _ (packed : ℕ → ℕ → ℕ → Value) (bytes : List ℕ) (rest p : ℕ) where
  pub no_end : (k : GuestCluster) → place_by packed bytes rest p k ≡ End → ⊥
  no_end (C.Stored at) e = let z : ⊥ = cc in z
  no_end C.Zero e = let z : ⊥ = cc in z
  no_end C.Absent e = let z : ⊥ = cc in z
  no_end (C.Compressed at n) e = let z : ⊥ = cc in z
  no_end C.Invalid e = let z : ⊥ = cc in z

  stored_by : (k : GuestCluster) (b s o : ℕ) (w : Bool)
      → place_by packed bytes rest p k ≡ Stored b s o w
      → (s ≡ 0) × (slice_index bytes o ≡ b) × (w ≡ false)
  stored_by (C.Stored at) b s o w e = let i : s ≡ 0 = cc in let t : o ≡ at + rest = cc in
      let u : slice_index bytes (at + rest) ≡ b = cc in let v : w ≡ false = cc in (i, rw t u, v)
  stored_by C.Zero b s o w e = let z : ⊥ = cc in absurd z
  stored_by C.Absent b s o w e = let z : ⊥ = cc in absurd z
  stored_by (C.Compressed at n) b s o w e = let z : ⊥ = cc in absurd z
  stored_by C.Invalid b s o w e = let z : ⊥ = cc in absurd z

  -- a byte that is made up is one of a compressed cluster, at the disk's own offset
  pub special_by : (k : GuestCluster) (b : Value) (o : ℕ)
      → place_by packed bytes rest p k ≡ Special b o
      → (o ≡ p) × ((at : ℕ) × (n : ℕ) × (k ≡ GuestCluster.Compressed at n)
      × (packed at n rest ≡ b))
  special_by (C.Stored at) b o e = let z : ⊥ = cc in absurd z
  special_by C.Zero b o e = let z : ⊥ = cc in absurd z
  special_by C.Absent b o e = let z : ⊥ = cc in absurd z
  special_by (C.Compressed at n) b o e = let i : o ≡ p = cc in let v : packed at n rest ≡ b =
      cc in (i, (at, n, refl, v))
  special_by C.Invalid b o e = let z : ⊥ = cc in absurd z

  refused_by : (k : GuestCluster) (r : Error) → place_by packed bytes rest p k ≡ Refused r → r
      ≡ Error.InvalidData
  refused_by (C.Stored at) r e = let z : ⊥ = cc in absurd z
  refused_by C.Zero r e = let z : ⊥ = cc in absurd z
  refused_by C.Absent r e = let z : ⊥ = cc in absurd z
  refused_by (C.Compressed at n) r e = let z : ⊥ = cc in absurd z
  refused_by C.Invalid r e = cc

module _ (tells : Bool) (bytes : List ℕ) (disk : GuestDisk) where
  abbrev here : ℕ → Place
  here = disk_place tells bytes disk

  -- a place that is no end lies below the size, and is its cluster's
  below_size : (p : ℕ) (x : Place) → here p ≡ x → (x ≡ End → ⊥)
      → (p < disk.size) × (cluster_place tells bytes disk p ≡ x)
  below_size p x e other = ⊎_elim
      (λ under. (under, sym (in_disk tells bytes disk p under) ∙ e))
      (λ over. absurd (other (sym e ∙ past_disk tells bytes disk p over)))
      (cases_lt p disk.size)

  from_size : (p : ℕ) → here p ≡ End → disk.size ≤ p
  from_size p e = ⊎_elim
      (λ under. absurd (no_end (packed_of tells bytes disk) bytes (p % disk.cluster) p
      (disk.clusters (p / disk.cluster)) (sym (in_disk tells bytes disk p under) ∙ e)))
      (λ over. over)
      (cases_lt p disk.size)

  stored_place : (p b s o : ℕ) (w : Bool) → here p ≡ Stored b s o w → (s ≡ 0)
      × (slice_index bytes o ≡ b) × (w ≡ false)
  stored_place p b s o w e =
      let x = below_size p (Stored b s o w) e (λ y. let z : ⊥ = cc in z) in
      stored_by (packed_of tells bytes disk) bytes (p % disk.cluster) p
      (disk.clusters (p / disk.cluster)) b s o w (x.1)

  -- a place that is made up is one of a compressed cluster, and lies in the disk
  pub special_place : (p : ℕ) (b : Value) (o : ℕ) → here p ≡ Special b o → (p < disk.size)
      × (o ≡ p) × ((at : ℕ) × (n : ℕ)
      × (disk.clusters (p / disk.cluster) ≡ GuestCluster.Compressed at n)
      × (packed_of tells bytes disk at n (p % disk.cluster) ≡ b))
  special_place p b o e =
      let x = below_size p (Special b o) e (λ y. let z : ⊥ = cc in z) in
      let y = special_by (packed_of tells bytes disk) bytes (p % disk.cluster) p
      (disk.clusters (p / disk.cluster)) b o (x.1) in (x.0, y.0, y.1)

  special_shown : (p : ℕ) (b : Value) (o : ℕ) → here p ≡ Special b o → own_values here o ≡ b
  special_shown p b o e = let x = special_place p b o e in
      ap (own_values here) (x.1) ∙ ap (shown (λ _. Byte 0)) e

  refused_place : (p : ℕ) (r : Error) → here p ≡ Refused r → r ≡ Error.InvalidData
  refused_place p r e =
      let x = below_size p (Refused r) e (λ y. let z : ⊥ = cc in z) in
      refused_by (packed_of tells bytes disk) bytes (p % disk.cluster) p
      (disk.clusters (p / disk.cluster)) r (x.1)

  places_lawful : (f : Features) → IsLawful (view_with f bytes disk here)
  places_lawful f = record {
    ends = λ p q h e. past_disk tells bytes disk q (let x = from_size p e in omega (arith, x));
    bounded = λ p h. past_disk tells bytes disk p h;
    stored = λ p b s o w e. let x = stored_place p b s o w e in let y : s < 1 =
        omega (arith, x.0) in (y, x.1);
    special = λ p b o e. special_shown p b o e;
    faulty = λ p o e s. let x = special_place p (Unreadable e) o s in
        packed_faulty tells disk.compression bytes disk.cluster (x.2.0) (x.2.1)
        (p % disk.cluster) e (x.2.3);
    lower = λ p q w e. refl;
    own = λ p q b c s o w e g. let x = stored_place p b s o true e in let y : true ≡ false =
        x.2 in let z : ⊥ = cc in absurd z;
    refused = λ p r e. inl (refused_place p r e);
    told = λ t. t;
    granularity = λ e. let z : ⊥ = cc in z;
    blocks = λ e. let z : ⊥ = cc in z;
  }

pub qcow2_lawful : (f : Features) (bytes : List ℕ) (loaded : LoadedImage)
    → IsLawful (loaded_view f bytes loaded)
qcow2_lawful f bytes loaded = places_lawful f.tells_bytes bytes (loaded_disk loaded) f

-- a cause is one of four
only : (f : Features) (disk : GuestDisk) (place : ℕ → Place) (op : Operation) (o n : ℕ) (e : Error)
    (P : Operation → Error → Type 0) → qcow2_cause f disk place op o n e
    → (qcow2_cause f disk place Map o n Error.InvalidData → P Map Error.InvalidData)
    → (qcow2_cause f disk place Read o n Error.InvalidData → P Read Error.InvalidData)
    → (qcow2_cause f disk place Read o n Error.Unsupported → P Read Error.Unsupported)
    → (qcow2_cause f disk place Read o n Error.WrapAround → P Read Error.WrapAround) → P op e
only f disk place Map o n E.InvalidData P c m i u w = m c
only f disk place Read o n E.InvalidData P c m i u w = i c
only f disk place Read o n E.Unsupported P c m i u w = u c
only f disk place Read o n E.WrapAround P c m i u w = w c
only f disk place op o n e P c m i u w = absurd c

wider : (o n q m p : ℕ) → o ≤ q → q + m ≤ o + n → IsIn q m p → IsIn o n p
wider o n q m p h k i = let a : o ≤ p = omega (arith, i.0) in let b : p < o + n =
    omega (arith, i.1) in (a, b)

-- a part that wraps around is one of a wider range
wrapping_wider : (f : Features) (place : ℕ → Place) (o n q m : ℕ) → o ≤ q → q + m ≤ o + n
    → HasWrappingPart (ReadWraps f place) q m → HasWrappingPart (ReadWraps f place) o n
wrapping_wider f place o n q m h k x = record {
  from = x.from;
  count = x.count;
  above = omega (arith, x.above, h);
  below = omega (arith, x.below, k);
  wraps = x.wraps;
}

-- nothing but deflate is read
not_read : (by : Compression) → by ≡ Compression.Zstd → is_read by ≡ false
not_read by is = rw is refl

places_causes : (f : Features) (bytes : List ℕ) (disk : GuestDisk) (place : ℕ → Place)
    → AreCauses (view_with f bytes disk place)
places_causes f bytes disk place = record {
  part = λ op o n q m e h k c. only f disk place op q m e
      (λ t r. qcow2_cause f disk place t o n r) c
      (λ x. (x.0, wider o n q m (x.0) h k (x.1), x.2))
      (λ x. (x.0, wider o n q m (x.0) h k (x.1), x.2))
      (λ x. (x.0, (x.1.0, wider o n q m (x.1.0) h k (x.1.1), x.1.2)))
      (λ x. ⊎_elim
      (λ y. inl (wrapping_wider f place o n q m h k y))
      (λ y. inr (y.0, wider o n q m (y.0) h k (y.1), y.2)) x);
  part_copied = λ op o n q m p h k c. c;
  bound = λ op o n e c. only f disk place op o n e
      (λ t r. CauseBound (view_with f bytes disk place) t o n r) c
      (λ x. refused_unreadable place o n Error.InvalidData x)
      (λ x. x) (λ x. (not_read disk.compression (x.0), x.1)) (λ x. tt);
  lends = λ op o n p c. absurd c;
}

pub qcow2_causes : (f : Features) (bytes : List ℕ) (loaded : LoadedImage)
    → AreCauses (loaded_view f bytes loaded)
qcow2_causes f bytes loaded = places_causes f bytes (loaded_disk loaded)
    (loaded_place f loaded bytes)
