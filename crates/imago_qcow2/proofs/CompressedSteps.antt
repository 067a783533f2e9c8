-- Reads of compressed clusters: what they give, and why they are refused.
-- SPDX-License-Identifier: MIT
use Rattle.std.proofs.Common.{◌≡◌, ℕ, ◌+◌, ◌-◌, ◌/◌, ◌%◌, ◌<◌, ◌≤◌, ◌⊎◌, ⊎_elim, inl, inr, Bool, true, false, List, ◌++◌, length, take, Option, None, Result, Ok, Err, refl, sym, ap, ◌∙◌, subst, arith, length-append, length-take}
use Rattle.std.specs.Prelude.{IfErr, IfOk, OnOk, IsTrue, IsErr}
use Rattle.std.proofs.Math.ListN.{get_or-append}
use Rattle.std.proofs.Math.Seq.{take-append-add}
use Rattle.std.proofs.lemmas.List.{get_or-append_right, take-append-le}
use Rattle.std.proofs.lemmas.Bool.{cases_lt}
use borrow.Rule.Slice.PartMut.{put_mid, post_of}
use Rattle.imago_storage.specs.declared.error.Error.{Error}
use Rattle.imago_storage.specs.declared.error.Error.TheVariants as E
use Rattle.imago_storage.specs.Bytes.{IsReadAt}
use Rattle.imago_storage.specs.Features.{Features}
use Rattle.imago_drivers.specs.Place.{Value, Byte, Unreadable, Place, Special, IsIn, PlacesAreSpecialAt, HasValues, shown, own_values}
use Rattle.imago_drivers.specs.Reasons.{allowed}
use Rattle.imago_drivers.specs.Done.{special_read_reasons}
use Rattle.imago_inflate.specs.declared.fault.InflateError.{InflateError}
use Rattle.imago_inflate.specs.Inflate.{inflated}
use Rattle.imago_qcow2.specs.declared.header.Compression.{Compression}
use Rattle.imago_qcow2.specs.declared.header.Compression.TheVariants as By
use Rattle.imago_qcow2.specs.declared.entry.GuestCluster.{GuestCluster}
use Rattle.imago_qcow2.specs.declared.entry.GuestCluster.TheVariants as C
use Rattle.imago_qcow2.specs.Compressed.{value_in, packed_value, IsUnpacked, fault_in}
use Rattle.imago_qcow2.specs.Entry.{GuestDisk, place_by, disk_place}
use Rattle.imago_qcow2.specs.Opening.{read_reasons}
use Rattle.imago_qcow2.specs.Tables.{LoadedImage, loaded_cluster, loaded_disk, loaded_place}
use Rattle.imago_qcow2.specs.Qcow2.{IsCompressedIn, file_view}
use Rattle.imago_qcow2.specs.Qcow2Calls.{IsStreamRead, IsClusterRead, MayUnpack, IsReadOf, IsFirstRead, IsSpecialRead, IsClusterFault, IsFaultUnknown}
use Rattle.imago_qcow2.specs.Qcow2Laws.{packed_of, in_disk, special_place}
use Rattle.imago_qcow2.proofs.MapSteps.{same_block, same_rest}
use Rattle.imago_qcow2.proofs.StreamSteps.{read_bytes}

-- the guest cluster of an offset, as the first of those from there on
pub first_cluster : (loaded : LoadedImage) (o m : ℕ) (k : GuestCluster) → ((i : ℕ) → i < m → loaded_cluster loaded ((o + i) / loaded.cluster) ≡ k) → 0 < m → loaded_cluster loaded (o / loaded.cluster) ≡ k
first_cluster loaded o m k same some =
    let e : o + 0 ≡ o = omega arith in
    let x : loaded_cluster loaded ((o + 0) / loaded.cluster) ≡ k = same 0 some in
    rw e at x

-- one that isn't compressed is refused
pub other_cluster : (f : Features) (bytes : List ℕ) (size : ℕ) (k : GuestCluster) → ((at n : ℕ) → k ≡ GuestCluster.Compressed at n → ⊥) → IsClusterRead f bytes size k (Err Error.Unsupported)
other_cluster f bytes size (C.Stored at) other = refl
other_cluster f bytes size C.Zero other = refl
other_cluster f bytes size C.Absent other = refl
other_cluster f bytes size (C.Compressed at n) other = absurd (other at n refl)
other_cluster f bytes size C.Invalid other = refl

-- and has no fault
pub other_fault : (f : Features) (bytes : List ℕ) (size : ℕ) (k : GuestCluster) → ((at n : ℕ) → k ≡ GuestCluster.Compressed at n → ⊥) → IsClusterFault f bytes size k None
other_fault f bytes size (C.Stored at) other = refl
other_fault f bytes size C.Zero other = refl
other_fault f bytes size C.Absent other = refl
other_fault f bytes size (C.Compressed at n) other = absurd (other at n refl)
other_fault f bytes size C.Invalid other = refl

module _ (f : Features) (bytes : List ℕ) (at n : ℕ) where
  fault_known : (size : ℕ) (k : GuestCluster) (stream : List ℕ) (fault : Option InflateError) → k ≡ GuestCluster.Compressed at n → IsStreamRead f bytes at n stream → fault ≡ fault_in (inflated stream size) → IsClusterFault f bytes size k fault
  fault_known size k stream fault is x e = subst (λ c. IsClusterFault f bytes size c fault) (sym is) (stream, x, e)

  pub fault_unknown : (by : Compression) (k : GuestCluster) (e : Error) → k ≡ GuestCluster.Compressed at n → ((e ≡ Error.Unsupported) × (by ≡ Compression.Zstd)) ⊎ allowed (read_reasons f at n) e → IsFaultUnknown f by k e
  fault_unknown by k e is why = subst (λ c. IsFaultUnknown f by c e) (sym is) why

  pub all_known : (size : ℕ) (k : GuestCluster) (stream : List ℕ) (r : Result (Option InflateError) Error) → k ≡ GuestCluster.Compressed at n → IsStreamRead f bytes at n stream → IfOk r (λ fault. fault ≡ fault_in (inflated stream size))
      → IfOk r (IsClusterFault f bytes size k)
  all_known size k stream (Ok fault) is x e = fault_known size k stream fault is x e
  all_known size k stream (Err e) is x h = tt

  pub no_room : (by : Compression) (k : GuestCluster) (r : Result (Option InflateError) Error) → k ≡ GuestCluster.Compressed at n → IfErr r (λ e. e ≡ Error.Memory) → IfErr r (IsFaultUnknown f by k)
  no_room by k (Ok fault) is h = tt
  no_room by k (Err e) is h = fault_unknown by k e is (inr (rw h tt))

  -- one whose stream was read
  unpacked : (size rest : ℕ) (stream out : List ℕ) (r : Result (Unit {0}) Error) → IsStreamRead f bytes at n stream → IsUnpacked (inflated stream size) rest out r → IsClusterRead f bytes size (GuestCluster.Compressed at n) r
  unpacked size rest stream out (Ok done) x u = (stream, x, u.0)
  unpacked size rest stream out (Err e) x u = ⊎_elim
      (λ faulty. inr (faulty.0, (stream, x, faulty.1)))
      (λ memory. rw memory (inl tt))
      u

  pub cluster_unpacked : (size rest : ℕ) (k : GuestCluster) (stream out : List ℕ) (r : Result (Unit {0}) Error) → k ≡ GuestCluster.Compressed at n → IsStreamRead f bytes at n stream → IsUnpacked (inflated stream size) rest out r → IsClusterRead f bytes size k r
  cluster_unpacked size rest k stream out r is x u = subst (λ c. IsClusterRead f bytes size c r) (sym is) (unpacked size rest stream out r x u)

  -- one whose stream can't be read
  pub cluster_unread : (size : ℕ) (k : GuestCluster) (e : Error) → k ≡ GuestCluster.Compressed at n → allowed (read_reasons f at n) e → IsClusterRead f bytes size k (Err e)
  cluster_unread size k e is r = subst (λ c. IsClusterRead f bytes size c (Err e)) (sym is) (inl r)

-- what stands in a compressed cluster, by the stream that was read
told_value : (by : Compression) (bytes : List ℕ) (cluster at n i : ℕ) (stream : List ℕ) → by ≡ Compression.Deflate → length stream ≡ n → IsReadAt bytes at stream
    → packed_value true by bytes cluster at n i ≡ value_in (inflated stream cluster) i
told_value By.Deflate bytes cluster at n i stream is len h = ap (λ s. value_in (inflated s cluster) i) (sym (read_bytes bytes at n stream len h))
told_value By.Zstd bytes cluster at n i stream is len h = let z : ⊥ = cc in absurd z

value_refused : (put : Result (List ℕ) InflateError) (i : ℕ) → IsErr put → value_in put i ≡ Unreadable Error.InvalidData
value_refused (Ok out) i h = let z : ⊥ = cc in absurd z
value_refused (Err fault) i h = refl

-- where the stream that was read is faulty, nothing can be read there
packed_refused : (tells : Bool) (by : Compression) (bytes : List ℕ) (cluster at n i : ℕ) (stream : List ℕ) → by ≡ Compression.Deflate → length stream ≡ n → (IsTrue tells → IsReadAt bytes at stream)
    → IsErr (inflated stream cluster) → packed_value tells by bytes cluster at n i ≡ Unreadable Error.InvalidData
packed_refused true by bytes cluster at n i stream is len h faulty = told_value by bytes cluster at n i stream is len (h refl) ∙ value_refused (inflated stream cluster) i faulty
packed_refused false By.Deflate bytes cluster at n i stream is len h faulty = refl
packed_refused false By.Zstd bytes cluster at n i stream is len h faulty = let z : ⊥ = cc in absurd z

module _ (tells : Bool) (bytes : List ℕ) (disk : GuestDisk) where
  -- what an offset of a compressed cluster shows
  shown_packed : (p at n : ℕ) → p < disk.size → disk.clusters (p / disk.cluster) ≡ GuestCluster.Compressed at n → own_values (disk_place tells bytes disk) p ≡ packed_of tells bytes disk at n (p % disk.cluster)
  shown_packed p at n under is =
      ap (shown (λ _. Byte 0)) (in_disk tells bytes disk p under)
      ∙ ap (λ k. shown (λ _. Byte 0) (place_by (packed_of tells bytes disk) bytes (p % disk.cluster) p k)) is

-- the output of a part of a guest cluster holds what the disk shows there
module _ (f : Features) (bytes : List ℕ) (loaded : LoadedImage) (o at n : ℕ) (stream : List ℕ) where
  pub part_values : (out : List ℕ) (r : Result (Unit {0}) Error) → IsTrue f.tells_bytes → 0 < loaded.cluster → loaded.compression ≡ Compression.Deflate
      → loaded_cluster loaded (o / loaded.cluster) ≡ GuestCluster.Compressed at n → o + length out ≤ loaded.size → length out ≤ loaded.cluster - o % loaded.cluster
      → length stream ≡ n → (IsTrue f.tells_bytes → IsReadAt bytes at stream) → IsUnpacked (inflated stream loaded.cluster) (o % loaded.cluster) out r
      → OnOk r (HasValues (own_values (loaded_place f loaded bytes)) o out)
  part_values out (Err e) told positive by is inside within len read u = tt
  part_values out (Ok done) told positive by is inside within len read u = λ k lt.
      let near : k < loaded.cluster - o % loaded.cluster = omega (arith, lt, within) in
      let under : o + k < loaded.size = omega (arith, lt, inside) in
      let here : loaded_cluster loaded ((o + k) / loaded.cluster) ≡ GuestCluster.Compressed at n = ap (loaded_cluster loaded) (same_block loaded.cluster positive o k near) ∙ is in
      let tells : f.tells_bytes ≡ true = told in
      shown_packed f.tells_bytes bytes (loaded_disk loaded) (o + k) at n under here
      ∙ ap (packed_of f.tells_bytes bytes (loaded_disk loaded) at n) (same_rest loaded.cluster positive o k near)
      ∙ ap (λ t. packed_value t loaded.compression bytes loaded.cluster at n (o % loaded.cluster + k)) tells
      ∙ told_value loaded.compression bytes loaded.cluster at n (o % loaded.cluster + k) stream by len (read told)
      ∙ u.1 k lt

-- each offset of a part is one of the guest cluster that was read
pub part_read : (f : Features) (bytes : List ℕ) (loaded : LoadedImage) (o m i : ℕ) → 0 < loaded.cluster → loaded.compression ≡ Compression.Deflate → o + m ≤ loaded.size → m ≤ loaded.cluster - o % loaded.cluster
    → IsClusterRead f bytes loaded.cluster (loaded_cluster loaded (o / loaded.cluster)) (Ok tt) → i < m → IsReadOf f bytes (loaded_disk loaded) (o + i) (Ok tt)
part_read f bytes loaded o m i positive by inside within read lt =
    let near : i < loaded.cluster - o % loaded.cluster = omega (arith, lt, within) in
    let under : o + i < loaded.size = omega (arith, lt, inside) in (
      record { deflated = by; inside = under },
      subst (λ q. IsClusterRead f bytes loaded.cluster (loaded_cluster loaded q) (Ok tt)) (sym (same_block loaded.cluster positive o i near)) read,
    )

-- parts that were read, one behind the other
module _ (f : Features) (bytes : List ℕ) (disk : GuestDisk) (o : ℕ) where
  abbrev pub AreRead : ℕ → Type 0
  AreRead n = (p : ℕ) → IsIn o n p → IsReadOf f bytes disk p (Ok tt)

  pub read_more : (done n : ℕ) → AreRead done → IsFirstRead f bytes disk (o + done) (Ok n) → AreRead (done + n)
  read_more done n before more p inside = ⊎_elim
      (λ below. before p (inside.0, below))
      (λ above.
      let i : o + done + (p - (o + done)) ≡ p = omega (arith, above) in
      let lt : p - (o + done) < n = omega (arith, above, inside.1) in
      subst (λ q. IsReadOf f bytes disk q (Ok tt)) i (more (p - (o + done)) lt))
      (cases_lt p (o + done))

  pub read_refused : (done n : ℕ) (e : Error) → done < n → IsFirstRead f bytes disk (o + done) (Err e) → IsSpecialRead f bytes disk o n (Err e)
  read_refused done n e lt x = (o + done, (omega arith, omega (arith, lt)), inl x)

  -- none can be read
  pub none_read : (n : ℕ) → 0 < n → (disk.compression ≡ Compression.Zstd) ⊎ (disk.size < o + n) → IsSpecialRead f bytes disk o n (Err Error.Unsupported)
  none_read n some why = ⊎_elim
      (λ other. (o, (omega arith, omega (arith, some)), inr (refl, λ m. let d = m.deflated in let z : ⊥ = cc in z)))
      (λ past. (o + n - 1, (omega (arith, some), omega (arith, some)), inr (refl, λ m. let d = m.inside in let z : ⊥ = omega (arith, d, past, some) in z)))
      why

-- what places that are special at an offset say of one of them
pub record IsSpecialHere (tells : Bool) (bytes : List ℕ) (disk : GuestDisk) (o q p : ℕ) : Type 0 where
  pub same : q ≡ o
  pub under : p < disk.size
  pub value : Value
  pub at : ℕ
  pub count : ℕ
  pub is : disk.clusters (p / disk.cluster) ≡ GuestCluster.Compressed at count
  pub place : disk_place tells bytes disk p ≡ Special value p

-- one of them, by other names of its offset
special_at : (tells : Bool) (bytes : List ℕ) (disk : GuestDisk) (o q p a b : ℕ) (v : Value) → q ≡ o → a ≡ p → b ≡ p → disk_place tells bytes disk a ≡ Special v b → IsSpecialHere tells bytes disk o q p
special_at tells bytes disk o q p a b v same e g is =
    let here : disk_place tells bytes disk p ≡ Special v p = ap (disk_place tells bytes disk) (sym e) ∙ is ∙ ap (Special v) g in
    let x = special_place tells bytes disk p v p here in
    record { same = same; under = x.0; value = v; at = x.2.0; count = x.2.1; is = x.2.2; place = here }

special_here : (tells : Bool) (bytes : List ℕ) (disk : GuestDisk) (o n q p : ℕ) → IsIn o n p → PlacesAreSpecialAt (disk_place tells bytes disk) o n q → IsSpecialHere tells bytes disk o q p
special_here tells bytes disk o n q p inside special =
    let i = p - o in
    let lt : p - o < n = omega (arith, inside.0, inside.1) in
    let s = special (p - o) lt in
    let x = special_place tells bytes disk (q + (p - o)) s.0 (o + (p - o)) s.1 in
    let same : q ≡ o = omega (arith, x.1) in
    let e : q + (p - o) ≡ p = omega (arith, same, inside.0) in
    let g : o + (p - o) ≡ p = omega (arith, inside.0) in
    special_at tells bytes disk o q p (q + (p - o)) (o + (p - o)) s.0 same e g s.1

-- why a guest cluster isn't read: it is compressed, and its stream can't be read or is faulty; or it
-- isn't compressed
cluster_refused : (f : Features) (bytes : List ℕ) (size : ℕ) (k : GuestCluster) (e : Error) → IsClusterRead f bytes size k (Err e)
    → ((at : ℕ) × (n : ℕ) × (k ≡ GuestCluster.Compressed at n) × (allowed (read_reasons f at n) e ⊎ ((e ≡ Error.InvalidData) × ((stream : List ℕ) × IsStreamRead f bytes at n stream × IsErr (inflated stream size)))))
    ⊎ ((e ≡ Error.Unsupported) × ((at n : ℕ) → k ≡ GuestCluster.Compressed at n → ⊥))
cluster_refused f bytes size (C.Compressed at n) e r = inl (at, n, refl, r)
cluster_refused f bytes size (C.Stored start) e r = inr (let x : e ≡ Error.Unsupported = cc in x, λ at n is. let z : ⊥ = cc in z)
cluster_refused f bytes size C.Zero e r = inr (let x : e ≡ Error.Unsupported = cc in x, λ at n is. let z : ⊥ = cc in z)
cluster_refused f bytes size C.Absent e r = inr (let x : e ≡ Error.Unsupported = cc in x, λ at n is. let z : ⊥ = cc in z)
cluster_refused f bytes size C.Invalid e r = inr (let x : e ≡ Error.Unsupported = cc in x, λ at n is. let z : ⊥ = cc in z)

module _ (f : Features) (bytes : List ℕ) (disk : GuestDisk) (o n p : ℕ) (inside : IsIn o n p) where
  abbrev place : ℕ → Place
  place = disk_place f.tells_bytes bytes disk

  moved : (q : ℕ) → q ≡ o → IsIn q n p
  moved q same = let a : q ≤ p = omega (arith, same, inside.0) in let b : p < q + n = omega (arith, same, inside.1) in (a, b)

  compressed_in : (q : ℕ) → IsSpecialHere f.tells_bytes bytes disk o q p → IsCompressedIn place q n
  compressed_in q s = (p, moved q s.same, (s.value, p, s.place))

  -- it is one that isn't offered
  lacking : (by : Compression) → disk.compression ≡ by → (never : (q : ℕ) → IsSpecialHere f.tells_bytes bytes disk o q p → by ≡ Compression.Deflate → ⊥) → allowed (special_read_reasons (file_view f bytes disk) o n) Error.Unsupported
  lacking By.Zstd is never = (inr (inl refl), λ q special. (is, compressed_in q (special_here f.tells_bytes bytes disk o n q p inside special)))
  lacking By.Deflate is never = (inr (inl refl), λ q special. absurd (never q (special_here f.tells_bytes bytes disk o n q p inside special) refl))

  -- its stream can't be read
  unread : (at count : ℕ) → disk.clusters (p / disk.cluster) ≡ GuestCluster.Compressed at count → (e : Error) → allowed (read_reasons f at count) e → allowed (special_read_reasons (file_view f bytes disk) o n) e
  unread at count is E.WrapAround r = (inl refl, λ q special. let s = special_here f.tells_bytes bytes disk o n q p inside special in inr (p, moved q s.same, (at, count, is, r.1)))
  unread at count is E.Device r = r
  unread at count is E.Memory r = λ q special none. none.0 (compressed_in q (special_here f.tells_bytes bytes disk o n q p inside special))
  unread at count is E.InvalidData r = let z : ⊥ = cc (r.0) in absurd z
  unread at count is E.Unsupported r = let z : ⊥ = cc (r.0) in absurd z
  unread at count is E.NoAccess r = let z : ⊥ = cc (r.0) in absurd z
  unread at count is E.ReadOnly r = absurd r
  unread at count is E.BeyondDisk r = absurd r
  unread at count is E.RangeOverflow r = absurd r
  unread at count is E.ForeignMapping r = absurd r
  unread at count is E.Denied r = absurd r
  unread at count is E.NotFound r = absurd r

  -- its stream is faulty
  faulty : (at count : ℕ) (stream : List ℕ) → MayUnpack disk p → disk.clusters (p / disk.cluster) ≡ GuestCluster.Compressed at count → IsStreamRead f bytes at count stream → IsErr (inflated stream disk.cluster)
      → allowed (special_read_reasons (file_view f bytes disk) o n) Error.InvalidData
  faulty at count stream may is read fault =
      let x : own_values place p ≡ Unreadable Error.InvalidData =
      shown_packed f.tells_bytes bytes disk p at count may.inside is ∙ packed_refused f.tells_bytes disk.compression bytes disk.cluster at count (p % disk.cluster) stream may.deflated read.len read.read fault in
      (inr (inr (refl, (p, inside, x))), λ q special. let s = special_here f.tells_bytes bytes disk o n q p inside special in (p, moved q s.same, x))

  refused_there : (e : Error) → IsReadOf f bytes disk p (Err e) ⊎ ((e ≡ Error.Unsupported) × (MayUnpack disk p → ⊥)) → allowed (special_read_reasons (file_view f bytes disk) o n) e
  refused_there e why = ⊎_elim
      (λ read. ⊎_elim
      (λ packed. ⊎_elim
      (λ r. unread packed.0 packed.1 packed.2 e r)
      (λ r. rw r.0 (faulty packed.0 packed.1 r.1.0 read.0 packed.2 r.1.1 r.1.2))
      packed.3)
      (λ other. rw other.0 (lacking disk.compression refl (λ q s by. other.1 s.at s.count s.is)))
      (cluster_refused f bytes disk.cluster (disk.clusters (p / disk.cluster)) e read.1))
      (λ none. rw none.0 (lacking disk.compression refl (λ q s by. none.1 (record { deflated = by; inside = s.under }))))
      why

-- why a read of special bytes is refused
pub special_refused : (f : Features) (bytes : List ℕ) (disk : GuestDisk) (o n : ℕ) (r : Result (Unit {0}) Error) → IsSpecialRead f bytes disk o n r → IfErr r (allowed (special_read_reasons (file_view f bytes disk) o n))
special_refused f bytes disk o n (Ok done) x = tt
special_refused f bytes disk o n (Err e) x = refused_there f bytes disk o n x.0 x.1 e x.2

-- bytes that go on where others end
has_append : (V : ℕ → Value) (o n : ℕ) (xs ys : List ℕ) → length xs ≡ n → HasValues V o xs → HasValues V (o + n) ys → HasValues V o (xs ++ ys)
has_append V o n xs ys e h j k lt =
    ⊎_elim
    (λ below. h k below ∙ ap Byte (sym (get_or-append xs ys 0 k below)))
    (λ above.
    let m : k - n < length ys = omega (arith, length-append xs ys) in
    let q : o + n + (k - n) ≡ o + k = omega arith in
    let le : n ≤ k = omega arith in
    rw q at (j (k - n) m) ∙ ap Byte (sym (get_or-append_right xs ys n k 0 e le)))
    (cases_lt k (length xs))

take_mid : (a k n : ℕ) (xs ys : List ℕ) → a ≤ length xs → n ≤ length ys → take (a + n) (put_mid a k xs ys) ≡ take a xs ++ take n ys
take_mid a k n xs ys h j =
    let e : length (take a xs) ≡ a = simp length-take (omega arith) in
    let f = take-append-add (take a xs) (ys ++ post_of a k xs) n in
    rw e at f ∙ ap (λ z. take a xs ++ z) (take-append-le n ys (post_of a k xs) j)

-- what a part reads goes on where the parts before it end
pub has_more : (V : ℕ → Value) (o a k n : ℕ) (xs ys : List ℕ) → a ≤ length xs → n ≤ length ys → HasValues V o (take a xs) → HasValues V (o + a) (take n ys) → HasValues V o (take (a + n) (put_mid a k xs ys))
has_more V o a k n xs ys h j f g =
    let e : length (take a xs) ≡ a = simp length-take (omega arith) in
    subst (HasValues V o) (sym (take_mid a k n xs ys h j)) (has_append V o a (take a xs) (take n ys) e f g)
