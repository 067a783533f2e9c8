-- What was loaded of a file that tells its bytes is what these say.
-- SPDX-License-Identifier: MIT
use Rattle.std.proofs.Common.{◌≡◌, true, ℕ, zero, suc, subst, ◌+◌, ◌*◌, ◌/◌, ◌%◌, ◌<◌, ◌≤◌, ◌⊎◌, ⊎_elim, inl, inr, List, length, Option, Some, None, Ok, Err, refl, sym, ap, ◌∙◌, arith}
use Rattle.std.specs.Prelude.{slice_index, slice_get, IfSome, IsTrue, IsOk}
use Rattle.std.specs.Int.{div_ceil}
use Rattle.std.specs.declared.sync.ArcSlice.{ArcSlice}
use Rattle.std.specs.Arc.{arc_slice_items}
use Rattle.std.specs.declared.alloc.Global.{Global}
use Rattle.std.proofs.Props.{props}
use Rattle.std.proofs.Math.Logic.{∥∥₁_elim}
use Rattle.std.proofs.Math.Nat.{div-div-eq-div-mul, mul-pos, mod-lt}
use Rattle.std.proofs.lemmas.Bool.{cases_lt}
use Rattle.std.proofs.lemmas.Nat.{div_below}
use Rattle.std.proofs.lemmas.Option.{slice_get_within, slice_get_cases}
use Rattle.imago_storage.specs.declared.error.Error.{Error}
use Rattle.imago_storage.specs.declared.error.Error.TheVariants as E
use Rattle.imago_storage.specs.Features.{Features}
use Rattle.imago_storage.specs.Padding.{Wraps}
use Rattle.imago_drivers.specs.Reasons.{allowed}
use Rattle.imago_qcow2.specs.declared.header.Header.{Header}
use Rattle.imago_qcow2.specs.declared.entry.L2Table.{L2Table}
use Rattle.imago_qcow2.specs.declared.table.HeldTable.{HeldTable}
use Rattle.imago_qcow2.specs.declared.table.HeldTable.TheVariants as H
use Rattle.imago_qcow2.specs.declared.table.Tables.{Tables}
use Rattle.imago_qcow2.specs.Numbers.{be32, be64}
use Rattle.imago_qcow2.specs.Header.{header_of, own_length, compression_of, IsSound}
use Rattle.imago_qcow2.specs.Entry.{version_of, disk_size, l1_start, cluster_length, per_table, table_in_entry, cluster_in_entry, l1_entry, table_of, cluster_by, cluster_of, place_by, disk_place, disk_of, qcow2_place}
use Rattle.imago_qcow2.specs.Tables.{AreTables, LoadedImage, loaded_of, entry_cluster, held_cluster, loaded_cluster, loaded_disk, loaded_place, header_cluster, header_tables, says_entry, IsHeadRead, IsAccepted, AreEntriesRead, IsHeld, IsLoadedImage}
use Rattle.imago_qcow2.specs.Opening.{table_count, TablesWrap, EntryWraps, start_reasons, header_reasons, tables_reasons, open_reasons, IsRefusedAsRead, IsRefusedOpening}
use Rattle.imago_qcow2.specs.Limit.{IsWithin, with_table, table_offsets, tables_length, file_offsets, file_tables, AreReadWithin, HasTablesWithin}
use Rattle.imago_qcow2.specs.Qcow2Laws.{packed_of, in_disk, past_disk, place_in, place_out}
use Rattle.imago_qcow2.proofs.NumberSteps.{read64}
use Rattle.imago_qcow2.proofs.HeaderSteps.{header_same, sound_same, head_same}

module _ (f : Features) (bytes : List ℕ) (told : IsTrue f.tells_bytes) where
  same_head : (head : List ℕ) → IsHeadRead f bytes head → (i : ℕ) → i < 112 → slice_index head i ≡ slice_index bytes i
  same_head head x = head_same bytes head (x.read told) (omega (arith, x.len))

  told_fault : (head : List ℕ) (e : Error) → IsHeadRead f bytes head → header_of head (length bytes) ≡ Err e → header_of bytes (length bytes) ≡ Err e
  told_fault head e x is = sym (header_same bytes head (same_head head x) (length bytes)) ∙ is

  start_refused : (e : Error) → allowed (start_reasons f bytes) e → allowed (open_reasons f bytes) e
  start_refused E.WrapAround r = (refl, inl (r.1))
  start_refused E.Device r = r
  start_refused E.Memory r = inr r
  start_refused E.InvalidData r = let z : ⊥ = cc (r.0) in absurd z
  start_refused E.Unsupported r = let z : ⊥ = cc (r.0) in absurd z
  start_refused E.NoAccess r = let z : ⊥ = cc (r.0) in absurd z
  start_refused E.ReadOnly r = absurd r
  start_refused E.BeyondDisk r = absurd r
  start_refused E.RangeOverflow r = absurd r
  start_refused E.ForeignMapping r = absurd r
  start_refused E.Denied r = absurd r
  start_refused E.NotFound r = absurd r

  wraps_same : (a b n m : ℕ) → a ≡ b → n ≡ m → Wraps f a n → Wraps f b m
  wraps_same a b n m e g w = rw (← e, ← g) w

  held_same : (a b : ℕ) (says other : L2Table) (l2 : List (ArcSlice ℕ Global)) (t : HeldTable) → a ≡ b → says ≡ other → IsHeld f bytes a l2 says t → IsHeld f bytes b l2 other t
  held_same a b says other l2 t e g x = rw (← e, ← g) x

  module _ (h : Header) (x : IsAccepted f bytes h) where
    pub told_header : header_of bytes (length bytes) ≡ Ok h
    told_header = sym (header_same bytes x.head (same_head x.head x.is_head) (length bytes)) ∙ x.says

    pub told_sound : IsSound bytes (length bytes) h
    told_sound = sound_same bytes x.head (same_head x.head x.is_head) (length bytes) h x.sound

    pub told_cluster : header_cluster h ≡ cluster_length bytes
    told_cluster = told_sound.cluster

    told_count : header_tables h ≡ table_count bytes
    told_count = ap (λ s. div_ceil s (header_cluster h / 8 * header_cluster h)) told_sound.size ∙ ap (λ c. div_ceil (disk_size bytes) (c / 8 * c)) told_cluster

    -- L1 entry i, of the entries that were read
    told_says : (entries : List ℕ) → AreEntriesRead f bytes h.l1_start (header_tables h) entries → (i : ℕ) → 8 * i + 8 ≤ length entries → says_entry bytes (header_cluster h) entries i ≡ table_of bytes i
    told_says entries y i inside =
        let number : be64 entries (8 * i) ≡ l1_entry bytes i = read64 bytes entries h.l1_start (y.read told) (8 * i) inside ∙ ap (λ s. be64 bytes (s + 8 * i)) told_sound.start in
        ap (table_in_entry (length bytes) (header_cluster h)) number ∙ ap (λ c. table_in_entry (length bytes) c (l1_entry bytes i)) told_cluster

    -- the L2 tables that the first entries name
    told_offsets : (entries : List ℕ) → AreEntriesRead f bytes h.l1_start (header_tables h) entries → (n : ℕ) → 8 * n ≤ length entries
        → table_offsets bytes (header_cluster h) entries n ≡ file_offsets bytes n
    unfolding table_offsets file_offsets
    told_offsets entries y zero inside = refl
    told_offsets entries y (suc n) inside =
        ap (λ (says : L2Table). with_table says (table_offsets bytes (header_cluster h) entries n)) (told_says entries y n (omega (arith, inside)))
        ∙ ap (with_table (table_of bytes n)) (told_offsets entries y n (omega (arith, inside)))

    -- how many bytes all tables have
    told_length : (entries : List ℕ) → AreEntriesRead f bytes h.l1_start (header_tables h) entries → tables_length bytes (header_cluster h) entries (header_tables h) ≡ file_tables bytes
    unfolding file_tables
    told_length entries y =
        let all : 8 * header_tables h ≤ length entries = omega (arith, y.len) in
        let named : table_offsets bytes (header_cluster h) entries (header_tables h) ≡ file_offsets bytes (table_count bytes) =
        told_offsets entries y (header_tables h) all ∙ ap (file_offsets bytes) told_count in
        ap (λ (os : List ℕ). 8 * header_tables h + header_cluster h * length os) named
        ∙ ap (λ (n : ℕ). 8 * n + header_cluster h * length (file_offsets bytes (table_count bytes))) told_count
        ∙ ap (λ (c : ℕ). 8 * table_count bytes + c * length (file_offsets bytes (table_count bytes))) told_cluster

    -- the tables of the file are within the limit, by other names of what the header says
    pub told_within : (count cluster : ℕ) (most : Option ℕ) → count ≡ header_tables h → cluster ≡ header_cluster h → AreReadWithin f bytes h.l1_start count cluster most → HasTablesWithin most bytes
    told_within count cluster most a b w =
        let (entries, y, within) = subst (λ (c : ℕ). AreReadWithin f bytes h.l1_start (header_tables h) c most) b
        (subst (λ (n : ℕ). AreReadWithin f bytes h.l1_start n cluster most) a w) in
        subst (IsWithin most) (told_length entries y) within

    told_entry_wraps : (entries : List ℕ) → AreEntriesRead f bytes h.l1_start (header_tables h) entries → EntryWraps f bytes (header_cluster h) entries → TablesWrap f bytes
    told_entry_wraps entries y (i, at, inside, says, wraps) =
        let below : i < table_count bytes = omega (arith, inside, y.len, told_count) in
        inr (i, at, below, sym (told_says entries y i inside) ∙ says, wraps_same at at (header_cluster h) (cluster_length bytes) refl told_cluster wraps)

    told_wraps : (Wraps f h.l1_start (8 * header_tables h) ⊎ ((entries : List ℕ) × AreEntriesRead f bytes h.l1_start (header_tables h) entries × EntryWraps f bytes (header_cluster h) entries)) → TablesWrap f bytes
    told_wraps w = ⊎_elim
        (λ l. inl (wraps_same h.l1_start (l1_start bytes) (8 * header_tables h) (8 * table_count bytes) told_sound.start (ap (λ n. 8 * n) told_count) l))
        (λ r. told_entry_wraps (r.0) (r.1) (r.2))
        w

    accepted : IsOk (header_of bytes (length bytes))
    accepted = rw told_header refl

    tables_refused : (e : Error) → allowed (tables_reasons f bytes h.l1_start (header_tables h) (header_cluster h)) e → allowed (open_reasons f bytes) e
    tables_refused E.WrapAround r = (refl, inr (accepted, told_wraps (r.1)))
    tables_refused E.Device r = r
    tables_refused E.Memory r = inl accepted
    tables_refused E.InvalidData r = let z : ⊥ = cc (r.0) in absurd z
    tables_refused E.Unsupported r = let z : ⊥ = cc (r.0) in absurd z
    tables_refused E.NoAccess r = let z : ⊥ = cc (r.0) in absurd z
    tables_refused E.ReadOnly r = absurd r
    tables_refused E.BeyondDisk r = absurd r
    tables_refused E.RangeOverflow r = absurd r
    tables_refused E.ForeignMapping r = absurd r
    tables_refused E.Denied r = absurd r
    tables_refused E.NotFound r = absurd r

  -- why an image isn't opened
  pub told_refusal : (e : Error) → IsRefusedAsRead f bytes e → (header_of bytes (length bytes) ≡ Err e) ⊎ allowed (open_reasons f bytes) e
  told_refusal e r = ⊎_elim
      (λ start. inr (start_refused e start))
      (λ read. ⊎_elim
      (λ fault. inl (told_fault (fault.0) e (fault.1) (fault.2)))
      (λ late. inr (tables_refused (late.0) (late.1) e (late.2)))
      read)
      r

  module _ (h : Header) (tables : Tables) where
    -- what was loaded, by the bytes of the file
    abbrev by_bytes : LoadedImage
    by_bytes = record { version = version_of bytes; compression = compression_of bytes; cluster = cluster_length bytes; size = disk_size bytes; l1 = tables.l1.items; l2 = tables.l2.items }

    module _ (x : IsLoadedImage f bytes h tables) where
      told_held : (i : ℕ) (t : HeldTable) → slice_get tables.l1.items i ≡ Some t → IsHeld f bytes (cluster_length bytes) tables.l2.items (table_of bytes i) t
      told_held i t there =
          let y = x.1 in
          let within : i < length tables.l1.items = slice_get_within tables.l1.items i t there in
          let inside : 8 * i + 8 ≤ length y.entries = omega (arith, within, y.all, y.are_read.len) in
          let held : IfSome (slice_get tables.l1.items i) (IsHeld f bytes (header_cluster h) tables.l2.items (says_entry bytes (header_cluster h) y.entries i)) = y.held i in
          let here : IsHeld f bytes (header_cluster h) tables.l2.items (says_entry bytes (header_cluster h) y.entries i) t = rw there at held in
          held_same (header_cluster h) (cluster_length bytes) (says_entry bytes (header_cluster h) y.entries i) (table_of bytes i) tables.l2.items t (told_cluster h (x.0)) (told_says h (x.0) y.entries y.are_read i inside) here

      by_slot : 8 ≤ cluster_length bytes → (i k : ℕ) (o : Option HeldTable) → slice_get tables.l1.items i ≡ o → (o ≡ None → ⊥) → held_cluster by_bytes k o ≡ cluster_by bytes k (table_of bytes i)
      by_slot eight i k None e some = absurd (some refl)
      by_slot eight i k (Some H.Absent) e some = let says : table_of bytes i ≡ L2Table.Absent = told_held i H.Absent e in ap (cluster_by bytes k) (sym says)
      by_slot eight i k (Some H.Invalid) e some = let says : table_of bytes i ≡ L2Table.Invalid = told_held i H.Invalid e in ap (cluster_by bytes k) (sym says)
      by_slot eight i k (Some (H.Loaded number)) e some =
          let y = told_held i (H.Loaded number) e in
          let index : k % per_table bytes < per_table bytes = mod-lt k (let z : 0 < per_table bytes = omega (arith, eight) in z) in
          let fits : 8 * (k % per_table bytes) + 8 ≤ length (arc_slice_items y.2.table) = omega (arith, index, y.2.whole) in
          let entry : be64 (arc_slice_items y.2.table) (8 * (k % per_table bytes)) ≡ be64 bytes (y.0 + 8 * (k % per_table bytes)) = read64 bytes (arc_slice_items y.2.table) y.0 (y.2.read told) (8 * (k % per_table bytes)) fits in
          ap (entry_cluster by_bytes k) y.2.there ∙ ap (cluster_in_entry (version_of bytes) (cluster_length bytes)) entry ∙ ap (cluster_by bytes k) (sym (y.1))

      some_within : (i : ℕ) → i < length tables.l1.items → slice_get tables.l1.items i ≡ None → ⊥
      some_within i within none = ⊎_elim
          (λ some. let there = some.2 in let z : ⊥ = cc in z)
          (λ past. let over = past.0 in let z : ⊥ = omega (arith, within, over) in z)
          ((slice_get_cases tables.l1.items i).1)

      told_of : 8 ≤ cluster_length bytes → (k : ℕ) → k / per_table bytes < length tables.l1.items → loaded_cluster by_bytes k ≡ cluster_of bytes k
      unfolding loaded_cluster cluster_of
      told_of eight k within = by_slot eight (k / per_table bytes) k (slice_get tables.l1.items (k / per_table bytes)) refl (some_within (k / per_table bytes) within)

    module _ (cluster : ℕ) (is_cluster : cluster ≡ header_cluster h) (known : ∥ IsLoadedImage f bytes h tables ∥₁) where
      same_number : (a b : ℕ) → (IsLoadedImage f bytes h tables → a ≡ b) → a ≡ b
      same_number a b g = let p : IsProp (a ≡ b) = Prim.hlevel props in ∥∥₁_elim known p g

      version_told : h.version ≡ version_of bytes
      version_told = same_number h.version (version_of bytes) (λ x. (told_sound h (x.0)).version)

      pub header_cluster_told : header_cluster h ≡ cluster_length bytes
      header_cluster_told = same_number (header_cluster h) (cluster_length bytes) (λ x. told_cluster h (x.0))

      pub cluster_told : cluster ≡ cluster_length bytes
      cluster_told = is_cluster ∙ header_cluster_told

      pub header_told : header_of bytes (length bytes) ≡ Ok h
      header_told = let p : IsProp (header_of bytes (length bytes) ≡ Ok h) = Prim.hlevel props in ∥∥₁_elim known p (λ x. told_header h (x.0))

      pub size_told : h.size ≡ disk_size bytes
      size_told = same_number h.size (disk_size bytes) (λ x. (told_sound h (x.0)).size)

      pub own_told : h.own_length ≡ own_length bytes
      own_told = same_number h.own_length (own_length bytes) (λ x. (told_sound h (x.0)).own)

      pub name_start_told : h.name_start ≡ be64 bytes 8
      name_start_told = same_number h.name_start (be64 bytes 8) (λ x. (told_sound h (x.0)).name_start)

      pub name_length_told : h.name_length ≡ be32 bytes 16
      name_length_told = same_number h.name_length (be32 bytes 16) (λ x. (told_sound h (x.0)).name_length)

      compression_told : h.compression ≡ compression_of bytes
      compression_told = let p : IsProp (h.compression ≡ compression_of bytes) = Prim.hlevel props in ∥∥₁_elim known p (λ x. (told_sound h (x.0)).compression)

      image_told : loaded_of h cluster tables ≡ by_bytes
      image_told =
          ap (λ v. record { version = v; compression = h.compression; cluster = cluster; size = h.size; l1 = tables.l1.items; l2 = tables.l2.items }) version_told
          ∙ ap (λ k. record { version = version_of bytes; compression = k; cluster = cluster; size = h.size; l1 = tables.l1.items; l2 = tables.l2.items }) compression_told
          ∙ ap (λ c. record { version = version_of bytes; compression = compression_of bytes; cluster = c; size = h.size; l1 = tables.l1.items; l2 = tables.l2.items }) cluster_told
          ∙ ap (λ s. record { version = version_of bytes; compression = compression_of bytes; cluster = cluster_length bytes; size = s; l1 = tables.l1.items; l2 = tables.l2.items }) size_told

      -- the storage tells its bytes, and so the streams of compressed clusters
      tells : f.tells_bytes ≡ true
      tells = told

      clusters_told : 8 ≤ cluster_length bytes → (k : ℕ) → k / per_table bytes < length tables.l1.items → loaded_cluster by_bytes k ≡ cluster_of bytes k
      clusters_told eight k within = let p : IsProp (loaded_cluster by_bytes k ≡ cluster_of bytes k) = Prim.hlevel props in ∥∥₁_elim known p (λ x. told_of x eight k within)

      cluster_in_told : 8 ≤ cluster_length bytes → disk_size bytes ≤ length tables.l1.items * (per_table bytes * cluster_length bytes) → (p : ℕ) → p < disk_size bytes → loaded_cluster by_bytes (p / cluster_length bytes) ≡ cluster_of bytes (p / cluster_length bytes)
      cluster_in_told eight covers p h =
          let c = cluster_length bytes in
          let span : 0 < per_table bytes * c = mul-pos (let x : 0 < per_table bytes = omega (arith, eight) in x) (omega (arith, eight)) in
          let below : p / (per_table bytes * c) < length tables.l1.items = div_below p (per_table bytes * c) (length tables.l1.items) span (omega (arith, h, covers)) in
          let e : p / c / per_table bytes ≡ p / (c * per_table bytes) = div-div-eq-div-mul p c (per_table bytes) in
          let f : c * per_table bytes ≡ per_table bytes * c = omega arith in
          let inside : p / c / per_table bytes < length tables.l1.items = rw (e, f) below in
          clusters_told eight (p / c) inside

      place_in_told : 8 ≤ cluster_length bytes → disk_size bytes ≤ length tables.l1.items * (per_table bytes * cluster_length bytes) → (p : ℕ) → p < disk_size bytes → disk_place true bytes (loaded_disk by_bytes) p ≡ qcow2_place bytes p
      place_in_told eight covers p h =
          let c = cluster_length bytes in
          in_disk true bytes (loaded_disk by_bytes) p h
          ∙ ap (place_by (packed_of true bytes (disk_of bytes)) bytes (p % c) p) (cluster_in_told eight covers p h)
          ∙ sym (place_in bytes p h)

      -- what each guest cluster is, is what the bytes of the file give
      pub guest_cluster_told : 512 ≤ cluster → h.size ≤ length tables.l1.items * (cluster / 8 * cluster) → (p : ℕ) → p < disk_size bytes → loaded_cluster (loaded_of h cluster tables) (p / cluster) ≡ cluster_of bytes (p / cluster_length bytes)
      guest_cluster_told least covers p below =
          let eight : 8 ≤ cluster_length bytes = omega (arith, least, cluster_told) in
          let here : disk_size bytes ≤ length tables.l1.items * (cluster / 8 * cluster) = omega (arith, covers, size_told) in
          let covers_bytes : disk_size bytes ≤ length tables.l1.items * (per_table bytes * cluster_length bytes) = rw cluster_told at here in
          ap (λ l. loaded_cluster l (p / l.cluster)) image_told ∙ cluster_in_told eight covers_bytes p below

      -- the places of the disk are those that the bytes of the file give
      pub places_told : 512 ≤ cluster → h.size ≤ length tables.l1.items * (cluster / 8 * cluster) → (p : ℕ) → loaded_place f (loaded_of h cluster tables) bytes p ≡ qcow2_place bytes p
      places_told least covers p =
          let eight : 8 ≤ cluster_length bytes = omega (arith, least, cluster_told) in
          let here : disk_size bytes ≤ length tables.l1.items * (cluster / 8 * cluster) = omega (arith, covers, size_told) in
          let covers_bytes : disk_size bytes ≤ length tables.l1.items * (per_table bytes * cluster_length bytes) = rw cluster_told at here in
          ap (λ l. loaded_place f l bytes p) image_told ∙ ap (λ t. disk_place t bytes (loaded_disk by_bytes) p) tells ∙ ⊎_elim
          (λ under. place_in_told eight covers_bytes p under)
          (λ over. past_disk true bytes (loaded_disk by_bytes) p over ∙ sym (place_out bytes p over))
          (cases_lt p (disk_size bytes))

-- why the header can't be read is why nothing is known of it
pub start_of : (f : Features) (bytes : List ℕ) (e : Error) → allowed (header_reasons f bytes) e → allowed (start_reasons f bytes) e
start_of f bytes E.WrapAround r = r
start_of f bytes E.Device r = r
start_of f bytes E.Memory r = inl r
start_of f bytes E.InvalidData r = r
start_of f bytes E.Unsupported r = r
start_of f bytes E.NoAccess r = r
start_of f bytes E.ReadOnly r = r
start_of f bytes E.BeyondDisk r = r
start_of f bytes E.RangeOverflow r = r
start_of f bytes E.ForeignMapping r = r
start_of f bytes E.Denied r = r
start_of f bytes E.NotFound r = r

refused_so : (f : Features) (bytes : List ℕ) (e : Error) → IsRefusedAsRead f bytes e → IsRefusedOpening f bytes e
refused_so f bytes e r = (r, λ told. told_refusal f bytes told e r)

pub header_refused : (f : Features) (bytes : List ℕ) (e : Error) → ((head : List ℕ) × IsHeadRead f bytes head × (header_of head (length bytes) ≡ Err e)) ⊎ allowed (header_reasons f bytes) e → IsRefusedOpening f bytes e
header_refused f bytes e r = refused_so f bytes e (⊎_elim (λ fault. inr (inl fault)) (λ start. inl (start_of f bytes e start)) r)

reasons_moved : (f : Features) (bytes : List ℕ) (start at count n cluster c : ℕ) (e : Error) → start ≡ at → count ≡ n → cluster ≡ c → allowed (tables_reasons f bytes start count cluster) e → allowed (tables_reasons f bytes at n c) e
reasons_moved f bytes start at count n cluster c e p q r x = rw (← p, ← q, ← r) x

pub tables_late : (f : Features) (bytes : List ℕ) (h : Header) (start count cluster : ℕ) (e : Error) → IsAccepted f bytes h → start ≡ h.l1_start → count ≡ header_tables h → cluster ≡ header_cluster h
    → allowed (tables_reasons f bytes start count cluster) e → IsRefusedOpening f bytes e
tables_late f bytes h start count cluster e x a b c r =
    let here : allowed (tables_reasons f bytes h.l1_start (header_tables h) (header_cluster h)) e = reasons_moved f bytes start h.l1_start count (header_tables h) cluster (header_cluster h) e a b c r in
    refused_so f bytes e (inr (inr (h, x, here)))

-- the header and tables that were read are those of the file, by other names of what the header says
pub loaded_image : (f : Features) (bytes : List ℕ) (h : Header) (tables : Tables) (count cluster : ℕ) → IsAccepted f bytes h → count ≡ header_tables h → cluster ≡ header_cluster h
    → AreTables f bytes h.l1_start count cluster tables.l1.items tables.l2.items → ∥ IsLoadedImage f bytes h tables ∥₁
loaded_image f bytes h tables count cluster x a b t =
    let moved : AreTables f bytes h.l1_start (header_tables h) (header_cluster h) tables.l1.items tables.l2.items = rw (← a, ← b) t in
    ∣ (x, moved) ∣₁
