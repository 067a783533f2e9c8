-- Why files of which only a part is in memory aren't opened.
-- SPDX-License-Identifier: MIT
use Rattle.std.proofs.Common.{◌≡◌, ℕ, zero, suc, ◌+◌, ◌-◌, ◌*◌, ◌/◌, ◌%◌, ◌^◌, ◌<◌, ◌≤◌, inl, inr, ◌⊎◌, ⊎_elim, List, [], ◌∷◌, length, map, min, Option, Some, None, Result, Ok, Err, Bool, true, false, true≢false, refl, sym, ap, ◌∙◌, arith}
use Rattle.std.specs.Prelude.{nat_lt, nat_eq, not, ◌||◌, ◌&&◌, if◌then◌else◌}
use Rattle.std.specs.Int.{next_multiple_of}
use Rattle.std.proofs.lemmas.Bool.{cases_lt, lt-ltb, le-ltb}
use Rattle.std.proofs.Math.Nat.{mod-lt, mul-pos}
use Rattle.imago_storage.specs.declared.error.Error.{Error}
use Rattle.imago_storage.specs.declared.error.Error.TheVariants as E
use Rattle.imago_storage.specs.Padding.{Wraps}
use Rattle.imago_storage.proofs.Padding.{next_below}
use Rattle.imago_drivers.specs.Reasons.{none, allowed}
use Rattle.imago_session.specs.declared.permitted.Permitted.{Permitted}
use Rattle.imago_vmdk.specs.declared.line.Accepted.{Accepted}
use Rattle.imago_vmdk.specs.declared.line.Extent.{Extent}
use Rattle.imago_vmdk.specs.Line.{extent_with}
use Rattle.imago_vmdk.specs.Reading.{reading_of}
use Rattle.imago_qcow2.specs.declared.header.Header.{Header}
use Rattle.imago_qcow2.specs.Numbers.{be32, be64}
use Rattle.imago_qcow2.specs.Entry.{cluster_length}
use Rattle.imago_qcow2.specs.Header.{header_of, own_length}
use Rattle.imago_qcow2.specs.Backing.{format_by, format_from, format_of, extensions_end, backing_format, IsFormatRefusal}
use Rattle.imago_qcow2.specs.Disk.{HaveSameTables, AreSameBytes}
use Rattle.imago_qcow2.specs.Opening.{start_reasons, tables_reasons, IsRefusedOpening, EntryWraps}
use Rattle.imago_qcow2.specs.Tables.{IsHeadRead, IsAccepted, AreEntriesRead, header_tables, header_cluster}
use Rattle.imago_qcow2.proofs.NumberSteps.{range32, range64}
use Rattle.imago_qcow2.proofs.HeaderSteps.{header_same, head_same}
use Rattle.imago_qcow2.proofs.HeldSteps.{enough}
use Rattle.imago_session.specs.Features.{loaded_features}
use Rattle.imago_drivers.specs.declared.format.Format.{Format}
use Rattle.imago_any_driver.specs.declared.any.AnyDriver.TheVariants as Of
use Rattle.imago_qcow2.specs.Qcow2Image.{storage_in}
use Rattle.imago_session.specs.Loaded.{loaded_bytes}
use Rattle.imago_session.specs.Files.{File, Layer, IsFormatOf, IsLayerOf}
use Rattle.imago_session.specs.Refusals.{has_far, HasFaultyFormat, IsFaultOrMemory, IsForeignOrMemory, IsCause, IsLayerRefusal}
use Rattle.imago_session.proofs.ReadSteps.{table_inside}

-- a request for bytes of a file in memory that ends in 64 bits isn't refused for its end
pub no_wrap : (at n : ℕ) → at + n < 2 ^ 64 → Wraps loaded_features at n → ⊥
no_wrap at n fits wraps =
    let rest : at % 1 < 1 = mod-lt at (omega arith) in
    let below : next_multiple_of (at % 1 + n) 1 < at % 1 + n + 1 = next_below (at % 1 + n) 1 (omega arith) in
    let past : 2 ^ 64 ≤ at - at % 1 + next_multiple_of (at % 1 + n) 1 = wraps.1 in
    omega (arith, rest, below, past, fits)

-- reasons of which memory alone can be one
pub memory_alone : (cause : Error → Type 0) (memory : Type 0) → ((e : Error) → cause e → ⊥) → (e : Error)
    → allowed (record none { cause = cause; device = true ≡ false; memory = memory }) e → e ≡ Error.Memory
memory_alone cause memory never E.ReadOnly h = absurd h
memory_alone cause memory never E.BeyondDisk h = absurd h
memory_alone cause memory never E.RangeOverflow h = absurd h
memory_alone cause memory never E.WrapAround h = absurd (never Error.WrapAround h)
memory_alone cause memory never E.InvalidData h = absurd (never Error.InvalidData h)
memory_alone cause memory never E.Unsupported h = absurd (never Error.Unsupported h)
memory_alone cause memory never E.NoAccess h = absurd (never Error.NoAccess h)
memory_alone cause memory never E.Device h = absurd (true≢false h)
memory_alone cause memory never E.Memory h = refl
memory_alone cause memory never E.ForeignMapping h = absurd h
memory_alone cause memory never E.Denied h = absurd h
memory_alone cause memory never E.NotFound h = absurd h

-- an image isn't opened for its header's fault, or for memory
abbrev TablesWrap : List ℕ → Header → Type 0
TablesWrap own h =
    Wraps loaded_features h.l1_start (8 * header_tables h)
    ⊎ ((entries : List ℕ) × AreEntriesRead loaded_features own h.l1_start (header_tables h) entries × EntryWraps loaded_features own (header_cluster h) entries)

tables_refused : (own : List ℕ) → length own < 2 ^ 64 → (h : Header) → IsAccepted loaded_features own h → (e : Error)
    → allowed (tables_reasons loaded_features own h.l1_start (header_tables h) (header_cluster h)) e → e ≡ Error.Memory
tables_refused own fits h accepted =
    let s = accepted.sound in
    let some : 0 < h.cluster_size / 8 * h.cluster_size = mul-pos (let q : 0 < h.cluster_size / 8 = omega (arith, s.least) in q) (omega (arith, s.least)) in
    let few : header_tables h ≤ h.l1_count = enough h.size h.l1_count (h.cluster_size / 8 * h.cluster_size) some s.covers in
    let inside : h.l1_start + 8 * header_tables h < 2 ^ 64 = omega (arith, few, s.inside, fits) in
    memory_alone (λ (e : Error). (e ≡ Error.WrapAround) × TablesWrap own h) (Unit {0})
    (λ e (w : (e ≡ Error.WrapAround) × TablesWrap own h). ⊎_elim
    (λ (l1 : Wraps loaded_features h.l1_start (8 * header_tables h)). no_wrap h.l1_start (8 * header_tables h) inside l1)
    (λ (l2 : (entries : List ℕ) × AreEntriesRead loaded_features own h.l1_start (header_tables h) entries × EntryWraps loaded_features own (header_cluster h) entries).
    let t : EntryWraps loaded_features own (header_cluster h) l2.0 = l2.2 in
    let near = table_inside (length own) (header_cluster h) (be64 l2.0 (8 * t.0)) t.1 t.3 in
    no_wrap t.1 (header_cluster h) (omega (arith, near, fits)) t.4)
    w.1)

pub qcow2_refused : (own : List ℕ) → length own < 2 ^ 64 → (e : Error) → IsRefusedOpening loaded_features own e → (e ≡ Error.Memory) ⊎ (header_of own (length own) ≡ Err e)
qcow2_refused own fits e r = ⊎_elim
    (λ (start : allowed (start_reasons loaded_features own) e).
    inl (memory_alone (λ (x : Error). (x ≡ Error.WrapAround) × Wraps loaded_features 0 112) (start_reasons loaded_features own).memory
    (λ x (w : (x ≡ Error.WrapAround) × Wraps loaded_features 0 112). no_wrap 0 112 (omega arith) w.1) e start))
    (λ more. ⊎_elim
    (λ (read : (head : List ℕ) × IsHeadRead loaded_features own head × (header_of head (length own) ≡ Err e)).
    inr (sym (header_same own read.0 (head_same own read.0 (read.1.read refl) (omega (arith, read.1.len))) (length own)) ∙ read.2))
    (λ (tables : (h : Header) × IsAccepted loaded_features own h × allowed (tables_reasons loaded_features own h.l1_start (header_tables h) (header_cluster h)) e).
    inl (tables_refused own fits tables.0 tables.1 e tables.2))
    more)
    r.0

-- header extensions in the first cluster are the same in a file that has the same one
abbrev extension : (Option (ℕ × ℕ) → ℕ → Result (Option (ℕ × ℕ)) Error) → Option (ℕ × ℕ) → ℕ → ℕ → ℕ → ℕ → Result (Option (ℕ × ℕ)) Error
extension next found at end kind count =
    if nat_lt (end - at) (8 + count) then Err Error.InvalidData else
    (if nat_eq kind 0 then Ok found else
    next (if nat_eq kind backing_format then Some (at + 8, count) else found) (at + (8 + next_multiple_of count 8)))

cut_off : (next : Option (ℕ × ℕ) → ℕ → Result (Option (ℕ × ℕ)) Error) (found : Option (ℕ × ℕ)) (at end kind count : ℕ) → end - at < 8 → extension next found at end kind count ≡ Err Error.InvalidData
cut_off next found at end kind count less = let t : nat_lt (end - at) (8 + count) ≡ true = lt-ltb (end - at) (8 + count) (omega (arith, less)) in rw t refl

module _ (bytes own : List ℕ) (cluster : ℕ) (same : AreSameBytes bytes own 0 cluster) where
  front32 : (i : ℕ) → i + 4 ≤ cluster → be32 bytes i ≡ be32 own i
  front32 i inside = let e : 0 + i ≡ i = omega arith in let x = range32 bytes own 0 cluster same i inside in rw e at x

  same_by : (steps : ℕ) (found : Option (ℕ × ℕ)) (at end : ℕ) → end ≤ cluster → format_by steps bytes found at end ≡ format_by steps own found at end
  same_by zero found at end le = refl
  same_by (suc n) found at end le =
      ap (λ (r : Result (Option (ℕ × ℕ)) Error). if nat_lt at end then r else Ok found)
      (⊎_elim
      (λ (less : end - at < 8).
      cut_off (λ (f : Option (ℕ × ℕ)) (a : ℕ). format_by n bytes f a end) found at end (be32 bytes at) (be32 bytes (at + 4)) less
      ∙ sym (cut_off (λ (f : Option (ℕ × ℕ)) (a : ℕ). format_by n own f a end) found at end (be32 own at) (be32 own (at + 4)) less))
      (λ (wide : 8 ≤ end - at).
      let kind = front32 at (omega (arith, wide, le)) in
      let count = front32 (at + 4) (omega (arith, wide, le)) in
      λ i. extension (λ (f : Option (ℕ × ℕ)) (a : ℕ). same_by n f a end le i) found at end (kind i) (count i))
      (cases_lt (end - at) 8))

end_inside : (none : Bool) (cluster name : ℕ) → (if none then cluster else min cluster name) ≤ cluster
end_inside true cluster name = omega arith
end_inside false cluster name = omega arith

pub format_same : (bytes own : List ℕ) → HaveSameTables bytes own → AreSameBytes bytes own 0 (cluster_length bytes) → format_of bytes ≡ format_of own
unfolding format_of format_from own_length
format_same bytes own same front =
    let version : be32 bytes 4 ≡ be32 own 4 = range32 bytes own 0 112 same.header 4 (omega arith) in
    let long : be32 bytes 100 ≡ be32 own 100 = range32 bytes own 0 112 same.header 100 (omega arith) in
    let name : be64 bytes 8 ≡ be64 own 8 = range64 bytes own 0 112 same.header 8 (omega arith) in
    let cluster : cluster_length bytes ≡ cluster_length own = ap (λ (n : ℕ). 2 ^ n) (range32 bytes own 0 112 same.header 20 (omega arith)) in
    let begin : own_length bytes ≡ own_length own = rw (version, long) refl in
    let end : extensions_end bytes ≡ extensions_end own = λ i. if nat_eq (name i) 0 then cluster i else min (cluster i) (name i) in
    same_by bytes own (cluster_length bytes) front (extensions_end bytes - own_length bytes) None (own_length bytes) (extensions_end bytes)
    (end_inside (nat_eq (be64 bytes 8) 0) (cluster_length bytes) (be64 bytes 8))
    ∙ (λ i. format_by (end i - begin i) own None (begin i) (end i))

no_both : (a b : Bool) → b ≡ false → (a && b) ≡ false
no_both true b h = h
no_both false b h = refl

-- a descriptor that is too long has no reading
pub long_descriptor : (accepted : Accepted) (bytes : List ℕ) → 2097152 < length bytes → reading_of accepted bytes ≡ Err Error.InvalidData
unfolding reading_of
long_descriptor permitted bytes long =
    let t : nat_lt (length bytes) (2 ^ 21 + 1) ≡ false = le-ltb (length bytes) (2 ^ 21 + 1) (omega (arith, long)) in
    let z : (nat_lt 3 (length bytes) && nat_lt (length bytes) (2 ^ 21 + 1)) ≡ false = no_both (nat_lt 3 (length bytes)) (nat_lt (length bytes) (2 ^ 21 + 1)) t in
    rw z refl

-- names don't matter to where extents begin
pub far_same : {N M : Type 0} (f : N → M) (xs : List (Extent N)) → has_far (map (extent_with f) xs) ≡ has_far xs
far_same f [] = refl
far_same f (Extent.Zero sectors ∷ xs) = far_same f xs
far_same f (Extent.NoAccess sectors ∷ xs) = far_same f xs
far_same f (Extent.Flat sectors name offset writable vmfs ∷ xs) = ap (λ (b : Bool). not (nat_lt (offset * 512) (2 ^ 64)) || b) (far_same f xs)

abbrev ExtensionWraps : ℕ → Type 0
ExtensionWraps end = (at : ℕ) × (n : ℕ) × (at + n ≤ end + 8) × Wraps loaded_features at n

-- the name of a format isn't told for memory, or since it passes where header extensions end
pub format_refused : (cluster : ℕ) (says : Result (Option (ℕ × ℕ)) Error) (e : Error) → cluster ≤ 2 ^ 21 → IsFormatRefusal loaded_features cluster says e → (e ≡ Error.Memory) ⊎ (says ≡ Err e)
format_refused cluster says e small (inl x) = inr (x.1 refl)
format_refused cluster says e small (inr r) = inl (memory_alone (λ (x : Error). (x ≡ Error.WrapAround) × ExtensionWraps cluster) (Unit {0})
    (λ x (w : (x ≡ Error.WrapAround) × ExtensionWraps cluster). let t : ExtensionWraps cluster = w.1 in no_wrap t.0 t.1 (omega (arith, small, t.2)) t.3) e r)

-- a fault in a file's own format is a cause
pub cause_of : (permitted : Permitted) (f : File) (format : Format) (e : Error) → IsFormatOf f format → IsFaultOrMemory permitted f.bytes format e → IsCause permitted f e
cause_of permitted f format e is (inl memory) = inl memory
cause_of permitted f format e is (inr fault) = inr (inl (format, is, fault))

-- and so is that it is recognised as what isn't opened
pub foreign_cause : (permitted : Permitted) (f : File) (said : Option Format) (e : Error) → f.format ≡ said → IsForeignOrMemory said f.bytes e → IsCause permitted f e
foreign_cause permitted f said e says (inl memory) = inl memory
foreign_cause permitted f said e says (inr foreign) = inr (inr (says ∙ foreign.0, foreign.1, foreign.2))

-- and so is what a layer's file is refused for that names one below
abbrev pub IsBelowRefused : Layer → List ℕ → Error → Type 0
IsBelowRefused (Of.Raw r) bytes e = ⊥
IsBelowRefused (Of.Vmdk v) bytes e = ⊥
IsBelowRefused (Of.Cow c) bytes e = ⊥
IsBelowRefused (Of.Qcow2 q) bytes e =
    HaveSameTables bytes (loaded_bytes (storage_in q))
    → AreSameBytes bytes (loaded_bytes (storage_in q)) 0 (cluster_length bytes) → (e ≡ Error.Memory) ⊎ HasFaultyFormat bytes e

qcow2_cause : (permitted : Permitted) (f : File) (e : Error) → IsFormatOf f Format.Qcow2 → (e ≡ Error.Memory) ⊎ HasFaultyFormat f.bytes e → IsCause permitted f e
qcow2_cause permitted f e is (inl memory) = inl memory
qcow2_cause permitted f e is (inr fault) = inr (inl (Format.Qcow2, is, inr fault))

pub below_cause : (permitted : Permitted) (f : File) (d : Layer) (e : Error) → IsLayerOf permitted d f → IsBelowRefused d f.bytes e → IsCause permitted f e
below_cause permitted f (Of.Raw r) e of h = absurd h
below_cause permitted f (Of.Vmdk v) e of h = absurd h
below_cause permitted f (Of.Cow c) e of h = absurd h
below_cause permitted f (Of.Qcow2 q) e of h = qcow2_cause permitted f e of.0 (h of.1.0 of.1.1)

-- the first file has no others above it
pub first_cause : (permitted : Permitted) (k : ℕ) (f : File) (e : Error) → k ≡ 0 → IsLayerRefusal permitted k f e → IsCause permitted f e
first_cause permitted k f e none (inl cause) = cause
first_cause permitted k f e none (inr many) = absurd (let z : ⊥ = omega (arith, none, many.0) in z)
