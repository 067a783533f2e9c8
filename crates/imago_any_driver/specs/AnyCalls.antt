-- The calls of the driver of any format: each is that of the driver that it is.
-- SPDX-License-Identifier: MIT
use Rattle.std.specs.Prelude.{◌≡◌, ℕ, Bool, Result, Ok, Err, refl}
use Rattle.std.proofs.Common.{inl, inr}
use Rattle.imago_storage.specs.declared.error.Error.{Error}
use Rattle.imago_drivers.specs.CallRelations.{Calls, Preparing, Committing, Ensuring}
use Rattle.imago_drivers.specs.CallRelations.{IsEnsuredInParts}
use Rattle.imago_drivers.specs.LayerBelow.{LayerBelow}
use Rattle.imago_drivers.specs.declared.raw.Raw.{Raw as RawImage}
use Rattle.imago_vmdk.specs.declared.vmdk.Vmdk.{Vmdk as VmdkImage}
use Rattle.imago_cow.specs.declared.cow.Cow.{Cow as CowImage}
use Rattle.imago_qcow2.specs.declared.qcow2.Qcow2.{Qcow2 as Qcow2Image}
use Rattle.imago_any_driver.specs.declared.any.AnyDriver.{AnyDriver}
use Rattle.imago_any_driver.specs.declared.any.AnyDriver.TheVariants.{Raw, Vmdk, Cow, Qcow2}

-- a shared call is that of the driver that it is
abbrev pub asked : {S R : Type 0} {g : _} {h : _} → (RawImage S g h → R → Type 0)
    → (VmdkImage S g h → R → Type 0) → (CowImage S g h → R → Type 0)
    → (Qcow2Image S g h → R → Type 0) → AnyDriver S g h → R → Type 0
asked raw vmdk cow qcow2 (Raw driver) r = raw driver r
asked raw vmdk cow qcow2 (Vmdk driver) r = vmdk driver r
asked raw vmdk cow qcow2 (Cow driver) r = cow driver r
asked raw vmdk cow qcow2 (Qcow2 driver) r = qcow2 driver r

-- a changing call is that of the driver that it is, which stays of its format
abbrev pub changed : {S R : Type 0} {g : _} {h : _}
    → (RawImage S g h → RawImage S g h → R → Type 0)
    → (VmdkImage S g h → VmdkImage S g h → R → Type 0)
    → (CowImage S g h → CowImage S g h → R → Type 0)
    → (Qcow2Image S g h → Qcow2Image S g h → R → Type 0)
    → AnyDriver S g h → AnyDriver S g h → R → Type 0
changed raw vmdk cow qcow2 (Raw old) (Raw new) r = raw old new r
changed raw vmdk cow qcow2 (Vmdk old) (Vmdk new) r = vmdk old new r
changed raw vmdk cow qcow2 (Cow old) (Cow new) r = cow old new r
changed raw vmdk cow qcow2 (Qcow2 old) (Qcow2 new) r = qcow2 old new r
changed raw vmdk cow qcow2 _ _ r = ⊥

module _ {S R : Type 0} {g : _} {h : _} (raw : RawImage S g h → RawImage S g h → R → Type 0)
    (vmdk : VmdkImage S g h → VmdkImage S g h → R → Type 0)
    (cow : CowImage S g h → CowImage S g h → R → Type 0)
    (qcow2 : Qcow2Image S g h → Qcow2Image S g h → R → Type 0) where
  -- a changing call on a driver of a format leaves one of that format
  raw_changed : (old : RawImage S g h) (now : AnyDriver S g h) (r : R)
      → changed raw vmdk cow qcow2 (Raw old) now r
      → (new : RawImage S g h) × (now ≡ Raw new) × raw old new r
  raw_changed old (Raw new) r c = (new, refl, c)
  raw_changed old (Vmdk new) r c = absurd c
  raw_changed old (Cow new) r c = absurd c
  raw_changed old (Qcow2 new) r c = absurd c

  vmdk_changed : (old : VmdkImage S g h) (now : AnyDriver S g h) (r : R)
      → changed raw vmdk cow qcow2 (Vmdk old) now r
      → (new : VmdkImage S g h) × (now ≡ Vmdk new) × vmdk old new r
  vmdk_changed old (Raw new) r c = absurd c
  vmdk_changed old (Vmdk new) r c = (new, refl, c)
  vmdk_changed old (Cow new) r c = absurd c
  vmdk_changed old (Qcow2 new) r c = absurd c

  cow_changed : (old : CowImage S g h) (now : AnyDriver S g h) (r : R)
      → changed raw vmdk cow qcow2 (Cow old) now r
      → (new : CowImage S g h) × (now ≡ Cow new) × cow old new r
  cow_changed old (Raw new) r c = absurd c
  cow_changed old (Vmdk new) r c = absurd c
  cow_changed old (Cow new) r c = (new, refl, c)
  cow_changed old (Qcow2 new) r c = absurd c

  qcow2_changed : (old : Qcow2Image S g h) (now : AnyDriver S g h) (r : R)
      → changed raw vmdk cow qcow2 (Qcow2 old) now r
      → (new : Qcow2Image S g h) × (now ≡ Qcow2 new) × qcow2 old new r
  qcow2_changed old (Raw new) r c = absurd c
  qcow2_changed old (Vmdk new) r c = absurd c
  qcow2_changed old (Cow new) r c = absurd c
  qcow2_changed old (Qcow2 new) r c = (new, refl, c)

module _ {S St : Type 0} {g : _} {h : _} (r : Calls (RawImage S g h) St)
    (v : Calls (VmdkImage S g h) St) (c : Calls (CowImage S g h) St)
    (q : Calls (Qcow2Image S g h) St) where
  -- a preparing, a commit and a data mapping are those of the driver that it is
  abbrev pub prepared_by_format : Preparing (AnyDriver S g h) St
  prepared_by_format below o n overwrite = changed (r.prepared below o n overwrite)
      (v.prepared below o n overwrite) (c.prepared below o n overwrite)
      (q.prepared below o n overwrite)

  abbrev pub committed_by_format : Committing (AnyDriver S g h) St
  committed_by_format m = changed (r.committed m) (v.committed m) (c.committed m) (q.committed m)

  abbrev pub ensured_by_format : Ensuring (AnyDriver S g h)
  ensured_by_format below o n overwrite = changed (r.ensured below o n overwrite)
      (v.ensured below o n overwrite) (c.ensured below o n overwrite)
      (q.ensured below o n overwrite)

  module _ (below : LayerBelow) (o n : ℕ) (overwrite : Bool) where
    raw_by_parts : (old : RawImage S g h) (now : AnyDriver S g h)
        (result : Result (ℕ × ℕ × ℕ) Error)
        → IsEnsuredInParts prepared_by_format committed_by_format below o n overwrite (Raw old) now
        result → ensured_by_format below o n overwrite (Raw old) now result
    raw_by_parts old now (Ok x) (m, mid, p, k, storage, offset, len) =
        let a = raw_changed (r.prepared below o n overwrite) (v.prepared below o n overwrite)
        (c.prepared below o n overwrite) (q.prepared below o n overwrite) old mid (Ok m) p in
        let b = raw_changed (r.committed m) (v.committed m) (c.committed m) (q.committed m) a.0 now
        (Ok tt) (rw a.1 at k) in
        rw b.1 (r.by_parts below o n overwrite old b.0 (Ok x)
        (m, a.0, a.2, b.2, storage, offset, len))
    raw_by_parts old now (Err e) (inl refused) =
        let a = raw_changed (r.prepared below o n overwrite) (v.prepared below o n overwrite)
        (c.prepared below o n overwrite) (q.prepared below o n overwrite) old now (Err e) refused in
        rw a.1 (r.by_parts below o n overwrite old a.0 (Err e) (inl a.2))
    raw_by_parts old now (Err e) (inr (m, mid, p, k)) =
        let a = raw_changed (r.prepared below o n overwrite) (v.prepared below o n overwrite)
        (c.prepared below o n overwrite) (q.prepared below o n overwrite) old mid (Ok m) p in
        let b = raw_changed (r.committed m) (v.committed m) (c.committed m) (q.committed m) a.0 now
        (Err e) (rw a.1 at k) in
        rw b.1 (r.by_parts below o n overwrite old b.0 (Err e) (inr (m, a.0, a.2, b.2)))

    vmdk_by_parts : (old : VmdkImage S g h) (now : AnyDriver S g h)
        (result : Result (ℕ × ℕ × ℕ) Error)
        → IsEnsuredInParts prepared_by_format committed_by_format below o n overwrite (Vmdk old) now
        result → ensured_by_format below o n overwrite (Vmdk old) now result
    vmdk_by_parts old now (Ok x) (m, mid, p, k, storage, offset, len) =
        let a = vmdk_changed (r.prepared below o n overwrite) (v.prepared below o n overwrite)
        (c.prepared below o n overwrite) (q.prepared below o n overwrite) old mid (Ok m) p in
        let b = vmdk_changed (r.committed m) (v.committed m) (c.committed m) (q.committed m) a.0 now
        (Ok tt) (rw a.1 at k) in
        rw b.1 (v.by_parts below o n overwrite old b.0 (Ok x)
        (m, a.0, a.2, b.2, storage, offset, len))
    vmdk_by_parts old now (Err e) (inl refused) =
        let a = vmdk_changed (r.prepared below o n overwrite) (v.prepared below o n overwrite)
        (c.prepared below o n overwrite) (q.prepared below o n overwrite) old now (Err e) refused in
        rw a.1 (v.by_parts below o n overwrite old a.0 (Err e) (inl a.2))
    vmdk_by_parts old now (Err e) (inr (m, mid, p, k)) =
        let a = vmdk_changed (r.prepared below o n overwrite) (v.prepared below o n overwrite)
        (c.prepared below o n overwrite) (q.prepared below o n overwrite) old mid (Ok m) p in
        let b = vmdk_changed (r.committed m) (v.committed m) (c.committed m) (q.committed m) a.0 now
        (Err e) (rw a.1 at k) in
        rw b.1 (v.by_parts below o n overwrite old b.0 (Err e) (inr (m, a.0, a.2, b.2)))

    cow_by_parts : (old : CowImage S g h) (now : AnyDriver S g h)
        (result : Result (ℕ × ℕ × ℕ) Error)
        → IsEnsuredInParts prepared_by_format committed_by_format below o n overwrite (Cow old) now
        result → ensured_by_format below o n overwrite (Cow old) now result
    cow_by_parts old now (Ok x) (m, mid, p, k, storage, offset, len) =
        let a = cow_changed (r.prepared below o n overwrite) (v.prepared below o n overwrite)
        (c.prepared below o n overwrite) (q.prepared below o n overwrite) old mid (Ok m) p in
        let b = cow_changed (r.committed m) (v.committed m) (c.committed m) (q.committed m) a.0 now
        (Ok tt) (rw a.1 at k) in
        rw b.1 (c.by_parts below o n overwrite old b.0 (Ok x)
        (m, a.0, a.2, b.2, storage, offset, len))
    cow_by_parts old now (Err e) (inl refused) =
        let a = cow_changed (r.prepared below o n overwrite) (v.prepared below o n overwrite)
        (c.prepared below o n overwrite) (q.prepared below o n overwrite) old now (Err e) refused in
        rw a.1 (c.by_parts below o n overwrite old a.0 (Err e) (inl a.2))
    cow_by_parts old now (Err e) (inr (m, mid, p, k)) =
        let a = cow_changed (r.prepared below o n overwrite) (v.prepared below o n overwrite)
        (c.prepared below o n overwrite) (q.prepared below o n overwrite) old mid (Ok m) p in
        let b = cow_changed (r.committed m) (v.committed m) (c.committed m) (q.committed m) a.0 now
        (Err e) (rw a.1 at k) in
        rw b.1 (c.by_parts below o n overwrite old b.0 (Err e) (inr (m, a.0, a.2, b.2)))

    qcow2_by_parts : (old : Qcow2Image S g h) (now : AnyDriver S g h)
        (result : Result (ℕ × ℕ × ℕ) Error)
        → IsEnsuredInParts prepared_by_format committed_by_format below o n overwrite (Qcow2 old)
        now
        result → ensured_by_format below o n overwrite (Qcow2 old) now result
    qcow2_by_parts old now (Ok x) (m, mid, p, k, storage, offset, len) =
        let a = qcow2_changed (r.prepared below o n overwrite) (v.prepared below o n overwrite)
        (c.prepared below o n overwrite) (q.prepared below o n overwrite) old mid (Ok m) p in
        let b = qcow2_changed (r.committed m) (v.committed m) (c.committed m) (q.committed m) a.0
        now
        (Ok tt) (rw a.1 at k) in
        rw b.1 (q.by_parts below o n overwrite old b.0 (Ok x)
        (m, a.0, a.2, b.2, storage, offset, len))
    qcow2_by_parts old now (Err e) (inl refused) =
        let a = qcow2_changed (r.prepared below o n overwrite) (v.prepared below o n overwrite)
        (c.prepared below o n overwrite) (q.prepared below o n overwrite) old now (Err e) refused in
        rw a.1 (q.by_parts below o n overwrite old a.0 (Err e) (inl a.2))
    qcow2_by_parts old now (Err e) (inr (m, mid, p, k)) =
        let a = qcow2_changed (r.prepared below o n overwrite) (v.prepared below o n overwrite)
        (c.prepared below o n overwrite) (q.prepared below o n overwrite) old mid (Ok m) p in
        let b = qcow2_changed (r.committed m) (v.committed m) (c.committed m) (q.committed m) a.0
        now
        (Err e) (rw a.1 at k) in
        rw b.1 (q.by_parts below o n overwrite old b.0 (Err e) (inr (m, a.0, a.2, b.2)))

    pub parts_by_format : (old now : AnyDriver S g h) (result : Result (ℕ × ℕ × ℕ) Error)
        → IsEnsuredInParts prepared_by_format committed_by_format below o n overwrite old now result
        → ensured_by_format below o n overwrite old now result
    parts_by_format (Raw old) now result parts = raw_by_parts old now result parts
    parts_by_format (Vmdk old) now result parts = vmdk_by_parts old now result parts
    parts_by_format (Cow old) now result parts = cow_by_parts old now result parts
    parts_by_format (Qcow2 old) now result parts = qcow2_by_parts old now result parts

  -- each call is that of the driver that it is
  abbrev pub calls_by_format : Calls (AnyDriver S g h) St
  calls_by_format = record {
    mapped = λ o n. asked (r.mapped o n) (v.mapped o n) (c.mapped o n) (q.mapped o n);
    read = λ index o n. asked (r.read index o n) (v.read index o n) (c.read index o n)
        (q.read index o n);
    read_special = λ o n. asked (r.read_special o n) (v.read_special o n) (c.read_special o n)
        (q.read_special o n);
    put = λ index bytes o. changed (r.put index bytes o) (v.put index bytes o) (c.put index bytes o)
        (q.put index bytes o);
    zeroed = λ o n. changed (r.zeroed o n) (v.zeroed o n) (c.zeroed o n) (q.zeroed o n);
    discarded_to_zero = λ o n. changed (r.discarded_to_zero o n) (v.discarded_to_zero o n)
        (c.discarded_to_zero o n) (q.discarded_to_zero o n);
    discarded_to_any = λ o n. changed (r.discarded_to_any o n) (v.discarded_to_any o n)
        (c.discarded_to_any o n) (q.discarded_to_any o n);
    discarded_to_backing = λ o n. changed (r.discarded_to_backing o n) (v.discarded_to_backing o n)
        (c.discarded_to_backing o n) (q.discarded_to_backing o n);
    prepared = prepared_by_format;
    filled = λ m bytes at. changed (r.filled m bytes at) (v.filled m bytes at) (c.filled m bytes at)
        (q.filled m bytes at);
    committed = committed_by_format;
    cancelled = λ m old now. changed (λ x y _. r.cancelled m x y) (λ x y _. v.cancelled m x y)
        (λ x y _. c.cancelled m x y) (λ x y _. q.cancelled m x y) old now (tt {0});
    ensured = ensured_by_format;
    by_parts = parts_by_format;
    grown = λ n mode below. changed (r.grown n mode below) (v.grown n mode below)
        (c.grown n mode below) (q.grown n mode below);
    cut = λ n. changed (r.cut n) (v.cut n) (c.cut n) (q.cut n);
    flushed = changed r.flushed v.flushed c.flushed q.flushed;
    synced = changed r.synced v.synced c.synced q.synced;
    invalidated = changed r.invalidated v.invalidated c.invalidated q.invalidated;
  }
