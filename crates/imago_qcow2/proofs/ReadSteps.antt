-- Reads of the file, and why they are refused.
-- SPDX-License-Identifier: MIT
use Rattle.std.proofs.Common.{◌≡◌, ℕ, ◌+◌, ◌<◌, ◌≤◌, ⊎_elim, inl, false, List, length, Result, Ok, Err, refl, ap, ◌∙◌, arith}
use Rattle.std.specs.Prelude.{IfErr, IsErrOf}
use Rattle.imago_storage.specs.declared.error.Error.{Error}
use Rattle.imago_storage.specs.Error.{IsExtRefusal}
use Rattle.imago_storage.specs.Features.{Features, IsAlignedRequest, MayRunOut}
use Rattle.imago_storage.specs.Padding.{Wraps}
use Rattle.imago_storage.specs.Bytes.{IsReadAt}
use Rattle.imago_drivers.specs.Place.{Place, PlacesStandAt}
use Rattle.imago_drivers.specs.Reasons.{allowed}
use Rattle.imago_drivers.specs.Done.{stored_read_reasons}
use Rattle.imago_qcow2.specs.Numbers.{be32}
use Rattle.imago_qcow2.specs.Opening.{probe_of}
use Rattle.imago_qcow2.specs.Entry.{GuestDisk}
use Rattle.imago_qcow2.specs.Qcow2.{view_with}
use Rattle.imago_qcow2.proofs.NumberSteps.{read32}

one_of : (e : Error) (P : Error → Type 0) → IsExtRefusal e → (e ≡ Error.WrapAround → P Error.WrapAround) → (e ≡ Error.Device → P Error.Device) → (e ≡ Error.Memory → P Error.Memory) → P e
one_of e P only w d m = ⊎_elim (λ x. rw x (w x)) (λ y. ⊎_elim (λ x. rw x (d x)) (λ x. rw x (m x)) y) only

-- what a read of the file's bytes is refused for
pub read_refused : (f : Features) (bytes : List ℕ) (disk : GuestDisk) (place : ℕ → Place) (s at n : ℕ) (r : Result (Unit {0}) Error) → s < 1 → IfErr r IsExtRefusal
    → (IsErrOf r Error.Device → f.is_reliable ≡ false) → (IsErrOf r Error.WrapAround → Wraps f at n)
    → (IsErrOf r Error.Memory → IsAlignedRequest f at n → MayRunOut f.read_memory (length bytes) (at + n))
    → IfErr r (allowed (stored_read_reasons (view_with f bytes disk place) s at n))
read_refused f bytes disk place s at n (Ok x) h only device wraps memory = tt
read_refused f bytes disk place s at n (Err e) h only device wraps memory =
    let z : s ≡ 0 = omega (arith, h) in
    one_of e (allowed (stored_read_reasons (view_with f bytes disk place) s at n)) only
    (λ x. let v : Wraps f at n = wraps (ap Err x) in (
      refl,
      (λ o stand. let here : PlacesStandAt place 0 at n o = rw z at stand in inl (record { from = o; count = n; above = omega arith; below = omega arith; wraps = (at, here, v) })),
      v,
    ))
    (λ x. device (ap Err x))
    (λ x o stand no. let here : PlacesStandAt place 0 at n o = rw z at stand in let t = no.1 at here in t.1 (memory (ap Err x) t.0))

-- whether the file looks like an image, by what was read of it
pub probe_same : (bytes head : List ℕ) → IsReadAt bytes 0 head → 8 ≤ length head → probe_of head ≡ probe_of bytes
unfolding probe_of
probe_same bytes head r l =
    let e : 0 + 0 ≡ 0 = omega arith in
    let f : 0 + 4 ≡ 4 = omega arith in
    let a : be32 head 0 ≡ be32 bytes 0 = read32 bytes head 0 r 0 (omega (arith, l)) ∙ ap (be32 bytes) e in
    let b : be32 head 4 ≡ be32 bytes 4 = read32 bytes head 0 r 4 (omega (arith, l)) ∙ ap (be32 bytes) f in
    rw (a, b) refl
