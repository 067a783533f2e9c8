-- The opening of an image by its builder.
-- SPDX-License-Identifier: MIT
use Rattle.std.proofs.Common.{◌≡◌, ◌⊎◌, Bool, true, false, ℕ, List, Result, Ok, Err}
use Rattle.std.specs.Prelude.{IfOk, IfErr}
use Rattle.imago_storage.specs.declared.error.Error.{Error}
use Rattle.imago_storage.specs.Features.{Features}
use Rattle.imago_qcow2.specs.declared.qcow2.Qcow2.{Qcow2}
use Rattle.imago_qcow2.specs.Header.{NamesBacking}
use Rattle.imago_qcow2.specs.Opening.{IsOpened, IsRefusedOpening, IsRefusedOverlay, IsRefusedAlone}
use Rattle.imago_qcow2.specs.Qcow2Image.{storage_in, header_in}
use Rattle.imago_qcow2.specs.Qcow2Builder.{IsQcow2Image}

pub image_of : {S : Type 0} {g : _} {h : _} (bytes : S → List ℕ) (features : S → Features) (laid : Bool) (s : S) (r : Result (Qcow2 S g h) Error)
    → IfOk r (λ d. (storage_in d ≡ s) × IsOpened (features s) (bytes s) (header_in d) × (laid ≡ false → NamesBacking (header_in d) → ⊥))
    → IfErr r (λ e. IsRefusedOpening (features s) (bytes s) e ⊎ ((laid ≡ false) × IsRefusedOverlay (features s) (bytes s) e))
    → (laid ≡ false → IfErr r (IsRefusedAlone (features s) (bytes s)))
    → IsQcow2Image bytes features laid s r
image_of bytes features laid s (Ok d) opened refused alone = opened
image_of bytes features laid s (Err e) opened refused alone = (refused, alone)

pub never_both : (b : Bool) → b ≡ true → b ≡ false → ⊥
never_both b on off = let z : ⊥ = cc in z
