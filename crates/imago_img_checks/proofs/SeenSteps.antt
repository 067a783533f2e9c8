-- What QEMU takes a file for, by the block that was read of it.
-- SPDX-License-Identifier: MIT
use Rattle.std.proofs.Common.{◌≡◌, ◌∙◌, ◌+◌, ◌<◌, ℕ, Bool, List, Option, IsTrue, length, min, slice_index, ap, arith}
use Rattle.imago_formats.specs.declared.probe.Probed.{Probed}
use Rattle.imago_formats.specs.Probes.{taken_by_qemu}
use Rattle.imago_formats.proofs.HeadLaws.{told_by_block}
use Rattle.imago_storage.specs.Bytes.{IsReadAt}

-- the first block of a file, which has these bytes
pub seen_read :
    (name bytes own block : List ℕ) (tells : Bool) (n : ℕ) (seen : Option Probed) → IsTrue tells × (own ≡ bytes)
    → (IsTrue tells → IsReadAt own 0 block) → n ≡ length bytes → length block ≡ min n 512
    → seen ≡ taken_by_qemu name block → seen ≡ taken_by_qemu name bytes
seen_read name bytes own block tells n seen told read long whole is =
    let same : length block ≡ min (length bytes) 512 = whole ∙ ap (λ (k : ℕ). min k 512) long in
    let each : (i : ℕ) → i < length block → slice_index block i ≡ slice_index bytes i =
    λ i below. let e : 0 + i ≡ i = omega arith in
    read told.0 i below ∙ ap (slice_index own) e ∙ ap (λ (xs : List ℕ). slice_index xs i) told.1 in
    is ∙ told_by_block name bytes block same each
