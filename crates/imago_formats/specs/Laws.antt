-- What holds of the definition.
-- SPDX-License-Identifier: MIT
use Rattle.std.specs.Prelude.{◌≡◌, ℕ, List, take}
use Rattle.imago_formats.specs.Probes.{taken_by_qemu}

-- Bytes behind the first 512 don't count.
abbrev pub FirstBytesTell : Type 0
FirstBytesTell = (name bytes : List ℕ)
    → taken_by_qemu name (take 512 bytes) ≡ taken_by_qemu name bytes
