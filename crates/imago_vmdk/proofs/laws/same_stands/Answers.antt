-- SPDX-License-Identifier: MIT
use Rattle.std.proofs.Common.{ℕ, List, ap, ◌∙◌}
use Rattle.imago_vmdk.specs.Reading.{reading_of}
use Rattle.imago_vmdk.specs.Disk.{places_read}
use Rattle.imago_vmdk.proofs.Disk.{same_read}
use Rattle.imago_vmdk.proofs.laws.same_stands.Goals as goal

pub returns : goal.returns
returns c = λ accepted old new p same.
    ap (λ (text : List ℕ). places_read new (reading_of accepted text) p) same ∙ same_read old new (reading_of accepted (old 0)) p
