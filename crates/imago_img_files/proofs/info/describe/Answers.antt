-- SPDX-License-Identifier: MIT
use Rattle.std.proofs.Common.{◌≡◌, ◌∙◌, ℕ, List, Ok, map, subst}
use Rattle.std.specs.String.{string_bytes}
use Rattle.imago_vmdk.specs.Line.{extent_with}
use Rattle.imago_vmdk.specs.Reading.{reading_of}
use Rattle.imago_img_files.proofs.info.describe.Goals as goal

pub returns-in-Ok : goal.returns-in-Ok
returns-in-Ok g c = λ bytes has.
    subst (λ (text : List ℕ). reading_of c.args.how.accepted text
    ≡ Ok (map (extent_with string_bytes) c.in-Ok.described.extents.items, c.in-Ok.described.size))
    (c.deref-2.ensures.value ∙ c.in_ok-text.ensures.told bytes has) c.in-Ok.ensures.reading
