-- SPDX-License-Identifier: MIT
use Rattle.std.proofs.Common.{ℕ, List, ◌∷◌, [], map, slice_index_or, Result, sym, ap, ◌∙◌}
use Rattle.imago_storage.specs.declared.error.Error.{Error}
use Rattle.imago_vmdk.specs.declared.line.Extent.{Extent}
use Rattle.imago_vmdk.specs.Disk.{places_read}
use Rattle.imago_vmdk.proofs.laws.places_of_bytes.Goals as goal

pub returns : goal.returns
returns g c = λ told p.
    let s = c.args.image.now in
    let bytes : ℕ → List ℕ = λ i. slice_index_or (g.S.Storage.bytes s.descriptor ∷ map g.S.Storage.bytes s.storages.items) i [] in
    c.places_of_extents.ensures p
    ∙ ap (λ (r : Result (List (Extent (List ℕ)) × ℕ) Error). places_read bytes r p) (sym (s.read told))
