-- SPDX-License-Identifier: MIT
use Rattle.std.proofs.Common.{◌≡◌, ℕ, Bool, true, List, ◌∷◌, [], map, slice_index_or, sym, ap, ◌∙◌}
use Rattle.std.specs.String.{string_bytes}
use Rattle.imago_vmdk.specs.Vmdk.{vmdk_place}
use Rattle.imago_vmdk.proofs.Disk.{places_with}
use Rattle.imago_vmdk.proofs.laws.places_of_extents.Goals as goal

pub returns : goal.returns
returns g c = λ p.
    let s = c.args.image.now in
    let opened : s.opened ≡ true = c.requires in
    let bytes : ℕ → List ℕ = λ i. slice_index_or (g.S.Storage.bytes s.descriptor ∷ map g.S.Storage.bytes s.storages.items) i [] in
    ap (λ (o : Bool). vmdk_place bytes o s.extents.items p) opened
    ∙ sym (places_with string_bytes bytes 1 s.extents.items p)
