-- SPDX-License-Identifier: MIT
use Rattle.std.proofs.Common.{◌≡◌, ℕ, refl, ap, sym, ◌∙◌, map, Ok, rules}
use Rattle.std.specs.List.{sum_by}
use Rattle.std.specs.String.{string_bytes}
use Rattle.imago_vmdk.specs.Line.{extent_with}
use Rattle.imago_vmdk.specs.Reading.{reading_of, size_of, IsTextOf}
use Rattle.imago_storage.specs.declared.error.Error.{Error}
use Rattle.std.proofs.lemmas.Result.{err_from_is_err_and}
use Rattle.imago_vmdk.proofs.Extents.{same_sizes}
use Rattle.imago_vmdk.proofs.Faults.{read_device}
use Rattle.imago_vmdk.proofs.vmdk.Vmdk.open_read_only.Goals as goal

pub returns-in_err-extents-clause-device : goal.returns-in_err-extents-clause-device
returns-in_err-extents-clause-device g c =
    let p = err_from_is_err_and c.from_residual-in_err-extents.result c.from_residual-in_err-extents.ensures.1 in
    rw (p.1, p.2) (λ h. let device : c.in_err-extents.field-0.0 ≡ Error.Device = cc in absurd (read_device c.args.accepted _ c.in_err-extents.field-0.0 c.in_err-extents.ensures.reading device))

pub returns-clause-opened : goal.returns-clause-opened
returns-clause-opened g c =
    let text = c.in-Some.text.items in
    let read : IsTextOf (g.S.Storage.features c.args.descriptor).tells_bytes (g.S.Storage.bytes c.args.descriptor) text = search rules in
    let same : c.deref.result.now ≡ text = search rules in
    let says : reading_of c.args.accepted c.deref.result.now ≡ Ok (map (extent_with string_bytes) c.in_ok-extents.field-0.extents.items, c.in_ok-extents.field-0.size) = c.in_ok-extents.ensures.reading in
    let sized : c.in_ok-extents.field-0.size ≡ sum_by size_of (map (extent_with string_bytes) c.in_ok-extents.field-0.extents.items) = (c.in_ok-extents.ensures.size).0 ∙ sym (same_sizes string_bytes c.in_ok-extents.field-0.extents.items) in
    (refl, refl, refl, refl, (text, read, ap (reading_of c.args.accepted) (sym same) ∙ says ∙ ap (λ (n : ℕ). Ok (map (extent_with string_bytes) c.in_ok-extents.field-0.extents.items, n)) sized))
