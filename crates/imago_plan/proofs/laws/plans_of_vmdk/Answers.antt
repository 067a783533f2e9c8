-- SPDX-License-Identifier: MIT
use Rattle.std.proofs.Common.{refl, ◌∙◌}
use Rattle.imago_access.proofs.DiskLists.{same_listed}
use Rattle.imago_vmdk.specs.Image.{accepted_in}
use Rattle.imago_plan.proofs.Described.{described}
use Rattle.imago_plan.proofs.laws.plans_of_vmdk.Goals as goal

pub returns : goal.returns
returns g c = λ pieces bytes told same covers.
    let image = c.args.image.now in
    same_listed _ _ _ _ refl
    (described _ image bytes (λ d. accepted_in d) c.inner.result.now c.inner.ensures c.places_of_bytes.ensures c.same_stands.ensures (λ p. c.top_layers_lead_nowhere.ensures image p refl) told same)
    ∙ c.plans_show_stored_bytes.ensures image pieces bytes covers
