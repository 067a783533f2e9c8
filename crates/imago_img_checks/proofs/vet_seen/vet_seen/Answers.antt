-- SPDX-License-Identifier: MIT
use Rattle.std.proofs.Common.{◌∙◌, sym, refl}
use Rattle.imago_img_checks.proofs.VetSteps.{decides_no, not_decided}
use Rattle.imago_img_checks.proofs.vet_seen.vet_seen.Goals as goal

pub returns-then-is_seen_as : goal.returns-then-is_seen_as
returns-then-is_seen_as g c = λ bytes has. (
  (λ is. sym (c.in_ok-seen.ensures bytes has) ∙ c.is_seen_as.ensures.0 c.if-is_seen_as.true),
  (λ is. refl),
)

pub returns : goal.returns
returns g c = λ bytes has. decides_no (λ is.
    not_decided c.is_seen_as.result c.if-is_seen_as.false c.is_seen_as.ensures (c.in_ok-seen.ensures bytes has ∙ is))
