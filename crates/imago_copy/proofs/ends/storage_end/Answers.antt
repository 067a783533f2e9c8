-- SPDX-License-Identifier: MIT
use Rattle.std.proofs.Common.{ap, ◌∙◌}
use Rattle.imago_copy.proofs.EndSteps.{told_length}
use Rattle.imago_copy.proofs.ends.storage_end.Goals as goal

pub returns-in-Some : goal.returns-in-Some
returns-in-Some g c =
    told_length c.ok.result c.size.result _ _ c.ok.ensures.value (c.in-Some.ensures.1 ∙ ap (λ d. (g.D.FormatDriverInstance.view d).stores.bytes c.args.storage) c.inner.ensures) c.size.ensures.value
