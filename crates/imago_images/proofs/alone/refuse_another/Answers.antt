-- SPDX-License-Identifier: MIT
use Rattle.std.proofs.Common.{IfOk, subst, sym}
use Rattle.imago_images.specs.declared.opening.OtherFiles.{OtherFiles}
use Rattle.imago_images.specs.Alone.{IsOfOneFormat}
use Rattle.imago_images.proofs.alone.refuse_another.Goals as goal

pub returns-in-None-clause-one : goal.returns-in-None-clause-one
returns-in-None-clause-one g c = λ bytes told.
    subst (λ (o : OtherFiles). IfOk c.refuse_two.result (λ _. IsOfOneFormat o c.args.said bytes))
    (sym c.in-None.is) (c.refuse_two.ensures.one bytes told)
