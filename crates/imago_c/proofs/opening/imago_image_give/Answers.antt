-- SPDX-License-Identifier: MIT
use Rattle.std.proofs.Common.{◌≡◌, ◌<◌, ◌∙◌, length, Option, Some, sym, ap, subst}
use Rattle.std.specs.Prelude.{IfSome}
use Rattle.imago_session.specs.declared.session.Session.{Session}
use Rattle.imago_session.specs.Opening.{wanted, IsAnswer, AsksCount}
use Rattle.imago_c.specs.Images.{IsRefusedGive}
use Rattle.imago_c.proofs.Refusals.{give_refused}
use Rattle.imago_c.proofs.opening.imago_image_give.Goals as goal

pub returns-clause-refused : goal.returns-clause-refused
returns-clause-refused c =
    let a = c.deref_mut.result.now in
    let old : c.args.image.now.handle.value ≡ Some a = c.in-Some.ensures.session ∙ ap Some (sym c.deref_mut.ensures.value) in
    subst (λ (o : Option Session). IfSome o (λ (x : Session). AsksCount (wanted x) (length c.args.bytes.now) → 0 < c.answer.result → IsRefusedGive x c.of.result.handle.value (λ files. IsAnswer files (wanted x) c.args.bytes.now) c.answer.result)) (sym old)
    (λ asks some. subst (λ (o : Option Session). IsRefusedGive a o (λ files. IsAnswer files (wanted a) c.args.bytes.now) c.answer.result) (sym c.of.ensures)
    (give_refused a c.give-given.new.self c.give-given.result c.answer.result (λ files. IsAnswer files (wanted a) c.args.bytes.now) c.answer.ensures some (c.give-given.ensures.refused asks) c.give-given.ensures.cause))
