-- SPDX-License-Identifier: MIT
use Rattle.std.proofs.Common.{◌≡◌, ◌∙◌, ◌<◌, Option, Some, sym, ap, subst}
use Rattle.std.specs.Prelude.{IfSome}
use Rattle.imago_session.specs.declared.session.Session.{Session}
use Rattle.imago_session.specs.Opening.{wanted, IsFileAnswer}
use Rattle.imago_c.specs.Images.{IsRefusedGive, AsksBacking, AsksExtent, format_of}
use Rattle.imago_c.proofs.Refusals.{give_refused, over_refused, done_code}
use Rattle.imago_c.proofs.opening.imago_image_give_file.Goals as goal

pub returns-clause-refused : goal.returns-clause-refused
returns-clause-refused c = λ known.
    let a = c.deref_mut.result.now in
    let old : c.args.image.now.handle.value ≡ Some a = c.in-Some.ensures.session ∙ ap Some (sym c.deref_mut.ensures.value) in
    subst (λ (o : Option Session). IfSome o (λ (x : Session). AsksBacking (wanted x) → 0 < c.answer.result → IsRefusedGive x c.of.result.handle.value (λ files. IsFileAnswer files (wanted x) c.args.count (format_of c.args.format)) c.answer.result)) (sym old)
    (λ asks some. subst (λ (o : Option Session). IsRefusedGive a o (λ files. IsFileAnswer files (wanted a) c.args.count (format_of c.args.format)) c.answer.result) (sym c.of.ensures)
    (give_refused a c.give_file-given.new.session c.give_file-given.result c.answer.result (λ files. IsFileAnswer files (wanted a) c.args.count (format_of c.args.format)) c.answer.ensures some
    (over_refused a c.give_file-given.new.session c.give_file-given.result (c.give_file-given.ensures.over asks known)) (c.give_file-given.ensures.cause known)))

pub returns-clause-extent : goal.returns-clause-extent
returns-clause-extent c = λ known.
    let a = c.deref_mut.result.now in
    let old : c.args.image.now.handle.value ≡ Some a = c.in-Some.ensures.session ∙ ap Some (sym c.deref_mut.ensures.value) in
    subst (λ (o : Option Session). IfSome o (λ (x : Session). AsksExtent (wanted x) → c.answer.result ≡ 0)) (sym old)
    (λ asks. c.answer.ensures ∙ done_code c.give_file-given.result (c.give_file-given.ensures.extent asks known))
