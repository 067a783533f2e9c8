-- SPDX-License-Identifier: MIT
use Rattle.std.proofs.Common.{◌≡◌, ◌<◌, ◌∙◌, ℕ, Option, Vec, Global, inl, inr, refl, sym, subst, length, arith}
use Rattle.imago_qcow2.specs.Backing.{IsBackingName}
use Rattle.imago_qcow2.proofs.NumberSteps.{range32, range64}
use Rattle.imago_session.specs.Loaded.{loaded_bytes}
use Rattle.imago_qcow2.specs.Qcow2Image.{storage_in}
use Rattle.imago_session.proofs.KnownSteps.{name_is}
use Rattle.std.proofs.Common.{⊎_elim}
use Rattle.std.proofs.lemmas.Result.{err_from_is_err_and}
use Rattle.imago_qcow2.specs.Backing.{format_of}
use Rattle.imago_session.proofs.KnownSteps.{cluster_small}
use Rattle.imago_session.proofs.RefusalSteps.{format_refused, format_same}
use Rattle.imago_session.proofs.session.below_qcow2.Goals as goal

pub returns-in_err-name-clause-refused : goal.returns-in_err-name-clause-refused
returns-in_err-name-clause-refused c =
    let p = err_from_is_err_and c.from_residual.result c.from_residual.ensures.1 in
    rw (p.1, p.2) (λ bytes same front. inl c.in_err-name.ensures.memory)

pub returns-in_err-format-clause-refused : goal.returns-in_err-format-clause-refused
returns-in_err-format-clause-refused c =
    let own = loaded_bytes (storage_in c.args.qcow2.now) in
    let p = err_from_is_err_and c.from_residual-in_err-format.result c.from_residual-in_err-format.ensures.1 in
    let header = c.image_of_bytes.ensures.header refl in
    let small = cluster_small own (length own) _ header in
    let near = c.image_of_bytes.ensures.cluster refl in
    rw (p.1, p.2) (λ bytes same front.
    let some = subst (λ (o : Option (Vec ℕ Global)). IsBackingName own o) c.in-Some.is c.in_ok-name.ensures.name in
    let full : 0 < length c.in-Some.name.items = grind (arith, c.if-is_empty.false, c.is_empty.ensures) in
    let has = (name_is bytes own c.in-Some.name.items same front header some.0 some.1 some.2 full).0 in
    ⊎_elim
    (λ memory. inl memory)
    (λ fault. inr (has, format_same bytes own same front ∙ fault))
    (format_refused _ (format_of own) c.in_err-format.field-0.0 (omega (arith, small, near)) c.in_err-format.ensures.refusals))

pub returns-in_default-clause-named : goal.returns-in_default-clause-named
returns-in_default-clause-named c = λ bytes same front.
    let own = loaded_bytes (storage_in c.args.qcow2.now) in
    let none = subst (λ (o : Option (Vec ℕ Global)). IsBackingName own o) c.in_default.is c.in_ok-name.ensures.name in
    inl (range64 bytes own 0 112 same.header 8 (omega arith) ∙ none)

pub returns-then-is_empty-clause-named : goal.returns-then-is_empty-clause-named
returns-then-is_empty-clause-named c = λ bytes same front.
    let own = loaded_bytes (storage_in c.args.qcow2.now) in
    let some = subst (λ (o : Option (Vec ℕ Global)). IsBackingName own o) c.in-Some.is c.in_ok-name.ensures.name in
    let none : length c.in-Some.name.items ≡ 0 = grind (arith, c.if-is_empty.true, c.is_empty.ensures) in
    inr (range32 bytes own 0 112 same.header 16 (omega arith) ∙ sym some.1 ∙ none)

pub returns-clause-named : goal.returns-clause-named
returns-clause-named c = λ bytes same front.
    let own = loaded_bytes (storage_in c.args.qcow2.now) in
    let some = subst (λ (o : Option (Vec ℕ Global)). IsBackingName own o) c.in-Some.is c.in_ok-name.ensures.name in
    let full : 0 < length c.in-Some.name.items = grind (arith, c.if-is_empty.false, c.is_empty.ensures) in
    name_is bytes own c.in-Some.name.items same front (c.image_of_bytes.ensures.header refl) some.0 some.1 some.2 full
