-- SPDX-License-Identifier: MIT
use Rattle.std.proofs.Common.{◌≡◌, ◌∙◌, ℕ, List, Option, sym, ap, subst, map}
use Rattle.std.specs.List.{flat_map}
use Rattle.std.specs.String.{string_bytes}
use Rattle.imago_drivers.specs.declared.format.Format.{Format}
use Rattle.imago_vmdk.specs.Line.{extent_with}
use Rattle.imago_vmdk.specs.Reading.{reading_of}
use Rattle.imago_vmdk.specs.declared.line.Accepted.{Accepted}
use Rattle.imago_session.specs.Loaded.{loaded_bytes, AreThere}
use Rattle.imago_session.specs.Files.{IsFormatBy, file_name, names_read}
use Rattle.imago_session.proofs.ReadSteps.{same_whole, read_whole}
use Rattle.std.proofs.Common.{inl, inr, ⊎_elim, refl, arith}
use Rattle.std.proofs.lemmas.Result.{err_from_is_err_and}
use Rattle.imago_session.specs.Refusals.{has_far, ReadsFar}
use Rattle.imago_session.proofs.RefusalSteps.{long_descriptor, far_same}
use Rattle.imago_session.proofs.layer.load_vmdk.Goals as goal

pub returns-then-length-gt-LONGEST_DESCRIPTOR-clause-refused : goal.returns-then-length-gt-LONGEST_DESCRIPTOR-clause-refused
returns-then-length-gt-LONGEST_DESCRIPTOR-clause-refused c = λ bytes part.
    inr (inl (long_descriptor c.args.permitted.accepted bytes (omega (arith, part.1, c.length-length.ensures, c.if-length-gt-LONGEST_DESCRIPTOR.true))))

pub returns-in_err-text-clause-refused : goal.returns-in_err-text-clause-refused
returns-in_err-text-clause-refused c =
    let p = err_from_is_err_and c.from_residual.result c.from_residual.ensures.1 in
    rw (p.1, p.2) (λ bytes part. inl c.in_err-text.ensures.memory)

pub returns-in_err-read-clause-refused : goal.returns-in_err-read-clause-refused
returns-in_err-read-clause-refused c =
    let p = err_from_is_err_and c.from_residual-in_err-read.result c.from_residual-in_err-read.ensures.1 in
    let file = c.args.file in
    rw (p.1, p.2) (λ bytes part.
    let there = subst (λ (n : ℕ). AreThere file 0 n) c.length-length.ensures (c.first_missing.ensures.there c.in_default.is) in
    let whole : bytes ≡ loaded_bytes file = same_whole bytes file part there in
    let text : c.deref.result.now ≡ bytes =
    c.deref.ensures.value
    ∙ read_whole file c.in_ok-text.text.items (c.in_ok-text.ensures.whole ∙ c.length-length.ensures) c.in_ok-text.ensures.bytes
    ∙ sym whole in
    ⊎_elim
    (λ fault. inr (inl (ap (reading_of c.args.permitted.accepted) (sym text) ∙ fault)))
    (λ memory. inl memory.0)
    c.in_err-read.ensures.reading)

pub returns-then-has_far-clause-refused : goal.returns-then-has_far-clause-refused
returns-then-has_far-clause-refused c = λ bytes part.
    let file = c.args.file in
    let there = subst (λ (n : ℕ). AreThere file 0 n) c.length-length.ensures (c.first_missing.ensures.there c.in_default.is) in
    let whole : bytes ≡ loaded_bytes file = same_whole bytes file part there in
    let text : c.deref.result.now ≡ bytes =
    c.deref.ensures.value
    ∙ read_whole file c.in_ok-text.text.items (c.in_ok-text.ensures.whole ∙ c.length-length.ensures) c.in_ok-text.ensures.bytes
    ∙ sym whole in
    let far = far_same string_bytes c.in_ok-read.read.extents.items ∙ ap has_far (sym c.deref-2.ensures.value) ∙ sym c.has_far.ensures ∙ c.if-has_far.true in
    let reading = ap (reading_of c.args.permitted.accepted) (sym text) ∙ c.in_ok-read.ensures.reading in
    inr (inr (subst ReadsFar (sym reading) far, refl))

pub returns-in_err-names-clause-refused : goal.returns-in_err-names-clause-refused
returns-in_err-names-clause-refused c =
    let p = err_from_is_err_and c.from_residual-in_err-names.result c.from_residual-in_err-names.ensures.1 in
    rw (p.1, p.2) (λ bytes part. inl c.in_err-names.ensures.memory)

pub returns-in_err-image-clause-refused : goal.returns-in_err-image-clause-refused
returns-in_err-image-clause-refused c =
    let p = err_from_is_err_and c.from_residual-in_err-image.result c.from_residual-in_err-image.ensures.1 in
    rw (p.1, p.2) (λ bytes part. inl c.in_err-image.ensures.memory)

pub returns-clause-agrees : goal.returns-clause-agrees
returns-clause-agrees c = λ f part known says is.
    let file = c.args.file in
    let there = subst (λ (n : ℕ). AreThere file 0 n) c.length-length.ensures (c.first_missing.ensures.there c.in_default.is) in
    let whole : f.bytes ≡ loaded_bytes file = same_whole f.bytes file part there in
    let text : c.deref.result.now ≡ f.bytes =
    c.deref.ensures.value
    ∙ read_whole file c.in_ok-text.text.items (c.in_ok-text.ensures.whole ∙ c.length-length.ensures) c.in_ok-text.ensures.bytes
    ∙ sym whole in
    let image = c.in_ok-image.ensures in (
      (
        subst (λ (o : Option Format). IsFormatBy o f.bytes Format.Vmdk) (sym says) is,
        (image.accepted, image.opened, whole ∙ ap loaded_bytes (sym image.file)),
      ),
      c.in_ok-names.ensures.names
          ∙ ap (λ xs. flat_map file_name (map (extent_with string_bytes) xs)) c.deref-3.ensures.value
          ∙ sym (ap names_read c.in_ok-read.ensures.reading)
          ∙ ap (λ (t : List ℕ). names_read (reading_of c.args.permitted.accepted t)) text
          ∙ ap (λ (a : Accepted). names_read (reading_of a f.bytes)) (sym image.accepted),
    )
