-- SPDX-License-Identifier: MIT
use Rattle.std.proofs.Common.{ℕ, List, Option, sym, ap, subst, map}
use Rattle.std.specs.String.{string_bytes}
use Rattle.imago_drivers.specs.declared.format.Format.{Format}
use Rattle.imago_qcow2.specs.Disk.{HaveSameTables, AreSameBytes}
use Rattle.imago_qcow2.specs.Entry.{cluster_length}
use Rattle.imago_session.specs.declared.loaded.LoadedFile.{LoadedFile}
use Rattle.imago_session.specs.Loaded.{loaded_bytes}
use Rattle.imago_session.specs.declared.block.Step.{Step}
use Rattle.imago_session.specs.declared.loading.Tables.{Tables}
use Rattle.imago_session.specs.Blocks.{IsPartOf}
use Rattle.imago_session.specs.Known.{AreTablesOf, AreKnownOf}
use Rattle.imago_session.specs.Files.{IsFormatBy}
use Rattle.imago_session.specs.Steps.{IfReady}
use Rattle.imago_session.proofs.KnownSteps.{front_of}
use Rattle.std.proofs.Common.{◌∙◌, inl, inr, ⊎_elim, arith}
use Rattle.std.proofs.lemmas.Result.{err_from_is_err_and}
use Rattle.imago_session.proofs.LoadedSteps.{loaded_length}
use Rattle.imago_session.proofs.RefusalSteps.{qcow2_refused}
use Rattle.imago_session.proofs.layer.load_qcow2.Goals as goal

pub returns-in_err-number-clause-refused : goal.returns-in_err-number-clause-refused
returns-in_err-number-clause-refused c =
    let p = err_from_is_err_and c.from_residual.result c.from_residual.ensures.1 in
    rw (p.1, p.2) (λ bytes part known. ⊎_elim (λ memory. inl memory) (λ fault. inr (inl (fault bytes part))) c.in_err-number.ensures.refused)

pub returns-in_err-image-clause-refused : goal.returns-in_err-image-clause-refused
returns-in_err-image-clause-refused c =
    let p = err_from_is_err_and c.from_residual-in_err-image.result c.from_residual-in_err-image.ensures.1 in
    let file = c.args.file in
    let t = c.in-Ready.tables in
    let ready = subst (λ (s : Step Tables). IfReady (λ (x : Tables). (bytes : List ℕ) → IsPartOf bytes file → AreKnownOf c.args.permitted.tables bytes file c.args.known → AreTablesOf c.args.permitted.tables bytes file x) s) c.in-Ready.is c.in_ok-number.ensures.ready in
    let long = loaded_length file in
    rw (p.1, p.2) (λ bytes part known.
    let of : AreTablesOf c.args.permitted.tables bytes file t = ready bytes part known in
    let same : HaveSameTables bytes (loaded_bytes file) = c.next_missing.ensures.tables c.in_default.is c.args.permitted.tables bytes part of in
    ⊎_elim
    (λ memory. inl memory)
    (λ fault. inr (inl (inl (sym (c.same_tables_stand_alike.ensures.header bytes (loaded_bytes file) same) ∙ fault))))
    (qcow2_refused (loaded_bytes file) (omega (arith, long, c.length-length.ensures, c.length-length.type_inv)) c.in_err-image.field-0.0 c.in_err-image.ensures.refused))

pub returns-in-Some-clause-agrees : goal.returns-in-Some-clause-agrees
returns-in-Some-clause-agrees c = λ f part known says is.
    let file = c.args.file in
    let ready = subst (λ (s : Step Tables). IfReady (λ (x : Tables). (bytes : List ℕ) → IsPartOf bytes file → AreKnownOf c.args.permitted.tables bytes file c.args.known → AreTablesOf c.args.permitted.tables bytes file x) s) c.in-Ready.is c.in_ok-number.ensures.ready in
    (part, says, c.next_missing.ensures.known c.args.permitted.tables f.bytes part (ready f.bytes part known))

pub returns-clause-agrees : goal.returns-clause-agrees
returns-clause-agrees c = λ f part known says is.
    let file = c.args.file in
    let t = c.in-Ready.tables in
    let ready = subst (λ (s : Step Tables). IfReady (λ (x : Tables). (bytes : List ℕ) → IsPartOf bytes file → AreKnownOf c.args.permitted.tables bytes file c.args.known → AreTablesOf c.args.permitted.tables bytes file x) s) c.in-Ready.is c.in_ok-number.ensures.ready in
    let of : AreTablesOf c.args.permitted.tables f.bytes file t = ready f.bytes part known in
    let same : HaveSameTables f.bytes (loaded_bytes file) = c.next_missing.ensures.tables c.in_default.is c.args.permitted.tables f.bytes part of in
    let stored = sym c.in_ok-image.ensures.opened.0 in (
      (
        subst (λ (o : Option Format). IsFormatBy o f.bytes Format.Qcow2) (sym says) is,
        (
          subst (λ (s : LoadedFile). HaveSameTables f.bytes (loaded_bytes s)) stored same,
          subst (λ (s : LoadedFile). AreSameBytes f.bytes (loaded_bytes s) 0 (cluster_length f.bytes)) stored (front_of c.args.permitted.tables f.bytes file t part of),
          of.few,
        ),
      ),
      ap (map string_bytes) c.new.ensures.items,
    )
