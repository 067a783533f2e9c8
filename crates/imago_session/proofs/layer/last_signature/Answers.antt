-- SPDX-License-Identifier: MIT
use Rattle.std.proofs.Common.{◌≡◌, ◌∙◌, ◌-◌, ℕ, List, None, sym, ap, refl, arith}
use Rattle.imago_storage.specs.Bytes.{bytes_at}
use Rattle.imago_formats.specs.Signatures.{told_by_last}
use Rattle.imago_formats.proofs.SignatureSteps.{last_told, no_last}
use Rattle.imago_session.specs.Blocks.{IsPartOf}
use Rattle.imago_session.proofs.ReadSteps.{if_ready}
use Rattle.imago_session.proofs.layer.last_signature.Goals as goal

pub returns-then-length-count-clause-ready : goal.returns-then-length-count-clause-ready
returns-then-length-count-clause-ready c = λ bytes part.
    no_last None bytes (omega (arith, part.1, c.length-length.ensures, c.if-length-count.true))

pub returns-in-Ready-clause-ready : goal.returns-in-Ready-clause-ready
returns-in-Ready-clause-ready c = λ bytes part.
    let f = c.args.file.now in
    let block = c.in-Ready.block in
    let read = if_ready _ block (λ b. (bytes : List ℕ) → IsPartOf bytes f → b.items ≡ bytes_at bytes (c.length-length.result - 512) 512)
    c.in-Ready.is c.in_ok-number.ensures.ready bytes part in
    last_told None bytes block.items c.length-length.result _ c.of_last.result (c.length-length.ensures ∙ sym part.1)
    (omega (arith, c.if-length-count.false)) refl read (c.of_last.ensures ∙ ap (told_by_last None) c.deref.ensures.value)
