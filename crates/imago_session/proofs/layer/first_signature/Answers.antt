-- SPDX-License-Identifier: MIT
use Rattle.std.proofs.Common.{◌≡◌, ◌∙◌, ℕ, List, None, sym, ap}
use Rattle.imago_storage.specs.Bytes.{bytes_at}
use Rattle.imago_formats.specs.Signatures.{told_by_first}
use Rattle.imago_formats.proofs.SignatureSteps.{first_told}
use Rattle.imago_session.specs.Blocks.{IsPartOf}
use Rattle.imago_session.proofs.ReadSteps.{if_ready}
use Rattle.imago_session.proofs.layer.first_signature.Goals as goal

pub returns-in-Ready-clause-ready : goal.returns-in-Ready-clause-ready
returns-in-Ready-clause-ready c = λ bytes part.
    let f = c.args.file.now in
    let block = c.in-Ready.block in
    let read = if_ready _ block (λ b. (bytes : List ℕ) → IsPartOf bytes f → b.items ≡ bytes_at bytes 0 c.min-count.result)
    c.in-Ready.is c.in_ok-number.ensures.ready bytes part in
    first_told None bytes block.items c.length.result c.min-count.result c.of_first.result
    (c.length.ensures ∙ sym part.1) c.min-count.ensures read
    (c.of_first.ensures ∙ ap (told_by_first None) c.deref.ensures.value)
