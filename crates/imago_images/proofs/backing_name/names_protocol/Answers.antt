-- SPDX-License-Identifier: MIT
use Rattle.std.proofs.Common.{arith, ◌∙◌, sym}
use Rattle.imago_images.proofs.BackingSteps.{at_slash, at_colon, at_other, at_end}
use Rattle.imago_images.proofs.backing_name.names_protocol.Goals as goal

pub returns-then-byte-eq47 : goal.returns-then-byte-eq47
returns-then-byte-eq47 c =
    let l = c.loop-byte in
    sym (at_slash c.as_bytes-byte-items.result.now l.byte-index (omega arith) c.if-byte-eq47.true) ∙ l.invariant

pub returns-then-byte-eq58 : goal.returns-then-byte-eq58
returns-then-byte-eq58 c =
    let l = c.loop-byte in
    sym (at_colon c.as_bytes-byte-items.result.now l.byte-index (omega arith) c.if-byte-eq58.true) ∙ l.invariant

pub loop-byte-preserved : goal.loop-byte-preserved
loop-byte-preserved c =
    let l = c.loop-byte in
    sym (at_other c.as_bytes-byte-items.result.now l.byte-index (omega arith) c.if-byte-eq47.false c.if-byte-eq58.false)
    ∙ l.invariant

pub returns : goal.returns
returns c =
    let l = c.loop-byte in
    sym (at_end c.as_bytes-byte-items.result.now l.byte-index (omega arith)) ∙ l.invariant
