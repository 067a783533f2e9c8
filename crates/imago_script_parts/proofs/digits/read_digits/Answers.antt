-- SPDX-License-Identifier: MIT
use Rattle.std.proofs.Common.{length, refl, arith}
use Rattle.imago_script_parts.specs.Digits.{AreRead}
use Rattle.imago_script_parts.proofs.Reading.{decode_of-read, other_refused}
use Rattle.imago_script_parts.proofs.digits.read_digits.Goals as goal

pub returns-then-not-read_piece-clause-found : goal.returns-then-not-read_piece-clause-found
returns-then-not-read_piece-clause-found c =
    let other = c.if-not-read_piece.ensures.other refl in
    (λ no. cc no, λ decodes. absurd (other_refused c.args.digits.now other decodes))

pub returns-clause-read : goal.returns-clause-read
returns-clause-read c =
    let bytes = c.pieces.bytes in
    let all : AreRead c.args.digits.now bytes (length bytes) =
    λ place inside. c.pieces.invariant place (omega arith) in
    λ yes. decode_of-read c.args.digits.now bytes (omega arith) all

pub returns-clause-found : goal.returns-clause-found
returns-clause-found c =
    let bytes = c.pieces.bytes in
    let all : AreRead c.args.digits.now bytes (length bytes) =
    λ place inside. c.pieces.invariant place (omega arith) in
    let decodes = decode_of-read c.args.digits.now bytes (omega arith) all in
    (λ yes. rw decodes refl, λ decodes. refl)
