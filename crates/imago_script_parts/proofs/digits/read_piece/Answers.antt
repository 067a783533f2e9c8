-- SPDX-License-Identifier: MIT
use Rattle.std.proofs.Common.{◌+◌, ◌*◌, inl, inr, arith}
use Rattle.std.proofs.lemmas.Bool.{cases_lt}
use Rattle.imago_script_parts.proofs.Reading.{read_values, other_at}
use Rattle.imago_script_parts.proofs.digits.read_piece.Goals as goal

pub bytes-preserved : goal.bytes-preserved
bytes-preserved c =
    let digits = c.args.digits.now in
    let place = c.bytes.place in
    let high = c.value_of-high.result in
    let low = c.value_of-low.result in record {
      read = λ small.
          read_values digits c.bytes.bytes place high low c.byte_of.result (omega arith)
          (c.bytes.invariant.read (omega arith)) c.value_of-high.ensures c.value_of-low.ensures
          (omega arith) (omega arith) (c.byte_of.ensures (omega arith) (omega arith));
      other = λ large.
          elim (cases_lt c.bytes.worst 16) [
            | inl before ↦
                elim (cases_lt high 16) [
                  | inl first ↦
                      other_at digits (2 * place + 1) low (omega arith) c.value_of-low.ensures
                      (omega arith)
                  | inr first ↦
                      other_at digits (2 * place) high (omega arith) c.value_of-high.ensures first
                ]
            | inr before ↦ c.bytes.invariant.other before
          ];
    }
