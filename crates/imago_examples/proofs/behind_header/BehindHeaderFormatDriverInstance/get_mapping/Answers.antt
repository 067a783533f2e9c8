-- SPDX-License-Identifier: MIT
use Rattle.std.proofs.Common.{arith, sym, inl, inr, ◌≡◌, ◌+◌}
use Rattle.std.specs.Prelude.{slice_index}
use Rattle.imago_examples.specs.BehindHeaderLaws.{behind_in}
use Rattle.imago_examples.proofs.behind_header.BehindHeaderFormatDriverInstance.get_mapping.Goals as goal

pub returns-clause-right : goal.returns-clause-right
returns-clause-right g c =
    let s = c.args.self.now in
    let B = g.S.Storage.bytes s.storage in
    record {
      names = λ i h.
          let e : s.skip + c.args.offset + i ≡ s.skip + (c.args.offset + i) = omega arith in
          (slice_index B (s.skip + (c.args.offset + i)), rw e (behind_in s.skip s.size B (c.args.offset + i) (omega arith)));
      first = λ e.
          let f : s.skip + c.args.offset + 0 ≡ s.skip + c.args.offset = omega arith in
          (slice_index B (s.skip + c.args.offset), rw f (behind_in s.skip s.size B c.args.offset (omega arith)));
      eof = (λ z. absurd z, λ e. let x = behind_in s.skip s.size B c.args.offset (omega arith) in let z : ⊥ = cc in z);
      no_refusal = λ r e. let x = behind_in s.skip s.size B c.args.offset (omega arith) in let z : ⊥ = cc in z;
      empty = λ z. let n : ⊥ = omega arith in absurd n;
    }
