-- SPDX-License-Identifier: MIT
use Rattle.std.proofs.Common.{arith, inr, ◌+◌}
use Rattle.std.specs.Prelude.{slice_index}
use Rattle.imago_drivers.specs.RawLaws.{raw_in, raw_refused}
use Rattle.imago_drivers.proofs.RawSteps.{raw_first}
use Rattle.imago_drivers.proofs.raw.RawFormatDriverInstance.get_mapping.Goals as goal

pub returns-clause-right : goal.returns-clause-right
returns-clause-right g c =
    let s = c.args.self.now in
    let B = g.S.Storage.bytes s.storage in
    let m = c.min.ensures in
    record {
      names = λ i h. (slice_index B (c.args.offset + i), raw_in s.size B (c.args.offset + i) (omega (arith, m)));
      first = λ e. raw_first s.size B c.args.offset (omega arith);
      eof = (λ z. absurd z, λ e. let x = raw_in s.size B c.args.offset (omega arith) in let z : ⊥ = cc in z);
      no_refusal = λ e. raw_refused s.size B c.args.offset e;
      empty = λ z. inr (omega (arith, m));
    }
