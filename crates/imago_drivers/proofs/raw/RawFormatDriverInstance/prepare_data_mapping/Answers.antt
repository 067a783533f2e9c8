-- SPDX-License-Identifier: MIT
use Rattle.std.proofs.Common.{◌≡◌, arith, refl, ◌+◌}
use Rattle.std.specs.Prelude.{slice_index}
use Rattle.imago_drivers.specs.RawLaws.{raw_in}
use Rattle.imago_drivers.proofs.raw.RawFormatDriverInstance.prepare_data_mapping.Goals as goal

pub returns-clause-prepared : goal.returns-clause-prepared
returns-clause-prepared g c =
    let s = c.args.self.now in
    let B = g.S.Storage.bytes s.storage in
    let m = c.existing.result in
    let n : m.length ≡ c.args.count = c.existing.ensures.length in
    record {
      within = omega (arith, n);
      some = λ h. omega (arith, n);
      part = n;
      whole = λ h. n;
      no_memory = λ h. (h, rw n h, λ t. t.1);
      later = λ i. rw n (omega arith);
      around = λ q e. let z : ⊥ = cc in absurd z;
      direct = λ e. (
        refl,
        λ i h. (
          slice_index B (c.args.offset + i),
          rw (c.existing.ensures.storage, c.existing.ensures.offset) (raw_in s.size B (c.args.offset + i) (omega (arith, n, c.requires.inside))),
        ),
      );
      apart = λ t e. let x = c.existing.ensures.state in let z : ⊥ = cc in absurd z;
      round = λ k tells. tt;
      near = λ q e. let z : ⊥ = cc in absurd z;
    }
