-- SPDX-License-Identifier: MIT
use Rattle.std.proofs.Common.{◌≡◌, ◌+◌, ◌∙◌, ap, arith}
use Rattle.imago_drivers.specs.Place.{Byte}
use Rattle.imago_test_drivers.specs.declared.pattern.Kind.{Kind}
use Rattle.imago_test_drivers.specs.Pattern.{pattern_at}
use Rattle.imago_test_drivers.specs.PatternLaws.{pattern_in, pattern_refused}
use Rattle.imago_test_drivers.proofs.pattern.PatternFormatDriverInstance.get_mapping.Goals as goal

pub returns-in-Special-clause-right : goal.returns-in-Special-clause-right
returns-in-Special-clause-right c =
    let s = c.args.self.now in
    let o = c.args.offset in
    let is : s.kind ≡ Kind.Special c.in-Special.byte c.in-Special.readable = c.in-Special.is in
    let here = pattern_in s.kind s.size o (omega (arith, c.if-offset-self.false))
    ∙ ap (λ k. pattern_at k o) is in
    let start : o + 0 ≡ o = omega arith in
    record {
      names = λ i h. (
        Byte c.in-Special.byte,
        pattern_in s.kind s.size (o + i) (omega (arith, h, c.if-offset-self.false))
            ∙ ap (λ k. pattern_at k (o + i)) is,
      );
      first = λ e. (Byte c.in-Special.byte, rw start here);
      eof = (λ z. absurd z, λ e. let z : ⊥ = cc in z);
      no_refusal = λ e. pattern_refused s.kind s.size o e;
      empty = λ z. absurd (omega (arith, z, c.if-offset-self.false));
    }
