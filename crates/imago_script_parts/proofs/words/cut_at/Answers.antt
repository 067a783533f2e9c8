-- SPDX-License-Identifier: MIT
use Rattle.std.proofs.Common.{◌≡◌, slice_index, arith}
use Rattle.std.proofs.lemmas.Bool.Decides.{nat_tests}
use Rattle.imago_script_parts.proofs.Cut.{cut_there, cut_nowhere}
use Rattle.imago_script_parts.proofs.words.cut_at.Goals as goal

pub returns-in-Some-clause-cut : goal.returns-in-Some-clause-cut
returns-in-Some-clause-cut c =
    let text = c.args.text.now in
    let found = rw c.in-Some.is at c.memchr.ensures in
    let at = c.in-Some.at in
    let there : slice_index text at ≡ c.args.separator = grind (arith, nat_tests, found.1) in
    cut_there c.args.separator at text found.0.high there (λ k h e. found.0.before k (omega arith) h (grind (arith, nat_tests, e)))

pub returns-in-None-clause-cut : goal.returns-in-None-clause-cut
returns-in-None-clause-cut c =
    let text = c.args.text.now in
    let none = rw c.in-None.is at c.memchr.ensures in
    cut_nowhere c.args.separator text (λ k h e. none k (omega arith) h (grind (arith, nat_tests, e)))
