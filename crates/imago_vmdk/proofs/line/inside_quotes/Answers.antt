-- SPDX-License-Identifier: MIT
use Rattle.std.proofs.Common.{Some, lit<}
use Rattle.std.proofs.lemmas.Str.Pattern.{strip_prefix_char, strip_suffix_char}
use Rattle.imago_vmdk.proofs.Quotes.{no_front, no_back, both}
use Rattle.imago_vmdk.proofs.line.inside_quotes.Goals as goal

pub returns-in_default : goal.returns-in_default
returns-in_default c = no_front c.args.text.now c.in_default.ensures.cases

pub returns-in_default-strip_suffix : goal.returns-in_default-strip_suffix
returns-in_default-strip_suffix c =
    let front = strip_prefix_char 34 c.args.text.now (Some c.in-Some.rest) c.in-Some.ensures.cases (lit< tt) in
    no_back c.args.text.now c.in-Some.rest.now front c.in_default-strip_suffix.ensures.cases

pub returns : goal.returns
returns c =
    let front = strip_prefix_char 34 c.args.text.now (Some c.in-Some.rest) c.in-Some.ensures.cases (lit< tt) in
    let back = strip_suffix_char 34 c.in-Some.rest.now (Some c.in-Some-strip_suffix.inner) c.in-Some-strip_suffix.ensures.cases (lit< tt) in
    both c.args.text.now c.in-Some.rest.now c.in-Some-strip_suffix.inner.now front back
