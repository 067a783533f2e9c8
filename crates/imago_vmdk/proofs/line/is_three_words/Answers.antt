-- SPDX-License-Identifier: MIT
use Rattle.std.proofs.Common.{refl}
use Rattle.std.proofs.lemmas.Iterator.Consumers.{count_from_yields_List}
use Rattle.imago_vmdk.proofs.Words.{yields_words}
use Rattle.imago_vmdk.proofs.line.is_three_words.Goals as goal

pub returns : goal.returns
returns c =
    let e = c.split_whitespace.ensures.rest in
    let n = count_from_yields_List c.split_whitespace.result c.count.result c.count.ensures.ran (yields_words c.split_whitespace.result (rw e c.utf8.text)) in
    rw (n, e) refl
