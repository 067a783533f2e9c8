-- SPDX-License-Identifier: MIT
use Rattle.std.proofs.Common.{arith}
use Rattle.imago_vmdk.proofs.Cuts.{not_true, first_line, one_line}
use Rattle.imago_vmdk.proofs.descriptor.cut_line.Goals as goal

pub returns-in-Some-clause-lines : goal.returns-in-Some-clause-lines
returns-in-Some-clause-lines c =
    let found = rw c.in-Some.is at c.memchr.ensures in
    first_line c.in-Some.end c.args.text.now found.0.high found.1 (λ k h. not_true _ (found.0.before k (omega arith) h))

pub returns-in-None-clause-lines : goal.returns-in-None-clause-lines
returns-in-None-clause-lines c =
    let none = rw c.in-None.is at c.memchr.ensures in
    one_line c.args.text.now (λ k h. not_true _ (none k (omega arith) h))
