-- SPDX-License-Identifier: MIT
use Rattle.std.proofs.Common.{◌∙◌, length, sym}
use Rattle.imago_session.specs.Opening.{wanted}
use Rattle.imago_session.proofs.AskSteps.{no_other, no_count, some_asked, count_of, other_of, no_answer, answer_count}
use Rattle.imago_session.proofs.session.Session.give.Goals as goal

pub returns-in_default-clause-miscounted : goal.returns-in_default-clause-miscounted
returns-in_default-clause-miscounted c = λ h. absurd (no_other (wanted c.args.self.now) (length c.args.bytes.now) (λ k from count is. c.in_default.not-Bytes k from count (c.want.ensures.wanted ∙ is)) h)

pub returns-in_default-clause-refused : goal.returns-in_default-clause-refused
returns-in_default-clause-refused c = λ h. absurd (no_count (wanted c.args.self.now) (length c.args.bytes.now) (λ k from count is. c.in_default.not-Bytes k from count (c.want.ensures.wanted ∙ is)) h)

pub returns-then-bytes-count-clause-unasked : goal.returns-then-bytes-count-clause-unasked
returns-then-bytes-count-clause-unasked c = λ h. let b = c.in-Bytes in
    absurd (some_asked (wanted c.args.self.now) b.field-0 b.field-1 b.count (sym c.want.ensures.wanted ∙ b.is) h)

pub returns-then-bytes-count-clause-refused : goal.returns-then-bytes-count-clause-refused
returns-then-bytes-count-clause-refused c = λ h. let b = c.in-Bytes in
    absurd (c.if-bytes-count.true (count_of (wanted c.args.self.now) b.field-0 b.field-1 b.count (length c.args.bytes.now) (sym c.want.ensures.wanted ∙ b.is) h))

pub returns-clause-unasked : goal.returns-clause-unasked
returns-clause-unasked c = λ h. let b = c.in-Bytes in
    absurd (some_asked (wanted c.args.self.now) b.field-0 b.field-1 b.count (sym c.want.ensures.wanted ∙ b.is) h)

pub returns-clause-miscounted : goal.returns-clause-miscounted
returns-clause-miscounted c = λ h. let b = c.in-Bytes in
    absurd (other_of (wanted c.args.self.now) b.field-0 b.field-1 b.count (length c.args.bytes.now) (sym c.want.ensures.wanted ∙ b.is) h c.if-bytes-count.false)

pub returns-in_default-clause-cause : goal.returns-in_default-clause-cause
returns-in_default-clause-cause c = λ files answer of.
    absurd (no_answer files (wanted c.args.self.now) c.args.bytes.now (λ k from count is. c.in_default.not-Bytes k from count (c.want.ensures.wanted ∙ is)) answer)

pub returns-then-bytes-count-clause-cause : goal.returns-then-bytes-count-clause-cause
returns-then-bytes-count-clause-cause c = λ files answer of. let b = c.in-Bytes in
    absurd (c.if-bytes-count.true (answer_count files (wanted c.args.self.now) b.field-0 b.field-1 b.count c.args.bytes.now (sym c.want.ensures.wanted ∙ b.is) answer))
