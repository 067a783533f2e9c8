-- SPDX-License-Identifier: MIT
use Rattle.std.proofs.Common.{◌*◌, ◌∙◌, ◌<◌, ◌≤◌, ℕ, List, length, inl, inr, ⊎_elim, refl, sym, ap, subst, arith}
use Rattle.std.proofs.lemmas.Result.{err_from_is_err_and}
use Rattle.imago_session.proofs.ReadSteps.{there_part, head_is, read_is}
use Rattle.imago_qcow2.specs.Limit.{tables_length}
use Rattle.imago_session.proofs.KnownSteps.{head_refused}
use Rattle.imago_session.proofs.TableSteps.{own_l1, own_tables}
use Rattle.imago_session.proofs.tables.head_step.Goals as goal

pub returns-in_err-table-clause-refused : goal.returns-in_err-table-clause-refused
returns-in_err-table-clause-refused c =
    let f = c.args.file.now in
    let there = there_part f c.min.result 112 (omega (arith, c.min.ensures, c.length-length.ensures)) (c.first_missing.ensures.there c.in_default.is) in
    let p = err_from_is_err_and c.from_residual.result c.from_residual.ensures.1 in
    rw (p.1, p.2) (head_refused f there c.in_err-table.field-0.0 c.in_err-table.ensures.refused c.args.most)

pub returns-clause-ready : goal.returns-clause-ready
returns-clause-ready c = λ bytes part.
    let f = c.args.file.now in
    let t = c.in_ok-table.table in
    let h = c.in_ok-table.ensures.head in
    let read = c.in_ok-entries.entries.items in
    let there = there_part f c.min.result 112 (omega (arith, c.min.ensures, c.length-length.ensures)) (c.first_missing.ensures.there c.in_default.is) in
    let head = head_is bytes f h.0 part there h.1 h.2 in
    let entries = read_is bytes f t.start (8 * t.count) read part.0 part.1 f.positive (c.first_missing-3.ensures.there c.in_default-first_missing-2.is) c.in_ok-entries.ensures.whole c.in_ok-entries.ensures.bytes in
    let whole = c.in_ok-entries.ensures.whole in
    let same = c.deref.ensures.value in
    let counted = c.in_ok-refuse_many.ensures.few bytes t.count (c.length-length.ensures ∙ sym part.1) (ap length same ∙ whole) in
    record {
      head = (h.0, head, h.3, h.4, h.5);
      entries = entries;
      few = (
        omega (arith, h.6, own_l1 bytes h.0 read f t.start t.count t.cluster (length bytes) head entries whole h.3 h.4 h.5 refl),
        subst (λ (n : ℕ). n ≤ c.args.most) (own_tables bytes h.0 read f t.start t.count t.cluster (length bytes) head entries whole h.3 h.4 h.5 refl)
            (subst (λ (xs : List ℕ). tables_length bytes t.cluster xs t.count ≤ c.args.most) same counted),
      );
      first = there_part f c.min-2.result t.cluster (omega (arith, c.min-2.ensures, c.length-length.ensures)) (c.first_missing-2.ensures.there c.in_default-first_missing.is);
      l1 = c.first_missing-3.ensures.there c.in_default-first_missing-2.is;
      l2 = λ i at lt is. absurd (omega (arith, lt));
    }

pub returns-in_err-refuse_many-clause-refused : goal.returns-in_err-refuse_many-clause-refused
returns-in_err-refuse_many-clause-refused c =
    let f = c.args.file.now in
    let t = c.in_ok-table.table in
    let h = c.in_ok-table.ensures.head in
    let read = c.in_ok-entries.entries.items in
    let there = there_part f c.min.result 112 (omega (arith, c.min.ensures, c.length-length.ensures)) (c.first_missing.ensures.there c.in_default.is) in
    let whole = c.in_ok-entries.ensures.whole in
    let same = c.deref.ensures.value in
    let p = err_from_is_err_and c.from_residual-in_err-refuse_many.result c.from_residual-in_err-refuse_many.ensures.1 in
    rw (p.1, p.2) (⊎_elim
    (λ memory. inl memory)
    (λ many. inr (λ bytes part.
    let head = head_is bytes f h.0 part there h.1 h.2 in
    let entries = read_is bytes f t.start (8 * t.count) read part.0 part.1 f.positive (c.first_missing-3.ensures.there c.in_default-first_missing-2.is) whole c.in_ok-entries.ensures.bytes in
    let counted = many.1 bytes t.count (c.length-length.ensures ∙ sym part.1) (ap length same ∙ whole) in
    inr (
      inr (subst (λ (n : ℕ). c.args.most < n) (own_tables bytes h.0 read f t.start t.count t.cluster (length bytes) head entries whole h.3 h.4 h.5 refl)
          (subst (λ (xs : List ℕ). c.args.most < tables_length bytes t.cluster xs t.count) same counted)),
      many.0,
    )))
    c.in_err-refuse_many.ensures.refused)
