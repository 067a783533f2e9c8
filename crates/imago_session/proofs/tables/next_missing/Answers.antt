-- SPDX-License-Identifier: MIT
use Rattle.std.proofs.Common.{◌+◌, ◌*◌, ◌≤◌, ◌∙◌, ℕ, List, refl, ap, sym, subst, arith}
use Rattle.imago_qcow2.specs.Numbers.{be64}
use Rattle.imago_qcow2.specs.Entry.{table_in_entry}
use Rattle.imago_session.proofs.LoadedSteps.{keeps_refl}
use Rattle.imago_session.proofs.TableSteps.{tables_more, loads_tables}
use Rattle.imago_session.proofs.ReadSteps.{none_is, table_inside}
use Rattle.imago_session.proofs.tables.next_missing.Goals as goal

pub missing_of-missing-requires-clause-inside : goal.missing_of-missing-requires-clause-inside
missing_of-missing-requires-clause-inside c = λ at is.
    let cluster = c.loop-tables.tables.table.cluster in
    subst (λ (n : ℕ). at + cluster ≤ n) c.requires
    (table_inside c.args.length cluster (be64 c.deref.result.now (8 * c.loop-tables.tables.index)) at (sym c.l2_table-says.ensures.says ∙ is))

pub loop-tables-preserved : goal.loop-tables-preserved
loop-tables-preserved c = λ most bytes part of.
    let f = c.args.file.now in
    let t = c.loop-tables.tables in
    let old = c.loop-tables.invariant most bytes part of in
    record {
      head = old.head;
      entries = old.entries;
      few = old.few;
      first = old.first;
      l1 = old.l1;
      l2 = tables_more t.entries.items t.table.cluster f.length t.index f f (keeps_refl f) old.l2
          (λ at is. c.missing_of-missing.ensures.there (none_is _ (sym c.is_some.ensures ∙ c.if-is_some.false)) at
          (c.l2_table-says.ensures.says
          ∙ ap (λ (n : ℕ). table_in_entry n t.table.cluster (be64 c.deref.result.now (8 * t.index))) c.requires
          ∙ ap (λ (xs : List ℕ). table_in_entry f.length t.table.cluster (be64 xs (8 * t.index))) c.deref.ensures.value
          ∙ is));
    }

pub returns-clause-tables : goal.returns-clause-tables
returns-clause-tables c = λ none most bytes part of.
    let f = c.args.file.now in
    let t = c.loop-tables.tables in
    let old = c.loop-tables.invariant most bytes part of in
    let h = old.head in
    loads_tables bytes h.0 t.entries.items f t.table.start t.table.count t.table.cluster f.length h.1 old.entries t.whole h.2 h.3 h.4 part.1
    part.0 refl f.positive (omega (arith, t.least)) old.first old.l1
    (λ i at lt is. old.l2 i at (omega (arith, lt, c.loop-tables-test.false)) is)
