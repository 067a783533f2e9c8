-- SPDX-License-Identifier: MIT
use Rattle.std.proofs.Common.{sym, ◌∙◌, ◌≡◌, Some}
use Rattle.std.specs.Prelude.{slice_get}
use Rattle.imago_test_tables.specs.Pair.{at_index}
use Rattle.imago_test_tables.proofs.SparseSteps.{one_kind, sparse_right}
use Rattle.imago_test_tables.proofs.sparse.SparseFormatDriverInstance.get_mapping.Goals as goal

pub returns-clause-part : goal.returns-clause-part
returns-clause-part g c =
    let s = c.args.self.now in
    let at : slice_get s.table.items c.args.offset ≡ Some c.in-Some.origin = rw c.deref.ensures.value at (sym c.entry.ensures ∙ c.in-Some.is) in
    (c.run_of.ensures.most, one_kind s.table.items c.args.offset c.run_of.result (Some c.in-Some.origin) at (rw (c.deref-2.ensures.value) at c.run_of.ensures.equal))

pub returns-clause-right : goal.returns-clause-right
returns-clause-right g c =
    let s = c.args.self.now in
    let at : slice_get s.table.items c.args.offset ≡ Some c.in-Some.origin = rw c.deref.ensures.value at (sym c.entry.ensures ∙ c.in-Some.is) in
    sparse_right (at_index (g.S.Storage.bytes s.storages.first) (g.S.Storage.bytes s.storages.second)) s.table.items c.args.offset c.args.max_length c.run_of.result c.in-Some.origin _ at
    (sym c.shallow_mapping.ensures ∙ c.in_ok-mapping.was) (rw c.deref-2.ensures.value at c.run_of.ensures.equal) (rw c.deref-2.ensures.value at c.run_of.ensures.ends)
