-- SPDX-License-Identifier: MIT
use Rattle.std.proofs.Common.{rules, arith, ◌&&◌, ℕ, refl, sym, ◌≡◌, ◌+◌, ◌<◌, true, false}
use Rattle.std.specs.Prelude.{is_none}
use Rattle.imago_drivers.proofs.RawSteps.{if_ok, if_err, ok_of, err_of, foreign_stateless, foreign_not, written_stateless}
use Rattle.imago_drivers.proofs.StorageBytes.{not_foreign}
use Rattle.imago_test_tables.proofs.SparseSteps.{sparse_put, unwritten, nothing_written, apart_written, stranger, no_stranger, still_waits, stays_equal}
use Rattle.imago_test_tables.specs.Pair.{at_index}
use Rattle.imago_test_tables.specs.Sparse.{sparse_view, sparse_place, sparse_pending}
use Rattle.imago_drivers.specs.Place.{HasStranger}
use Rattle.imago_test_tables.proofs.sparse.SparseFormatDriverInstance.write_prepared.Goals as goal

add_assoc : (a b c : ℕ) → a + b + c ≡ a + (b + c)
add_assoc a b c = omega arith

pub returns-clause-foreign : goal.returns-clause-foreign
returns-clause-foreign g c =
    let s = c.args.self.now in
    let m = c.args.mapping.now in
    let i = rw c.in-Some.is at c.stored_origin.ensures in
    let equal = rw c.deref.ensures.value at c.run_of.ensures.equal in
    let bytes = at_index (g.S.Storage.bytes s.storages.first) (g.S.Storage.bytes s.storages.second) in
    let all : c.run_of.result ≡ c.length-count.result = omega (arith, c.run_of.ensures.most, c.if-run_of-count.false) in
    let stateless : is_none m.state ≡ true = sym c.if-not-is_nonblocking.ensures in
    let none : HasStranger (sparse_place bytes s.table.items) m.storage m.offset m.length → ⊥ =
    rw (c.storage-index.ensures, c.offset-start.ensures, c.length-count.ensures) at (no_stranger bytes s.table.items c.in-Some.origin c.storage-index.result c.offset-start.result c.length-count.result (i.1) (rw all at equal)) in (
      λ e. absurd (not_foreign c.write-2.result c.write-2.ensures.only e),
      λ f. absurd (foreign_not (sparse_view (g.S.Storage.features s.storages.first) (g.S.Storage.features s.storages.second) (g.S.Storage.fault_count s.storages.first + g.S.Storage.fault_count s.storages.second + s.storages.faults)
          (g.S.Storage.bytes s.storages.first) (g.S.Storage.bytes s.storages.second) s.table.items s.size s.settings s.short s.waiting) m m.state stateless c.if-not-self.false none f),
    )

pub returns-then-run_of-count-clause-foreign : goal.returns-then-run_of-count-clause-foreign
returns-then-run_of-count-clause-foreign g c =
    let s = c.args.self.now in
    let m = c.args.mapping.now in
    let i = rw c.in-Some.is at c.stored_origin.ensures in
    let bytes = at_index (g.S.Storage.bytes s.storages.first) (g.S.Storage.bytes s.storages.second) in
    let ends = rw c.deref.ensures.value at (c.run_of.ensures.ends (omega (arith, c.if-run_of-count.true))) in
    let stateless : is_none m.state ≡ true = sym c.if-not-is_nonblocking.ensures in
    let one : HasStranger (sparse_place bytes s.table.items) m.storage m.offset m.length =
    rw (c.storage-index.ensures, c.offset-start.ensures, c.length-count.ensures) at (stranger bytes s.table.items c.in-Some.origin c.storage-index.result c.offset-start.result c.length-count.result c.run_of.result (i.1) (omega (arith, c.if-run_of-count.true)) ends) in (
      λ e. foreign_stateless (sparse_view (g.S.Storage.features s.storages.first) (g.S.Storage.features s.storages.second) (g.S.Storage.fault_count s.storages.first + g.S.Storage.fault_count s.storages.second + s.storages.faults)
          (g.S.Storage.bytes s.storages.first) (g.S.Storage.bytes s.storages.second) s.table.items s.size s.settings s.short s.waiting) m m.state stateless one,
      λ f. refl,
    )

pub returns-then-not-is_waiting-clause-call : goal.returns-then-not-is_waiting-clause-call
returns-then-not-is_waiting-clause-call g c = record {
  written = search rules;
  torn = unwritten _ c.args.mapping.now c.args.mapping.now.state c.args.at c.args.source.now;
  round = search rules;
  causes = search rules;
  reaches = search rules;
  storages = search rules;
  framed = search rules;
  refusals = search rules;
}

pub returns-then-not-self-clause-call : goal.returns-then-not-self-clause-call
returns-then-not-self-clause-call g c = record {
  written = search rules;
  torn = unwritten _ c.args.mapping.now c.args.mapping.now.state c.args.at c.args.source.now;
  round = search rules;
  causes = search rules;
  reaches = search rules;
  storages = search rules;
  framed = search rules;
  refusals = search rules;
}

pub returns-in_default-clause-call : goal.returns-in_default-clause-call
returns-in_default-clause-call g c = record {
  written = search rules;
  torn = unwritten _ c.args.mapping.now c.args.mapping.now.state c.args.at c.args.source.now;
  round = search rules;
  causes = search rules;
  reaches = search rules;
  storages = search rules;
  framed = search rules;
  refusals = search rules;
}

pub returns-then-run_of-count-clause-call : goal.returns-then-run_of-count-clause-call
returns-then-run_of-count-clause-call g c = record {
  written = search rules;
  torn = unwritten _ c.args.mapping.now c.args.mapping.now.state c.args.at c.args.source.now;
  round = search rules;
  causes = search rules;
  reaches = search rules;
  storages = search rules;
  framed = search rules;
  refusals = search rules;
}

pub returns-then-count-eq0-clause-call : goal.returns-then-count-eq0-clause-call
returns-then-count-eq0-clause-call g c = record {
  written =
      let m = c.args.mapping.now in
      let stateless : is_none m.state ≡ true = sym c.if-not-is_nonblocking.ensures in
      nothing_written _ m m.state c.args.at c.args.source.now stateless (omega (arith, c.requires, c.length-count.ensures, c.if-count-eq0.true));
  torn = search rules;
  round = search rules;
  causes = search rules;
  reaches = search rules;
  storages = search rules;
  framed = search rules;
  refusals = search rules;
}

pub returns-then-not-is_nonblocking-clause-call : goal.returns-then-not-is_nonblocking-clause-call
returns-then-not-is_nonblocking-clause-call g c = record {
  written =
      let s = c.args.self.now in
      let m = c.args.mapping.now in
      let t = c.write.new.self in
      let own = (c.is_waiting.ensures).0 c.if-not-is_waiting.false in
      if_ok c.write.result (λ x e. apart_written (g.S.Storage.features s.storages.first) (g.S.Storage.features s.storages.second) _ _
      (g.S.Storage.bytes s.storages.first) (g.S.Storage.bytes s.storages.second) (g.S.Storage.bytes t.first) s.table.items s.size s.settings s.short
      (g.S.Storage.features t.first) (g.S.Storage.features t.second) (g.S.Storage.bytes t.second) s.waiting m m.state c.args.at c.args.source.now false
      (c.write.ensures.other 1 (omega arith) (omega arith)) c.write.ensures.first_features c.write.ensures.second_features refl own s.waits_apart c.requires (λ k. rw c.offset-start.ensures at (ok_of x e (c.write.ensures.written k))));
  torn =
      let s = c.args.self.now in
      let m = c.args.mapping.now in
      let t = c.write.new.self in
      let own = (c.is_waiting.ensures).0 c.if-not-is_waiting.false in
      if_err c.write.result (λ x e. apart_written (g.S.Storage.features s.storages.first) (g.S.Storage.features s.storages.second) _ _
      (g.S.Storage.bytes s.storages.first) (g.S.Storage.bytes s.storages.second) (g.S.Storage.bytes t.first) s.table.items s.size s.settings s.short
      (g.S.Storage.features t.first) (g.S.Storage.features t.second) (g.S.Storage.bytes t.second) s.waiting m m.state c.args.at c.args.source.now true
      (c.write.ensures.other 1 (omega arith) (omega arith)) c.write.ensures.first_features c.write.ensures.second_features refl own s.waits_apart c.requires (λ k. rw c.offset-start.ensures at (err_of x e (c.write.ensures.torn k))));
  round = search rules;
  causes = search rules;
  reaches = search rules;
  storages = search rules;
  framed = search rules;
  refusals = search rules;
}

pub returns-clause-call : goal.returns-clause-call
returns-clause-call g c = record {
  written =
      let s = c.args.self.now in
      let m = c.args.mapping.now in
      let t = c.write-2.new.self in
      let i = rw c.in-Some.is at c.stored_origin.ensures in
      let stateless : is_none m.state ≡ true = sym c.if-not-is_nonblocking.ensures in
      let equal = rw c.deref.ensures.value at c.run_of.ensures.equal in
      let keeps = (g.S.Storage.features s.storages.first).keeps_data && (g.S.Storage.features s.storages.second).keeps_data in
      if_ok c.write-2.result (λ x e.
      written_stateless _ _ m m.state false c.args.at c.args.source.now stateless
      (stays_equal keeps (sparse_pending keeps (g.S.Storage.bytes s.storages.first) s.waiting) (sparse_pending ((g.S.Storage.features t.first).keeps_data && (g.S.Storage.features t.second).keeps_data) (g.S.Storage.bytes t.first) s.waiting) (rw (c.write-2.ensures.first_features, c.write-2.ensures.second_features) (still_waits keeps (at_index (g.S.Storage.bytes s.storages.first) (g.S.Storage.bytes s.storages.second)) (at_index (g.S.Storage.bytes t.first) (g.S.Storage.bytes t.second))
      s.table.items s.waiting c.storage-index.result (c.offset-start.result + c.args.at) c.args.source.now false c.in-Some.origin (i.0) (i.1) s.waits_apart
      (λ k l. let u : c.args.at + k < c.run_of.result = omega (arith, c.requires, c.if-run_of-count.false, c.length-count.ensures) in rw (add_assoc c.offset-start.result c.args.at k) (equal (c.args.at + k) u))
      (λ k. ok_of x e (c.write-2.ensures.written k)) c.write-2.ensures.other)))
      (rw (c.storage-index.ensures, c.offset-start.ensures) at (sparse_put _ _ s.table.items c.storage-index.result (c.offset-start.result + c.args.at) c.args.source.now false keeps (i.0) (λ k. ok_of x e (c.write-2.ensures.written k)) c.write-2.ensures.other)));
  torn =
      let s = c.args.self.now in
      let m = c.args.mapping.now in
      let t = c.write-2.new.self in
      let i = rw c.in-Some.is at c.stored_origin.ensures in
      let stateless : is_none m.state ≡ true = sym c.if-not-is_nonblocking.ensures in
      let equal = rw c.deref.ensures.value at c.run_of.ensures.equal in
      let keeps = (g.S.Storage.features s.storages.first).keeps_data && (g.S.Storage.features s.storages.second).keeps_data in
      if_err c.write-2.result (λ x e.
      written_stateless _ _ m m.state true c.args.at c.args.source.now stateless
      (stays_equal keeps (sparse_pending keeps (g.S.Storage.bytes s.storages.first) s.waiting) (sparse_pending ((g.S.Storage.features t.first).keeps_data && (g.S.Storage.features t.second).keeps_data) (g.S.Storage.bytes t.first) s.waiting) (rw (c.write-2.ensures.first_features, c.write-2.ensures.second_features) (still_waits keeps (at_index (g.S.Storage.bytes s.storages.first) (g.S.Storage.bytes s.storages.second)) (at_index (g.S.Storage.bytes t.first) (g.S.Storage.bytes t.second))
      s.table.items s.waiting c.storage-index.result (c.offset-start.result + c.args.at) c.args.source.now true c.in-Some.origin (i.0) (i.1) s.waits_apart
      (λ k l. let u : c.args.at + k < c.run_of.result = omega (arith, c.requires, c.if-run_of-count.false, c.length-count.ensures) in rw (add_assoc c.offset-start.result c.args.at k) (equal (c.args.at + k) u))
      (λ k. err_of x e (c.write-2.ensures.torn k)) c.write-2.ensures.other)))
      (rw (c.storage-index.ensures, c.offset-start.ensures) at (sparse_put _ _ s.table.items c.storage-index.result (c.offset-start.result + c.args.at) c.args.source.now true keeps (i.0) (λ k. err_of x e (c.write-2.ensures.torn k)) c.write-2.ensures.other)));
  round = search rules;
  causes = search rules;
  reaches = search rules;
  storages = search rules;
  framed = search rules;
  refusals = search rules;
}
