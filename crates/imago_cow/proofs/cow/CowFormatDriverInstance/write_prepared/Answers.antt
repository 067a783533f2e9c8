-- SPDX-License-Identifier: MIT
use Rattle.std.proofs.Common.{rules, inr, ◌≡◌, ◌+◌, ◌*◌, ◌≤◌, Some, true, false, arith, refl, sym, length}
use Rattle.std.specs.Prelude.{is_none}
use Rattle.imago_storage.specs.declared.error.Error.{Error}
use Rattle.imago_storage.specs.Features.{IsAlignedRequest, MayRunOut}
use Rattle.imago_drivers.specs.Place.{BytesAreWritable, HasStranger}
use Rattle.imago_drivers.specs.Pending.{IsOwn}
use Rattle.imago_drivers.proofs.RawSteps.{foreign_stateless, foreign_not, written_stateless}
use Rattle.imago_drivers.proofs.StorageBytes.{either_bytes}
use Rattle.imago_cow.specs.TableView.{entries_of, count_of}
use Rattle.imago_cow.specs.Guest.{cow_place}
use Rattle.imago_cow.specs.Cow.{cow_view, cow_pending, WaitsApart}
use Rattle.imago_cow.proofs.MapSteps.{number_ends}
use Rattle.imago_cow.proofs.DirectSteps.{refused_some}
use Rattle.imago_cow.proofs.StoredSteps.{on_ok, on_err, ok_holds, err_holds}
use Rattle.imago_cow.proofs.DriverSteps.{bytes_settled, storage_faults, mapping_refused, existing_takes, waiting_takes, not_foreign, written_apart, round_stays}
use Rattle.imago_cow.proofs.WriteSteps.{own_is_written, no_stranger, pending_stays, round_other}
use Rattle.imago_cow.proofs.cow.CowFormatDriverInstance.write_prepared.Goals as goal

pub overflow_add-waiting : goal.overflow_add-waiting
overflow_add-waiting g c =
    let s = c.args.self.now in
    let m = c.args.mapping.now in
    let f = g.S.Storage.features s.storage in
    let A = g.S.Storage.bytes s.storage in
    let n = g.S.Storage.fault_count s.storage + s.faults in
    let w = c.in-Some.waiting in
    let is = c.in-Some.is in
    let own : IsOwn (cow_pending s.block.length s.size A s.waiting) m = (c.is_waiting.ensures s.block.length s.size A).0 c.if-not-is_waiting.false in
    let own_w : IsOwn (cow_pending s.block.length s.size A (Some w)) m = rw is at own in
    let apart : WaitsApart s.block.length s.size (entries_of s.table) (count_of s.table) w = s.waits_apart w is in
    let ends : w.offset + w.length ≤ count_of s.table * s.block.length = omega (arith, number_ends s.block.length w.number (count_of s.table) apart.known, apart.offset, apart.in_block) in
    omega (arith, ends, c.requires, own_w.2, s.addressed)

pub returns-then-not-is_nonblocking-clause-foreign : goal.returns-then-not-is_nonblocking-clause-foreign
returns-then-not-is_nonblocking-clause-foreign g c =
    let s = c.args.self.now in
    let m = c.args.mapping.now in
    let f = g.S.Storage.features s.storage in
    let A = g.S.Storage.bytes s.storage in
    let n = g.S.Storage.fault_count s.storage + s.faults in
    let w = c.in-Some.waiting in
    let is = c.in-Some.is in
    let own : IsOwn (cow_pending s.block.length s.size A s.waiting) m = (c.is_waiting.ensures s.block.length s.size A).0 c.if-not-is_waiting.false in
    let own_w : IsOwn (cow_pending s.block.length s.size A (Some w)) m = rw is at own in
    let apart : WaitsApart s.block.length s.size (entries_of s.table) (count_of s.table) w = s.waits_apart w is in
    let B = g.S.Storage.bytes c.write_stored.new.storage in
    let n' = g.S.Storage.fault_count c.write_stored.new.storage + s.faults in
    let r = c.write_stored.result in
    let inside : c.args.at + length c.args.source.now ≤ w.length = omega (arith, c.requires, own_w.2) in
    (λ e. absurd (not_foreign r c.write_stored.ensures.only e), λ x. absurd (own_is_written (cow_view f n A s.size s.block.length (entries_of s.table) (count_of s.table) s.waiting) m m.state w.state (own_w.3) own x))

pub returns-then-not-is_nonblocking-clause-untouched : goal.returns-then-not-is_nonblocking-clause-untouched
returns-then-not-is_nonblocking-clause-untouched g c = λ e. absurd (not_foreign c.write_stored.result c.write_stored.ensures.only e)

pub returns-then-not-shows_all-clause-foreign : goal.returns-then-not-shows_all-clause-foreign
returns-then-not-shows_all-clause-foreign g c =
    let s = c.args.self.now in
    let m = c.args.mapping.now in
    let f = g.S.Storage.features s.storage in
    let A = g.S.Storage.bytes s.storage in
    let n = g.S.Storage.fault_count s.storage + s.faults in
    let stateless : is_none m.state ≡ true = sym c.if-not-is_nonblocking.ensures in
    let stands : HasStranger (cow_place A s.size s.block.length (entries_of s.table)) m.storage m.offset m.length = rw (c.storage-index.ensures, c.offset-start.ensures, c.length-count.ensures) at (c.shows_all.ensures.stranger c.if-not-shows_all.true) in
    (λ e. foreign_stateless (cow_view f n A s.size s.block.length (entries_of s.table) (count_of s.table) s.waiting) m m.state stateless stands, λ x. refl)

pub returns-clause-foreign : goal.returns-clause-foreign
returns-clause-foreign g c =
    let s = c.args.self.now in
    let m = c.args.mapping.now in
    let f = g.S.Storage.features s.storage in
    let A = g.S.Storage.bytes s.storage in
    let n = g.S.Storage.fault_count s.storage + s.faults in
    let B = g.S.Storage.bytes c.write_stored-2.new.storage in
    let r = c.write_stored-2.result in
    let stateless : is_none m.state ≡ true = sym c.if-not-is_nonblocking.ensures in
    let shown = c.shows_all.ensures.shown c.if-not-shows_all.false in
    let zero : m.storage ≡ 0 = omega (arith, c.storage-index.ensures, shown.0) in
    let all : BytesAreWritable (cow_place A s.size s.block.length (entries_of s.table)) 0 c.offset-start.result c.length-count.result = shown.1 in
    let fits : c.args.at + length c.args.source.now ≤ c.length-count.result = omega (arith, c.requires, c.length-count.ensures) in
    let none : HasStranger (cow_place A s.size s.block.length (entries_of s.table)) 0 m.offset m.length → ⊥ = rw (c.offset-start.ensures, c.length-count.ensures) at (no_stranger (cow_place A s.size s.block.length (entries_of s.table)) c.offset-start.result c.length-count.result all) in
    let no : HasStranger (cow_place A s.size s.block.length (entries_of s.table)) m.storage m.offset m.length → ⊥ = rw zero none in
    (λ e. absurd (not_foreign r c.write_stored-2.ensures.only e), λ x. absurd (foreign_not (cow_view f n A s.size s.block.length (entries_of s.table) (count_of s.table) s.waiting) m m.state stateless refl no x))

pub returns-clause-untouched : goal.returns-clause-untouched
returns-clause-untouched g c = λ e. absurd (not_foreign c.write_stored-2.result c.write_stored-2.ensures.only e)

pub returns-then-not-is_nonblocking-clause-performed : goal.returns-then-not-is_nonblocking-clause-performed
returns-then-not-is_nonblocking-clause-performed g c =
    let s = c.args.self.now in
    let m = c.args.mapping.now in
    let A = g.S.Storage.bytes s.storage in
    let w = c.in-Some.waiting in
    let is = c.in-Some.is in
    let own : IsOwn (cow_pending s.block.length s.size A s.waiting) m = (c.is_waiting.ensures s.block.length s.size A).0 c.if-not-is_waiting.false in
    let own_w : IsOwn (cow_pending s.block.length s.size A (Some w)) m = rw is at own in
    inr (inr (own_w.0, (rw (own_w.1) (c.write_stored.ensures.call), (refl, refl, refl, refl, refl, refl))))

pub returns-clause-performed : goal.returns-clause-performed
returns-clause-performed g c =
    let shown = c.shows_all.ensures.shown c.if-not-shows_all.false in
    let zero : c.args.mapping.now.storage ≡ 0 = omega (arith, c.storage-index.ensures, shown.0) in
    inr (inr (zero, (rw (← c.offset-start.ensures) (c.write_stored-2.ensures.call), (refl, refl, refl, refl, refl, refl))))

pub returns-then-not-is_nonblocking-clause-call : goal.returns-then-not-is_nonblocking-clause-call
returns-then-not-is_nonblocking-clause-call g c = record {
  written =
      let s = c.args.self.now in
      let m = c.args.mapping.now in
      let f = g.S.Storage.features s.storage in
      let A = g.S.Storage.bytes s.storage in
      let n = g.S.Storage.fault_count s.storage + s.faults in
      let w = c.in-Some.waiting in
      let is = c.in-Some.is in
      let own : IsOwn (cow_pending s.block.length s.size A s.waiting) m = (c.is_waiting.ensures s.block.length s.size A).0 c.if-not-is_waiting.false in
      let own_w : IsOwn (cow_pending s.block.length s.size A (Some w)) m = rw is at own in
      let apart : WaitsApart s.block.length s.size (entries_of s.table) (count_of s.table) w = s.waits_apart w is in
      let B = g.S.Storage.bytes c.write_stored.new.storage in
      let n' = g.S.Storage.fault_count c.write_stored.new.storage + s.faults in
      let r = c.write_stored.result in
      let inside : c.args.at + length c.args.source.now ≤ w.length = omega (arith, c.requires, own_w.2) in
      rw (is, c.write_stored.ensures.features) (on_ok r (λ x e. written_apart f n n' A B s.size s.block.length (entries_of s.table) (count_of s.table) w s.positive s.exact.covers apart c.args.at c.args.source.now inside false m m.state (own_w.3) (λ k. ok_holds x e (c.write_stored.ensures.bytes k))));
  torn =
      let s = c.args.self.now in
      let m = c.args.mapping.now in
      let f = g.S.Storage.features s.storage in
      let A = g.S.Storage.bytes s.storage in
      let n = g.S.Storage.fault_count s.storage + s.faults in
      let w = c.in-Some.waiting in
      let is = c.in-Some.is in
      let own : IsOwn (cow_pending s.block.length s.size A s.waiting) m = (c.is_waiting.ensures s.block.length s.size A).0 c.if-not-is_waiting.false in
      let own_w : IsOwn (cow_pending s.block.length s.size A (Some w)) m = rw is at own in
      let apart : WaitsApart s.block.length s.size (entries_of s.table) (count_of s.table) w = s.waits_apart w is in
      let B = g.S.Storage.bytes c.write_stored.new.storage in
      let n' = g.S.Storage.fault_count c.write_stored.new.storage + s.faults in
      let r = c.write_stored.result in
      let inside : c.args.at + length c.args.source.now ≤ w.length = omega (arith, c.requires, own_w.2) in
      rw (is, c.write_stored.ensures.features) (on_err r (λ x e. written_apart f n n' A B s.size s.block.length (entries_of s.table) (count_of s.table) w s.positive s.exact.covers apart c.args.at c.args.source.now inside true m m.state (own_w.3) (λ k. err_holds x e (c.write_stored.ensures.torn_bytes k))));
  round =
      λ k below.
      let s = c.args.self.now in
      let m = c.args.mapping.now in
      let f = g.S.Storage.features s.storage in
      let A = g.S.Storage.bytes s.storage in
      let n = g.S.Storage.fault_count s.storage + s.faults in
      let w = c.in-Some.waiting in
      let is = c.in-Some.is in
      let own : IsOwn (cow_pending s.block.length s.size A s.waiting) m = (c.is_waiting.ensures s.block.length s.size A).0 c.if-not-is_waiting.false in
      let own_w : IsOwn (cow_pending s.block.length s.size A (Some w)) m = rw is at own in
      let apart : WaitsApart s.block.length s.size (entries_of s.table) (count_of s.table) w = s.waits_apart w is in
      let B = g.S.Storage.bytes c.write_stored.new.storage in
      let n' = g.S.Storage.fault_count c.write_stored.new.storage + s.faults in
      let r = c.write_stored.result in
      let inside : c.args.at + length c.args.source.now ≤ w.length = omega (arith, c.requires, own_w.2) in
      rw is (round_stays f n n' A B s.size s.block.length (entries_of s.table) (count_of s.table) w s.positive s.exact.covers apart c.args.at c.args.source.now inside true (λ t. either_bytes _ _ _ _ _ r (c.write_stored.ensures.bytes t) (c.write_stored.ensures.torn_bytes t)) k below);
  causes =
      let s = c.args.self.now in
      let m = c.args.mapping.now in
      let f = g.S.Storage.features s.storage in
      let A = g.S.Storage.bytes s.storage in
      let n = g.S.Storage.fault_count s.storage + s.faults in
      let w = c.in-Some.waiting in
      let is = c.in-Some.is in
      let own : IsOwn (cow_pending s.block.length s.size A s.waiting) m = (c.is_waiting.ensures s.block.length s.size A).0 c.if-not-is_waiting.false in
      let own_w : IsOwn (cow_pending s.block.length s.size A (Some w)) m = rw is at own in
      let apart : WaitsApart s.block.length s.size (entries_of s.table) (count_of s.table) w = s.waits_apart w is in
      let B = g.S.Storage.bytes c.write_stored.new.storage in
      let n' = g.S.Storage.fault_count c.write_stored.new.storage + s.faults in
      let r = c.write_stored.result in
      let inside : c.args.at + length c.args.source.now ≤ w.length = omega (arith, c.requires, own_w.2) in
      on_ok r (λ x e o q. bytes_settled f (g.S.Storage.features c.write_stored.new.storage) 0 0 A B s.size s.block.length (entries_of s.table) (count_of s.table) s.waiting s.positive s.exact.covers c.write_stored.ensures.features o (length c.args.source.now));
  reaches = search rules;
  storages =
      let s = c.args.self.now in
      let m = c.args.mapping.now in
      let f = g.S.Storage.features s.storage in
      let A = g.S.Storage.bytes s.storage in
      let n = g.S.Storage.fault_count s.storage + s.faults in
      let w = c.in-Some.waiting in
      let is = c.in-Some.is in
      let own : IsOwn (cow_pending s.block.length s.size A s.waiting) m = (c.is_waiting.ensures s.block.length s.size A).0 c.if-not-is_waiting.false in
      let own_w : IsOwn (cow_pending s.block.length s.size A (Some w)) m = rw is at own in
      let apart : WaitsApart s.block.length s.size (entries_of s.table) (count_of s.table) w = s.waits_apart w is in
      let B = g.S.Storage.bytes c.write_stored.new.storage in
      let n' = g.S.Storage.fault_count c.write_stored.new.storage + s.faults in
      let r = c.write_stored.result in
      let inside : c.args.at + length c.args.source.now ≤ w.length = omega (arith, c.requires, own_w.2) in
      record {
        lengths = rw (own_w.0, own_w.1) (c.write_stored.ensures.lengths 0 s.size s.block.length (entries_of s.table) (count_of s.table) s.waiting);
        faults = storage_faults _ _ s.faults _ _ c.write_stored.ensures.cause;
      };
  framed = search rules;
  refusals =
      let s = c.args.self.now in
      let m = c.args.mapping.now in
      let f = g.S.Storage.features s.storage in
      let A = g.S.Storage.bytes s.storage in
      let n = g.S.Storage.fault_count s.storage + s.faults in
      let w = c.in-Some.waiting in
      let is = c.in-Some.is in
      let own : IsOwn (cow_pending s.block.length s.size A s.waiting) m = (c.is_waiting.ensures s.block.length s.size A).0 c.if-not-is_waiting.false in
      let own_w : IsOwn (cow_pending s.block.length s.size A (Some w)) m = rw is at own in
      let apart : WaitsApart s.block.length s.size (entries_of s.table) (count_of s.table) w = s.waits_apart w is in
      let B = g.S.Storage.bytes c.write_stored.new.storage in
      let n' = g.S.Storage.fault_count c.write_stored.new.storage + s.faults in
      let r = c.write_stored.result in
      let inside : c.args.at + length c.args.source.now ≤ w.length = omega (arith, c.requires, own_w.2) in
      let ends : w.offset + w.length ≤ count_of s.table * s.block.length = omega (arith, number_ends s.block.length w.number (count_of s.table) apart.known, apart.offset, apart.in_block) in
      mapping_refused f n A s.size s.block.length (entries_of s.table) (count_of s.table) s.waiting m c.args.at (length c.args.source.now) r c.write_stored.ensures.only (rw (own_w.1) (c.write_stored.ensures.wraps)) (omega (arith, ends, inside, own_w.1))
      (λ refused o q.
      let len = length c.args.source.now in
      waiting_takes f n A s.size s.block.length (entries_of s.table) (count_of s.table) w m c.args.at len o s.positive apart (own_w.3) (refused_some len r Error.Memory c.write_stored.ensures.empty refused) inside (rw is at q));
}

pub returns-then-count-eq0-clause-call : goal.returns-then-count-eq0-clause-call
returns-then-count-eq0-clause-call g c = record {
  written = search rules;
  torn = search rules;
  round = search rules;
  causes =
      let s = c.args.self.now in
      let m = c.args.mapping.now in
      let f = g.S.Storage.features s.storage in
      let A = g.S.Storage.bytes s.storage in
      let n = g.S.Storage.fault_count s.storage + s.faults in
      λ o q. bytes_settled f f 0 0 A A s.size s.block.length (entries_of s.table) (count_of s.table) s.waiting s.positive s.exact.covers refl o (length c.args.source.now);
  reaches = search rules;
  storages = search rules;
  framed = search rules;
  refusals = search rules;
}

pub returns-clause-call : goal.returns-clause-call
returns-clause-call g c = record {
  written =
      let s = c.args.self.now in
      let m = c.args.mapping.now in
      let f = g.S.Storage.features s.storage in
      let A = g.S.Storage.bytes s.storage in
      let n = g.S.Storage.fault_count s.storage + s.faults in
      let B = g.S.Storage.bytes c.write_stored-2.new.storage in
      let r = c.write_stored-2.result in
      let stateless : is_none m.state ≡ true = sym c.if-not-is_nonblocking.ensures in
      let shown = c.shows_all.ensures.shown c.if-not-shows_all.false in
      let zero : m.storage ≡ 0 = omega (arith, c.storage-index.ensures, shown.0) in
      let all : BytesAreWritable (cow_place A s.size s.block.length (entries_of s.table)) 0 c.offset-start.result c.length-count.result = shown.1 in
      let fits : c.args.at + length c.args.source.now ≤ c.length-count.result = omega (arith, c.requires, c.length-count.ensures) in
      on_ok r (λ x e. written_stateless _ _ m m.state false c.args.at c.args.source.now stateless
      (pending_stays A B s.size s.block.length (entries_of s.table) (count_of s.table) s.positive c.offset-start.result c.length-count.result c.args.at c.args.source.now false fits all f.keeps_data s.waiting s.waits_apart (λ k. ok_holds x e (c.write_stored-2.ensures.bytes k)))
      (rw (zero, ← c.offset-start.ensures) (ok_holds x e (c.write_stored-2.ensures.written s.size s.block.length (entries_of s.table)))));
  torn =
      let s = c.args.self.now in
      let m = c.args.mapping.now in
      let f = g.S.Storage.features s.storage in
      let A = g.S.Storage.bytes s.storage in
      let n = g.S.Storage.fault_count s.storage + s.faults in
      let B = g.S.Storage.bytes c.write_stored-2.new.storage in
      let r = c.write_stored-2.result in
      let stateless : is_none m.state ≡ true = sym c.if-not-is_nonblocking.ensures in
      let shown = c.shows_all.ensures.shown c.if-not-shows_all.false in
      let zero : m.storage ≡ 0 = omega (arith, c.storage-index.ensures, shown.0) in
      let all : BytesAreWritable (cow_place A s.size s.block.length (entries_of s.table)) 0 c.offset-start.result c.length-count.result = shown.1 in
      let fits : c.args.at + length c.args.source.now ≤ c.length-count.result = omega (arith, c.requires, c.length-count.ensures) in
      on_err r (λ x e. written_stateless _ _ m m.state true c.args.at c.args.source.now stateless
      (pending_stays A B s.size s.block.length (entries_of s.table) (count_of s.table) s.positive c.offset-start.result c.length-count.result c.args.at c.args.source.now true fits all f.keeps_data s.waiting s.waits_apart (λ k. err_holds x e (c.write_stored-2.ensures.torn_bytes k)))
      (rw (zero, ← c.offset-start.ensures) (err_holds x e (c.write_stored-2.ensures.torn s.size s.block.length (entries_of s.table)))));
  round =
      λ k below.
      let s = c.args.self.now in
      let m = c.args.mapping.now in
      let f = g.S.Storage.features s.storage in
      let A = g.S.Storage.bytes s.storage in
      let n = g.S.Storage.fault_count s.storage + s.faults in
      let B = g.S.Storage.bytes c.write_stored-2.new.storage in
      let r = c.write_stored-2.result in
      let stateless : is_none m.state ≡ true = sym c.if-not-is_nonblocking.ensures in
      let shown = c.shows_all.ensures.shown c.if-not-shows_all.false in
      let zero : m.storage ≡ 0 = omega (arith, c.storage-index.ensures, shown.0) in
      let all : BytesAreWritable (cow_place A s.size s.block.length (entries_of s.table)) 0 c.offset-start.result c.length-count.result = shown.1 in
      let fits : c.args.at + length c.args.source.now ≤ c.length-count.result = omega (arith, c.requires, c.length-count.ensures) in
      round_other A B s.size s.block.length (entries_of s.table) (count_of s.table) s.positive c.offset-start.result c.length-count.result c.args.at c.args.source.now true fits all s.waiting s.waits_apart (either_bytes _ _ _ _ _ r (c.write_stored-2.ensures.bytes k) (c.write_stored-2.ensures.torn_bytes k)) below;
  causes =
      let s = c.args.self.now in
      let m = c.args.mapping.now in
      let f = g.S.Storage.features s.storage in
      let A = g.S.Storage.bytes s.storage in
      let n = g.S.Storage.fault_count s.storage + s.faults in
      let B = g.S.Storage.bytes c.write_stored-2.new.storage in
      let r = c.write_stored-2.result in
      let stateless : is_none m.state ≡ true = sym c.if-not-is_nonblocking.ensures in
      let shown = c.shows_all.ensures.shown c.if-not-shows_all.false in
      let zero : m.storage ≡ 0 = omega (arith, c.storage-index.ensures, shown.0) in
      let all : BytesAreWritable (cow_place A s.size s.block.length (entries_of s.table)) 0 c.offset-start.result c.length-count.result = shown.1 in
      let fits : c.args.at + length c.args.source.now ≤ c.length-count.result = omega (arith, c.requires, c.length-count.ensures) in
      on_ok r (λ x e o q. bytes_settled f (g.S.Storage.features c.write_stored-2.new.storage) 0 0 A B s.size s.block.length (entries_of s.table) (count_of s.table) s.waiting s.positive s.exact.covers c.write_stored-2.ensures.features o (length c.args.source.now));
  reaches = search rules;
  storages =
      let s = c.args.self.now in
      let m = c.args.mapping.now in
      let f = g.S.Storage.features s.storage in
      let A = g.S.Storage.bytes s.storage in
      let n = g.S.Storage.fault_count s.storage + s.faults in
      let B = g.S.Storage.bytes c.write_stored-2.new.storage in
      let r = c.write_stored-2.result in
      let stateless : is_none m.state ≡ true = sym c.if-not-is_nonblocking.ensures in
      let shown = c.shows_all.ensures.shown c.if-not-shows_all.false in
      let zero : m.storage ≡ 0 = omega (arith, c.storage-index.ensures, shown.0) in
      let all : BytesAreWritable (cow_place A s.size s.block.length (entries_of s.table)) 0 c.offset-start.result c.length-count.result = shown.1 in
      let fits : c.args.at + length c.args.source.now ≤ c.length-count.result = omega (arith, c.requires, c.length-count.ensures) in
      record {
        lengths = rw (zero, ← c.offset-start.ensures) (c.write_stored-2.ensures.lengths 0 s.size s.block.length (entries_of s.table) (count_of s.table) s.waiting);
        faults = storage_faults _ _ s.faults _ _ c.write_stored-2.ensures.cause;
      };
  framed = search rules;
  refusals =
      let s = c.args.self.now in
      let m = c.args.mapping.now in
      let f = g.S.Storage.features s.storage in
      let A = g.S.Storage.bytes s.storage in
      let n = g.S.Storage.fault_count s.storage + s.faults in
      let B = g.S.Storage.bytes c.write_stored-2.new.storage in
      let r = c.write_stored-2.result in
      let stateless : is_none m.state ≡ true = sym c.if-not-is_nonblocking.ensures in
      let shown = c.shows_all.ensures.shown c.if-not-shows_all.false in
      let zero : m.storage ≡ 0 = omega (arith, c.storage-index.ensures, shown.0) in
      let all : BytesAreWritable (cow_place A s.size s.block.length (entries_of s.table)) 0 c.offset-start.result c.length-count.result = shown.1 in
      let fits : c.args.at + length c.args.source.now ≤ c.length-count.result = omega (arith, c.requires, c.length-count.ensures) in
      mapping_refused f n A s.size s.block.length (entries_of s.table) (count_of s.table) s.waiting m c.args.at (length c.args.source.now) r c.write_stored-2.ensures.only (rw (← c.offset-start.ensures) (c.write_stored-2.ensures.wraps)) (omega (arith, c.shows_all.ensures.within c.if-not-shows_all.false, fits, c.offset-start.ensures))
      (λ refused o q.
      let len = length c.args.source.now in
      let memory : IsAlignedRequest f (m.offset + c.args.at) len → MayRunOut f.write_memory (length A) (m.offset + c.args.at + len) = rw (← c.offset-start.ensures) (c.write_stored-2.ensures.memory refused) in
      existing_takes f n A s.size s.block.length (entries_of s.table) (count_of s.table) s.waiting m m.state c.args.at len o stateless (refused_some len r Error.Memory c.write_stored-2.ensures.empty refused) memory q);
}
