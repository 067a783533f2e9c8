-- SPDX-License-Identifier: MIT
use Rattle.std.proofs.Common.{rules, ◌≡◌, ◌+◌, arith, length}
use Rattle.imago_cow.specs.TableView.{entries_of, count_of}
use Rattle.imago_cow.specs.TableLaws.{named_below}
use Rattle.imago_cow.proofs.StoredSteps.{on_ok}
use Rattle.imago_cow.proofs.DriverSteps.{bytes_settled, storage_faults}
use Rattle.imago_cow.proofs.cow.CowFormatDriverInstance.write_mapped.Goals as goal

pub returns-clause-call : goal.returns-clause-call
returns-clause-call g c = record {
  written =
      let s = c.args.self.now in
      let z : c.args._storage ≡ 0 = omega (arith, c.requires.known) in
      rw z (c.write_stored.ensures.written s.size s.block.length (entries_of s.table));
  torn =
      let s = c.args.self.now in
      let z : c.args._storage ≡ 0 = omega (arith, c.requires.known) in
      rw z (c.write_stored.ensures.torn s.size s.block.length (entries_of s.table));
  causes =
      let s = c.args.self.now in
      on_ok c.write_stored.result (λ x e o q.
      bytes_settled (g.S.Storage.features s.storage) (g.S.Storage.features c.write_stored.new.storage) 0 0 (g.S.Storage.bytes s.storage) (g.S.Storage.bytes c.write_stored.new.storage) s.size s.block.length (entries_of s.table) (count_of s.table) s.waiting s.positive s.exact.covers c.write_stored.ensures.features o (length c.args.source.now));
  leaves = search rules;
  storages =
      let s = c.args.self.now in
      let z : c.args._storage ≡ 0 = omega (arith, c.requires.known) in
      record {
        lengths = rw z (c.write_stored.ensures.lengths 0 s.size s.block.length (entries_of s.table) (count_of s.table) s.waiting);
        faults = storage_faults _ _ s.faults _ _ c.write_stored.ensures.cause;
      };
  framed = search rules;
  refusals =
      let s = c.args.self.now in
      let z : c.args._storage ≡ 0 = omega (arith, c.requires.known) in
      rw z (c.write_stored.ensures.refusals (g.S.Storage.fault_count s.storage + s.faults) s.size s.block.length (entries_of s.table) (count_of s.table) s.waiting s.positive (λ i j h. named_below s.table i j h));
}
