-- SPDX-License-Identifier: MIT
use Rattle.std.proofs.Common.{◌+◌, arith, refl}
use Rattle.imago_cow.specs.TableView.{entries_of, count_of}
use Rattle.imago_cow.specs.Cow.{cow_view}
use Rattle.imago_cow.proofs.DriverSteps.{same_bytes, storage_faults, flush_refused}
use Rattle.imago_cow.proofs.cow.CowFormatDriverInstance.invalidate_cache.Goals as goal

pub returns : goal.returns
returns g c =
    let s = c.args.self.now in
    let e = c.invalidate_cache.ensures in
    record {
      performed = (e.performed, (refl, refl, refl, refl, refl, refl));
      unchanged = same_bytes _ _ _ _ _ _ s.size s.block.length (entries_of s.table) (count_of s.table) s.waiting e.unchanged e.features;
      pending = rw e.unchanged refl;
      causes = rw e.features (record { causes = λ op o n r x. x; copied = λ op o n p x. x });
      lengths = record { no_shorter = λ i. rw e.unchanged (omega arith); no_longer = λ i. rw e.unchanged (omega arith) };
      faults = storage_faults _ _ s.faults _ c.invalidate_cache.result e.cause;
      refusals = flush_refused (cow_view (g.S.Storage.features s.storage) (g.S.Storage.fault_count s.storage + s.faults) (g.S.Storage.bytes s.storage) s.size s.block.length (entries_of s.table) (count_of s.table) s.waiting) c.invalidate_cache.result (λ x k. k (e.memory x)) e.only;
    }
