-- SPDX-License-Identifier: MIT
use Rattle.std.proofs.Common.{◌+◌, arith, refl}
use Rattle.imago_test_drivers.specs.CopyOnce.{copy_view}
use Rattle.imago_test_drivers.proofs.CopySteps.{same_bytes, copy_faults, copy_flush_refused}
use Rattle.imago_test_drivers.proofs.copy_once.CopyOnceFormatDriverInstance.sync.Goals as goal

pub returns : goal.returns
returns g c =
    let s = c.args.self.now in
    let e = c.sync.ensures in
    record {
      performed = (e.performed, refl, refl, refl, refl, refl, refl);
      unchanged = same_bytes _ _ _ _ _ _ s.size s.copied s.waiting e.unchanged e.features;
      pending = rw e.unchanged refl;
      causes = record { causes = λ op o n r x. x; copied = λ op o n p x. x };
      lengths = record { no_shorter = λ i. rw e.unchanged (omega arith); no_longer = λ i. rw e.unchanged (omega arith) };
      faults = copy_faults _ _ s.faults _ c.sync.result e.cause;
      refusals = copy_flush_refused (copy_view (g.S.Storage.features s.storage) (g.S.Storage.fault_count s.storage + s.faults) (g.S.Storage.bytes s.storage) s.size s.copied s.waiting) (λ x. x) c.sync.result e.only;
    }
