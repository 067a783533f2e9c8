-- SPDX-License-Identifier: MIT
use Rattle.std.proofs.Common.{◌-◌, ◌≡◌, ◌≤◌, ◌%◌, ◌⊎◌, Ok}
use Rattle.imago_storage.specs.Faults.{CountsFaults}
use Rattle.imago_storage.specs.Features.{len_align}
use Rattle.imago_storage.specs.Padding.{Wraps}
use Rattle.imago_storage.specs.Steps.{AreMadeInOrder, pieces_of}
use Rattle.imago_storage.specs.Zeroes.{ZeroedPart, IsZeroesWritten}
use Rattle.imago_storage.proofs.Work.{EdgedDone}
use Rattle.imago_storage.proofs.zeroes.zero_pieces.Given as goal

abbrev pub invariant-loop-done : goal.invariant-loop-done
invariant-loop-done g l = record {
  counted : l.done ≤ l.count;
  whole : (l.done % len_align (g.S.Storage.features l.fn.storage) ≡ 0) ⊎ (l.done ≡ l.count);
  features : g.S.Storage.features l.storage ≡ g.S.Storage.features l.fn.storage;
  zeroed : ZeroedPart {T = Unit {0}} (g.S.Storage.features l.fn.storage) (g.S.Storage.bytes l.fn.storage) l.offset l.done (g.S.Storage.bytes l.storage) (Ok tt);
  fits : l.done ≡ l.count → ¬ Wraps (g.S.Storage.features l.fn.storage) l.offset l.count;
  cause : CountsFaults {T = Unit {0}} (g.S.Storage.features l.fn.storage).is_reliable (g.S.Storage.fault_count l.fn.storage) (g.S.Storage.fault_count l.storage) (Ok tt);
  pieces : (l.done % l.piece ≡ 0) ⊎ (l.done ≡ l.count);
  made : AreMadeInOrder (IsZeroesWritten g.S.Storage.features g.S.Storage.bytes g.S.Storage.maintenance) (pieces_of l.piece l.offset l.done) l.fn.storage l.storage (Ok tt);
  work : EdgedDone (len_align (g.S.Storage.features l.fn.storage)) l.piece l.count l.done (g.S.Storage.work l.fn.storage) (g.S.Storage.work l.storage);
}

abbrev pub decreases-loop-done : goal.decreases-loop-done
decreases-loop-done g l = l.count - l.done
