-- SPDX-License-Identifier: MIT
use Rattle.std.proofs.Common.{◌-◌, ◌≡◌, ◌%◌, ◌<◌, ◌≤◌, ◌⊎◌, ℕ, replicate, Ok}
use Rattle.imago_storage.specs.Bytes.{splice, WriteOutcome}
use Rattle.imago_storage.specs.Faults.{CountsFaults}
use Rattle.imago_storage.specs.Features.{len_align, zero_piece}
use Rattle.imago_storage.specs.Steps.{IsPureWrite, AreMadeInOrder, one_piece_or_more}
use Rattle.imago_storage.proofs.Work.{PiecesDone}
use Rattle.imago_storage.proofs.storage.Storage.write_zeroes_as_data.Given as goal

abbrev pub invariant-loop-done : goal.invariant-loop-done
invariant-loop-done g l = record {
  counted : l.done ≤ l.count;
  whole : l.done % len_align (g.Self.Storage.features l.fn.self) ≡ 0;
  features : g.Self.Storage.features l.self ≡ g.Self.Storage.features l.fn.self;
  written : WriteOutcome {T = Unit {0}} (g.Self.Storage.features l.fn.self).keeps_data (g.Self.Storage.bytes l.fn.self) (splice (g.Self.Storage.bytes l.fn.self) l.offset (replicate l.done 0)) (g.Self.Storage.bytes l.self) (Ok tt);
  cause : CountsFaults {T = Unit {0}} (g.Self.Storage.features l.fn.self).is_reliable (g.Self.Storage.fault_count l.fn.self) (g.Self.Storage.fault_count l.self) (Ok tt);
  begun : l.done < l.count → 0 < l.done;
  whole_pieces : (l.done % zero_piece (g.Self.Storage.features l.fn.self) ≡ 0) ⊎ (l.done ≡ l.count);
  made : AreMadeInOrder (λ at n. IsPureWrite g.Self.Storage.features g.Self.Storage.bytes g.Self.Storage.maintenance at (replicate {A = ℕ} n 0)) (one_piece_or_more (zero_piece (g.Self.Storage.features l.fn.self)) l.offset l.done) l.fn.self l.self (Ok tt);
  pieces : PiecesDone (zero_piece (g.Self.Storage.features l.fn.self)) l.count l.done (g.Self.Storage.work l.fn.self) (g.Self.Storage.work l.self);
}

abbrev pub decreases-loop-done : goal.decreases-loop-done
decreases-loop-done g l = l.count - l.done
