-- SPDX-License-Identifier: MIT
use Rattle.std.proofs.Common.{◌≡◌, ◌<◌, ◌^◌, ℕ, List, length}
use Rattle.std.specs.Prelude.{IsTrue}
use Rattle.imago_qcow2_check.specs.Sums.{total}
use Rattle.imago_qcow2_check.specs.Bitmaps.{bitmap_uses, bitmap_faults, bitmap_at}
use Rattle.imago_qcow2_check.specs.Tallies.{setting_of, Adds}
use Rattle.imago_qcow2_check.proofs.bitmaps.look_at_each.Given as goal

abbrev pub invariant-loop-index : goal.invariant-loop-index
invariant-loop-index g l = record {
  all : length l.tally.uses.items ≡ l.shape.clusters;
  within : l.spot.at < 2 ^ 63;
  spot : IsTrue (g.S.Storage.features l.storage).tells_bytes → l.spot.at ≡ bitmap_at (g.S.Storage.bytes l.storage) l.fn.directory.start l._index;
  told : (counts : List ℕ) → IsTrue (g.S.Storage.features l.storage).tells_bytes → Adds l.initial.tally l.tally
      (λ n. total (λ i. bitmap_uses (setting_of l.shape counts) (g.S.Storage.bytes l.storage) (bitmap_at (g.S.Storage.bytes l.storage) l.fn.directory.start i) n) l._index)
      (total (λ i. bitmap_faults (setting_of l.shape counts) (g.S.Storage.bytes l.storage) (bitmap_at (g.S.Storage.bytes l.storage) l.fn.directory.start i)) l._index);
}
