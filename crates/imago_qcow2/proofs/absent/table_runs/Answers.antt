-- SPDX-License-Identifier: MIT
use Rattle.std.proofs.Common.{◌≡◌, ℕ, suc, ◌+◌, ◌-◌, ◌/◌, ◌<◌, ◌++◌, ◌∷◌, [], Some, ap, length, length-append, slice_get, arith}
use Rattle.imago_qcow2.specs.declared.header.Header.{Header}
use Rattle.imago_qcow2.specs.declared.entry.GuestCluster.{GuestCluster}
use Rattle.imago_qcow2.specs.Tables.{held_cluster, loaded_of}
use Rattle.imago_qcow2.proofs.AbsentSteps.{each_more, read_at, run_longer}
use Rattle.imago_qcow2.proofs.absent.table_runs.Goals as goal

pub loop-index-preserved : goal.loop-index-preserved
loop-index-preserved c =
    let l = c.loop-index in
    let l1 = c.args.tables.now.l1.items in
    let xs = l.runs.items in
    let run = c.longer_run-run.result in
    let index = l.index - 1 in
    let count : l.index + length xs ≡ length l1 = l.invariant.count in
    let some : 0 < l.index = omega (arith, c.loop-index-test.true) in
    let items : c.push.new.self.items ≡ xs ++ run ∷ [] = c.in_ok-push.ensures.items in
    let there : slice_get l1 index ≡ Some c.index.result.now = read_at l1 index c.index.result.now (omega (arith, count, some)) c.index.ensures in
    let next : index + 1 ≡ l.index = omega (arith, some) in
    let longer : (header : Header) (cluster : ℕ) → cluster / 8 ≡ c.args.entries → (j k : ℕ) → j < run
    → held_cluster (loaded_of header cluster c.args.tables.now) k (slice_get l1 (index + j)) ≡ GuestCluster.Absent =
    λ header cluster e. run_longer (loaded_of header cluster c.args.tables.now) index l.run run c.index.result.now there c.longer_run-run.ensures.length
    (λ k. c.longer_run-run.ensures.absent header cluster k e)
    (rw next (l.invariant.run header cluster e)) in
    let at : length l1 - suc (length xs) ≡ index = omega (arith, count, some) in
    record {
      count = omega (arith, ap length items, length-append xs (run ∷ []), count, some);
      runs = λ header cluster e. rw items (each_more
          (λ i n. (j k : ℕ) → j < n → held_cluster (loaded_of header cluster c.args.tables.now) k (slice_get l1 (length l1 - suc i + j)) ≡ GuestCluster.Absent)
          xs run (l.invariant.runs header cluster e) (rw at (longer header cluster e)));
      run = longer;
    }
