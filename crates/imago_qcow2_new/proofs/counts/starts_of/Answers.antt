-- SPDX-License-Identifier: MIT
use Rattle.std.proofs.Common.{ℕ, ◌+◌, ◌*◌, ◌%◌, ap, ◌∙◌}
use Rattle.std.proofs.Math.Nat.{mod_self}
use Rattle.imago_qcow2_new.proofs.Whole.{sum_whole, times_whole}
use Rattle.imago_qcow2_new.proofs.counts.starts_of.Goals as goal

pub returns-clause-blocks_whole : goal.returns-clause-blocks_whole
returns-clause-blocks_whole c =
    let cl : ℕ = c.args.cluster in
    ap (λ (x : ℕ). x % cl) (c.in_ok-blocks_start.ensures ∙ ap (λ (x : ℕ). cl + x) c.in_ok-counts_length.ensures) ∙ sum_whole cl cl (c.in_ok-counts.counts * cl) (mod_self cl) (times_whole cl c.in_ok-counts.counts)

pub returns-clause-l1_whole : goal.returns-clause-l1_whole
returns-clause-l1_whole c =
    let cl : ℕ = c.args.cluster in
    let bs : ℕ = c.in_ok-blocks_start.blocks_start in
    ap (λ (x : ℕ). x % cl) (c.in_ok-l1_start.ensures ∙ ap (λ (x : ℕ). bs + x) c.in_ok-times-2.ensures) ∙ sum_whole cl bs (c.in_ok-counts.blocks * cl) (returns-clause-blocks_whole c) (times_whole cl c.in_ok-counts.blocks)

pub returns-clause-tables_whole : goal.returns-clause-tables_whole
returns-clause-tables_whole c =
    let cl : ℕ = c.args.cluster in
    ap (λ (x : ℕ). x % cl) c.in_ok-tables_start.ensures ∙ sum_whole cl c.in_ok-l1_start.l1_start c.rounded_up.result (returns-clause-l1_whole c) c.rounded_up.ensures.whole
