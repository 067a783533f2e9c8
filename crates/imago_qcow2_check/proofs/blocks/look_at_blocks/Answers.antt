-- SPDX-License-Identifier: MIT
use Rattle.std.proofs.Common.{◌*◌, ◌/◌, length, []}
use Rattle.imago_qcow2.specs.Numbers.{be64}
use Rattle.imago_qcow2_check.specs.Sums.{total}
use Rattle.imago_qcow2_check.specs.Uses.{block_use, block_faults}
use Rattle.imago_qcow2_check.specs.Clusters.{use_of, past_fault}
use Rattle.imago_qcow2_check.specs.Tallies.{setting_of}
use Rattle.imago_qcow2_check.proofs.TallySteps.{adds_len}
use Rattle.imago_qcow2_check.proofs.BlockSteps.{blocks_adds}
use Rattle.imago_qcow2_check.proofs.blocks.look_at_blocks.Goals as goal

pub look_at_entries-requires : goal.look_at_entries-requires
look_at_entries-requires c =
    let s = setting_of c.args.shape [] in
    let n = length c.args.table.now in
    record { all = adds_len c.args.tally.now c.name.new.self (use_of s c.args.start n) (past_fault s c.args.start n) c.args.shape.clusters (c.in_ok-name.ensures []) c.requires.all }

pub returns-clause-all : goal.returns-clause-all
returns-clause-all c =
    let s = setting_of c.args.shape [] in
    let t = c.args.table.now in
    adds_len c.name.new.self c.look_at_entries.new.tally (λ n. total (λ i. block_use s (be64 t (8 * i)) n) (length t / 8)) (total (λ i. block_faults s (be64 t (8 * i))) (length t / 8)) c.args.shape.clusters
    (c.in_ok-look_at_entries.ensures []) (adds_len c.args.tally.now c.name.new.self (use_of s c.args.start (length t)) (past_fault s c.args.start (length t)) c.args.shape.clusters (c.in_ok-name.ensures []) c.requires.all)

pub returns-clause-adds : goal.returns-clause-adds
returns-clause-adds c = λ counts bytes r.
    blocks_adds (setting_of c.args.shape counts) c.args.tally.now c.name.new.self c.look_at_entries.new.tally bytes c.args.table.now c.args.start r (c.in_ok-name.ensures counts) (c.in_ok-look_at_entries.ensures counts)
