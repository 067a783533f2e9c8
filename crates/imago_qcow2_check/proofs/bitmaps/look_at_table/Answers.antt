-- SPDX-License-Identifier: MIT
use Rattle.std.proofs.Common.{◌*◌, ◌/◌, length, []}
use Rattle.imago_qcow2.specs.Numbers.{be64}
use Rattle.imago_qcow2_check.specs.Sums.{total}
use Rattle.imago_qcow2_check.specs.Bitmaps.{bits_use, bits_faults}
use Rattle.imago_qcow2_check.specs.Clusters.{use_of, past_fault}
use Rattle.imago_qcow2_check.specs.Tallies.{setting_of}
use Rattle.imago_qcow2_check.proofs.TallySteps.{adds_len}
use Rattle.imago_qcow2_check.proofs.BitmapSteps.{bitmap_adds}
use Rattle.imago_qcow2_check.proofs.bitmaps.look_at_table.Goals as goal

pub look_at_entries-requires : goal.look_at_entries-requires
look_at_entries-requires g c =
    let s = setting_of c.args.shape [] in
    let start = c.args.bitmap.table in
    let n = 8 * c.args.bitmap.count in
    record { all = adds_len c.args.tally.now c.name.new.self (use_of s start n) (past_fault s start n) c.args.shape.clusters (c.in_ok-name.ensures []) c.requires.all }

pub returns-clause-all : goal.returns-clause-all
returns-clause-all g c =
    let s = setting_of c.args.shape [] in
    let t = c.deref.result.now in
    let start = c.args.bitmap.table in
    let n = 8 * c.args.bitmap.count in
    adds_len c.name.new.self c.look_at_entries.new.tally (λ n. total (λ i. bits_use s (be64 t (8 * i)) n) (length t / 8)) (total (λ i. bits_faults s (be64 t (8 * i))) (length t / 8)) c.args.shape.clusters
    (c.in_ok-look_at_entries.ensures []) (adds_len c.args.tally.now c.name.new.self (use_of s start n) (past_fault s start n) c.args.shape.clusters (c.in_ok-name.ensures []) c.requires.all)

pub returns-clause-told : goal.returns-clause-told
returns-clause-told g c = λ counts told is.
    let s = setting_of c.args.shape counts in
    let B = g.S.Storage.bytes c.args.storage.now in
    let table = c.in_ok-table.table.items in
    let q = rw c.deref.ensures.value at (c.in_ok-look_at_entries.ensures counts) in
    bitmap_adds s c.args.tally.now c.name.new.self c.look_at_entries.new.tally B table c.args.at c.args.bitmap is c.in_ok-table.ensures.whole (c.in_ok-table.ensures.read told)
    (c.in_ok-name.ensures counts) q
