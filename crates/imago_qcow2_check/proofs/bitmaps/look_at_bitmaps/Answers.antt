-- SPDX-License-Identifier: MIT
use Rattle.std.proofs.Common.{◌≡◌, false, nat_eq, [], arith}
use Rattle.std.proofs.lemmas.Bool.Decides.{nat_tests}
use Rattle.imago_qcow2_check.specs.Clusters.{use_of, past_fault}
use Rattle.imago_qcow2_check.specs.Tallies.{setting_of}
use Rattle.imago_qcow2_check.proofs.TallySteps.{adds_len}
use Rattle.imago_qcow2_check.proofs.BitmapSteps.{none_adds, directory_adds}
use Rattle.imago_qcow2_check.proofs.bitmaps.look_at_bitmaps.Goals as goal

pub look_at_each-requires-clause-all : goal.look_at_each-requires-clause-all
look_at_each-requires-clause-all g c =
    let s = setting_of c.args.shape [] in
    let d = c.in_ok-directory.directory in
    adds_len c.args.tally.now c.name.new.self (use_of s d.start d.size) (past_fault s d.start d.size) c.args.shape.clusters (c.in_ok-name.ensures []) c.requires.all

pub returns-then-at-eq0-clause-told : goal.returns-then-at-eq0-clause-told
returns-then-at-eq0-clause-told g c = λ counts told. none_adds (setting_of c.args.shape counts) (g.S.Storage.bytes c.args.storage.now) c.args.tally.now c.args.at c.if-at-eq0.true

pub returns-clause-told : goal.returns-clause-told
returns-clause-told g c = λ counts told.
    let s = setting_of c.args.shape counts in
    let B = g.S.Storage.bytes c.args.storage.now in
    let some : nat_eq c.args.at 0 ≡ false = grind (arith, nat_tests, c.if-at-eq0.false) in
    directory_adds s c.args.tally.now c.name.new.self c.look_at_each.new.tally B c.args.at c.in_ok-directory.directory (c.in_ok-directory.ensures.says told) some
    (c.in_ok-name.ensures counts) (c.in_ok-look_at_each.ensures.told counts told)
