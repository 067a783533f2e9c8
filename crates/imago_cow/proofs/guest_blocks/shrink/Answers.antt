-- SPDX-License-Identifier: MIT
use Rattle.std.proofs.Common.{◌≤◌, arith}
use Rattle.imago_cow.specs.TableView.{entries_of}
use Rattle.imago_cow.proofs.ResizeSteps.{cut_disk, exact_cut, taken_again}
use Rattle.imago_cow.proofs.guest_blocks.shrink.Goals as goal

pub returns-clause-shrunk : goal.returns-clause-shrunk
returns-clause-shrunk c = λ f n bytes.
    let e = c.truncate.ensures in
    let less : c.args.new_size ≤ c.args.size = omega (arith, c.requires.less) in
    rw (e.entries, e.count) (cut_disk f n bytes c.args.size c.args.block.length _ _ c.args.new_size c.requires.positive c.first_whole.result less c.first_whole.ensures.begins)

pub returns-clause-exact : goal.returns-clause-exact
returns-clause-exact c =
    let e = c.truncate.ensures in
    let less : c.args.new_size ≤ c.args.size = omega (arith, c.requires.less) in
    rw e.entries (exact_cut c.args.block.length c.args.size c.args.new_size c.first_whole.result _ less c.requires.exact c.first_whole.ensures.begins c.first_whole.ensures.near)

pub returns-clause-entries : goal.returns-clause-entries
returns-clause-entries c = taken_again c.first_whole.result (entries_of c.args.table.now) (entries_of c.truncate.new.self) c.truncate.ensures.entries
