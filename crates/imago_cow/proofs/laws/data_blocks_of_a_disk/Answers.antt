-- SPDX-License-Identifier: MIT
use Rattle.imago_cow.proofs.laws.data_blocks_of_a_disk.Goals as goal

pub returns : goal.returns
returns g c = λ j. let d = c.args.disk.now in rw (← d.held) (d.table.each_once j)
