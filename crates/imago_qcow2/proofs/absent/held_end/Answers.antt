-- SPDX-License-Identifier: MIT
use Rattle.std.proofs.Common.{◌%◌, ◌/◌, slice_get}
use Rattle.imago_qcow2.specs.Tables.{loaded_of}
use Rattle.imago_qcow2.specs.Absent.{IsAbsentEntry}
use Rattle.imago_qcow2.proofs.AbsentSteps.{absent_said}
use Rattle.imago_qcow2.proofs.absent.held_end.Goals as goal

pub returns-in-Loaded : goal.returns-in-Loaded
returns-in-Loaded c = λ header cluster k e above below.
    let tables = c.args.tables.now in
    let table = slice_get tables.l2.items c.in-Loaded.number in
    let x : IsAbsentEntry table (k % c.args.entries) = rw c.deref.ensures.value at c.end_in.ensures (k % c.args.entries) above below in
    let y : IsAbsentEntry table (k % (cluster / 8)) = rw e x in
    rw c.in-Loaded.is (absent_said (loaded_of header cluster tables) k table y)
