-- SPDX-License-Identifier: MIT
use Rattle.std.proofs.Common.{◌≡◌, replicate}
use Rattle.imago_cow.specs.TableView.{entries_of}
use Rattle.imago_cow.specs.declared.table.GuestBlock.{GuestBlock}
use Rattle.imago_cow.proofs.ResizeSteps.{leads_below}
use Rattle.imago_cow.proofs.cow.Cow.create.Goals as goal

pub returns-clause-leads_below : goal.returns-clause-leads_below
returns-clause-leads_below g c = λ bytes p h.
    let n = c.first_whole-guest_blocks.result in
    let e : entries_of c.in_ok-table.table ≡ replicate n GuestBlock.Absent = c.in_ok-table.ensures.entries in
    rw (e, c.new-block_size.ensures) (leads_below bytes c.args.size c.args.block n (rw c.new-block_size.ensures at c.first_whole-guest_blocks.ensures.begins) p h)
