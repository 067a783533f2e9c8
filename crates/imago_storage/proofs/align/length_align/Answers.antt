-- SPDX-License-Identifier: MIT
use Rattle.std.proofs.Common.{◌≡◌, max}
use Rattle.imago_storage.proofs.Alignment.{max_power}
use Rattle.imago_storage.proofs.align.length_align.Goals as goal

pub returns-clause-power : goal.returns-clause-power
returns-clause-power g c =
    let f = g.S.Storage.features c.args.storage.now in
    let lawful = g.met.S.Storage.lawful c.args.storage.now in
    let is : c.max.result ≡ max f.req_align f.mem_align = rw (← c.req_align.ensures) (rw (← c.mem_align.ensures) c.max.ensures) in
    rw is (max_power f.req_align f.mem_align lawful.req lawful.mem)
