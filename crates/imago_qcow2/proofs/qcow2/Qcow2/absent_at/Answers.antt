-- SPDX-License-Identifier: MIT
use Rattle.std.proofs.Common.{◌≡◌, ◌+◌, ◌-◌, ◌*◌, ◌/◌, ◌%◌, ◌<◌, sym, arith}
use Rattle.imago_qcow2.specs.Tables.{loaded_of}
use Rattle.imago_qcow2.specs.Absent.{AreAbsent}
use Rattle.imago_qcow2.proofs.AbsentSteps.{run_of_bytes}
use Rattle.imago_qcow2.proofs.qcow2.Qcow2.absent_at.Goals as goal

pub returns : goal.returns
returns g c = λ i h.
    let s = c.args.self.now in
    let entries = s.cluster.length / 8 in
    let count = c.count_from-count.result in
    let some : 0 < entries = omega (arith, s.cluster.shortest) in
    let positive : 0 < s.cluster.length = omega (arith, s.cluster.shortest) in
    let near : i < count * s.cluster.length - c.args.offset % s.cluster.length = omega (arith, h, c.saturating_sub.ensures, c.saturating_mul.ensures, c.rest.ensures.value) in
    let is : c.entries.result ≡ entries = c.entries.ensures.value in
    let run : AreAbsent (loaded_of s.header s.cluster.length s.tables) (c.l1_index-table.result * c.entries.result + c.l2_index-index.result) count = c.count_from-count.ensures s.header s.cluster.length (sym is) s.absent_runs in
    let there : AreAbsent (loaded_of s.header s.cluster.length s.tables) (c.args.offset / (entries * s.cluster.length) * entries + c.args.offset / s.cluster.length % entries) count = rw (is, c.l1_index-table.ensures.value, c.l2_index-index.ensures.value) at run in
    run_of_bytes (loaded_of s.header s.cluster.length s.tables) entries c.args.offset count i some positive there near
