-- SPDX-License-Identifier: MIT
use Rattle.std.proofs.Common.{◌-◌, ◌/◌, ◌%◌, ◌^◌, ◌<◌, ap, ◌∙◌, sym, arith}
use Rattle.std.proofs.Math.Nat.{mod-lt}
use Rattle.imago_qcow2.proofs.ClusterSteps.{masked, eighth}
use Rattle.imago_qcow2.proofs.cluster.ClusterSize.l2_index.Goals as goal

pub returns-clause-value : goal.returns-clause-value
returns-clause-value c =
    let s = c.args.self in
    let entries = c.entries.result in
    let power = c.entries.ensures.value ∙ eighth s.bits s.length s.least s.power in
    masked (c.args.offset / 2 ^ s.bits) (s.bits - 3) entries power
    ∙ ap (λ x. c.args.offset / 2 ^ s.bits % x) c.entries.ensures.value
    ∙ ap (λ x. c.args.offset / x % (s.length / 8)) (sym s.power)

pub returns-clause-below : goal.returns-clause-below
returns-clause-below c =
    let s = c.args.self in
    let entries = c.entries.result in
    let power = c.entries.ensures.value ∙ eighth s.bits s.length s.least s.power in
    let some : 0 < entries = omega (arith, c.entries.ensures.least) in
    let is = masked (c.args.offset / 2 ^ s.bits) (s.bits - 3) entries power in
    omega (arith, is, mod-lt (c.args.offset / 2 ^ s.bits) some, c.entries.ensures.value)
