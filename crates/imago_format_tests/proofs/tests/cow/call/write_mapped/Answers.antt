-- SPDX-License-Identifier: MIT
use Rattle.std.proofs.Common.{arith, ◌+◌, ◌≤◌, length, subst}
use Rattle.std.proofs.lemmas.List.{length-take}
use Rattle.imago_format_tests.proofs.tests.cow.call.write_mapped.Goals as goal

-- what a range is mapped to may be written there
pub write_mapped-requires-clause-mapped : goal.write_mapped-requires-clause-mapped
write_mapped-requires-clause-mapped g c = λ i h.
    let n = length-take c.in_ok-mapped.mapped.2 c.args.bytes.now in
    let x = c.in_ok-mapped.ensures.call.mapped.origins i (omega (arith, n, h)) in
    (c.args.offset + i, x.0, x.1)
