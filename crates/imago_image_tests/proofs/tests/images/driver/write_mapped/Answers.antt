-- SPDX-License-Identifier: MIT
use Rattle.std.proofs.Common.{arith, ◌+◌}
use Rattle.imago_image_tests.proofs.tests.images.driver.write_mapped.Goals as goal

-- what a range is mapped to may be written there
pub write_mapped-requires-clause-mapped : goal.write_mapped-requires-clause-mapped
write_mapped-requires-clause-mapped g c = λ i h.
    let x = c.in_ok-mapped.ensures.call.mapped.origins i (omega arith) in
    (c.args.offset + i, x.0, x.1)
