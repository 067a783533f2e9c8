-- SPDX-License-Identifier: MIT
use Rattle.std.proofs.Common.{arith, ◌<◌, true}
use Rattle.imago_drivers.specs.RawLaws.{raw_stored}
use Rattle.imago_drivers.proofs.laws.mapping_past_a_raw_image.Goals as goal

pub returns : goal.returns
returns c = λ bytes.
    let some : 0 < 4 = omega arith in
    (0, some, λ p b e. let x = raw_stored 8 bytes p b 0 100 true e in omega (arith, x.0, x.2))
