-- SPDX-License-Identifier: MIT
use Rattle.std.proofs.Common.{arith, refl, ◌<◌, ◌≤◌, length}
use Rattle.imago_formats.proofs.SignatureSteps.{no_last, last_told}
use Rattle.imago_images.proofs.recognised.last_signature.Goals as goal

pub returns-then-length-clause-told : goal.returns-then-length-clause-told
returns-then-length-clause-told g c = λ bytes told.
    let short : length bytes < 512 = grind (arith, c.in_ok-length.ensures.told bytes told, c.if-length.true) in
    no_last c.args.besides bytes short

pub returns-clause-told : goal.returns-clause-told
returns-clause-told g c = λ bytes told.
    let long = c.in_ok-length.ensures.told bytes told in
    let enough : 512 ≤ c.in_ok-length.length = grind (arith, c.if-length.false) in
    last_told c.args.besides bytes c.read_block.new.buf c.in_ok-length.length _ c.of_last.result long enough refl
    (c.in_ok-read_block.ensures.told bytes told) c.of_last.ensures
