-- SPDX-License-Identifier: MIT
use Rattle.std.proofs.Common.{◌≡◌, length, arith}
use Rattle.std.proofs.lemmas.List.{places}
use Rattle.imago_session.proofs.LoadedSteps.{in_block, in_none}
use Rattle.imago_session.proofs.loaded.LoadedFile.fill_part.Goals as goal

pub returns-in-Some : goal.returns-in-Some
returns-in-Some c =
    let same : length c.copy_out.new.buf ≡ length c.args.buf.now = c.copy_out.auto.buf in
    in_block c.args.self.now c.args.offset c.deref.result.now c.copy_out.new.buf c.in-Some.block.now
    (omega (arith, same, c.requires.inside)) (omega (arith, same, c.requires.block))
    c.in-Some.ensures.value c.deref.ensures.value c.copy_out.ensures

pub returns-in-None : goal.returns-in-None
returns-in-None c =
    let same : length c.fill.new.self ≡ length c.args.buf.now = c.fill.auto.self in
    in_none c.args.self.now c.args.offset c.fill.new.self
    (omega (arith, same, c.requires.inside)) (omega (arith, same, c.requires.block))
    c.in-None.ensures.value (λ i h. grind (arith, places))
