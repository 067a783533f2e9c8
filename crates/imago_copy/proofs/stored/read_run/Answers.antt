-- SPDX-License-Identifier: MIT
use Rattle.std.proofs.Common.{◌≡◌, ◌+◌, ◌≤◌, length, subst, arith, rules}
use Rattle.imago_access.specs.declared.access.FormatAccess.{FormatAccess}
use Rattle.imago_access.specs.ReaderOf.{image_of}
use Rattle.imago_copy.specs.Ends.{IsLayerAt}
use Rattle.imago_copy.proofs.EndSteps.{stored_answer, zeroes_read}
use Rattle.imago_copy.proofs.stored.read_run.Goals as goal

pub returns-in-Zero-clause-bytes : goal.returns-in-Zero-clause-bytes
returns-in-Zero-clause-bytes g c = λ tells.
    let long : length c.fill.new.self ≡ length c.args.buf.now = c.fill.ensures.len in
    let inside : c.args.skipped + length c.fill.new.self ≤ c.args.run.count = omega (arith, long, c.requires.inside) in
    zeroes_read g.D.FormatDriverInstance.view (image_of c.args.reader.now) c.args.run c.args.skipped c.fill.new.self c.in-Zero.is c.requires.run inside (λ k lt. search rules)

pub returns-in-Some-Some-clause-bytes : goal.returns-in-Some-Some-clause-bytes
returns-in-Some-Some-clause-bytes g c = λ tells.
    let view = g.D.FormatDriverInstance.view in
    let x = image_of c.args.reader.now in
    let s = c.in-Stored in
    let y = c.in-Some-Some.found.now in
    let layer : IsLayerAt view x s.layer y = subst (λ (z : FormatAccess _). IsLayerAt view z s.layer y) c.image.ensures c.in-Some-Some.ensures in
    let first : c.in-Some-Some.first ≡ s.offset + c.args.skipped = omega (arith, c.in-Some-Some.ensures') in
    let inside : c.args.skipped + length c.read_mapped.new.buf ≤ c.args.run.count = omega (arith, c.read_mapped.auto.buf, c.requires.inside) in
    stored_answer view g.met.D.FormatDriverInstance.lawful x y c.args.run s.layer s.storage s.offset s.is c.if-layer-lt18446744073709551615.true c.requires.run layer
    c.inner.result.now c.inner.ensures c.args.skipped c.in-Some-Some.first c.read_mapped.new.buf c.read_mapped.result first inside tells c.read_mapped.ensures.bytes
