-- SPDX-License-Identifier: MIT
use Rattle.std.proofs.Common.{rules, ◌≡◌, length, sym}
use Rattle.imago_images.specs.Refusals.{IsByQcow2}
use Rattle.imago_images.proofs.RefusalSteps.{header_out, answer_out, told_out}
use Rattle.imago_images.proofs.layer.not_opened.Goals as goal

pub returns-in-Err-clause-of_bytes : goal.returns-in-Err-clause-of_bytes
returns-in-Err-clause-of_bytes g c =
    let long : length c.read_at.new.buf ≡ 112 = search rules in
    header_out IsByQcow2 (g.H.Files.contents c.args.host.now) c.args.path.now c.read_at.new.buf c.in-Ok.status.length
    c.in-Err.fault c.of_file.result c.in-Ok-read_at.ensures long c.in-Ok.ensures.length
    (sym c.in-Err.ensures.header) c.of_file.ensures c.args.cause

pub returns-in-Err-clause-told : goal.returns-in-Err-clause-told
returns-in-Err-clause-told g c = λ limit.
    let long : length c.read_at.new.buf ≡ 112 = search rules in
    told_out (g.H.Files.contents c.args.host.now) c.args.path.now limit c.of_file.result
    (header_out (λ bytes error. Unit {0}) (g.H.Files.contents c.args.host.now) c.args.path.now c.read_at.new.buf
    c.in-Ok.status.length c.in-Err.fault c.of_file.result c.in-Ok-read_at.ensures long c.in-Ok.ensures.length
    (sym c.in-Err.ensures.header) c.of_file.ensures c.args.cause limit)

pub returns-clause-of_bytes : goal.returns-clause-of_bytes
returns-clause-of_bytes g c =
    answer_out IsByQcow2 (g.H.Files.contents c.args.host.now) c.args.path.now c.args.cause c.read_again.result
    c.read_again.ensures

pub returns-clause-told : goal.returns-clause-told
returns-clause-told g c = λ limit.
    told_out (g.H.Files.contents c.args.host.now) c.args.path.now limit c.read_again.result
    (answer_out (λ bytes error. Unit {0}) (g.H.Files.contents c.args.host.now) c.args.path.now c.args.cause
    c.read_again.result c.read_again.ensures limit)
