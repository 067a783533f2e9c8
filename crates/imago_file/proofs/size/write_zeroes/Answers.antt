-- SPDX-License-Identifier: MIT
use Rattle.std.proofs.Common.{arith, ap, ◌∙◌}
use Rattle.imago_file.specs.Contents.{spliced}
use Rattle.imago_file.specs.FileCalls.{Nothing}
use Rattle.imago_file.proofs.Files.{resized_same, resized_more}
use Rattle.imago_file.proofs.Sizes.{first_zeroes, zeroed_more, zeroing_stopped}
use Rattle.imago_file.proofs.size.write_zeroes.Goals as goal

pub loop-at-init : goal.loop-at-init
loop-at-init g c = (omega arith, omega (arith, c.requires.grows), resized_same _ _ c.requires.long, Nothing)

pub returns-in_err-write_at-clause-performed : goal.returns-in_err-write_at-clause-performed
returns-in_err-write_at-clause-performed g c =
    let v = c.loop-at.invariant in
    zeroing_stopped g.F.HostFile.calls c.args.length c.args.file.now _ c.loop-at.at c.min-count.result c.loop-at.file c.write_at.new.self _ _ _ _ (first_zeroes 65536 c.min-count.result (omega (arith, c.min-count.ensures))) v.3 c.write_at.ensures.performed c.in_err-write_at.was c.from_residual.ensures.1

pub loop-at-preserved : goal.loop-at-preserved
loop-at-preserved g c =
    let v = c.loop-at.invariant in
    let zeroes = first_zeroes 65536 c.min-count.result (omega (arith, c.min-count.ensures)) in (
      omega (arith, v.0),
      omega (arith, c.min-count.ensures, c.loop-at-test.true),
      resized_more _ _ _ _ c.loop-at.at c.min-count.result c.requires.long v.0 v.2 (c.in_ok-write_at.ensures.written ∙ ap (λ s. spliced (g.F.HostFile.contents c.loop-at.file) c.loop-at.at s) zeroes),
      zeroed_more g.F.HostFile.calls c.args.length c.args.file.now c.loop-at.at c.min-count.result c.loop-at.file c.write_at.new.self _ _ (omega (arith, c.min-count.ensures, c.loop-at-test.true)) zeroes v.3 c.write_at.ensures.performed c.in_ok-write_at.was,
    )
