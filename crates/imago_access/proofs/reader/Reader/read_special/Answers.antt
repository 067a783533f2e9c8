-- SPDX-License-Identifier: MIT
use Rattle.std.proofs.Common.{arith, ◌≡◌, ℕ, length, subst}
use Rattle.std.specs.Prelude.{IfErr}
use Rattle.std.proofs.lemmas.Grind.{common_steps}
use Rattle.imago_drivers.specs.Done.{special_read_reasons}
use Rattle.imago_drivers.specs.Reasons.{allowed}
use Rattle.imago_access.specs.Chain.{driver}
use Rattle.imago_access.proofs.reader.Reader.read_special.Goals as goal

pub returns-clause-refusals : goal.returns-clause-refusals
returns-clause-refusals g c =
    let same : length c.read_blocks.new.buf ≡ length c.args.buf.now = grind (arith, common_steps) in
    subst (λ (n : ℕ). IfErr c.readv_special.result (allowed (special_read_reasons (g.D.FormatDriverInstance.view (driver c.args.layer.now)) c.args.offset n))) same c.readv_special.ensures.refusals
