-- SPDX-License-Identifier: MIT
use Rattle.std.proofs.Common.{arith, ◌≡◌, length}
use Rattle.std.proofs.lemmas.Grind.{common_steps}
use Rattle.std.proofs.lemmas.Result.{err_from_is_err_and}
use Rattle.imago_access.specs.Chain.{disk_value}
use Rattle.imago_access.proofs.ReadSteps.{landed_values, landed_refused, map_refused}
use Rattle.imago_access.proofs.Weaker.{allowed_more}
use Rattle.imago_access.proofs.Values.{has_front}
use Rattle.imago_access.proofs.Chains.{told_here}
use Rattle.imago_access.proofs.access.FormatAccess.read_chunk.Goals as goal

pub returns-in_err-layer-clause-refusals : goal.returns-in_err-layer-clause-refusals
returns-in_err-layer-clause-refusals g c =
    let p = err_from_is_err_and c.from_residual.result c.from_residual.ensures.1 in
    rw (p.1, p.2) (allowed_more _ _ (map_refused g.D.FormatDriverInstance.view c.args.self.now c.args.offset (length c.args.buf.now) c.requires) c.in_err-layer.field-0.0 c.in_err-layer.ensures.refusals)

pub returns-in_err-read_named-clause-refusals : goal.returns-in_err-read_named-clause-refusals
returns-in_err-read_named-clause-refusals g c =
    let p = err_from_is_err_and c.from_residual-in_err-read_named.result c.from_residual-in_err-read_named.ensures.1 in
    let r = c.in_ok-layer in
    rw (p.1, p.2) (landed_refused g.D.FormatDriverInstance.view g.met.D.FormatDriverInstance.lawful g.met.D.FormatDriverInstance.causes_lawful c.args.self.now c.args.offset (length c.args.buf.now) r.layer.now r.way r.mapping r.ensures.landed c.requires _ c.in_err-read_named.field-0.0 c.in_err-read_named.ensures.refusals (grind (arith, common_steps)))

pub returns-clause-bytes : goal.returns-clause-bytes
returns-clause-bytes g c tells =
    let r = c.in_ok-layer in
    let h = r.ensures.landed in
    let len : length c.read_named.new.buf ≡ r.way.length = grind (arith, common_steps, h.leads.within) in
    let own = c.in_ok-read_named.ensures.bytes (told_here g.D.FormatDriverInstance.view r.layer.now (h.leads.told tells)) r.way.offset (λ i lt. h.part.names i (grind (arith, common_steps, h.leads.within))) in
    has_front (disk_value g.D.FormatDriverInstance.view c.args.self.now) c.args.offset r.way.length c.read_named.new.buf _ len (landed_values g.D.FormatDriverInstance.view g.met.D.FormatDriverInstance.lawful g.met.D.FormatDriverInstance.causes_lawful c.args.self.now c.args.offset (length c.args.buf.now) r.layer.now r.way r.mapping h c.read_named.new.buf len own)
