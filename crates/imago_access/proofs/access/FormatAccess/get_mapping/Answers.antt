-- SPDX-License-Identifier: MIT
use Rattle.std.proofs.lemmas.Result.{err_from_is_err_and}
use Rattle.imago_access.proofs.Weaker.{allowed_more}
use Rattle.imago_access.proofs.Landed.{landed_mapping, whole_mapping, asked_refused}
use Rattle.imago_access.proofs.Lengths.{full_length}
use Rattle.imago_access.proofs.access.FormatAccess.get_mapping.Goals as goal

pub returns-clause-right : goal.returns-clause-right
returns-clause-right g c =
    let r = c.in_ok-_layer in
    let landed = rw c.max.ensures at r.ensures.landed in
    rw (c.min.ensures, c.resolved-mapping.ensures.mapping, c.resolved-mapping.ensures.length) (landed_mapping g.D.FormatDriverInstance.view c.args.self.now c.args.offset c.args.max_length r._layer.now r.way r.mapping landed)

pub returns-clause-length : goal.returns-clause-length
returns-clause-length g c =
    let r = c.in_ok-_layer in
    let length = rw c.max.ensures at r.ensures.length in
    rw (c.min.ensures, c.resolved-mapping.ensures.mapping, c.resolved-mapping.ensures.length) (full_length g.D.FormatDriverInstance.view c.args.self.now c.args.offset c.args.max_length r.way r.mapping length)

pub returns-clause-whole : goal.returns-clause-whole
returns-clause-whole g c free =
    let r = c.in_ok-_layer in
    let landed = rw c.max.ensures at r.ensures.landed in
    rw (c.min.ensures, c.resolved-mapping.ensures.mapping, c.resolved-mapping.ensures.length) (whole_mapping g.D.FormatDriverInstance.view c.args.self.now c.args.offset c.args.max_length r._layer.now r.way r.mapping landed free)

pub returns-in_err-_layer-clause-refusals : goal.returns-in_err-_layer-clause-refusals
returns-in_err-_layer-clause-refusals g c =
    let p = err_from_is_err_and c.from_residual.result c.from_residual.ensures.1 in
    let refused = rw c.max.ensures at c.in_err-_layer.ensures.refusals in
    rw (p.1, p.2) (allowed_more _ _ (asked_refused g.D.FormatDriverInstance.view c.args.self.now c.args.offset c.args.max_length) c.in_err-_layer.field-0.0 refused)
