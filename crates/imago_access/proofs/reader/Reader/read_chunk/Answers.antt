-- SPDX-License-Identifier: MIT
use Rattle.std.proofs.Common.{arith, ◌≡◌, length}
use Rattle.std.proofs.lemmas.Grind.{common_steps}
use Rattle.std.proofs.lemmas.Result.{err_from_is_err_and}
use Rattle.imago_access.specs.Chain.{disk_value}
use Rattle.imago_access.specs.ReaderOf.{image_of}
use Rattle.imago_access.proofs.Kept.{landed_makes}
use Rattle.imago_access.proofs.ReadSteps.{landed_values, landed_refused}
use Rattle.imago_access.proofs.Values.{has_front}
use Rattle.imago_access.proofs.reader.Reader.read_chunk.Goals as goal

pub read_mapped-requires-clause-layer : goal.read_mapped-requires-clause-layer
read_mapped-requires-clause-layer g c =
    let r = c.in_ok-layer in
    landed_makes g.D.FormatDriverInstance.view (image_of c.args.self.now) c.args.offset (length c.args.buf.now) r.layer.now r.way r.mapping r.ensures.landed

pub returns-in_err-read_mapped-clause-refusals : goal.returns-in_err-read_mapped-clause-refusals
returns-in_err-read_mapped-clause-refusals g c =
    let p = err_from_is_err_and c.from_residual-in_err-read_mapped.result c.from_residual-in_err-read_mapped.ensures.1 in
    let r = c.in_ok-layer in
    rw (p.1, p.2) (landed_refused g.D.FormatDriverInstance.view g.met.D.FormatDriverInstance.lawful g.met.D.FormatDriverInstance.causes_lawful (image_of c.args.self.now) c.args.offset (length c.args.buf.now) r.layer.now r.way r.mapping r.ensures.landed c.requires.some _ c.in_err-read_mapped.field-0.0 c.in_err-read_mapped.ensures.refusals (grind (arith, common_steps)))

pub returns-clause-bytes : goal.returns-clause-bytes
returns-clause-bytes g c tells =
    let x = image_of c.args.self.now in
    let r = c.in_ok-layer in
    let h = r.ensures.landed in
    let len : length c.read_mapped.new.buf ≡ r.way.length = grind (arith, common_steps, h.leads.within) in
    let own = c.in_ok-read_mapped.ensures.bytes tells r.way.offset (λ i lt. h.part.names i (grind (arith, common_steps, h.leads.within))) in
    has_front (disk_value g.D.FormatDriverInstance.view x) c.args.offset r.way.length c.read_mapped.new.buf _ len (landed_values g.D.FormatDriverInstance.view g.met.D.FormatDriverInstance.lawful g.met.D.FormatDriverInstance.causes_lawful x c.args.offset (length c.args.buf.now) r.layer.now r.way r.mapping h c.read_mapped.new.buf len own)
