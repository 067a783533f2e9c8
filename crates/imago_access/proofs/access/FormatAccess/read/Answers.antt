-- SPDX-License-Identifier: MIT
use Rattle.imago_access.proofs.Flat.{read_listed}
use Rattle.imago_access.proofs.access.FormatAccess.read.Goals as goal

pub returns-clause-disk : goal.returns-clause-disk
returns-clause-disk g c = λ tells. read_listed g.D.FormatDriverInstance.view g.met.D.FormatDriverInstance.lawful g.met.D.FormatDriverInstance.causes_lawful c.args.self.now c.args.offset c.read_range.new.buf _ c.read_range.result c.read_range.auto.buf (c.read_range.ensures.bytes tells)
