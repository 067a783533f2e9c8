-- SPDX-License-Identifier: MIT
use Rattle.imago_access.specs.ReaderOf.{image_of}
use Rattle.imago_access.proofs.Flat.{read_listed}
use Rattle.imago_access.proofs.reader.Reader.read.Goals as goal

pub returns-else-is_err-clause-disk : goal.returns-else-is_err-clause-disk
returns-else-is_err-clause-disk g c = λ tells. read_listed g.D.FormatDriverInstance.view g.met.D.FormatDriverInstance.lawful g.met.D.FormatDriverInstance.causes_lawful (image_of c.args.self.now) c.args.offset c.read_range-result.new.buf _ c.read_range-result.result c.read_range-result.auto.buf (c.read_range-result.ensures.bytes tells)
