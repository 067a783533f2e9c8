-- SPDX-License-Identifier: MIT
use Rattle.std.proofs.Common.{arith}
use Rattle.imago_access.proofs.Flat.{resize_listed}
use Rattle.imago_access.proofs.access.FormatAccess.resize.Goals as goal

pub returns-then-new_size-size-clause-resized : goal.returns-then-new_size-size-clause-resized
returns-then-new_size-size-clause-resized g c = record {
  cut = λ less. c.resize_shrink.ensures.resized;
  grown = λ more. absurd (omega (arith, more, c.if-new_size-size.true));
}

pub returns-then-new_size-size-clause-disk : goal.returns-then-new_size-size-clause-disk
returns-then-new_size-size-clause-disk g c = λ keeps. resize_listed g.D.FormatDriverInstance.view g.met.D.FormatDriverInstance.lawful g.met.D.FormatDriverInstance.causes_lawful _ _ _ _ _ keeps (returns-then-new_size-size-clause-resized g c)

pub returns-clause-resized : goal.returns-clause-resized
returns-clause-resized g c = record {
  cut = λ less. absurd (omega (arith, less, c.if-new_size-size.false));
  grown = λ more. c.resize_grow.ensures.resized;
}

pub returns-clause-disk : goal.returns-clause-disk
returns-clause-disk g c = λ keeps. resize_listed g.D.FormatDriverInstance.view g.met.D.FormatDriverInstance.lawful g.met.D.FormatDriverInstance.causes_lawful _ _ _ _ _ keeps (returns-clause-resized g c)
