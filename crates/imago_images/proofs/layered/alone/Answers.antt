-- SPDX-License-Identifier: MIT
use Rattle.imago_images.specs.Layers.{tables_in}
use Rattle.imago_images.proofs.layered.alone.Goals as goal

pub returns-clause-tables : goal.returns-clause-tables
returns-clause-tables g c = c.alone.ensures.tables tables_in
