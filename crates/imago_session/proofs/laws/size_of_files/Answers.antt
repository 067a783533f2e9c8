-- SPDX-License-Identifier: MIT
use Rattle.imago_session.proofs.LayerSteps.{image_size}
use Rattle.imago_session.proofs.laws.size_of_files.Goals as goal

pub returns : goal.returns
returns c = λ permitted files layers. image_size permitted files c.args.image.now layers
