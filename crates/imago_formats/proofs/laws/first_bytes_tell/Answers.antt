-- SPDX-License-Identifier: MIT
use Rattle.imago_formats.proofs.HeadLaws.{first_bytes_tell}
use Rattle.imago_formats.proofs.laws.first_bytes_tell.Goals as goal

pub returns : goal.returns
returns c = first_bytes_tell
