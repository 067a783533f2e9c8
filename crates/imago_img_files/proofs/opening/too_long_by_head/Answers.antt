-- SPDX-License-Identifier: MIT
use Rattle.imago_img_files.proofs.LongestLaws.{too_long_by_head}
use Rattle.imago_img_files.proofs.opening.too_long_by_head.Goals as goal

pub returns : goal.returns
returns c = too_long_by_head
