-- SPDX-License-Identifier: MIT
use Rattle.imago_storage.proofs.Splices.{splice_inside, splice_before, splice_after, length-splice}
use Rattle.imago_storage.proofs.laws.splice_by_offset.Goals as goal

pub returns : goal.returns
returns c = λ bytes at new. record {
  inside = splice_inside bytes at new;
  before = splice_before bytes at new;
  behind = splice_after bytes at new;
  size = length-splice bytes at new;
}
