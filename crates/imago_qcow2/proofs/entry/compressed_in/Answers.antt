-- SPDX-License-Identifier: MIT
use Rattle.std.proofs.Common.{refl}
use Rattle.imago_qcow2.specs.Entry.{compressed_in_entry}
use Rattle.imago_qcow2.proofs.entry.compressed_in.Goals as goal

pub returns-clause-says : goal.returns-clause-says
unfolding compressed_in_entry
returns-clause-says c = rw c.stream_offsets-offsets.ensures.value refl
