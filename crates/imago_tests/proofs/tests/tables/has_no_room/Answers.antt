-- SPDX-License-Identifier: MIT
use Rattle.std.proofs.Common.{refl}
use Rattle.imago_tests.proofs.tests.tables.has_no_room.Goals as goal

pub create-requires-clause-power : goal.create-requires-clause-power
unfolding lib.Count.ones
create-requires-clause-power g c = refl
