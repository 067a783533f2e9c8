-- SPDX-License-Identifier: MIT
use Rattle.std.proofs.Common.{sym, subst, length}
use Rattle.imago_storage.specs.Features.{Features, IsAlignedRequest}
use Rattle.imago_drivers.specs.Room.{HasRoom}
use Rattle.imago_tests.proofs.tests.laws.read_grown.Goals as goal

pub read-requires-clause-room : goal.read-requires-clause-room
read-requires-clause-room c = subst (λ (f : Features). HasRoom f c.args.offset (length c.args.buf.now)) (sym (c.in_ok-grow_and_write.ensures.kept 0)) c.requires.room

pub returns : goal.returns
returns c = c.read.ensures.aligned (subst (λ (f : Features). IsAlignedRequest f c.args.offset (length c.args.buf.now)) (sym (c.in_ok-grow_and_write.ensures.kept 0)) c.requires.aligned)
