-- What a handle owns.
-- SPDX-License-Identifier: MIT
use base.Fml.{Fml, ftrue}
use denote.RawPtr.{Ptr}
use Rattle.std.specs.Prelude.{Option, Some, None}
use Rattle.std.specs.declared.alloc.Global.{Global}
use Rattle.std.specs.contracts.impls.GlobalAllocator.TheImpl.{ghosts}
use Rattle.std.specs.Box.Ownership.{box_owns}
use Rattle.imago_session.specs.declared.session.Session.{Session}
use Rattle.imago_session.specs.contracts.session.Session.{the_row}

-- the box of a session, or nothing
abbrev pub held : Global → Ptr → Option Session → Fml
held alloc p None = ftrue
held alloc p (Some x) = box_owns (ghosts.dealloc_token alloc) the_row p x
