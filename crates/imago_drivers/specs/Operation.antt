-- SPDX-License-Identifier: MIT
use Rattle.imago_drivers.specs.declared.format.PreallocateMode.{PreallocateMode}

-- What a call is, for its causes and for what it takes. Data mappings, their writes and their
-- commit count as writes.
pub data Operation : Type 0 where
  Map : Operation
  Read : Operation
  Write : Operation
  Zero : Operation
  DiscardToZero : Operation
  DiscardToAny : Operation
  DiscardToBacking : Operation
  Grow : PreallocateMode → Operation
  Shrink : Operation
  Flush : Operation
