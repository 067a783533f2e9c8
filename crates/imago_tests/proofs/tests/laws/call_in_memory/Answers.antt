-- SPDX-License-Identifier: MIT
use Rattle.std.proofs.Common.{arith, refl}
use Rattle.imago_tests.proofs.tests.laws.call_in_memory.Goals as goal

pub read-requires-clause-room : goal.read-requires-clause-room
read-requires-clause-room c = c.in_ok-in_memory_image.ensures.room 512 16 (omega arith)

pub write-requires-clause-room : goal.write-requires-clause-room
write-requires-clause-room c = c.in_ok-in_memory_image-3.ensures.room 512 16 (omega arith)

pub write_zeroes-requires-clause-room : goal.write_zeroes-requires-clause-room
write_zeroes-requires-clause-room c = c.in_ok-in_memory_image-4.ensures.room 512 16 (omega arith)

pub write_then_read-requires-clause-keeps_data : goal.write_then_read-requires-clause-keeps_data
write_then_read-requires-clause-keeps_data c = rw c.in_ok-in_memory_image-7.ensures.alone refl
