-- SPDX-License-Identifier: MIT
use Rattle.std.proofs.Common.{arith}
use Rattle.imago_tests.proofs.tests.laws.call_behind_growth.Goals as goal

pub read_grown-requires-clause-room : goal.read_grown-requires-clause-room
read_grown-requires-clause-room c = c.in_ok-in_memory_image.ensures.room 2032 16 (omega arith)

pub read_grown-requires-clause-aligned : goal.read_grown-requires-clause-aligned
read_grown-requires-clause-aligned c = c.in_ok-in_memory_image.ensures.aligned 2032 16 (omega arith)
