-- SPDX-License-Identifier: MIT
use Rattle.std.proofs.Common.{ℕ, List}
use Rattle.imago_cow.specs.TableView.{entries_of}
use Rattle.imago_cow.proofs.NamedSteps.{ShownBefore}
use Rattle.imago_cow.proofs.named.all_shown.Given as goal

abbrev pub invariant-loop-number : goal.invariant-loop-number
invariant-loop-number l = (bytes : List ℕ) → ShownBefore bytes l.size l.block.length (entries_of l.table) l.offset l.count l.number
