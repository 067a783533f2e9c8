-- SPDX-License-Identifier: MIT
use Rattle.std.proofs.Common.{◌≢◌, ℕ, ◌<◌, Some}
use Rattle.std.specs.Prelude.{slice_get}
use Rattle.imago_cow.specs.declared.table.GuestBlock.{GuestBlock}
use Rattle.imago_cow.specs.TableView.{entries_of}
use Rattle.imago_cow.proofs.table.Table.owner.Given as goal

abbrev pub invariant-loop-index : goal.invariant-loop-index
invariant-loop-index l = (i : ℕ) → i < l.index → slice_get (entries_of l.self) i ≢ Some (GuestBlock.Data l.number)
