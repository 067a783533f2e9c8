-- SPDX-License-Identifier: MIT
use Rattle.std.proofs.Common.{◌≡◌, ◌-◌, ◌≤◌, ℕ, length}
use Rattle.imago_drivers.specs.Place.{Value, HasValues}
use Rattle.imago_qcow2_new.specs.Space.{StoresData}
use Rattle.imago_qcow2_new.proofs.scan.Scan.look_at.Given as goal

abbrev pub invariant-loop-done : goal.invariant-loop-done
invariant-loop-done l = record {
  within : l.done ≤ length l.source;
  unit : l.self.unit ≡ l.initial.self.unit;
  sparse : (values : ℕ → Value) → HasValues values l.at l.source → StoresData l.initial.self.stored values → StoresData l.self.stored values;
}

abbrev pub decreases-loop-done : goal.decreases-loop-done
decreases-loop-done l = length l.source - l.done
