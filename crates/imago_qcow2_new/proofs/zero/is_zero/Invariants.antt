-- SPDX-License-Identifier: MIT
use Rattle.std.proofs.Common.{◌≡◌, ℕ, ◌<◌, get_or}
use Rattle.imago_qcow2_new.proofs.zero.is_zero.Given as goal

abbrev pub invariant-loop-byte : goal.invariant-loop-byte
invariant-loop-byte l = record {
  zero : l.all ≡ 0 → (k : ℕ) → k < l.byte-index → get_or l.bytes k 0 ≡ 0;
  some : 0 < l.all → (k : ℕ) × (k < l.byte-index) × (0 < get_or l.bytes k 0);
}
