-- SPDX-License-Identifier: MIT
use Rattle.std.proofs.Common.{◌≡◌, drop}
use Rattle.imago_images.specs.BackingNames.{names_protocol}
use Rattle.imago_images.proofs.backing_name.names_protocol.Given as goal

abbrev pub invariant-loop-byte : goal.invariant-loop-byte
invariant-loop-byte l = names_protocol (drop l.byte-index l.byte-items) ≡ names_protocol l.name
