-- SPDX-License-Identifier: MIT
use Rattle.std.proofs.Common.{◌≡◌, length}
use Rattle.std.specs.List.{filter}
use Rattle.imago_formats.specs.Probes.{sees}
use Rattle.imago_formats.proofs.probe.first_seen.Given as goal

abbrev pub invariant-loop-format : goal.invariant-loop-format
invariant-loop-format l =
    filter (sees l.fn.name l.fn.head) l.rest ≡ filter (sees l.fn.name l.fn.head) l.fn.formats

abbrev pub decreases-loop-format : goal.decreases-loop-format
decreases-loop-format l = length l.rest
