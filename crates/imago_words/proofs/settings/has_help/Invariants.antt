-- SPDX-License-Identifier: MIT
use Rattle.std.proofs.Common.{◌≡◌, length}
use denote.Text.{Utf8}
use denote.Shadow.{shadow}
use Rattle.imago_words.specs.Settings.{has_help}
use Rattle.imago_words.proofs.settings.has_help.Given as goal

abbrev pub invariant-loop-first : goal.invariant-loop-first
invariant-loop-first l = shadow (Utf8 l.rest) × (has_help l.rest ≡ has_help l.fn.text)

abbrev pub decreases-loop-first : goal.decreases-loop-first
decreases-loop-first l = length l.rest
