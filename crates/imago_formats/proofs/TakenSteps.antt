-- What a file is taken for, by the probes that see it.
-- SPDX-License-Identifier: MIT
use Rattle.std.proofs.Common.{◌≡◌, ◌∙◌, ℕ, ◌<◌, List, [], ◌∷◌, length, Option, sym, ap}
use Rattle.std.specs.List.{filter}
use Rattle.imago_formats.specs.declared.probe.Probed.{Probed}
use Rattle.imago_formats.specs.Bytes.{head}
use Rattle.imago_formats.specs.Probes.{taken_by_qemu, probed, sees, marked, weak, strongest, the_only}
use Rattle.imago_formats.proofs.HeadLaws.{by_head}

by_seen : (name bytes first : List ℕ) (seen : List Probed) → 0 < length bytes → first ≡ head bytes
    → filter (sees name first) marked ≡ seen
    → taken_by_qemu name bytes ≡ the_only (strongest seen (filter (sees name first) weak))
unfolding probed
by_seen name bytes first seen some is all = by_head name bytes some ∙ ap (probed name) (sym is)
    ∙ ap (λ found. the_only (strongest found (filter (sees name first) weak))) all

-- by a mark
pub by_marked : (name bytes first : List ℕ) (found : Probed) (others : List Probed) (r : Option Probed)
    → 0 < length bytes → first ≡ head bytes → filter (sees name first) marked ≡ found ∷ others
    → r ≡ the_only (found ∷ others) → r ≡ taken_by_qemu name bytes
by_marked name bytes first found others r some is all told =
    told ∙ sym (by_seen name bytes first (found ∷ others) some is all)

-- where no mark stands in it
pub by_weak : (name bytes first : List ℕ) (r : Option Probed) → 0 < length bytes → first ≡ head bytes
    → filter (sees name first) marked ≡ [] → r ≡ the_only (filter (sees name first) weak)
    → r ≡ taken_by_qemu name bytes
by_weak name bytes first r some is none told = told ∙ sym (by_seen name bytes first [] some is none)
