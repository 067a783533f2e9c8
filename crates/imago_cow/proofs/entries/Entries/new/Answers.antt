-- SPDX-License-Identifier: MIT
use Rattle.std.proofs.Common.{ap, ◌∙◌, map, replicate}
use Rattle.imago_cow.specs.Packed.{unpacked}
use Rattle.imago_cow.specs.Entries.{listed}
use Rattle.imago_cow.proofs.EntrySteps.{map_replicated}
use Rattle.imago_cow.proofs.entries.Entries.new.Goals as goal

pub returns-clause-entries : goal.returns-clause-entries
unfolding listed
returns-clause-entries c =
    ap (map unpacked) (c.in_ok-words.ensures.items_if_clones_equal (λ y h. h)) ∙ map_replicated unpacked c.args.count c.empty_word.result ∙ ap (replicate c.args.count) c.empty_word.ensures
