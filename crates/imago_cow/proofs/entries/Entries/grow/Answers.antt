-- SPDX-License-Identifier: MIT
use Rattle.std.proofs.Common.{◌≡◌, ◌≤◌, ◌-◌, ap, ◌∙◌, length, arith}
use Rattle.std.specs.Prelude.{vec_len}
use Rattle.imago_cow.specs.Packed.{unpacked}
use Rattle.imago_cow.specs.Entries.{listed}
use Rattle.imago_cow.proofs.EntrySteps.{map_grown}
use Rattle.imago_cow.proofs.entries.Entries.grow.Goals as goal

pub returns-clause-entries : goal.returns-clause-entries
unfolding listed
returns-clause-entries c =
    let ok = c.in_ok-resize.ensures in
    let words = c.args.self.now.words.items in
    let now = c.make_room.new.items in
    let l : vec_len now ≡ length words = now.ok.0 ∙ ap length c.make_room.ensures.items in
    let least : length words ≤ c.in-Some.guest_blocks = omega arith in
    let more : c.in-Some.guest_blocks - vec_len now ≡ c.args.additional = omega arith in
    rw (ok.items, c.make_room.ensures.items) (map_grown unpacked words c.in-Some.guest_blocks _ c.args.additional c.empty_word.result _ c.empty_word.ensures least more)
