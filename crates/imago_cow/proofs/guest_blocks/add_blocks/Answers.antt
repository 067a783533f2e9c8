-- SPDX-License-Identifier: MIT
use Rattle.std.proofs.Common.{◌≤◌, ◌-◌, ◌++◌, length, replicate, ap, ◌∙◌}
use Rattle.std.proofs.lemmas.Result.{on_ok_weaker}
use Rattle.imago_cow.specs.Table.{without_data}
use Rattle.imago_cow.specs.TableView.{entries_of}
use Rattle.imago_cow.proofs.ResizeSteps.{are_added, exact_added, needs_no_fewer}
use Rattle.imago_cow.proofs.FillSteps.{prefix_kept, named_kept}
use Rattle.imago_cow.proofs.guest_blocks.add_blocks.Goals as goal

pub returns-clause-added : goal.returns-clause-added
returns-clause-added c = on_ok_weaker c.grow.result (λ e. rw e (are_added (without_data c.args.kind) _ _)) c.grow.ensures.entries

pub returns-clause-exact : goal.returns-clause-exact
returns-clause-exact c = on_ok_weaker c.grow.result
    (λ e.
    let w = c.first_whole-wanted.ensures in
    let x = c.requires.exact in
    let t = entries_of c.args.table.now in
    let fewer : length t ≤ c.first_whole-wanted.result = needs_no_fewer c.args.growth.block.length c.args.growth.size c.args.growth.new_size (length t) c.first_whole-wanted.result c.requires.grows w.begins x.near in
    let f = e ∙ ap (λ n. t ++ replicate (c.first_whole-wanted.result - n) (without_data c.args.kind)) c.len.ensures in
    rw f (exact_added c.args.growth.block.length c.args.growth.new_size c.first_whole-wanted.result (without_data c.args.kind) t fewer w.begins w.near))
    c.grow.ensures.entries

pub returns-clause-prefix : goal.returns-clause-prefix
returns-clause-prefix c = prefix_kept c.grow.result _ _ _ c.grow.ensures.entries c.grow.ensures.unchanged

pub returns-clause-named : goal.returns-clause-named
returns-clause-named c = named_kept c.grow.result _ _ c.args.kind _ c.grow.ensures.entries c.grow.ensures.unchanged
