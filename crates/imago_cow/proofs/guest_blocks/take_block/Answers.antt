-- SPDX-License-Identifier: MIT
use Rattle.std.proofs.Common.{◌≡◌, ◌+◌, ◌*◌, ⊎_elim, None, ap, arith}
use Rattle.std.proofs.lemmas.Bool.{cases_lt}
use Rattle.std.proofs.lemmas.Result.{IfOk-weaker, on_err_weaker}
use Rattle.imago_cow.specs.TableView.{entries_of, held_of, count_of}
use Rattle.imago_cow.specs.Table.{named_count, held_count}
use Rattle.imago_cow.proofs.MapSteps.{number_ends}
use Rattle.imago_cow.proofs.GrowSteps.{addressed_after}
use Rattle.imago_cow.proofs.PrepareSteps.{lowest_one}
use Rattle.imago_cow.proofs.guest_blocks.take_block.Goals as goal

pub returns-clause-fits : goal.returns-clause-fits
returns-clause-fits c = IfOk-weaker c.take.result _ _
    (λ j low.
    let t = c.args.table.now in
    let one : c.next.result ≡ j = lowest_one (entries_of t) (held_of t) None (count_of t) c.next.result j c.requires.spent c.next.ensures.lowest low in
    let times : c.next.result * c.args.block ≡ j * c.args.block = ap (λ x. x * c.args.block) one in
    omega (arith, times, c.in-Some.ensures, c.if-block-start.false))
    c.take.ensures.lowest

pub returns-clause-addressed : goal.returns-clause-addressed
returns-clause-addressed c =
    let t = c.args.table.now in
    addressed_after 18446744073709551616 c.args.block (count_of t) (count_of c.take.new.self) c.take.result c.take.ensures.count (returns-clause-fits c) (on_err_weaker c.take.result (λ u. u.2) c.take.ensures.unchanged) c.requires.addressed

-- a free one ends by the greatest offset, so the next one is new
pub returns-then-block-start-clause-wraps : goal.returns-then-block-start-clause-wraps
returns-then-block-start-clause-wraps c = λ e.
    let t = c.args.table.now in
    let block = c.args.block in
    let next = c.next.result in
    let past = c.if-block-start.true in
    ⊎_elim
    (λ free. let ends = number_ends block next (count_of t) free in let z : ⊥ = omega (arith, ends, past, c.in-Some.ensures, c.requires.addressed) in absurd z)
    (λ new.
    let all : next ≡ count_of t = let w = c.next.ensures.lowest.within in omega (arith, new, w) in
    let none : held_count (held_of t) ≡ 0 = ap held_count c.requires.spent in
    let n : named_count (entries_of t) + 1 ≡ next + 1 = let f = c.next.ensures.none_free all in omega (arith, f, all, none) in
    let ends : (named_count (entries_of t) + 1) * block ≡ (next + 1) * block = ap (λ x. x * block) n in
    omega (arith, ends, past, c.in-Some.ensures))
    (cases_lt next (count_of t))
