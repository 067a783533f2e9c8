-- SPDX-License-Identifier: MIT
use Rattle.std.proofs.Common.{ap, Some, ◌∙◌, arith}
use Rattle.imago_cow.specs.TableLaws.{named_below}
use Rattle.imago_cow.specs.TableView.{count_of}
use Rattle.imago_cow.specs.GuestLaws.{rest_small}
use Rattle.imago_cow.proofs.MapSteps.{number_ends, right_absent, right_zero, right_data}
use Rattle.imago_cow.proofs.map.map_place.Goals as goal

pub overflow_mul-mapping : goal.overflow_mul-mapping
overflow_mul-mapping c =
    let k = named_below c.args.table.now _ c.in-Data.number (c.entry_at.ensures ∙ ap (λ x. Some x) c.in-Data.is) in
    let x = number_ends c.args.block.length c.in-Data.number (count_of c.args.table.now) k in
    omega (arith, x, c.requires.addressed)

pub overflow_add-mapping : goal.overflow_add-mapping
overflow_add-mapping c =
    let k = named_below c.args.table.now _ c.in-Data.number (c.entry_at.ensures ∙ ap (λ x. Some x) c.in-Data.is) in
    let x = number_ends c.args.block.length c.in-Data.number (count_of c.args.table.now) k in
    let r = rest_small c.args.block.length c.requires.positive c.args.offset in
    omega (arith, x, r, c.requires.addressed)

pub returns-in-Absent-clause-right : goal.returns-in-Absent-clause-right
returns-in-Absent-clause-right c = λ bytes.
    right_absent bytes c.args.size c.args.block.length _ c.args.offset c.args.max_length c.requires.positive c.requires.exact.covers c.min-count.result (c.entry_at.ensures ∙ ap (λ x. Some x) c.in-Absent.is) (omega (arith, c.if-offset-size.false)) (omega (arith, c.min-count.ensures, rw c.rest-rest.ensures.value at c.min.ensures))

pub returns-in-Zero-clause-right : goal.returns-in-Zero-clause-right
returns-in-Zero-clause-right c = λ bytes.
    right_zero bytes c.args.size c.args.block.length _ c.args.offset c.args.max_length c.requires.positive c.requires.exact.covers c.min-count.result (c.entry_at.ensures ∙ ap (λ x. Some x) c.in-Zero.is) (omega (arith, c.if-offset-size.false)) (omega (arith, c.min-count.ensures, rw c.rest-rest.ensures.value at c.min.ensures))

pub returns-in-Data-clause-right : goal.returns-in-Data-clause-right
returns-in-Data-clause-right c = λ bytes.
    rw c.rest-rest.ensures.value (right_data bytes c.args.size c.args.block.length _ c.args.offset c.args.max_length c.requires.positive c.requires.exact.covers c.in-Data.number c.min-count.result (c.entry_at.ensures ∙ ap (λ x. Some x) c.in-Data.is) (omega (arith, c.if-offset-size.false)) (omega (arith, c.min-count.ensures, rw c.rest-rest.ensures.value at c.min.ensures)))
