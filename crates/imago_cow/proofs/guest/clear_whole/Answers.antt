-- SPDX-License-Identifier: MIT
use Rattle.std.proofs.Common.{length, refl, arith}
use Rattle.imago_cow.specs.TableView.{entries_of}
use Rattle.imago_cow.proofs.WholeSteps.{WholeRange, no_part, cut_part, last_part, whole_cleared, none_cleared}
use Rattle.imago_cow.proofs.guest.clear_whole.Goals as goal

pub returns-then-last-first-clause-part : goal.returns-then-last-first-clause-part
returns-then-last-first-clause-part c =
    let l = c.last_whole-last.ensures in
    let w : WholeRange c.args.block.length c.args.size c.args.offset c.args.count (length (entries_of c.args.table.now)) c.first_whole-first.result c.last_whole-last.result = record {
      positive = c.requires.positive;
      inside = c.requires.inside;
      covers = c.requires.exact.covers;
      exact = c.requires.exact.near;
      begins = c.first_whole-first.ensures.begins;
      near = c.first_whole-first.ensures.near;
      cut = l.cut;
      all = λ h. omega (arith, l.all h, c.len.ensures);
      within = omega (arith, l.within, c.len.ensures);
    } in
    no_part w (omega (arith, c.if-last-first.true))

pub returns-then-last-first-clause-cleared : goal.returns-then-last-first-clause-cleared
returns-then-last-first-clause-cleared c =
    let l = c.last_whole-last.ensures in
    let w : WholeRange c.args.block.length c.args.size c.args.offset c.args.count (length (entries_of c.args.table.now)) c.first_whole-first.result c.last_whole-last.result = record {
      positive = c.requires.positive;
      inside = c.requires.inside;
      covers = c.requires.exact.covers;
      exact = c.requires.exact.near;
      begins = c.first_whole-first.ensures.begins;
      near = c.first_whole-first.ensures.near;
      cut = l.cut;
      all = λ h. omega (arith, l.all h, c.len.ensures);
      within = omega (arith, l.within, c.len.ensures);
    } in
    none_cleared w _ _ refl (omega (arith, c.if-last-first.true))

pub returns-then-end-size-clause-part : goal.returns-then-end-size-clause-part
returns-then-end-size-clause-part c =
    let l = c.last_whole-last.ensures in
    let w : WholeRange c.args.block.length c.args.size c.args.offset c.args.count (length (entries_of c.args.table.now)) c.first_whole-first.result c.last_whole-last.result = record {
      positive = c.requires.positive;
      inside = c.requires.inside;
      covers = c.requires.exact.covers;
      exact = c.requires.exact.near;
      begins = c.first_whole-first.ensures.begins;
      near = c.first_whole-first.ensures.near;
      cut = l.cut;
      all = λ h. omega (arith, l.all h, c.len.ensures);
      within = omega (arith, l.within, c.len.ensures);
    } in
    cut_part w (omega (arith, c.if-last-first.false)) (omega (arith, c.if-end-size.true))

pub returns-then-end-size-clause-cleared : goal.returns-then-end-size-clause-cleared
returns-then-end-size-clause-cleared c =
    let l = c.last_whole-last.ensures in
    let w : WholeRange c.args.block.length c.args.size c.args.offset c.args.count (length (entries_of c.args.table.now)) c.first_whole-first.result c.last_whole-last.result = record {
      positive = c.requires.positive;
      inside = c.requires.inside;
      covers = c.requires.exact.covers;
      exact = c.requires.exact.near;
      begins = c.first_whole-first.ensures.begins;
      near = c.first_whole-first.ensures.near;
      cut = l.cut;
      all = λ h. omega (arith, l.all h, c.len.ensures);
      within = omega (arith, l.within, c.len.ensures);
    } in
    whole_cleared w _ _ _ refl c.clear_range.ensures.cleared

pub returns-clause-part : goal.returns-clause-part
returns-clause-part c =
    let l = c.last_whole-last.ensures in
    let w : WholeRange c.args.block.length c.args.size c.args.offset c.args.count (length (entries_of c.args.table.now)) c.first_whole-first.result c.last_whole-last.result = record {
      positive = c.requires.positive;
      inside = c.requires.inside;
      covers = c.requires.exact.covers;
      exact = c.requires.exact.near;
      begins = c.first_whole-first.ensures.begins;
      near = c.first_whole-first.ensures.near;
      cut = l.cut;
      all = λ h. omega (arith, l.all h, c.len.ensures);
      within = omega (arith, l.within, c.len.ensures);
    } in
    last_part w (omega (arith, c.if-last-first.false)) (omega (arith, c.if-end-size.false))

pub returns-clause-cleared : goal.returns-clause-cleared
returns-clause-cleared c =
    let l = c.last_whole-last.ensures in
    let w : WholeRange c.args.block.length c.args.size c.args.offset c.args.count (length (entries_of c.args.table.now)) c.first_whole-first.result c.last_whole-last.result = record {
      positive = c.requires.positive;
      inside = c.requires.inside;
      covers = c.requires.exact.covers;
      exact = c.requires.exact.near;
      begins = c.first_whole-first.ensures.begins;
      near = c.first_whole-first.ensures.near;
      cut = l.cut;
      all = λ h. omega (arith, l.all h, c.len.ensures);
      within = omega (arith, l.within, c.len.ensures);
    } in
    whole_cleared w _ _ _ refl c.clear_range.ensures.cleared
