-- SPDX-License-Identifier: MIT
use Rattle.std.proofs.Common.{Some, ap, ◌∙◌, arith}
use Rattle.imago_cow.specs.Entries.{listed}
use Rattle.imago_cow.proofs.TableSteps.{cleared, cleared_count, still_empty, still_empty_count}
use Rattle.imago_cow.proofs.table.Table.clear.Goals as goal

pub overflow_sub-self : goal.overflow_sub-self
overflow_sub-self c =
    let t = c.args.self.now in
    let e = c.get-old.ensures ∙ ap (λ x. Some x) c.in-Data.is in
    let n = cleared_count (listed t.entries) c.args.index c.args.kind c.in-Data.block e in
    omega (arith, n, t.used_counted)

pub put-requires : goal.put-requires
put-requires c =
    let t = c.args.self.now in
    let e = c.get-old.ensures ∙ ap (λ x. Some x) c.in-Data.is in
    let n = cleared_count (listed t.entries) c.args.index c.args.kind c.in-Data.block e in
    omega (arith, n, t.used_counted, t.all_counted, t.has_room)

pub invariant_of-self : goal.invariant_of-self
invariant_of-self c =
    let t = c.args.self.now in
    let e = c.get-old.ensures ∙ ap (λ x. Some x) c.in-Data.is in
    let n = cleared_count (listed t.entries) c.args.index c.args.kind c.in-Data.block e in
    record {
      each_once = rw c.clear.ensures.entries (cleared (listed t.entries) c.args.index c.args.kind t.free c.put.new.self c.in-Data.block t.held t.count e c.put.ensures.put t.each_once);
      all_counted = omega (arith, c.put.ensures.put.count, n, t.used_counted, t.all_counted);
      used_counted = rw c.clear.ensures.entries (omega (arith, n, t.used_counted));
      has_room = omega (arith, c.put.ensures.room, t.has_room);
    }

pub invariant_of-self-in_default : goal.invariant_of-self-in_default
invariant_of-self-in_default c =
    let t = c.args.self.now in
    record {
      each_once = rw c.clear.ensures.entries (still_empty (listed t.entries) c.args.index c.args.kind t.free c.get-old.result t.held t.count c.get-old.ensures c.in_default.not-Data t.each_once);
      all_counted = t.all_counted;
      used_counted = rw (c.clear.ensures.entries, still_empty_count (listed t.entries) c.args.index c.args.kind c.get-old.result c.get-old.ensures c.in_default.not-Data) t.used_counted;
      has_room = t.has_room;
    }
