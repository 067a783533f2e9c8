-- SPDX-License-Identifier: MIT
use Rattle.std.proofs.Common.{ℕ, ◌+◌, ◌*◌, ◌<◌, ◌≤◌, ◌&&◌, length, max, Ok, Err, sym, subst, ◌∙◌, arith}
use Rattle.std.specs.Prelude.{IsTrue}
use Rattle.std.proofs.lemmas.Result.{err_from_is_err_and}
use Rattle.imago_storage.specs.Faults.{CountsFaults}
use Rattle.imago_drivers.specs.LayerBelow.{lent}
use Rattle.imago_drivers.specs.Lengths.{padded_to}
use Rattle.imago_cow.specs.Table.{named_count}
use Rattle.imago_cow.specs.TableView.{entries_of, count_of}
use Rattle.imago_cow.specs.Growth.{IsPushed, IsBounded}
use Rattle.imago_cow.proofs.FillSteps.{pushing_more, counts_then}
use Rattle.imago_cow.proofs.CutSteps.{limit_refused}
use Rattle.imago_cow.proofs.WholeSteps.{times_more}
use Rattle.std.proofs.Common.{suc, ◌≡◌, ◌-◌}
use Rattle.imago_cow.specs.CopyCalls.{ArePushedInTurn}
use Rattle.imago_cow.proofs.GrowthCallSteps.{push_then, push_refused, none_pushed}
use Rattle.imago_cow.proofs.guest_blocks.push_blocks.Goals as goal

pub push_filled-requires-clause-begins : goal.push_filled-requires-clause-begins
push_filled-requires-clause-begins g c =
    let was = c.loop.invariant.pushed in
    let less : length (entries_of c.loop.table) + 1 ≤ length (entries_of c.args.table.now) + c.args.missing.count = omega (arith, was.len, c.loop-test.true) in
    let ends = times_more c.args.missing.block.length (length (entries_of c.loop.table) + 1) (length (entries_of c.args.table.now) + c.args.missing.count) less in
    omega (arith, ends, c.requires.ends)

pub returns-in_err-push_filled-clause-bytes : goal.returns-in_err-push_filled-clause-bytes
returns-in_err-push_filled-clause-bytes g c = λ k i j r e s h.
    let was = c.loop.invariant.pushed in
    let now_keeps : IsTrue (g.S.Storage.features c.loop.storage).keeps_data = subst (λ f. IsTrue f.keeps_data) (sym c.loop.invariant.features) k in
    let less : length (entries_of c.args.table.now) ≤ length (entries_of c.loop.table) = omega (arith, was.len) in
    let ends = times_more c.args.missing.block.length (length (entries_of c.args.table.now)) (length (entries_of c.loop.table)) less in
    c.in_err-push_filled.ensures.bytes now_keeps i j r (was.extended.names i j e) s (omega (arith, h, ends)) ∙ was.extended.bytes k i j r e s h

pub returns-in_err-push_filled-clause-bounded : goal.returns-in_err-push_filled-clause-bounded
returns-in_err-push_filled-clause-bounded g c = λ most counted named.
    let p = err_from_is_err_and c.from_residual.result c.from_residual.ensures.1 in
    let was = c.loop.invariant.pushed in
    let l = lent g.B.LowerLayer.as_layer_below c.args.below in
    let b = c.args.missing.block.length in
    let f = g.S.Storage.features c.args.storage.now in
    let x = g.S.Storage.bytes c.loop.storage in
    let y = g.S.Storage.bytes c.push_filled.new.storage in
    let e = c.in_err-push_filled.field-0.0 in
    let v : count_of c.loop.table ≤ most = omega (arith, was.counted, counted, named, c.loop-test.true) in
    let w : named_count (entries_of c.loop.table) + 1 ≤ most = omega (arith, was.named, named, c.loop-test.true) in
    let less : length (entries_of c.args.table.now) ≤ length (entries_of c.loop.table) = omega (arith, was.len) in
    let starts = times_more b (length (entries_of c.args.table.now)) (length (entries_of c.loop.table)) less in
    let some : ℕ → Type 0 = λ q. (length (entries_of c.loop.table) * b ≤ q) × (q < c.args.missing.new_size) in
    let s : IsBounded f l b most some (count_of c.push_filled.new.table) x y (Err e) = subst (λ z. IsBounded z l b most some (count_of c.push_filled.new.table) x y (Err e)) c.loop.invariant.features (c.in_err-push_filled.ensures.bounded most v w) in
    let before = c.loop.invariant.no_longer most counted (omega (arith, named, c.loop-test.true)) in
    rw (p.1, p.2) (record {
      counted = s.counted;
      no_longer = omega (arith, before, s.no_longer);
      refusals = limit_refused f l (most * b) (most * b) some _ e (omega arith)
          (λ q i. let z : length (entries_of c.args.table.now) * b ≤ q = omega (arith, starts, i.0) in (z, i.1)) s.refusals;
    })

pub loop-preserved : goal.loop-preserved
loop-preserved g c =
    let inv = c.loop.invariant in
    let was = inv.pushed in
    let done = c.in_ok-push_filled.ensures in
    let l = lent g.B.LowerLayer.as_layer_below c.args.below in
    let f = g.S.Storage.features c.args.storage.now in
    let e = entries_of c.loop.table in
    let next = entries_of c.push_filled.new.table in
    let x = g.S.Storage.bytes c.loop.storage in
    let y = g.S.Storage.bytes c.push_filled.new.storage in
    let less : length e + 1 ≤ length (entries_of c.args.table.now) + c.args.missing.count = omega (arith, was.len, c.loop-test.true) in
    let ends = times_more c.args.missing.block.length (length e + 1) (length (entries_of c.args.table.now) + c.args.missing.count) less in
    let begins : length e * c.args.missing.block.length < c.args.missing.new_size = omega (arith, ends, c.requires.ends) in
    let pushed : IsPushed l.at f.keeps_data l.tells_bytes c.args.missing.block.length c.args.missing.new_size e next x y = subst (λ z. IsPushed l.at z.keeps_data l.tells_bytes c.args.missing.block.length c.args.missing.new_size e next x y) inv.features done.pushed in
    let counted : CountsFaults {T = Unit {0}} (f.is_reliable && l.is_reliable) (g.S.Storage.fault_count c.loop.storage + c.loop.faults) (g.S.Storage.fault_count c.push_filled.new.storage + c.push_filled.new.faults) (Ok tt) =
    subst (λ z. CountsFaults {T = Unit {0}} (z.is_reliable && l.is_reliable) (g.S.Storage.fault_count c.loop.storage + c.loop.faults) (g.S.Storage.fault_count c.push_filled.new.storage + c.push_filled.new.faults) (Ok tt)) inv.features done.call.faults in
    record {
      pushed = pushing_more l.at f.keeps_data l.tells_bytes c.args.missing.block.length c.args.missing.new_size (entries_of c.args.table.now) e next (g.S.Storage.bytes c.args.storage.now) x y (count_of c.args.table.now) (count_of c.loop.table) (count_of c.push_filled.new.table) c.loop.counter
          c.requires.ready.positive begins was pushed done.taken.added;
      copies = λ more last answer rest.
          let sum : c.loop.counter + suc more ≡ c.loop.counter + 1 + more = omega arith in
          subst (λ k. ArePushedInTurn g.S.Storage.features g.S.Storage.bytes g.S.Storage.fault_count g.S.Storage.work g.S.Storage.maintenance (lent g.B.LowerLayer.as_layer_below c.args.below) c.args.missing.block.length c.args.missing.new_size k (entries_of c.args.table.now) (count_of c.args.table.now) c.args.storage.now last answer) sum
          (inv.copies (suc more) last answer (push_then g.S.Storage.features g.S.Storage.bytes g.S.Storage.fault_count g.S.Storage.work g.S.Storage.maintenance (lent g.B.LowerLayer.as_layer_below c.args.below) c.args.missing.block.length c.args.missing.new_size e (count_of c.loop.table) next (count_of c.push_filled.new.table) more c.loop.storage c.push_filled.new.storage last answer done.copies rest));
      ready = done.ready;
      room = omega (arith, inv.room, done.taken.room);
      no_shorter = omega (arith, inv.no_shorter, done.call.no_shorter);
      no_longer = λ most before named.
          let a = inv.no_longer most before (omega (arith, named)) in
          let s : count_of c.loop.table ≤ most = omega (arith, was.counted, before, named) in
          let t : named_count e + 1 ≤ most = omega (arith, was.named, named) in
          let b : length y ≤ max (length x) (padded_to f 0 (most * c.args.missing.block.length)) = subst (λ z. length y ≤ max (length x) (padded_to z 0 (most * c.args.missing.block.length))) inv.features (done.bounded most s t).no_longer in
          omega (arith, a, b);
      features = done.call.features ∙ inv.features;
      faults = counts_then (f.is_reliable && l.is_reliable) _ _ _ (Ok tt) inv.faults counted;
    }

pub returns-in_err-push_filled-clause-copies : goal.returns-in_err-push_filled-clause-copies
returns-in_err-push_filled-clause-copies g c =
    let p = err_from_is_err_and c.from_residual.result c.from_residual.ensures.1 in
    let e = c.in_err-push_filled.field-0.0 in
    let more = c.args.missing.count - c.loop.counter - 1 in
    let sum : c.loop.counter + suc more ≡ c.args.missing.count = omega (arith, c.loop-test.true) in
    rw (p.1, p.2) (subst (λ k. ArePushedInTurn g.S.Storage.features g.S.Storage.bytes g.S.Storage.fault_count g.S.Storage.work g.S.Storage.maintenance (lent g.B.LowerLayer.as_layer_below c.args.below) c.args.missing.block.length c.args.missing.new_size k (entries_of c.args.table.now) (count_of c.args.table.now) c.args.storage.now c.push_filled.new.storage (Err e)) sum
    (c.loop.invariant.copies (suc more) c.push_filled.new.storage (Err e) (push_refused g.S.Storage.features g.S.Storage.bytes g.S.Storage.fault_count g.S.Storage.work g.S.Storage.maintenance (lent g.B.LowerLayer.as_layer_below c.args.below) c.args.missing.block.length c.args.missing.new_size (entries_of c.loop.table) (count_of c.loop.table) (entries_of c.push_filled.new.table) (count_of c.push_filled.new.table) more c.loop.storage c.push_filled.new.storage e c.in_err-push_filled.ensures.copies)))

pub returns-clause-copies : goal.returns-clause-copies
returns-clause-copies g c =
    let sum : c.loop.counter + 0 ≡ c.args.missing.count = omega (arith, c.loop-test.false, c.loop.auto.counter-end) in
    subst (λ k. ArePushedInTurn g.S.Storage.features g.S.Storage.bytes g.S.Storage.fault_count g.S.Storage.work g.S.Storage.maintenance (lent g.B.LowerLayer.as_layer_below c.args.below) c.args.missing.block.length c.args.missing.new_size k (entries_of c.args.table.now) (count_of c.args.table.now) c.args.storage.now c.loop.storage (Ok tt)) sum
    (c.loop.invariant.copies 0 c.loop.storage (Ok tt) (none_pushed g.S.Storage.features g.S.Storage.bytes g.S.Storage.fault_count g.S.Storage.work g.S.Storage.maintenance (lent g.B.LowerLayer.as_layer_below c.args.below) c.args.missing.block.length c.args.missing.new_size (entries_of c.loop.table) (count_of c.loop.table) c.loop.storage))
