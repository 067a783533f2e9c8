-- SPDX-License-Identifier: MIT
use Rattle.std.proofs.Common.{◌≡◌, ◌+◌, ◌*◌, ◌<◌, ◌≤◌, ◌++◌, ◌∷◌, [], Some, Err, ⊎_elim, inl, inr, ap, ◌∙◌, length, arith}
use Rattle.std.specs.Prelude.{slice_get}
use Rattle.imago_drivers.specs.LayerBelow.{lent}
use Rattle.imago_cow.specs.declared.table.GuestBlock.{GuestBlock}
use Rattle.imago_cow.specs.TableView.{entries_of, held_of}
use Rattle.std.proofs.lemmas.Result.{err_from_is_err_and}
use Rattle.imago_cow.specs.Table.{named_count}
use Rattle.imago_cow.specs.TableLaws.{held_apart, held_below}
use Rattle.imago_cow.proofs.FillSteps.{filled_length, take_refused, block_kept}
use Rattle.imago_cow.proofs.CutSteps.{copy_refused}
use Rattle.imago_cow.proofs.MapSteps.{number_ends}
use Rattle.imago_cow.proofs.GrowSteps.{copied_place}
use Rattle.imago_cow.specs.TableView.{count_of}
use Rattle.imago_cow.proofs.GrowthCallSteps.{not_pushed, copy_pushed, copy_refused as copy_not_made}
use Rattle.imago_cow.proofs.guest_blocks.push_filled.Goals as goal

pub returns-in-Ok-clause-pushed : goal.returns-in-Ok-clause-pushed
returns-in-Ok-clause-pushed g c =
    let n = c.in_ok-number.number in
    let h : held_of c.take_block.new.table ≡ Some n = c.in_ok-number.ensures.held in
    let same = c.take_block.ensures.entries in
    let old = entries_of c.args.table.now in
    record {
      number = n;
      entries = c.push_held.ensures.entries n h ∙ ap (λ e. e ++ GuestBlock.Data n ∷ []) same;
      unnamed = λ i e. held_apart c.take_block.new.table i n h (ap (λ x. slice_get x i) same ∙ e);
      holds = λ keeps told p a b l. copied_place (lent g.B.LowerLayer.as_layer_below c.args.below).at c.args.missing.block.length c.len.result (length old) n c.min-count.result c.args.missing.new_size p (g.S.Storage.bytes c.copy_old.new.storage)
          c.requires.ready.positive c.len.ensures c.min-count.ensures (c.in-Ok.ensures.copied keeps told) a b l;
      outside = λ keeps p s. c.in-Ok.ensures.outside keeps p (⊎_elim (λ x. inl x) (λ x. let y : n * c.args.missing.block.length + c.min-count.result ≤ p = omega (arith, x, c.min-count.ensures) in inr y) s);
    }

pub returns-in_err-number-clause-bounded : goal.returns-in_err-number-clause-bounded
returns-in_err-number-clause-bounded g c = λ most counted named.
    let p = err_from_is_err_and c.from_residual.result c.from_residual.ensures.1 in
    let w = c.in_err-number.ensures.wraps in
    record {
      counted = omega (arith, counted, named, c.take_block.ensures.added);
      no_longer = omega arith;
      refusals = rw (p.1, p.2) (take_refused (g.S.Storage.features c.args.storage.now) (lent g.B.LowerLayer.as_layer_below c.args.below) c.args.missing.block.length (named_count (entries_of c.args.table.now)) most _ _
          (g.met.S.Storage.lawful c.args.storage.now) c.requires.ready.positive named (λ x. w (ap Err x)) c.in_err-number.ensures.only);
    }

pub returns-in-Ok-clause-bounded : goal.returns-in-Ok-clause-bounded
returns-in-Ok-clause-bounded g c = λ most counted named.
    let n = c.in_ok-number.number in
    let known = held_below c.take_block.new.table n c.in_ok-number.ensures.held in
    let k : n < most = omega (arith, known, c.take_block.ensures.added, counted, named) in
    record {
      counted = omega (arith, counted, named, c.take_block.ensures.added, c.push_held.ensures.count);
      no_longer = filled_length (g.S.Storage.features c.args.storage.now) c.args.missing.block.length n most c.min-count.result (n * c.args.missing.block.length) _ _ c.requires.ready.positive k (omega (arith, c.min-count.ensures)) c.copy_old.ensures.no_longer;
      refusals = tt;
    }

pub returns-in-Err-clause-bounded : goal.returns-in-Err-clause-bounded
returns-in-Err-clause-bounded g c = λ most counted named.
    let n = c.in_ok-number.number in
    let b = c.args.missing.block.length in
    let old = length (entries_of c.args.table.now) in
    let known = held_below c.take_block.new.table n c.in_ok-number.ensures.held in
    let k : n < most = omega (arith, known, c.take_block.ensures.added, counted, named) in
    let ends = number_ends b n most k in
    let t : c.len.result * b ≡ old * b = ap (λ x. x * b) c.len.ensures in
    record {
      counted = omega (arith, counted, named, c.take_block.ensures.added, c.release.ensures.count);
      no_longer = filled_length (g.S.Storage.features c.args.storage.now) b n most c.min-count.result (n * b) _ _ c.requires.ready.positive k (omega (arith, c.min-count.ensures)) c.copy_old.ensures.no_longer;
      refusals = copy_refused (g.S.Storage.features c.args.storage.now) (lent g.B.LowerLayer.as_layer_below c.args.below) _ (c.len.result * b) c.min-count.result (n * b) (most * b) _ c.in-Err.e (omega (arith, ends, c.min-count.ensures))
          (λ a p i. let x : old * b ≤ p = omega (arith, t, i.0) in let y : p < c.args.missing.new_size = omega (arith, i.1, c.min-count.ensures) in (x, y)) c.in-Err.ensures.refusals;
    }

pub returns-in-Err-clause-bytes : goal.returns-in-Err-clause-bytes
returns-in-Err-clause-bytes g c =
    let n = c.in_ok-number.number in
    let h : held_of c.take_block.new.table ≡ Some n = c.in_ok-number.ensures.held in
    let same = c.take_block.ensures.entries in
    let t = entries_of c.args.table.now in
    block_kept (g.S.Storage.features c.args.storage.now).keeps_data c.args.missing.block.length (length t * c.args.missing.block.length) n (n * c.args.missing.block.length) c.min-count.result t _ _
    (λ i e. held_apart c.take_block.new.table i n h (ap (λ x. slice_get x i) same ∙ e)) (omega arith) (omega (arith, c.min-count.ensures)) c.copy_old.ensures.outside

pub returns-in_err-number-clause-copies : goal.returns-in_err-number-clause-copies
returns-in_err-number-clause-copies g c =
    let p = err_from_is_err_and c.from_residual.result c.from_residual.ensures.1 in
    rw (p.1) (not_pushed g.S.Storage.features g.S.Storage.bytes g.S.Storage.fault_count g.S.Storage.work g.S.Storage.maintenance (lent g.B.LowerLayer.as_layer_below c.args.below) c.args.missing.block.length c.args.missing.new_size (entries_of c.args.table.now) (count_of c.args.table.now) _ _ c.args.storage.now (p.0))

pub returns-in-Ok-clause-copies : goal.returns-in-Ok-clause-copies
returns-in-Ok-clause-copies g c =
    let n = c.in_ok-number.number in
    let h : held_of c.take_block.new.table ≡ Some n = c.in_ok-number.ensures.held in
    copy_pushed g.S.Storage.features g.S.Storage.bytes g.S.Storage.fault_count g.S.Storage.work g.S.Storage.maintenance (lent g.B.LowerLayer.as_layer_below c.args.below) c.args.missing.block.length c.args.missing.new_size (entries_of c.args.table.now) (count_of c.args.table.now) _ _ n (c.len.result * c.args.missing.block.length) c.min-count.result c.args.storage.now _ c.in_ok-number.ensures.lowest (ap (λ x. x * c.args.missing.block.length) c.len.ensures) c.min-count.ensures c.in-Ok.ensures.copies
    (c.push_held.ensures.entries n h ∙ ap (λ e. e ++ GuestBlock.Data n ∷ []) c.take_block.ensures.entries) (c.push_held.ensures.count ∙ c.in_ok-number.ensures.counted)

pub returns-in-Err-clause-copies : goal.returns-in-Err-clause-copies
returns-in-Err-clause-copies g c =
    copy_not_made g.S.Storage.features g.S.Storage.bytes g.S.Storage.fault_count g.S.Storage.work g.S.Storage.maintenance (lent g.B.LowerLayer.as_layer_below c.args.below) c.args.missing.block.length c.args.missing.new_size (entries_of c.args.table.now) (count_of c.args.table.now) _ _ c.in_ok-number.number (c.len.result * c.args.missing.block.length) c.min-count.result c.args.storage.now _ c.in-Err.e c.in_ok-number.ensures.lowest (ap (λ x. x * c.args.missing.block.length) c.len.ensures) c.min-count.ensures c.in-Err.ensures.copies
