-- SPDX-License-Identifier: MIT
use Rattle.std.proofs.Common.{◌≡◌, ◌+◌, ◌-◌, ◌*◌, ◌≤◌, true, false, length, min, sym, subst, ap, ◌∙◌, inl, inr, arith}
use Rattle.imago_drivers.specs.LayerBelow.{lent}
use Rattle.imago_cow.specs.Table.{named_count}
use Rattle.imago_cow.specs.TableView.{entries_of}
use Rattle.imago_cow.specs.Growth.{IsExtended}
use Rattle.imago_cow.specs.Cut.{shows_below}
use Rattle.imago_cow.specs.Grown.{AddsData}
use Rattle.imago_cow.proofs.ResizeSteps.{needs_no_fewer}
use Rattle.imago_cow.proofs.FillSteps.{zero_extended, one_whole}
use Rattle.imago_cow.proofs.StoredSteps.{on_ok, ok_holds}
use Rattle.imago_cow.proofs.CutSteps.{limit_refused}
use Rattle.std.proofs.Common.{Ok, Err}
use Rattle.std.proofs.lemmas.Result.{err_from_is_err_and}
use Rattle.imago_cow.specs.TableView.{count_of}
use Rattle.imago_cow.proofs.GrowthCallSteps.{zeroes_added, no_room_added, copies_added}
use Rattle.imago_cow.proofs.guest_blocks.add_new.Goals as goal

pub returns-then-not-leads_below-clause-added : goal.returns-then-not-leads_below-clause-added
returns-then-not-leads_below-clause-added g c =
    let at = (lent g.B.LowerLayer.as_layer_below c.args.below).at in
    let keeps = (g.S.Storage.features c.args.storage.now).keeps_data in
    let told = (lent g.B.LowerLayer.as_layer_below c.args.below).tells_bytes in
    let growth = c.args.growth in
    let old = entries_of c.args.table.now in
    let new = entries_of c.add_blocks.new.table in
    let x = g.S.Storage.bytes c.args.storage.now in
    let zero : shows_below growth.mode ≡ false = sym c.kind_of_new.ensures ∙ sym c.leads_below.ensures ∙ c.if-not-leads_below.true in
    on_ok c.add_blocks.result (λ y e.
    let added = ok_holds y e c.add_blocks.ensures.added in
    let exact = ok_holds y e c.add_blocks.ensures.exact in
    record {
      exact = exact;
      extended = subst (λ v. IsExtended at v keeps told growth.block.length (length old * growth.block.length) growth.new_size old new x x) (sym zero) (zero_extended at keeps told growth.block.length growth.new_size old new x c.requires.idle.ready.positive exact added);
      in_data = λ t. let u : true ≡ false = sym t ∙ zero in let z : ⊥ = cc in absurd z;
      zeroes = λ t. added;
      named = λ wanted covers near. inl c.add_blocks.ensures.named;
    })

pub returns-clause-added : goal.returns-clause-added
returns-clause-added g c =
    let at = (lent g.B.LowerLayer.as_layer_below c.args.below).at in
    let keeps = (g.S.Storage.features c.args.storage.now).keeps_data in
    let told = (lent g.B.LowerLayer.as_layer_below c.args.below).tells_bytes in
    let growth = c.args.growth in
    let b = growth.block.length in
    let old = entries_of c.args.table.now in
    let new = entries_of c.push_blocks.new.table in
    let x = g.S.Storage.bytes c.args.storage.now in
    let y = g.S.Storage.bytes c.push_blocks.new.storage in
    let w = c.first_whole.ensures in
    let done = c.in_default.ensures.pushed in
    let lower : shows_below growth.mode ≡ true = sym c.kind_of_new.ensures ∙ sym c.leads_below.ensures ∙ c.if-not-leads_below.false in
    let lens : length (entries_of c.reserve.new.self) ≡ length old = ap length c.reserve.ensures.entries in
    let same : named_count (entries_of c.reserve.new.self) ≡ named_count old = ap named_count c.reserve.ensures.entries in
    let fewer : c.len-old.result ≤ c.first_whole.result = needs_no_fewer b growth.size growth.new_size c.len-old.result c.first_whole.result c.requires.grows w.begins (let t : c.len-old.result * b ≡ length old * b = ap (λ n. n * b) c.len-old.ensures in omega (arith, t, c.requires.idle.exact.near)) in
    let all : length new ≡ c.first_whole.result = omega (arith, done.len, lens, c.len-old.ensures, fewer) in
    let covers : length new * b ≡ c.first_whole.result * b = ap (λ n. n * b) all in
    let until : min growth.new_size (length new * b) ≡ growth.new_size = omega (arith, covers, w.begins) in
    let a : IsExtended at true keeps told b (length old * b) (min growth.new_size (length new * b)) old new x y = subst (λ e. IsExtended at true keeps told b (length e * b) (min growth.new_size (length new * b)) e new x y) c.reserve.ensures.entries done.extended in
    let d : IsExtended at true keeps told b (length old * b) growth.new_size old new x y = subst (λ u. IsExtended at true keeps told b (length old * b) u old new x y) until a in
    record {
      exact = record { covers = omega (arith, covers, w.begins); near = omega (arith, covers, w.near) };
      extended = subst (λ v. IsExtended at v keeps told b (length old * b) growth.new_size old new x y) (sym lower) d;
      in_data = λ t. subst (λ e. AddsData e new) c.reserve.ensures.entries done.in_data;
      zeroes = λ t. let u : true ≡ false = sym lower ∙ t in let z : ⊥ = cc in absurd z;
      named = λ wanted far near.
          let one : c.first_whole.result ≡ wanted = one_whole b growth.new_size c.first_whole.result wanted w.begins w.near far near in
          let n : named_count new ≡ named_count old + (wanted - length old) = omega (arith, done.named, same, one, c.len-old.ensures) in
          inr (lower, n);
    }

pub returns-in-Err-clause-bounded : goal.returns-in-Err-clause-bounded
returns-in-Err-clause-bounded g c = λ most wanted covers near counted named.
    let growth = c.args.growth in
    let b = growth.block.length in
    let old = entries_of c.args.table.now in
    let w = c.first_whole.ensures in
    let one : c.first_whole.result ≡ wanted = one_whole b growth.new_size c.first_whole.result wanted w.begins w.near covers near in
    let same : named_count (entries_of c.reserve.new.self) ≡ named_count old = ap named_count c.reserve.ensures.entries in
    let starts : length (entries_of c.reserve.new.self) * b ≡ length old * b = ap (λ e. length e * b) c.reserve.ensures.entries in
    let lower : shows_below growth.mode ≡ true = sym c.kind_of_new.ensures ∙ sym c.leads_below.ensures ∙ c.if-not-leads_below.false in
    let enough = named lower in
    let s = c.in-Err.ensures.bounded most (omega (arith, c.reserve.ensures.count, counted)) (omega (arith, same, enough, one, c.len-old.ensures)) in
    record {
      counted = omega (arith, s.counted, c.truncate.ensures.count);
      no_longer = s.no_longer;
      refusals = limit_refused (g.S.Storage.features c.args.storage.now) (lent g.B.LowerLayer.as_layer_below c.args.below) (most * b) (most * b) _ _ c.in-Err.e (omega arith)
          (λ p i. let y : length old * b ≤ p = omega (arith, starts, i.0) in (lower, y, i.1)) s.refusals;
    }

pub returns-clause-bounded : goal.returns-clause-bounded
returns-clause-bounded g c = λ most wanted covers near counted named.
    let growth = c.args.growth in
    let b = growth.block.length in
    let old = entries_of c.args.table.now in
    let w = c.first_whole.ensures in
    let one : c.first_whole.result ≡ wanted = one_whole b growth.new_size c.first_whole.result wanted w.begins w.near covers near in
    let same : named_count (entries_of c.reserve.new.self) ≡ named_count old = ap named_count c.reserve.ensures.entries in
    let enough = named (sym c.kind_of_new.ensures ∙ sym c.leads_below.ensures ∙ c.if-not-leads_below.false) in
    let s = c.in_default.ensures.bounded most (omega (arith, c.reserve.ensures.count, counted)) (omega (arith, same, enough, one, c.len-old.ensures)) in
    record { counted = s.counted; no_longer = s.no_longer; refusals = tt }

pub returns-then-not-leads_below-clause-copies : goal.returns-then-not-leads_below-clause-copies
returns-then-not-leads_below-clause-copies g c = λ wanted covers near.
    zeroes_added g.S.Storage.features g.S.Storage.bytes g.S.Storage.fault_count g.S.Storage.work g.S.Storage.maintenance (lent g.B.LowerLayer.as_layer_below c.args.below) (shows_below c.args.growth.mode) c.args.growth.block.length c.args.growth.new_size wanted (entries_of c.args.table.now) (count_of c.args.table.now) c.args.storage.now c.add_blocks.result (sym c.kind_of_new.ensures ∙ sym c.leads_below.ensures ∙ c.if-not-leads_below.true)

pub returns-in_err-reserve-clause-copies : goal.returns-in_err-reserve-clause-copies
returns-in_err-reserve-clause-copies g c = λ wanted covers near.
    let p = err_from_is_err_and c.from_residual.result c.from_residual.ensures.1 in
    rw (p.1) (no_room_added g.S.Storage.features g.S.Storage.bytes g.S.Storage.fault_count g.S.Storage.work g.S.Storage.maintenance (lent g.B.LowerLayer.as_layer_below c.args.below) (shows_below c.args.growth.mode) c.args.growth.block.length c.args.growth.new_size wanted (entries_of c.args.table.now) (count_of c.args.table.now) c.args.storage.now (p.0))

pub returns-in-Err-clause-copies : goal.returns-in-Err-clause-copies
returns-in-Err-clause-copies g c = λ wanted covers near.
    let w = c.first_whole.ensures in
    let one : c.first_whole.result ≡ wanted = one_whole c.args.growth.block.length c.args.growth.new_size c.first_whole.result wanted w.begins w.near covers near in
    copies_added g.S.Storage.features g.S.Storage.bytes g.S.Storage.fault_count g.S.Storage.work g.S.Storage.maintenance (lent g.B.LowerLayer.as_layer_below c.args.below) (shows_below c.args.growth.mode) c.args.growth.block.length c.args.growth.new_size wanted (c.first_whole.result - c.len-old.result) (entries_of c.args.table.now) (count_of c.args.table.now) _ _ c.args.storage.now _ (Err c.in-Err.e) (sym c.kind_of_new.ensures ∙ sym c.leads_below.ensures ∙ c.if-not-leads_below.false)
    (omega (arith, one, c.len-old.ensures)) c.reserve.ensures.entries c.reserve.ensures.count c.in-Err.ensures.copies

pub returns-clause-copies : goal.returns-clause-copies
returns-clause-copies g c = λ wanted covers near.
    let w = c.first_whole.ensures in
    let one : c.first_whole.result ≡ wanted = one_whole c.args.growth.block.length c.args.growth.new_size c.first_whole.result wanted w.begins w.near covers near in
    copies_added g.S.Storage.features g.S.Storage.bytes g.S.Storage.fault_count g.S.Storage.work g.S.Storage.maintenance (lent g.B.LowerLayer.as_layer_below c.args.below) (shows_below c.args.growth.mode) c.args.growth.block.length c.args.growth.new_size wanted (c.first_whole.result - c.len-old.result) (entries_of c.args.table.now) (count_of c.args.table.now) _ _ c.args.storage.now _ (Ok tt) (sym c.kind_of_new.ensures ∙ sym c.leads_below.ensures ∙ c.if-not-leads_below.false)
    (omega (arith, one, c.len-old.ensures)) c.reserve.ensures.entries c.reserve.ensures.count c.in_default.ensures.copies
