-- SPDX-License-Identifier: MIT
use Rattle.std.proofs.Common.{◌≡◌, ◌<◌, length, min, sym, ap, ◌∙◌, arith, [], ℕ}
use Rattle.std.specs.Prelude.{IsTrue, slice_index}
use Rattle.std.specs.Int.{div_ceil}
use Rattle.imago_qcow2.specs.Entry.{cluster_length}
use Rattle.imago_storage.specs.Bytes.{IsReadAt}
use Rattle.imago_qcow2_check.specs.CountParts.{most_counted}
use Rattle.imago_qcow2_check.specs.Counts.{count_of, blocks_start}
use Rattle.imago_qcow2_check.specs.Uses.{setting}
use Rattle.imago_qcow2_check.specs.Tallies.{setting_of}
use Rattle.imago_qcow2_check.proofs.CheckSteps.{count_same, setting_same, all_corruptions, all_leaks}
use Rattle.imago_qcow2_check.proofs.check.count.Goals as goal

pub compare-requires : goal.compare-requires
compare-requires g c =
    let a = c.in_ok-look_for_shared.ensures [] in
    record { all = a.uses.len ∙ c.in_ok-count_uses.ensures.all ∙ sym (ap length c.deref-5.ensures.value ∙ c.in_ok-counts.ensures.all) }

pub returns-clause-corruptions : goal.returns-clause-corruptions
returns-clause-corruptions g c = λ (told : IsTrue (g.S.Storage.features c.args.storage.now).tells_bytes).
    let B = g.S.Storage.bytes c.args.storage.now in
    let shape = c.in_ok-shape.shape in
    let h = c.in_ok-head.head in
    let is = c.in_ok-head.ensures.says told in
    let table = c.in_ok-table.table.items in
    let counts = c.in_ok-counts.counts.items in
    let r : IsReadAt B (blocks_start B) table = rw is.blocks_start at (c.in_ok-table.ensures.read told) in
    let whole = c.in_ok-table.ensures.whole ∙ is.blocks_length in
    let cluster = c.in_ok-shape.ensures.cluster ∙ is.cluster in
    let file = c.in_ok-shape.ensures.file ∙ c.in_ok-head.ensures.file in
    let version = c.in_ok-shape.ensures.version ∙ is.version in
    let each : (n : ℕ) → n < shape.clusters → slice_index counts n ≡ min (count_of B n) most_counted = λ n below.
    rw c.deref.ensures.value at (c.in_ok-counts.ensures.told told n below) ∙ ap (λ x. min x most_counted) (count_same h.order shape.cluster B table n is.order cluster r whole) in
    let same : setting_of shape counts ≡ setting B = setting_same shape B counts file cluster version c.in_ok-counts.ensures.all each in
    let e2 = c.deref-2.ensures.value in
    let e3 = c.deref-3.ensures.value in
    let same2 : setting_of shape c.deref-2.result.now ≡ setting B = rw e2 same in
    let len3 : length c.deref-3.result.now ≡ h.blocks_length = rw e3 c.in_ok-table.ensures.whole in
    let read3 : IsReadAt B h.blocks_start c.deref-3.result.now = rw e3 (c.in_ok-table.ensures.read told) in
    let p = c.in_ok-count_uses.ensures.told told is (c.in_ok-head.ensures.bitmaps told) same2 len3 read3 in
    let q = rw c.deref-4.ensures.value at (c.in_ok-look_for_shared.ensures counts) in
    let x = rw c.deref-5.ensures.value at c.in_ok-compare.ensures in
    let some : 0 < shape.cluster = omega (arith, shape.shortest) in
    all_corruptions B (setting_of shape counts) same counts table c.in_ok-tally.tally c.count_uses.new.tally c.look_for_shared.new.tally c.compare.new.tally shape.clusters shape.all some c.in_ok-counts.ensures.all each
    c.in_ok-tally.ensures.uses c.in_ok-tally.ensures.corruptions c.in_ok-tally.ensures.leaks p r whole q x

pub returns-clause-leaks : goal.returns-clause-leaks
returns-clause-leaks g c = λ (told : IsTrue (g.S.Storage.features c.args.storage.now).tells_bytes).
    let B = g.S.Storage.bytes c.args.storage.now in
    let shape = c.in_ok-shape.shape in
    let h = c.in_ok-head.head in
    let is = c.in_ok-head.ensures.says told in
    let table = c.in_ok-table.table.items in
    let counts = c.in_ok-counts.counts.items in
    let r : IsReadAt B (blocks_start B) table = rw is.blocks_start at (c.in_ok-table.ensures.read told) in
    let whole = c.in_ok-table.ensures.whole ∙ is.blocks_length in
    let cluster = c.in_ok-shape.ensures.cluster ∙ is.cluster in
    let file = c.in_ok-shape.ensures.file ∙ c.in_ok-head.ensures.file in
    let version = c.in_ok-shape.ensures.version ∙ is.version in
    let each : (n : ℕ) → n < shape.clusters → slice_index counts n ≡ min (count_of B n) most_counted = λ n below.
    rw c.deref.ensures.value at (c.in_ok-counts.ensures.told told n below) ∙ ap (λ x. min x most_counted) (count_same h.order shape.cluster B table n is.order cluster r whole) in
    let same : setting_of shape counts ≡ setting B = setting_same shape B counts file cluster version c.in_ok-counts.ensures.all each in
    let e2 = c.deref-2.ensures.value in
    let e3 = c.deref-3.ensures.value in
    let same2 : setting_of shape c.deref-2.result.now ≡ setting B = rw e2 same in
    let len3 : length c.deref-3.result.now ≡ h.blocks_length = rw e3 c.in_ok-table.ensures.whole in
    let read3 : IsReadAt B h.blocks_start c.deref-3.result.now = rw e3 (c.in_ok-table.ensures.read told) in
    let p = c.in_ok-count_uses.ensures.told told is (c.in_ok-head.ensures.bitmaps told) same2 len3 read3 in
    let q = rw c.deref-4.ensures.value at (c.in_ok-look_for_shared.ensures counts) in
    let x = rw c.deref-5.ensures.value at c.in_ok-compare.ensures in
    let some : 0 < shape.cluster = omega (arith, shape.shortest) in
    all_leaks B (setting_of shape counts) same counts table c.in_ok-tally.tally c.count_uses.new.tally c.look_for_shared.new.tally c.compare.new.tally shape.clusters shape.all some c.in_ok-counts.ensures.all each
    c.in_ok-tally.ensures.uses c.in_ok-tally.ensures.corruptions c.in_ok-tally.ensures.leaks p r whole q x

pub returns-clause-within : goal.returns-clause-within
returns-clause-within g c = λ (told : IsTrue (g.S.Storage.features c.args.storage.now).tells_bytes).
    let B = g.S.Storage.bytes c.args.storage.now in
    let shape = c.in_ok-shape.shape in
    let is = c.in_ok-head.ensures.says told in
    let cluster = c.in_ok-shape.ensures.cluster ∙ is.cluster in
    let file = c.in_ok-shape.ensures.file ∙ c.in_ok-head.ensures.file in
    let e : shape.clusters ≡ div_ceil (length B) (cluster_length B) = shape.all ∙ ap (λ x. div_ceil x shape.cluster) file ∙ ap (div_ceil (length B)) cluster in
    let w = c.in_ok-shape.ensures.within in
    rw e at w
