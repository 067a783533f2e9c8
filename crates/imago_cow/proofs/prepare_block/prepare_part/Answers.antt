-- SPDX-License-Identifier: MIT
use Rattle.std.proofs.Common.{rules, ◌≡◌, ◌+◌, ◌*◌, ◌%◌, ◌<◌, ◌≤◌, ◌⊎◌, ◌∙◌, ⊎_elim, inl, inr, None, ap, refl, arith}
use Rattle.std.proofs.lemmas.Bool.{cases_lt}
use Rattle.imago_drivers.specs.Operation.{Write}
use Rattle.imago_drivers.specs.LayerBelow.{lent}
use Rattle.imago_cow.specs.declared.cow.Waiting.{Waiting}
use Rattle.imago_cow.specs.Cow.{WaitsApart, data_count}
use Rattle.imago_cow.specs.Table.{named_count, is_absent}
use Rattle.imago_cow.specs.TableView.{entries_of, count_of}
use Rattle.imago_cow.specs.TableLaws.{held_apart}
use Rattle.imago_cow.specs.GuestLaws.{rest_small}
use Rattle.imago_cow.proofs.MapSteps.{number_ends}
use Rattle.imago_cow.proofs.PrepareSteps.{kind_entry, empty_absent, empty_zero, one_more, prepared, prepared_unchanged, prepared_settled, length_within, round_refused, over_refused, full_wraps, full_refused}
use Rattle.std.proofs.lemmas.Result.{err_from_is_err_and}
use Rattle.std.proofs.Common.{Ok, Err}
use Rattle.imago_storage.specs.declared.error.Error.{Error}
use Rattle.imago_cow.proofs.CopyCallSteps.{round_taken, none_taken}
use Rattle.imago_cow.proofs.prepare_block.prepare_part.Goals as goal

pub overflow_mul-start : goal.overflow_mul-start
overflow_mul-start g c =
    let part = c.args.part in
    let number = c.in_ok-number.number in
    let e = c.take.ensures.entries in
    let fits : number * part.block.length + part.block.length < 18446744073709551616 = ⊎_elim
    (λ less. omega (arith, number_ends part.block.length number (count_of c.args.table.now) less, c.requires.idle.ready.addressed))
    (λ more.
    let same : number ≡ count_of c.args.table.now = omega (arith, more, c.in_ok-number.ensures.lowest.within) in
    let all : count_of c.args.table.now ≤ named_count (entries_of c.args.table.now) = omega (arith, same, c.in_ok-number.ensures.count, c.take.ensures.added) in
    let x = c.fits_next.ensures.fits c.if-not-fits_next.false all in
    let y : number * part.block.length ≡ count_of c.args.table.now * part.block.length = ap (λ z. z * part.block.length) same in
    omega (arith, x, y))
    (cases_lt number (count_of c.args.table.now)) in
    omega (arith, fits)

pub overflow_add-result : goal.overflow_add-result
overflow_add-result g c =
    let part = c.args.part in
    let number = c.in_ok-number.number in
    let e = c.take.ensures.entries in
    let fits : number * part.block.length + part.block.length < 18446744073709551616 = ⊎_elim
    (λ less. omega (arith, number_ends part.block.length number (count_of c.args.table.now) less, c.requires.idle.ready.addressed))
    (λ more.
    let same : number ≡ count_of c.args.table.now = omega (arith, more, c.in_ok-number.ensures.lowest.within) in
    let all : count_of c.args.table.now ≤ named_count (entries_of c.args.table.now) = omega (arith, same, c.in_ok-number.ensures.count, c.take.ensures.added) in
    let x = c.fits_next.ensures.fits c.if-not-fits_next.false all in
    let y : number * part.block.length ≡ count_of c.args.table.now * part.block.length = ap (λ z. z * part.block.length) same in
    omega (arith, x, y))
    (cases_lt number (count_of c.args.table.now)) in
    omega (arith, fits, rest_small part.block.length c.requires.idle.ready.positive part.offset)

pub copy_round-requires-clause-fits : goal.copy_round-requires-clause-fits
copy_round-requires-clause-fits g c =
    let part = c.args.part in
    let number = c.in_ok-number.number in
    let e = c.take.ensures.entries in
    let fits : number * part.block.length + part.block.length < 18446744073709551616 = ⊎_elim
    (λ less. omega (arith, number_ends part.block.length number (count_of c.args.table.now) less, c.requires.idle.ready.addressed))
    (λ more.
    let same : number ≡ count_of c.args.table.now = omega (arith, more, c.in_ok-number.ensures.lowest.within) in
    let all : count_of c.args.table.now ≤ named_count (entries_of c.args.table.now) = omega (arith, same, c.in_ok-number.ensures.count, c.take.ensures.added) in
    let x = c.fits_next.ensures.fits c.if-not-fits_next.false all in
    let y : number * part.block.length ≡ count_of c.args.table.now * part.block.length = ap (λ z. z * part.block.length) same in
    omega (arith, x, y))
    (cases_lt number (count_of c.args.table.now)) in
    fits

pub returns-in-Ok-clause-table : goal.returns-in-Ok-clause-table
returns-in-Ok-clause-table g c =
    let part = c.args.part in
    let number = c.in_ok-number.number in
    let e = c.take.ensures.entries in
    let fits : number * part.block.length + part.block.length < 18446744073709551616 = ⊎_elim
    (λ less. omega (arith, number_ends part.block.length number (count_of c.args.table.now) less, c.requires.idle.ready.addressed))
    (λ more.
    let same : number ≡ count_of c.args.table.now = omega (arith, more, c.in_ok-number.ensures.lowest.within) in
    let all : count_of c.args.table.now ≤ named_count (entries_of c.args.table.now) = omega (arith, same, c.in_ok-number.ensures.count, c.take.ensures.added) in
    let x = c.fits_next.ensures.fits c.if-not-fits_next.false all in
    let y : number * part.block.length ≡ count_of c.args.table.now * part.block.length = ap (λ z. z * part.block.length) same in
    omega (arith, x, y))
    (cases_lt number (count_of c.args.table.now)) in
    let counts : (count_of c.take.new.self ≡ count_of c.args.table.now) ⊎ (count_of c.take.new.self ≡ number + 1) = ⊎_elim (λ l. inr (omega (arith, l, c.in_ok-number.ensures.count))) (λ h. inl (omega (arith, h, c.in_ok-number.ensures.count))) (cases_lt (count_of c.args.table.now) (number + 1)) in
    record {
      entries = e;
      added = c.take.ensures.added;
      addressed = ⊎_elim (λ s. let x : count_of c.take.new.self * part.block.length ≡ count_of c.args.table.now * part.block.length = ap (λ y. y * part.block.length) s in omega (arith, x, c.requires.idle.ready.addressed)) (λ s. let x : count_of c.take.new.self * part.block.length ≡ (number + 1) * part.block.length = ap (λ y. y * part.block.length) s in omega (arith, x, fits)) counts;
    }

pub returns-in-Err-clause-table : goal.returns-in-Err-clause-table
returns-in-Err-clause-table g c =
    let part = c.args.part in
    let number = c.in_ok-number.number in
    let e = c.take.ensures.entries in
    let fits : number * part.block.length + part.block.length < 18446744073709551616 = ⊎_elim
    (λ less. omega (arith, number_ends part.block.length number (count_of c.args.table.now) less, c.requires.idle.ready.addressed))
    (λ more.
    let same : number ≡ count_of c.args.table.now = omega (arith, more, c.in_ok-number.ensures.lowest.within) in
    let all : count_of c.args.table.now ≤ named_count (entries_of c.args.table.now) = omega (arith, same, c.in_ok-number.ensures.count, c.take.ensures.added) in
    let x = c.fits_next.ensures.fits c.if-not-fits_next.false all in
    let y : number * part.block.length ≡ count_of c.args.table.now * part.block.length = ap (λ z. z * part.block.length) same in
    omega (arith, x, y))
    (cases_lt number (count_of c.args.table.now)) in
    let counts : (count_of c.take.new.self ≡ count_of c.args.table.now) ⊎ (count_of c.take.new.self ≡ number + 1) = ⊎_elim (λ l. inr (omega (arith, l, c.in_ok-number.ensures.count))) (λ h. inl (omega (arith, h, c.in_ok-number.ensures.count))) (cases_lt (count_of c.args.table.now) (number + 1)) in
    record {
      entries = c.release.ensures.entries ∙ e;
      added = omega (arith, c.take.ensures.added, c.release.ensures.count);
      addressed = rw c.release.ensures.count (⊎_elim (λ s. let x : count_of c.take.new.self * part.block.length ≡ count_of c.args.table.now * part.block.length = ap (λ y. y * part.block.length) s in omega (arith, x, c.requires.idle.ready.addressed)) (λ s. let x : count_of c.take.new.self * part.block.length ≡ (number + 1) * part.block.length = ap (λ y. y * part.block.length) s in omega (arith, x, fits)) counts);
    }

pub returns-in-Ok-clause-waits : goal.returns-in-Ok-clause-waits
returns-in-Ok-clause-waits g c =
    let part = c.args.part in
    let number = c.in_ok-number.number in
    let e = c.take.ensures.entries in
    let w : Waiting = record { start = part.offset; length = part.run; offset = number * part.block.length + part.offset % part.block.length; number = number; state = c.args.part.state } in
    let apart : WaitsApart part.block.length part.size (entries_of c.args.table.now) (count_of c.take.new.self) w = record {
      some = c.requires.part.some;
      inside = c.requires.part.inside;
      in_block = c.requires.part.in_block;
      offset = refl;
      known = omega (arith, c.in_ok-number.ensures.count);
      apart = λ i h. held_apart c.take.new.self i number c.in_ok-number.ensures.held (rw e h);
      free = kind_entry part.kind _ c.requires.part.empty;
    } in
    record {
      held = c.in_ok-number.ensures.held;
      lowest = c.in_ok-number.ensures.lowest;
      apart = rw (e, c.rest.ensures.value) apart;
      start = refl;
      run = refl;
      state = refl;
    }

pub returns-in-Ok-clause-prepared : goal.returns-in-Ok-clause-prepared
returns-in-Ok-clause-prepared g c = λ most now_faults old_faults m some run own.
    let part = c.args.part in
    let number = c.in_ok-number.number in
    let e = c.take.ensures.entries in
    let w : Waiting = record { start = part.offset; length = part.run; offset = number * part.block.length + part.offset % part.block.length; number = number; state = c.args.part.state } in
    let apart : WaitsApart part.block.length part.size (entries_of c.args.table.now) (count_of c.take.new.self) w = record {
      some = c.requires.part.some;
      inside = c.requires.part.inside;
      in_block = c.requires.part.in_block;
      offset = refl;
      known = omega (arith, c.in_ok-number.ensures.count);
      apart = λ i h. held_apart c.take.new.self i number c.in_ok-number.ensures.held (rw e h);
      free = kind_entry part.kind _ c.requires.part.empty;
    } in
    rw (e, c.rest.ensures.value) (prepared (g.S.Storage.features c.args.storage.now) old_faults now_faults (g.S.Storage.bytes c.args.storage.now) (g.S.Storage.bytes c.copy_round.new.storage) part.size part.block.length _ _ _ w c.requires.idle.ready.positive c.requires.idle.exact.covers apart c.take.ensures.added
    (lent g.B.LowerLayer.as_layer_below c.args.below).at (is_absent part.kind) part.overwrite (lent g.B.LowerLayer.as_layer_below c.args.below).tells_bytes (empty_absent part.kind _ c.requires.part.empty) (empty_zero part.kind _ c.requires.part.empty) c.in-Ok.ensures.copied
    part.offset most m refl some run own.storage (rw c.rest.ensures.value at own.offset) own.run own.state)

pub returns-in-Ok-clause-unchanged : goal.returns-in-Ok-clause-unchanged
returns-in-Ok-clause-unchanged g c = λ now_faults old_faults v.
    let part = c.args.part in
    let number = c.in_ok-number.number in
    let e = c.take.ensures.entries in
    let w : Waiting = record { start = part.offset; length = part.run; offset = number * part.block.length + part.offset % part.block.length; number = number; state = c.args.part.state } in
    let apart : WaitsApart part.block.length part.size (entries_of c.args.table.now) (count_of c.take.new.self) w = record {
      some = c.requires.part.some;
      inside = c.requires.part.inside;
      in_block = c.requires.part.in_block;
      offset = refl;
      known = omega (arith, c.in_ok-number.ensures.count);
      apart = λ i h. held_apart c.take.new.self i number c.in_ok-number.ensures.held (rw e h);
      free = kind_entry part.kind _ c.requires.part.empty;
    } in
    rw e (prepared_unchanged (g.S.Storage.features c.args.storage.now) old_faults now_faults (g.S.Storage.bytes c.args.storage.now) (g.S.Storage.bytes c.copy_round.new.storage) part.size part.block.length _ _ _ w c.requires.idle.ready.positive c.requires.idle.exact.covers apart c.take.ensures.added v c.copy_round.ensures.outside)

pub returns-in-Err-clause-unchanged : goal.returns-in-Err-clause-unchanged
returns-in-Err-clause-unchanged g c = λ now_faults old_faults v.
    let part = c.args.part in
    let number = c.in_ok-number.number in
    let e = c.take.ensures.entries in
    let w : Waiting = record { start = part.offset; length = part.run; offset = number * part.block.length + part.offset % part.block.length; number = number; state = c.args.part.state } in
    let apart : WaitsApart part.block.length part.size (entries_of c.args.table.now) (count_of c.take.new.self) w = record {
      some = c.requires.part.some;
      inside = c.requires.part.inside;
      in_block = c.requires.part.in_block;
      offset = refl;
      known = omega (arith, c.in_ok-number.ensures.count);
      apart = λ i h. held_apart c.take.new.self i number c.in_ok-number.ensures.held (rw e h);
      free = kind_entry part.kind _ c.requires.part.empty;
    } in
    rw (c.release.ensures.count, c.release.ensures.entries, e) (prepared_unchanged (g.S.Storage.features c.args.storage.now) old_faults now_faults (g.S.Storage.bytes c.args.storage.now) (g.S.Storage.bytes c.copy_round.new.storage) part.size part.block.length _ _ _ w c.requires.idle.ready.positive c.requires.idle.exact.covers apart c.take.ensures.added v c.copy_round.ensures.outside)

pub returns-in-Ok-clause-settled : goal.returns-in-Ok-clause-settled
returns-in-Ok-clause-settled g c =
    let part = c.args.part in
    let number = c.in_ok-number.number in
    let e = c.take.ensures.entries in
    let w : Waiting = record { start = part.offset; length = part.run; offset = number * part.block.length + part.offset % part.block.length; number = number; state = c.args.part.state } in
    let apart : WaitsApart part.block.length part.size (entries_of c.args.table.now) (count_of c.take.new.self) w = record {
      some = c.requires.part.some;
      inside = c.requires.part.inside;
      in_block = c.requires.part.in_block;
      offset = refl;
      known = omega (arith, c.in_ok-number.ensures.count);
      apart = λ i h. held_apart c.take.new.self i number c.in_ok-number.ensures.held (rw e h);
      free = kind_entry part.kind _ c.requires.part.empty;
    } in
    prepared_settled (g.S.Storage.features c.args.storage.now) part.size part.block.length _ _ _ w c.requires.idle.ready.positive c.requires.idle.exact.covers apart c.take.ensures.added part.run c.requires.part.some

pub returns-in-Ok-clause-no_longer : goal.returns-in-Ok-clause-no_longer
returns-in-Ok-clause-no_longer g c = λ most some.
    let part = c.args.part in
    let number = c.in_ok-number.number in
    let e = c.take.ensures.entries in
    let under : part.offset < part.size = omega (arith, c.requires.part.some, c.requires.part.inside) in
    let more = one_more part.block.length part.size (entries_of c.args.table.now) (count_of c.args.table.now) c.requires.idle.ready.positive c.requires.idle.exact.covers part.offset under (kind_entry part.kind _ c.requires.part.empty) Write part.offset most tt (omega arith) (omega (arith, some)) in
    let known : number < data_count part.block.length part.size (entries_of c.args.table.now) (count_of c.args.table.now) None Write part.offset most = omega (arith, more, c.in_ok-number.ensures.count, c.take.ensures.added) in
    length_within (g.S.Storage.features c.args.storage.now) part.block.length number _ _ _ c.requires.idle.ready.positive known c.copy_round.ensures.no_longer

pub returns-in-Err-clause-no_longer : goal.returns-in-Err-clause-no_longer
returns-in-Err-clause-no_longer g c = λ most some.
    let part = c.args.part in
    let number = c.in_ok-number.number in
    let e = c.take.ensures.entries in
    let under : part.offset < part.size = omega (arith, c.requires.part.some, c.requires.part.inside) in
    let more = one_more part.block.length part.size (entries_of c.args.table.now) (count_of c.args.table.now) c.requires.idle.ready.positive c.requires.idle.exact.covers part.offset under (kind_entry part.kind _ c.requires.part.empty) Write part.offset most tt (omega arith) (omega (arith, some)) in
    let known : number < data_count part.block.length part.size (entries_of c.args.table.now) (count_of c.args.table.now) None Write part.offset most = omega (arith, more, c.in_ok-number.ensures.count, c.take.ensures.added) in
    length_within (g.S.Storage.features c.args.storage.now) part.block.length number _ _ _ c.requires.idle.ready.positive known c.copy_round.ensures.no_longer

pub returns-in-Err-clause-refusals : goal.returns-in-Err-clause-refusals
returns-in-Err-clause-refusals g c = λ old_faults most some.
    let part = c.args.part in
    let number = c.in_ok-number.number in
    let e = c.take.ensures.entries in
    let under : part.offset < part.size = omega (arith, c.requires.part.some, c.requires.part.inside) in
    let more = one_more part.block.length part.size (entries_of c.args.table.now) (count_of c.args.table.now) c.requires.idle.ready.positive c.requires.idle.exact.covers part.offset under (kind_entry part.kind _ c.requires.part.empty) Write part.offset most tt (omega arith) (omega (arith, some)) in
    let known : number < data_count part.block.length part.size (entries_of c.args.table.now) (count_of c.args.table.now) None Write part.offset most = omega (arith, more, c.in_ok-number.ensures.count, c.take.ensures.added) in
    round_refused (g.S.Storage.features c.args.storage.now) old_faults (g.S.Storage.bytes c.args.storage.now) part.size part.block.length (entries_of c.args.table.now) (count_of c.args.table.now) (lent g.B.LowerLayer.as_layer_below c.args.below) (is_absent part.kind) part.offset most number (number * part.block.length)
    c.requires.idle.ready.positive under some (empty_absent part.kind _ c.requires.part.empty) refl known (kind_entry part.kind _ c.requires.part.empty) part.overwrite part.run c.in-Err.e c.in-Err.ensures.refusals

pub returns-in-Err-clause-over : goal.returns-in-Err-clause-over
returns-in-Err-clause-over g c = λ most some run over.
    let part = c.args.part in
    let number = c.in_ok-number.number in
    let e = c.take.ensures.entries in
    let under : part.offset < part.size = omega (arith, c.requires.part.some, c.requires.part.inside) in
    let more = one_more part.block.length part.size (entries_of c.args.table.now) (count_of c.args.table.now) c.requires.idle.ready.positive c.requires.idle.exact.covers part.offset under (kind_entry part.kind _ c.requires.part.empty) Write part.offset most tt (omega arith) (omega (arith, some)) in
    let known : number < data_count part.block.length part.size (entries_of c.args.table.now) (count_of c.args.table.now) None Write part.offset most = omega (arith, more, c.in_ok-number.ensures.count, c.take.ensures.added) in
    over_refused (g.S.Storage.features c.args.storage.now) part.size part.block.length (entries_of c.args.table.now) (count_of c.args.table.now) (lent g.B.LowerLayer.as_layer_below c.args.below) (is_absent part.kind) part.overwrite part.offset most part.run number (number * part.block.length)
    (empty_absent part.kind _ c.requires.part.empty) refl known over run c.in-Err.e c.in-Err.ensures.refusals

pub returns-then-not-fits_next-clause-refusals : goal.returns-then-not-fits_next-clause-refusals
returns-then-not-fits_next-clause-refusals g c = λ old_faults most some.
    let part = c.args.part in
    let full = c.fits_next.ensures.full c.if-not-fits_next.true in
    let under : part.offset < part.size = omega (arith, c.requires.part.some, c.requires.part.inside) in
    let more = one_more part.block.length part.size (entries_of c.args.table.now) (count_of c.args.table.now) c.requires.idle.ready.positive c.requires.idle.exact.covers part.offset under (kind_entry part.kind _ c.requires.part.empty) Write part.offset most tt (omega arith) (omega (arith, some)) in
    full_refused (g.S.Storage.features c.args.storage.now) old_faults (g.S.Storage.bytes c.args.storage.now) part.size part.block.length (entries_of c.args.table.now) (count_of c.args.table.now) (lent g.B.LowerLayer.as_layer_below c.args.below) part.offset most
    (g.met.S.Storage.lawful c.args.storage.now) c.requires.idle.ready.positive (omega (arith, more, full.0)) (full.1)

pub returns-then-not-fits_next-clause-over : goal.returns-then-not-fits_next-clause-over
returns-then-not-fits_next-clause-over g c = λ most some run over.
    let part = c.args.part in
    let full = c.fits_next.ensures.full c.if-not-fits_next.true in
    let under : part.offset < part.size = omega (arith, c.requires.part.some, c.requires.part.inside) in
    let more = one_more part.block.length part.size (entries_of c.args.table.now) (count_of c.args.table.now) c.requires.idle.ready.positive c.requires.idle.exact.covers part.offset under (kind_entry part.kind _ c.requires.part.empty) Write part.offset most tt (omega arith) (omega (arith, some)) in
    inl (
      refl,
      full_wraps (g.S.Storage.features c.args.storage.now) part.block.length part.size (entries_of c.args.table.now) (count_of c.args.table.now) part.offset most
          (g.met.S.Storage.lawful c.args.storage.now) c.requires.idle.ready.positive (omega (arith, more, full.0)) (full.1),
    )

pub returns-in-Err-clause-released : goal.returns-in-Err-clause-released
returns-in-Err-clause-released g c = c.release.ensures.held

pub returns-in_err-number-clause-unchanged : goal.returns-in_err-number-clause-unchanged
returns-in_err-number-clause-unchanged g c = λ now_faults old_faults waiting.
    let same = c.in_err-number.ensures.unchanged in
    rw (same.0, same.2) (search rules)

pub returns-then-not-fits_next-clause-copies : goal.returns-then-not-fits_next-clause-copies
returns-then-not-fits_next-clause-copies g c =
    let part = c.args.part in
    none_taken g.S.Storage.features g.S.Storage.bytes g.S.Storage.fault_count g.S.Storage.work g.S.Storage.maintenance (lent g.B.LowerLayer.as_layer_below c.args.below) (is_absent part.kind) part.overwrite (entries_of c.args.table.now) (count_of c.args.table.now) part.block.length part.size part.offset part.run c.args.storage.now (Err Error.WrapAround) refl

pub returns-in_err-number-clause-copies : goal.returns-in_err-number-clause-copies
returns-in_err-number-clause-copies g c =
    let part = c.args.part in
    let p = err_from_is_err_and c.from_residual.result c.from_residual.ensures.1 in
    rw (p.1) (none_taken g.S.Storage.features g.S.Storage.bytes g.S.Storage.fault_count g.S.Storage.work g.S.Storage.maintenance (lent g.B.LowerLayer.as_layer_below c.args.below) (is_absent part.kind) part.overwrite (entries_of c.args.table.now) (count_of c.args.table.now) part.block.length part.size part.offset part.run c.args.storage.now (Err (p.0)) refl)

pub returns-in-Ok-clause-copies : goal.returns-in-Ok-clause-copies
returns-in-Ok-clause-copies g c =
    let part = c.args.part in
    round_taken g.S.Storage.features g.S.Storage.bytes g.S.Storage.fault_count g.S.Storage.work g.S.Storage.maintenance (lent g.B.LowerLayer.as_layer_below c.args.below) (is_absent part.kind) part.overwrite (entries_of c.args.table.now) (count_of c.args.table.now) part.block.length part.size part.offset part.run c.in_ok-number.number c.args.storage.now _ (Ok tt) c.in_ok-number.ensures.lowest c.in-Ok.ensures.copies

pub returns-in-Err-clause-copies : goal.returns-in-Err-clause-copies
returns-in-Err-clause-copies g c =
    let part = c.args.part in
    round_taken g.S.Storage.features g.S.Storage.bytes g.S.Storage.fault_count g.S.Storage.work g.S.Storage.maintenance (lent g.B.LowerLayer.as_layer_below c.args.below) (is_absent part.kind) part.overwrite (entries_of c.args.table.now) (count_of c.args.table.now) part.block.length part.size part.offset part.run c.in_ok-number.number c.args.storage.now _ (Err c.in-Err.e) c.in_ok-number.ensures.lowest c.in-Err.ensures.copies
