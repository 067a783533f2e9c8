-- SPDX-License-Identifier: MIT
use Rattle.std.proofs.Common.{rules, arith, ap, Err, inl, inr, refl, ◌∙◌}
use Rattle.imago_storage.proofs.Alignment.{power_positive}
use Rattle.imago_storage.proofs.Outcomes.{OnOk_map, CountsFaults_then, not_wrapped, not_done, shows_same, shows_still}
use Rattle.imago_storage.proofs.ZeroRanges.{HasZeroed_again}
use Rattle.imago_storage.proofs.ZeroWraps.{fits_without_part, fits_by_edges, fits_by_data, wrap_without_part, wrap_by_edges, wrap_by_data, part_of_aligned, range_fits}
use Rattle.imago_storage.proofs.ZeroCalls.{has_part, has_no_part, part_then_data, part_and_edges}
use Rattle.imago_storage.proofs.zeroes.zero_nonempty.Goals as goal

pub returns-then-range : goal.returns-then-range
returns-then-range g c =
    let e = c.zero_by_writes.ensures in
    let p = c.requires.part in
    record {
      empty = λ none. absurd (omega (arith, none, c.requires.some));
      written = λ some. e.written;
      wraps = λ some w. absurd (range_fits _ _ _ _ _ p w);
      may_wrap = λ w. wrap_without_part _ _ _ _ _ _ p c.requires.some c.if-range.true (e.wraps w);
      fits = λ some. OnOk_map _ (fits_without_part _ _ _ _ _ _ p c.if-range.true) e.fits;
      features = e.features;
      only = e.only;
      cause = e.cause;
      memory = λ m aligned in_place.
          let same = part_of_aligned _ _ _ _ _ (power_positive _ (g.met.S.Storage.lawful c.args.storage.now).zero) c.requires.some aligned p in
          absurd (omega (arith, same.0, same.1, c.if-range.true, c.requires.some));
      early = λ m none. shows_same _ _ _ _ _ (e.early m (λ may. none (inl may)));
      performed = λ some fits. elim e.performed [
        | inl none ↦ inl none
        | inr made ↦ inr (inr (inr (λ has. has_no_part (g.S.Storage.features c.args.storage.now) _ _ _ _ p c.if-range.true has, e.work, made)))
      ];
    }

pub returns-in-Err-Unsupported : goal.returns-in-Err-Unsupported
returns-in-Err-Unsupported g c =
    let e = c.zero_part_and_edges.ensures in
    let d = rw e.features at c.zero_by_writes-in-Err-Unsupported.ensures in
    let p = c.requires.part in
    let is = c.in-Err-Unsupported.is ∙ ap Err c.in-Err-Unsupported.field-0-is in
    record {
      empty = λ none. absurd (omega (arith, none, c.requires.some));
      written = λ some. HasZeroed_again _ _ _ _ _ _ _ _ _ e.written c.in-Err-Unsupported.is d.written;
      wraps = λ some w. absurd (range_fits _ _ _ _ _ p w);
      may_wrap = λ w. wrap_by_data _ _ _ _ _ _ p c.requires.some (e.unsupported is).offered (d.wraps w);
      fits = λ some. OnOk_map _ (fits_by_data _ _ _ _ _ _ p (omega arith) (e.unsupported is).offered) d.fits;
      features = d.features;
      only = d.only;
      cause = CountsFaults_then _ _ _ _ _ _ _ refl e.cause d.cause;
      memory = λ m aligned in_place. absurd ((e.unsupported is).offered.not_in_place in_place);
      early = λ m none. shows_still _ _ _ _ _ _ (e.unsupported is).unchanged ((rw (e.unsupported is).unchanged.bytes at d.early) m (λ may. none (inl may)));
      performed = λ some fits. inr (inr (inl (has_part (g.S.Storage.features c.args.storage.now) _ _ _ _ p (omega arith), part_then_data _ _ _ _ _ _ _ _ _ _ p _ _ _ _ _ is e.performed d.work d.performed)));
    }

pub returns-in-Err : goal.returns-in-Err
returns-in-Err g c =
    let e = rw c.in-Err.is at c.zero_part_and_edges.ensures in
    let p = c.requires.part in
    record {
      empty = λ none. absurd (omega (arith, none, c.requires.some));
      written = λ some. e.written;
      wraps = λ some w. absurd (range_fits _ _ _ _ _ p w);
      may_wrap = λ w. wrap_by_edges _ _ _ _ _ _ p c.requires.some (omega arith) (e.wraps w) (λ made odd. not_wrapped _ (e.refused made odd) w);
      fits = λ some. tt;
      features = e.features;
      only = search rules;
      cause = e.cause;
      memory = λ m aligned.
          let same = part_of_aligned _ _ _ _ _ (power_positive _ (g.met.S.Storage.lawful c.args.storage.now).zero) c.requires.some aligned p in
          e.memory m same.0 same.1;
      early = e.early;
      performed = λ some fits. part_and_edges _ _ _ _ _ _ _ _ _ _ p _ _ _ (omega arith) e.performed;
    }

pub returns-in-Ok : goal.returns-in-Ok
returns-in-Ok g c =
    let e = rw c.in-Ok.is at c.zero_part_and_edges.ensures in
    let p = c.requires.part in
    record {
      empty = λ none. absurd (omega (arith, none, c.requires.some));
      written = λ some. e.written;
      wraps = λ some w. absurd (range_fits _ _ _ _ _ p w);
      may_wrap = λ w. absurd cc;
      fits = λ some. fits_by_edges _ _ _ _ _ _ p (omega arith) e.fits (λ made odd. not_done _ _ c.in-Ok.is (c.zero_part_and_edges.ensures.refused made odd));
      features = e.features;
      only = tt;
      cause = e.cause;
      memory = λ m. absurd cc;
      early = λ m. absurd cc;
      performed = λ some fits. part_and_edges _ _ _ _ _ _ _ _ _ _ p _ _ _ (omega arith) e.performed;
    }
