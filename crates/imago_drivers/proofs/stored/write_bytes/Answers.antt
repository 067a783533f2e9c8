-- SPDX-License-Identifier: MIT
use Rattle.std.proofs.Common.{length, arith, ⊎_elim, true, false, ap}
use Rattle.std.proofs.lemmas.Bool.{cases_lt}
use Rattle.std.proofs.lemmas.Result.{on_err_weaker, on_ok_weaker}
use Rattle.imago_storage.proofs.ZeroWraps.{padded_covers, padded_near}
use Rattle.imago_drivers.proofs.Lengths.{near_end}
use Rattle.imago_drivers.proofs.StorageBytes.{longest_write, written_bytes, torn_bytes, no_bytes, on_success, on_refusal}
use Rattle.imago_drivers.proofs.stored.write_bytes.Goals as goal

pub returns-clause-written : goal.returns-clause-written
returns-clause-written g c = λ k. ⊎_elim
    (λ some. on_ok_weaker c.write.result (λ h. written_bytes _ c.args.source.now _ c.args.offset _ h) ((c.write.ensures.written some).done k))
    (λ none. on_success c.write.result _ (no_bytes false c.args.offset c.args.source.now _ _ (omega arith) (ap g.S.Storage.bytes (c.write.ensures.empty (omega arith)).1)))
    (cases_lt 0 (length c.args.source.now))

pub returns-clause-torn : goal.returns-clause-torn
returns-clause-torn g c = λ k. ⊎_elim
    (λ some. on_err_weaker c.write.result (λ h. torn_bytes _ c.args.source.now _ c.args.offset _ h) ((c.write.ensures.written some).refused k))
    (λ none. on_refusal c.write.result _ (no_bytes true c.args.offset c.args.source.now _ _ (omega arith) (ap g.S.Storage.bytes (c.write.ensures.empty (omega arith)).1)))
    (cases_lt 0 (length c.args.source.now))

pub returns-clause-no_longer : goal.returns-clause-no_longer
returns-clause-no_longer g c = ⊎_elim
    (λ some. longest_write _ c.args.source.now c.args.offset _ _ (padded_covers (g.S.Storage.features c.args.storage.now) c.args.offset (length c.args.source.now)) (c.write.ensures.written some).no_longer)
    (λ none. let e = ap (λ s. length (g.S.Storage.bytes s)) (c.write.ensures.empty (omega arith)).1 in omega (arith, e))
    (cases_lt 0 (length c.args.source.now))

pub returns-clause-near : goal.returns-clause-near
returns-clause-near g c = ⊎_elim
    (λ some. near_end (g.S.Storage.features c.args.storage.now) c.args.offset (length c.args.source.now) _ _ _ some (padded_near (g.S.Storage.features c.args.storage.now) c.args.offset (length c.args.source.now) (g.met.S.Storage.lawful c.args.storage.now))
    (longest_write _ c.args.source.now c.args.offset _ _ (padded_covers (g.S.Storage.features c.args.storage.now) c.args.offset (length c.args.source.now)) (c.write.ensures.written some).no_longer))
    (λ none. let e = ap (λ s. length (g.S.Storage.bytes s)) (c.write.ensures.empty (omega arith)).1 in omega (arith, e))
    (cases_lt 0 (length c.args.source.now))
