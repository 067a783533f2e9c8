-- SPDX-License-Identifier: MIT
use Rattle.std.proofs.Common.{◌≡◌, ℕ, ap, Ok, Err, arith, refl, subst, min, length, take, inl, inr}
use Rattle.std.proofs.lemmas.Result.{err_from_is_err_and}
use Rattle.imago_drivers.specs.LayerBelow.{lent}
use Rattle.imago_access.proofs.Writes.{goes_on}
use Rattle.imago_access.proofs.Written.{stays}
use Rattle.imago_access.proofs.Parts.{fill_done, fill_cancelled}
use Rattle.imago_access.proofs.write.fill_mapping.Goals as goal

pub returns-clause-filled : goal.returns-clause-filled
returns-clause-filled g c =
    let p = c.in_ok-mapping in
    let w = c.in_default in
    fill_done g.D.FormatDriverInstance.view (lent g.B.LowerLayer.as_layer_below c.args.below) c.args.inner.now c.prepare_data_mapping.new.self c.write_prepared.new.self c.args.request.offset c.args.request.count c.args.request.overwrite c.args.source.now c.min-fitting.result p.mapping
    p.ensures.prepared p.ensures.call.unchanged p.ensures.call.lengths.no_shorter (g.met.D.FormatDriverInstance.lawful c.prepare_data_mapping.new.self) (omega (arith, c.min-fitting.ensures, c.length.ensures)) p.ensures.call.causes (goes_on _ _ _ _ p.ensures.call.faults)
    (stays _ _ w.ensures.call.framed w.ensures.call.storages.lengths.no_shorter) w.ensures.call.reaches (goes_on _ _ _ _ w.ensures.call.storages.faults)
    w.ensures.call.written w.ensures.call.round w.ensures.call.causes

pub returns-in-Err-clause-filled : goal.returns-in-Err-clause-filled
returns-in-Err-clause-filled g c =
    let p = c.in_ok-mapping in
    let w = c.in-Err in
    fill_cancelled g.D.FormatDriverInstance.view (lent g.B.LowerLayer.as_layer_below c.args.below) c.args.inner.now c.prepare_data_mapping.new.self c.write_prepared.new.self c.args.request.offset c.args.request.count c.args.request.overwrite c.args.source.now c.min-fitting.result p.mapping
    p.ensures.prepared p.ensures.call.unchanged p.ensures.call.lengths.no_shorter (g.met.D.FormatDriverInstance.lawful c.prepare_data_mapping.new.self) (omega (arith, c.min-fitting.ensures, c.length.ensures)) p.ensures.call.causes (goes_on _ _ _ _ p.ensures.call.faults)
    (stays _ _ w.ensures.call.framed w.ensures.call.storages.lengths.no_shorter) w.ensures.call.reaches (goes_on _ _ _ _ w.ensures.call.storages.faults)
    c.cancel_data_mapping.new.self w.error w.ensures.call.torn c.requires.writable w.ensures.foreign.0 w.ensures.call.refusals (λ h. w.ensures.call.storages.faults.device (ap (λ x. Err x) h)) c.cancel_data_mapping.ensures.call

pub returns-clause-prepared : goal.returns-clause-prepared
returns-clause-prepared g c = (c.prepare_data_mapping.new.self, c.in_ok-mapping.mapping, c.in_ok-mapping.ensures.prepared, refl, refl)

pub returns-clause-performed : goal.returns-clause-performed
returns-clause-performed g c =
    let e : c.min-fitting.result ≡ min (length c.args.source.now) c.in_ok-mapping.mapping.length = omega (arith, c.min-fitting.ensures, c.length.ensures) in
    (c.prepare_data_mapping.new.self, c.in_ok-mapping.ensures.performed, (subst (λ (k : ℕ). g.D.FormatDriverInstance.calls.filled c.in_ok-mapping.mapping (take k c.args.source.now) 0 c.prepare_data_mapping.new.self c.write_prepared.new.self (Ok tt)) e c.in_default.ensures.performed))

pub returns-in-Err-clause-performed : goal.returns-in-Err-clause-performed
returns-in-Err-clause-performed g c =
    let e : c.min-fitting.result ≡ min (length c.args.source.now) c.in_ok-mapping.mapping.length = omega (arith, c.min-fitting.ensures, c.length.ensures) in
    inr (c.in_ok-mapping.mapping, c.prepare_data_mapping.new.self, c.write_prepared.new.self, c.in_ok-mapping.ensures.performed, (subst (λ (k : ℕ). g.D.FormatDriverInstance.calls.filled c.in_ok-mapping.mapping (take k c.args.source.now) 0 c.prepare_data_mapping.new.self c.write_prepared.new.self (Err c.in-Err.error)) e c.in-Err.ensures.performed), c.cancel_data_mapping.ensures.performed)

pub returns-in_err-mapping-clause-performed : goal.returns-in_err-mapping-clause-performed
returns-in_err-mapping-clause-performed g c =
    let q = err_from_is_err_and c.from_residual.result c.from_residual.ensures.1 in
    rw (q.1, q.2) (inl c.in_err-mapping.ensures.performed)
