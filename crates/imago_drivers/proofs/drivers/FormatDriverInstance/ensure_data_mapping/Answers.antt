-- SPDX-License-Identifier: MIT
use Rattle.std.proofs.Common.{rules, arith, ap, false, Ok, Err, ◌∙◌}
use Rattle.std.proofs.lemmas.Grind.{common_steps}
use Rattle.std.specs.Prelude.{IsErrOf}
use Rattle.imago_storage.specs.declared.error.Error.{Error}
use Rattle.imago_drivers.specs.LayerBelow.{lent}
use Rattle.imago_drivers.proofs.StorageBytes.{on_refusal}
use Rattle.imago_drivers.proofs.Ensured.{settled_twice, reaches_twice, if_refused, ensured, ensured_change, ensured_refused, ensured_outside, is_at_start, never_foreign, commit_refused}
use Rattle.imago_drivers.proofs.drivers.FormatDriverInstance.ensure_data_mapping.Goals as goal

pub returns-clause-performed : goal.returns-clause-performed
returns-clause-performed g c =
    g.Self.FormatDriverInstance.calls.by_parts (lent g.B.LowerLayer.as_layer_below c.args.below) c.args.offset c.args.count c.args.overwrite c.args.self.now c.commit_data_mapping.new.self (Ok (c.storage-storage.result, c.offset-start.result, c.length-length.result))
    (c.in_ok-mapping.mapping, c.prepare_data_mapping.new.self, c.in_ok-mapping.ensures.performed, c.in_ok-commit_data_mapping.ensures.performed, c.storage-storage.ensures, c.offset-start.ensures, c.length-length.ensures)

pub returns-clause-call : goal.returns-clause-call
returns-clause-call g c = record {
  mapped =
      let p = c.in_ok-mapping.ensures in
      ensured _ _ _ _ _ _ _ _ c.in_ok-mapping.mapping p.prepared p.call.unchanged c.in_ok-commit_data_mapping.ensures.call.done _ _ _ c.storage-storage.ensures c.offset-start.ensures c.length-length.ensures;
  changed =
      λ k tells.
      let p = c.in_ok-mapping.ensures in
      record {
        done = rw c.length-length.ensures (ensured_change _ _ _ _ _ _ _ _ c.in_ok-mapping.mapping p.prepared p.call.unchanged k tells false c.in_ok-commit_data_mapping.ensures.call.done);
        torn = tt;
      };
  causes =
      let V = g.Self.FormatDriverInstance.view in
      let p = c.in_ok-mapping.ensures in
      let at = is_at_start (V c.args.self.now) (V c.prepare_data_mapping.new.self) (V c.commit_data_mapping.new.self) _ c.args.offset c.args.count _ _ c.in_ok-mapping.mapping p.prepared p.call.unchanged in
      rw c.length-length.ensures (settled_twice _ _ _ _ _ _ _ _ p.call.causes (c.in_ok-commit_data_mapping.ensures.call.settled c.args.offset at));
  outside =
      let V = g.Self.FormatDriverInstance.view in
      let p = c.in_ok-mapping.ensures in
      ensured_outside (V c.args.self.now) (V c.prepare_data_mapping.new.self)
      (V c.commit_data_mapping.new.self) _ c.args.offset c.args.count c.args.overwrite _
      c.in_ok-mapping.mapping p.prepared p.call.unchanged c.commit_data_mapping.ensures.call.outside;
  leaves =
      let V = g.Self.FormatDriverInstance.view in
      let p = c.in_ok-mapping.ensures in
      record {
        reaches = reaches_twice (V c.args.self.now) (V c.prepare_data_mapping.new.self)
            (V c.commit_data_mapping.new.self) p.call.unchanged.reaches
            c.commit_data_mapping.ensures.call.reaches;
        nothing_pending = grind (arith, common_steps);
      };
  storages = search rules;
  framed = search rules;
  refusals = search rules;
}

pub returns-in_err-commit_data_mapping-clause-call : goal.returns-in_err-commit_data_mapping-clause-call
returns-in_err-commit_data_mapping-clause-call g c = record {
  mapped = search rules;
  changed =
      λ k tells.
      let V = g.Self.FormatDriverInstance.view in
      let p = c.in_ok-mapping.ensures in
      let e = c.in_err-commit_data_mapping.ensures.call in
      let own : IsErrOf c.commit_data_mapping.result Error.ForeignMapping → ⊥ = λ x.
      never_foreign (V c.args.self.now) (V c.prepare_data_mapping.new.self) (V c.commit_data_mapping.new.self) _ c.args.offset c.args.count c.args.overwrite _ c.in_ok-mapping.mapping p.prepared p.call.unchanged ((c.commit_data_mapping.ensures.call.foreign).0 x) in
      let torn = rw c.in_err-commit_data_mapping.was at (c.commit_data_mapping.ensures.call.torn own) in
      record {
        done = search rules;
        torn = on_refusal _ _ (ensured_refused (V c.args.self.now) (V c.prepare_data_mapping.new.self) (V c.commit_data_mapping.new.self) _ c.args.offset c.args.count c.args.overwrite _ c.in_ok-mapping.mapping p.prepared p.call.unchanged k tells torn);
      };
  causes = search rules;
  outside =
      let V = g.Self.FormatDriverInstance.view in
      let p = c.in_ok-mapping.ensures in
      ensured_outside (V c.args.self.now) (V c.prepare_data_mapping.new.self)
      (V c.commit_data_mapping.new.self) _ c.args.offset c.args.count c.args.overwrite _
      c.in_ok-mapping.mapping p.prepared p.call.unchanged c.commit_data_mapping.ensures.call.outside;
  leaves =
      let V = g.Self.FormatDriverInstance.view in
      record {
        reaches = reaches_twice (V c.args.self.now) (V c.prepare_data_mapping.new.self) (V c.commit_data_mapping.new.self) c.in_ok-mapping.ensures.call.unchanged.reaches c.commit_data_mapping.ensures.call.reaches;
        nothing_pending = grind (arith, common_steps);
      };
  storages = search rules;
  framed = search rules;
  refusals =
      let V = g.Self.FormatDriverInstance.view in
      let p = c.in_ok-mapping.ensures in
      let own : IsErrOf c.commit_data_mapping.result Error.ForeignMapping → ⊥ = λ x.
      never_foreign (V c.args.self.now) (V c.prepare_data_mapping.new.self) (V c.commit_data_mapping.new.self) _ c.args.offset c.args.count _ _ c.in_ok-mapping.mapping p.prepared p.call.unchanged ((c.commit_data_mapping.ensures.call.foreign).0 x) in
      if_refused c.from_residual-in_err-commit_data_mapping.result (λ e is.
      let same : IsErrOf c.commit_data_mapping.result e = search rules in
      let reason = rw same at c.commit_data_mapping.ensures.call.refusals in
      commit_refused (V c.args.self.now) (V c.prepare_data_mapping.new.self) (V c.commit_data_mapping.new.self) _ c.args.offset c.args.count _ _ c.in_ok-mapping.mapping p.prepared p.call.unchanged (lent g.B.LowerLayer.as_layer_below c.args.below) p.call.causes e
      (λ x. own (same ∙ ap (λ y. Err y) x)) reason);
}
