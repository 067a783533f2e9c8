-- SPDX-License-Identifier: MIT
use Rattle.std.proofs.Common.{inr}
use Rattle.std.proofs.lemmas.Result.{err_from_is_err_and}
use Rattle.imago_drivers.specs.LayerBelow.{lent}
use Rattle.imago_access.specs.Writing.{commits}
use Rattle.imago_access.proofs.MadeSteps.{refused_through}
use Rattle.imago_access.proofs.Parts.{mapping_committed, mapping_torn, mapping_cancelled, mapping_refused}
use Rattle.imago_access.proofs.write.write_through.Goals as goal

pub returns-in_ok-commit_data_mapping-in-Commit-clause-mapped : goal.returns-in_ok-commit_data_mapping-in-Commit-clause-mapped
returns-in_ok-commit_data_mapping-in-Commit-clause-mapped g c =
    let l = lent g.B.LowerLayer.as_layer_below c.args.below in
    let h = mapping_committed g.D.FormatDriverInstance.view l c.args.inner.now c.fill_mapping.new.inner c.commit_data_mapping.new.self c.args.request.offset c.args.request.count c.args.request.overwrite c.args.source.now c.in_ok-mapping.mapping c.in_ok-mapping.ensures.filled c.in_ok-commit_data_mapping-in-Commit.ensures.call in
    rw (c.length.ensures, c.is_nonblocking.ensures, c.in-Commit.is) h

pub returns-in_err-commit_data_mapping-in-Commit-clause-mapped : goal.returns-in_err-commit_data_mapping-in-Commit-clause-mapped
returns-in_err-commit_data_mapping-in-Commit-clause-mapped g c =
    let l = lent g.B.LowerLayer.as_layer_below c.args.below in
    let q = err_from_is_err_and c.from_residual-in_err-commit_data_mapping-in-Commit.result c.from_residual-in_err-commit_data_mapping-in-Commit.ensures.1 in
    let h = mapping_torn g.D.FormatDriverInstance.view l c.args.inner.now c.fill_mapping.new.inner c.commit_data_mapping.new.self c.args.request.offset c.args.request.count c.args.request.overwrite c.args.source.now c.in_ok-mapping.mapping c.in_ok-mapping.ensures.filled c.in_err-commit_data_mapping-in-Commit.field-0.0 c.in_err-commit_data_mapping-in-Commit.ensures.call in
    rw (q.1, q.2, c.in-Commit.is) h

pub returns-in-Cancel-clause-mapped : goal.returns-in-Cancel-clause-mapped
returns-in-Cancel-clause-mapped g c =
    let l = lent g.B.LowerLayer.as_layer_below c.args.below in
    let h = mapping_cancelled g.D.FormatDriverInstance.view l c.args.inner.now c.fill_mapping.new.inner c.cancel_data_mapping.new.self c.args.request.offset c.args.request.count c.args.request.overwrite c.args.source.now c.in_ok-mapping.mapping c.in_ok-mapping.ensures.filled c.cancel_data_mapping.ensures.call in
    rw (c.length.ensures, c.is_nonblocking.ensures, c.in-Cancel.is) h

pub returns-in_err-mapping-clause-mapped : goal.returns-in_err-mapping-clause-mapped
returns-in_err-mapping-clause-mapped g c =
    let q = err_from_is_err_and c.from_residual.result c.from_residual.ensures.1 in
    rw (q.1, q.2) (mapping_refused _ _ _ _ c.args.request.offset c.args.request.count c.args.request.overwrite c.args.source.now (commits c.args.spending) c.in_err-mapping.field-0.0 c.in_err-mapping.ensures.filled)

pub returns-in-Cancel-clause-told : goal.returns-in-Cancel-clause-told
returns-in-Cancel-clause-told g c = rw (c.length.ensures, c.is_nonblocking.ensures) c.in_ok-mapping.ensures.prepared

pub returns-in_ok-commit_data_mapping-in-Commit-clause-told : goal.returns-in_ok-commit_data_mapping-in-Commit-clause-told
returns-in_ok-commit_data_mapping-in-Commit-clause-told g c = rw (c.length.ensures, c.is_nonblocking.ensures) c.in_ok-mapping.ensures.prepared

pub returns-in_ok-commit_data_mapping-in-Commit-clause-performed : goal.returns-in_ok-commit_data_mapping-in-Commit-clause-performed
returns-in_ok-commit_data_mapping-in-Commit-clause-performed g c =
    rw c.in-Commit.is (c.in_ok-mapping.mapping, c.fill_mapping.new.inner, c.in_ok-mapping.ensures.performed, c.in_ok-commit_data_mapping-in-Commit.ensures.performed, c.length.ensures, c.is_nonblocking.ensures)

pub returns-in_err-commit_data_mapping-in-Commit-clause-performed : goal.returns-in_err-commit_data_mapping-in-Commit-clause-performed
returns-in_err-commit_data_mapping-in-Commit-clause-performed g c =
    let q = err_from_is_err_and c.from_residual-in_err-commit_data_mapping-in-Commit.result c.from_residual-in_err-commit_data_mapping-in-Commit.ensures.1 in
    rw (q.1, q.2, c.in-Commit.is) (inr (c.in_ok-mapping.mapping, c.fill_mapping.new.inner, c.in_ok-mapping.ensures.performed, c.in_err-commit_data_mapping-in-Commit.ensures.performed))

pub returns-in-Cancel-clause-performed : goal.returns-in-Cancel-clause-performed
returns-in-Cancel-clause-performed g c =
    rw c.in-Cancel.is (c.in_ok-mapping.mapping, c.fill_mapping.new.inner, c.in_ok-mapping.ensures.performed, c.cancel_data_mapping.ensures.performed, c.length.ensures, c.is_nonblocking.ensures)

pub returns-in_err-mapping-clause-performed : goal.returns-in_err-mapping-clause-performed
returns-in_err-mapping-clause-performed g c =
    let q = err_from_is_err_and c.from_residual.result c.from_residual.ensures.1 in
    rw (q.1, q.2) (refused_through g.D.FormatDriverInstance.calls (lent g.B.LowerLayer.as_layer_below c.args.below) c.args.request.offset c.args.request.count c.args.request.overwrite c.args.source.now (commits c.args.spending) c.args.inner.now c.fill_mapping.new.inner c.in_err-mapping.field-0.0 c.in_err-mapping.ensures.performed)
