-- SPDX-License-Identifier: MIT
use Rattle.std.proofs.Common.{arith, refl, Err}
use Rattle.std.proofs.lemmas.Result.{err_from_is_err_and}
use Rattle.imago_drivers.specs.LayerBelow.{lent}
use Rattle.imago_cow.specs.Table.{is_absent}
use Rattle.imago_cow.proofs.NameSteps.{copy_named}
use Rattle.imago_cow.proofs.CopyCallSteps.{none_copied, zeroes_copied, bytes_copied, refused_before}
use Rattle.imago_cow.proofs.copy.copy_old.Goals as goal

pub returns-clause-call : goal.returns-clause-call
returns-clause-call g c =
    let e = c.copy_through.ensures in
    record {
      features = e.features;
      no_shorter = e.no_shorter;
      faults = e.faults;
      by_name = copy_named g.B.LowerLayer.reads c.args.below (is_absent c.args.start.kind) c.args.start.offset _ c.copy_through.result e.answered;
    }

pub returns-then-count-eq0-clause-copies : goal.returns-then-count-eq0-clause-copies
returns-then-count-eq0-clause-copies g c =
    none_copied g.S.Storage.features g.S.Storage.bytes g.S.Storage.fault_count g.S.Storage.work g.S.Storage.maintenance (lent g.B.LowerLayer.as_layer_below c.args.below) (is_absent c.args.start.kind) c.args.start.offset c.args.count c.args.start.to c.args.storage.now (omega (arith, c.if-count-eq0.true))

pub returns-then-copies_zeroes-clause-copies : goal.returns-then-copies_zeroes-clause-copies
returns-then-copies_zeroes-clause-copies g c =
    zeroes_copied g.S.Storage.features g.S.Storage.bytes g.S.Storage.fault_count g.S.Storage.work g.S.Storage.maintenance (lent g.B.LowerLayer.as_layer_below c.args.below) (is_absent c.args.start.kind) c.args.start.offset c.args.count c.args.start.to c.args.storage.now _ _ (omega (arith, c.if-count-eq0.false))
    (c.copies_zeroes.ensures.certain c.if-copies_zeroes.true) c.zero_bytes.ensures.call

pub returns-in_err-bytes-clause-copies : goal.returns-in_err-bytes-clause-copies
returns-in_err-bytes-clause-copies g c =
    let p = err_from_is_err_and c.from_residual.result c.from_residual.ensures.1 in
    rw (p.1) (bytes_copied g.S.Storage.features g.S.Storage.bytes g.S.Storage.fault_count g.S.Storage.work g.S.Storage.maintenance (lent g.B.LowerLayer.as_layer_below c.args.below) (is_absent c.args.start.kind) c.args.start.offset c.args.count c.args.count c.args.start.to c.args.storage.now c.args.storage.now (Err (p.0)) (omega (arith, c.if-count-eq0.false)) refl
    (c.copies_zeroes.ensures.other c.if-copies_zeroes.false) (refused_before g.S.Storage.features g.S.Storage.bytes g.S.Storage.fault_count g.S.Storage.work g.S.Storage.maintenance (lent g.B.LowerLayer.as_layer_below c.args.below) (is_absent c.args.start.kind) c.args.start.offset c.args.count c.args.start.to c.args.storage.now (Err (p.0)) refl))

pub returns-clause-copies : goal.returns-clause-copies
returns-clause-copies g c =
    bytes_copied g.S.Storage.features g.S.Storage.bytes g.S.Storage.fault_count g.S.Storage.work g.S.Storage.maintenance (lent g.B.LowerLayer.as_layer_below c.args.below) (is_absent c.args.start.kind) c.args.start.offset c.args.count _ c.args.start.to c.args.storage.now _ _ (omega (arith, c.if-count-eq0.false)) (omega (arith, c.deref_mut.ensures.len, c.in_ok-bytes.ensures.len))
    (c.copies_zeroes.ensures.other c.if-copies_zeroes.false) c.copy_through.ensures.copies
