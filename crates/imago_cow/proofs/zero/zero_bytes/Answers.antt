-- SPDX-License-Identifier: MIT
use Rattle.std.proofs.Common.{arith}
use Rattle.imago_drivers.proofs.StorageBytes.{zeroed_bytes, torn_zeroes}
use Rattle.imago_drivers.proofs.Lengths.{near_end, longest_zeroes}
use Rattle.imago_cow.proofs.StoredSteps.{on_ok, ok_holds, on_err, err_holds}
use Rattle.imago_cow.proofs.ZeroFill.{whole_wraps}
use Rattle.imago_cow.proofs.zero.zero_bytes.Goals as goal

pub returns-clause-written : goal.returns-clause-written
returns-clause-written g c = λ k.
    let z = c.write_zeroes.ensures.written c.requires.some in
    on_ok c.write_zeroes.result (λ x e. zeroed_bytes _ _ c.args.offset c.args.count z.end (ok_holds x e (z.written.done k)))

pub returns-clause-torn : goal.returns-clause-torn
returns-clause-torn g c = λ k.
    let z = c.write_zeroes.ensures.written c.requires.some in
    on_err c.write_zeroes.result (λ x e. torn_zeroes _ _ c.args.offset c.args.count z.end (err_holds x e (z.written.refused k)))

pub returns-clause-no_shorter : goal.returns-clause-no_shorter
returns-clause-no_shorter g c = (c.write_zeroes.ensures.written c.requires.some).written.no_shorter

pub returns-clause-near : goal.returns-clause-near
returns-clause-near g c =
    let z = c.write_zeroes.ensures.written c.requires.some in
    near_end (g.S.Storage.features c.args.storage.now) c.args.offset c.args.count z.end _ _ c.requires.some (omega (arith, z.near))
    (longest_zeroes _ c.args.offset c.args.count z.end _ z.covers z.written.no_longer)

pub returns-clause-wraps : goal.returns-clause-wraps
returns-clause-wraps g c = λ e.
    whole_wraps (g.S.Storage.features c.args.storage.now) _ c.args.offset c.args.count (g.met.S.Storage.lawful c.args.storage.now) c.requires.start c.requires.whole (c.write_zeroes.ensures.may_wrap e)
