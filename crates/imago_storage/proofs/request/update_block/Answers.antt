-- SPDX-License-Identifier: MIT
use Rattle.std.proofs.Common.{arith, ◌≡◌, ◌+◌, ◌≤◌, length, IsTrue}
use Rattle.imago_storage.specs.Bytes.{splice, zero_extended}
use Rattle.imago_storage.proofs.Outcomes.{WriteOutcome_towards}
use Rattle.imago_storage.proofs.Splices.{length-splice}
use Rattle.imago_storage.proofs.Writes.{block_write, refused_at_once, length-part}
use Rattle.imago_storage.proofs.Steps.{pure_write, block_read, read_refused, read_then_written, passed_on}
use Rattle.imago_storage.proofs.request.update_block.Goals as goal

pub returns-in_err-pure_readv_mut-clause-written :
    goal.returns-in_err-pure_readv_mut-clause-written
returns-in_err-pure_readv_mut-clause-written g c = refused_at_once _ c.from_residual.result _ _ _ c.in_err-pure_readv_mut.ensures.unchanged c.from_residual.ensures.1

pub returns-clause-written : goal.returns-clause-written
returns-clause-written g c =
    let xs = g.S.Storage.bytes c.args.storage.now in
    let read = c.in_ok-pure_readv_mut.ensures in
    let n : length c.pure_readv_mut.new.buf ≡ length c.args.block.now = c.pure_readv_mut.auto.buf in
    let fits : c.args.head + length c.args.source.now ≤ length c.pure_readv_mut.new.buf = omega (arith, n, c.requires.fits) in
    let now = splice xs c.args.start c.overwrite.new.bytes in
    let target = splice (zero_extended xs (c.args.start + length c.args.block.now)) (c.args.start + c.args.head) c.args.source.now in
    let law = g.met.S.Storage.lawful c.args.storage.now in
    let same : IsTrue (g.S.Storage.features c.args.storage.now).keeps_data → now ≡ target = λ keeps.
    rw (c.overwrite.ensures, ← n) (block_write xs c.args.start c.pure_readv_mut.new.buf c.args.head c.args.source.now (read.bytes (law.told keeps)) fits) in
    let over : length c.overwrite.new.bytes ≡ length c.args.block.now = rw c.overwrite.ensures (omega (arith, n, length-splice c.pure_readv_mut.new.buf c.args.head c.args.source.now, fits)) in
    let long : length now ≡ length target = omega (arith, over, length-splice xs c.args.start c.overwrite.new.bytes, length-part xs (c.args.start + c.args.head) c.args.source.now (c.args.start + length c.args.block.now), n, fits) in
    WriteOutcome_towards _ xs now target _ _ same long (rw (read.features, read.unchanged) at c.pure_writev.ensures.written)

pub returns-in_err-pure_readv_mut-clause-performed :
    goal.returns-in_err-pure_readv_mut-clause-performed
returns-in_err-pure_readv_mut-clause-performed g c =
    let r = c.pure_readv_mut.ensures in
    let read = block_read g.S.Storage.features g.S.Storage.bytes g.S.Storage.maintenance r.performed r.bytes r.unchanged r.features in
    read_refused _ _ _ _ _ _ _ c.pure_readv_mut.new.buf c.pure_readv_mut.auto.buf read c.in_err-pure_readv_mut.was (passed_on _ _ _ c.in_err-pure_readv_mut.was c.from_residual.ensures.1)

pub returns-clause-performed : goal.returns-clause-performed
returns-clause-performed g c =
    let r = c.pure_readv_mut.ensures in
    let read = block_read g.S.Storage.features g.S.Storage.bytes g.S.Storage.maintenance r.performed r.bytes r.unchanged r.features in
    let w = c.pure_writev.ensures in
    let write = pure_write g.S.Storage.features g.S.Storage.bytes g.S.Storage.maintenance w.performed w.written w.features in
    read_then_written _ _ _ _ _ _ _ c.pure_readv_mut.new.buf c.pure_readv_mut.auto.buf read c.in_ok-pure_readv_mut.was (rw c.overwrite.ensures at write)
