-- SPDX-License-Identifier: MIT
use Rattle.std.proofs.Common.{arith, ◌≡◌, ◌+◌, ◌∙◌}
use Rattle.imago_storage.proofs.Blocks.{block_facts}
use Rattle.imago_storage.proofs.ReadParts.{read_then}
use Rattle.imago_storage.proofs.request.read_blocks.Goals as goal

pub pure_readv-requires-2 : goal.pure_readv-requires-2
pure_readv-requires-2 g c = rw c.split_at_mut-blocks.ensures.front_len ((block_facts c.whole_blocks-whole.result c.whole_blocks-whole.ensures c.requires).first)

pub read_within-requires-clause-aligned : goal.read_within-requires-clause-aligned
read_within-requires-clause-aligned g c =
    let b = block_facts c.whole_blocks-whole.result c.whole_blocks-whole.ensures c.requires in
    b.last (omega (arith, b.fits, c.if-whole-buf.false))

pub returns-clause-bytes : goal.returns-clause-bytes
returns-clause-bytes g c tells =
    let whole = c.whole_blocks-whole.result in
    let at : c.args.start + whole + 0 ≡ c.args.start + whole = omega arith in
    read_then c.read_within.result (g.S.Storage.bytes c.args.storage.now) c.args.start whole c.pure_readv-2.new.buf c.read_within.new.buf
    (c.pure_readv-2.auto.buf ∙ c.split_at_mut-blocks.ensures.front_len) (c.in_ok-pure_readv.ensures.bytes tells) (rw (at) at (c.read_within.ensures.bytes tells))
