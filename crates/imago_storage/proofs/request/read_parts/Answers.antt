-- SPDX-License-Identifier: MIT
use Rattle.std.proofs.Common.{arith, ◌≡◌, ◌+◌, ◌-◌, ◌∙◌, length}
use Rattle.imago_storage.proofs.Blocks.{part_facts}
use Rattle.imago_storage.proofs.ReadParts.{first_is_part, read_then}
use Rattle.imago_storage.proofs.request.read_parts.Goals as goal

pub read_within-requires-clause-aligned : goal.read_within-requires-clause-aligned
read_within-requires-clause-aligned g c = (part_facts c.requires.parts).first

pub read_blocks-requires-2 : goal.read_blocks-requires-2
read_blocks-requires-2 g c =
    let taken = length c.args.block.now - (c.args.offset - c.args.start) in
    let some = first_is_part c.requires.parts c.requires.long in
    let left : length c.split_at_mut-front.result.1.now ≡ length c.args.buf.now - taken = omega (arith, c.split_at_mut-front.ensures.back_len) in
    rw (c.read_within.auto.bounce, left) ((part_facts c.requires.parts).rest some)

pub returns-clause-bytes : goal.returns-clause-bytes
returns-clause-bytes g c tells =
    let b = part_facts c.requires.parts in
    let taken = length c.args.block.now - (c.args.offset - c.args.start) in
    let at : c.args.start + length c.args.block.now ≡ c.args.offset + taken = omega (arith, b.from_start, b.in_block) in
    read_then c.read_blocks-2.result (g.S.Storage.bytes c.args.storage.now) c.args.offset taken c.read_within.new.buf c.read_blocks-2.new.buf
    (c.read_within.auto.buf ∙ c.split_at_mut-front.ensures.front_len) (rw b.from_start at (c.in_ok-read_within.ensures.bytes tells)) (rw (at) at (c.read_blocks-2.ensures.bytes tells))
