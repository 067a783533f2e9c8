-- SPDX-License-Identifier: MIT
use Rattle.std.proofs.Common.{◌≡◌, ◌+◌, ℕ, List, EachIndex, slice_index, subst}
use Rattle.imago_storage.proofs.BytesAt.{read_bytes}
use Rattle.imago_img_tests.proofs.pair_host.calls.PairHostFiles.read_at.Goals as goal

pub returns : goal.returns
returns c =
    let buf : List ℕ = c.read_padded.new.buf in
    read_bytes _ _ buf
    (subst (λ (z : List ℕ). EachIndex buf (λ k. slice_index buf k ≡ slice_index z (c.args.offset + k)))
    c.in-Some.ensures.bytes c.read_padded.ensures)
