-- What the header says.
-- SPDX-License-Identifier: MIT
use Rattle.std.proofs.Common.{◌≡◌, ℕ, ◌*◌, ◌^◌, ◌<◌, ◌≤◌, List, length, refl, ap, ◌∙◌, subst, arith, Result}
use Rattle.std.specs.Prelude.{IsOk}
use Rattle.std.proofs.Math.Nat.{pow-le-pow_right}
use Rattle.imago_storage.specs.Bytes.{IsReadAt}
use Rattle.imago_storage.specs.declared.error.Error.{Error}
use Rattle.imago_qcow2.specs.declared.header.Header.{Header}
use Rattle.imago_qcow2.specs.Header.{IsClusterSize, header_of}
use Rattle.imago_qcow2.specs.Numbers.{be32}
use Rattle.imago_qcow2.proofs.HeaderSteps.{same32, same64, head_same, header_same}
use Rattle.imago_qcow2_check.specs.declared.head.Head.{Head}
use Rattle.imago_qcow2_check.specs.HeadParts.{IsHead}
use Rattle.imago_qcow2_check.specs.Counts.{count_order}

pub longest : (n : ℕ) → IsClusterSize n → n ≤ 2 ^ 21
longest n (k, least, most, is) =
    let two : 0 < 2 = omega arith in
    let high : 2 ^ k ≤ 2 ^ 21 = pow-le-pow_right two most in
    omega (arith, high, is)

order_same : (bytes head : List ℕ) → be32 head 4 ≡ be32 bytes 4 → be32 head 96 ≡ be32 bytes 96 → count_order head ≡ count_order bytes
unfolding count_order
order_same bytes head a b = rw (a, b) refl

-- a header is accepted by its first bytes
pub header_accepted : (bytes head : List ℕ) (file : ℕ) → IsReadAt bytes 0 head → 112 ≤ length head → file ≡ length bytes → IsOk (header_of head file) → IsOk (header_of bytes (length bytes))
header_accepted bytes head file r len is ok =
    let same = head_same bytes head r len in
    let e : header_of head file ≡ header_of bytes (length bytes) = header_same bytes head same file ∙ ap (header_of bytes) is in
    subst (λ (x : Result Header Error). IsOk x) e ok

-- what the first bytes say, the file does
pub head_moved : (bytes head : List ℕ) (h : Head) → IsReadAt bytes 0 head → 112 ≤ length head → IsHead head h → IsHead bytes h
head_moved bytes head h r len x =
    let same = head_same bytes head r len in
    let v = same32 bytes head same 4 (omega arith) in
    let c = same32 bytes head same 20 (omega arith) in
    let o = same32 bytes head same 96 (omega arith) in
    let b = same32 bytes head same 56 (omega arith) in
    record {
      cluster = x.cluster ∙ ap (λ k. 2 ^ k) c;
      version = x.version ∙ v;
      order = x.order ∙ order_same bytes head v o;
      blocks_start = x.blocks_start ∙ same64 bytes head same 48 (omega arith);
      blocks_length = x.blocks_length ∙ ap (λ k. k * 2 ^ be32 head 20) b ∙ ap (λ k. be32 bytes 56 * 2 ^ k) c;
      l1_start = x.l1_start ∙ same64 bytes head same 40 (omega arith);
      l1_count = x.l1_count ∙ same32 bytes head same 36 (omega arith);
      snapshots_start = x.snapshots_start ∙ same64 bytes head same 64 (omega arith);
      snapshots_count = x.snapshots_count ∙ same32 bytes head same 60 (omega arith);
    }
