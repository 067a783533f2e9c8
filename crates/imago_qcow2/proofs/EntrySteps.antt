-- What entries of L2 tables say, by their bits.
-- SPDX-License-Identifier: MIT
use Rattle.std.proofs.Common.{◌≡◌, ℕ, ◌+◌, ◌-◌, ◌*◌, ◌/◌, ◌%◌, ◌^◌, ◌<◌, Bool, true, false, refl, sym, ap, ◌∙◌, arith}
use Rattle.std.specs.Prelude.{if◌then◌else◌, nat_eq, nat_lt, not, ◌||◌}
use Rattle.std.proofs.lemmas.Nat.{div-add-mod'}
use Rattle.std.proofs.lemmas.Bool.Decides.{nat_tests}
use Rattle.imago_qcow2.specs.declared.entry.GuestCluster.{GuestCluster}
use Rattle.imago_qcow2.specs.declared.header.Compression.{Compression}
use Rattle.imago_qcow2.specs.Entry.{low, high, cluster_in_entry, compressed_in_entry}
use Rattle.imago_qcow2.specs.Sound.{IsSound}

-- what an entry's tests are where its guest cluster is stored
record AreStored (a b c e : Bool) (low at : ℕ) : Type 0 where
  pub whole : a ≡ false
  pub plain : b ≡ false
  pub even : c ≡ false
  pub some : e ≡ false
  pub is : low ≡ at

picked : (a b c d e : Bool) (at length low other : ℕ) → (if a then GuestCluster.Compressed at length else (if b then GuestCluster.Invalid else (if c then (if d then GuestCluster.Invalid else GuestCluster.Zero) else (if e then GuestCluster.Absent else GuestCluster.Stored low)))) ≡ GuestCluster.Stored other → AreStored a b c e low other
picked true b c d e at length low other is = let z : ⊥ = cc in absurd z
picked false true c d e at length low other is = let z : ⊥ = cc in absurd z
picked false false true true e at length low other is = let z : ⊥ = cc in absurd z
picked false false true false e at length low other is = let z : ⊥ = cc in absurd z
picked false false false d true at length low other is = let z : ⊥ = cc in absurd z
picked false false false d false at length low other is = record { whole = refl; plain = refl; even = refl; some = refl; is = cc }

neither : (a b : Bool) → (not a || not b) ≡ false → (a ≡ true) × (b ≡ true)
neither true true h = (refl, refl)
neither true false h = let z : ⊥ = cc in absurd z
neither false true h = let z : ⊥ = cc in absurd z
neither false false h = let z : ⊥ = cc in absurd z

-- an entry whose guest cluster is stored has its offset as its lower 63 bits, which lies on a cluster's bounds
pub record IsStoredEntry (cluster entry at : ℕ) : Type 0 where
  pub is : entry % 2 ^ 63 ≡ at
  pub some : 0 < at
  pub small : at < 2 ^ 56
  pub aligned : at % cluster ≡ 0

pub stored_said : (version cluster entry at : ℕ) → cluster_in_entry version cluster entry ≡ GuestCluster.Stored at → IsStoredEntry cluster entry at
unfolding cluster_in_entry compressed_in_entry
stored_said version cluster entry at said =
    let t = picked (nat_eq (high entry / 64 % 2) 1) (not (nat_eq (high entry % 64) 0) || not (nat_eq ((low entry - low entry % 2) % cluster) 0)) (nat_eq (low entry % 2) 1) (nat_lt version 3) (nat_eq (low entry) 0) _ _ (low entry) at said in
    let n = neither (nat_eq (high entry % 64) 0) (nat_eq ((low entry - low entry % 2) % cluster) 0) t.plain in
    let n0 = n.0 in
    let n1 = n.1 in
    let t0 = t.whole in
    let t2 = t.even in
    let t3 = t.some in
    let is = t.is in
    let plain : high entry % 64 ≡ 0 = grind (arith, nat_tests) in
    let aligned : (low entry - low entry % 2) % cluster ≡ 0 = grind (arith, nat_tests) in
    let whole : high entry / 64 % 2 ≡ 0 = grind (arith, nat_tests) in
    let even : low entry % 2 ≡ 0 = grind (arith, nat_tests) in
    let some : 0 < low entry = grind (arith, nat_tests) in
    let e : low entry - low entry % 2 ≡ at = omega (arith, even, is) in
    record {
      is = omega (arith, plain, whole, is);
      some = omega (arith, some, is);
      small = omega (arith, is);
      aligned = rw e at aligned;
    }

-- what lies on a cluster's bounds is even
even : (q cluster half at : ℕ) → cluster ≡ half * 2 → at ≡ q * cluster → at % 2 ≡ 0
even q cluster half at is e =
    let x : at ≡ q * half * 2 = e ∙ ap (λ x. q * x) is ∙ (omega arith) in
    omega (arith, x)

-- an entry whose lower 63 bits are such an offset of the file
record IsPlain (entry at : ℕ) : Type 0 where
  pub is : low entry ≡ at
  pub even : at % 2 ≡ 0
  pub plain : high entry % 64 ≡ 0
  pub whole : high entry / 64 % 2 ≡ 0

plain : (entry cluster half at : ℕ) → cluster ≡ half * 2 → entry % 2 ^ 63 ≡ at → at < 2 ^ 56 → at % cluster ≡ 0 → IsPlain entry at
plain entry cluster half at is e small aligned =
    let m : at ≡ at / cluster * cluster + at % cluster = sym (div-add-mod' at cluster) in
    let l : at ≡ at / cluster * cluster = omega (arith, m, aligned) in
    record {
      is = omega (arith, e, small);
      even = even (at / cluster) cluster half at is l;
      plain = omega (arith, e, small);
      whole = omega (arith, e, small);
    }

-- says that its guest cluster stands there, or with none that it is absent
pub plain_said : (version cluster entry half at : ℕ) → cluster ≡ half * 2 → entry % 2 ^ 63 ≡ at → at < 2 ^ 56 → at % cluster ≡ 0
    → cluster_in_entry version cluster entry ≡ (if nat_eq at 0 then GuestCluster.Absent else GuestCluster.Stored at)
unfolding cluster_in_entry
plain_said version cluster entry half at is e small aligned =
    let w = plain entry cluster half at is e small aligned in
    let z : (at - 0) % cluster ≡ 0 = ap (λ x. x % cluster) (let y : at - 0 ≡ at = omega arith in y) ∙ aligned in
    rw (w.whole, w.plain, w.is, w.even, z) refl

pub said_stored : (version cluster entry half at : ℕ) → cluster ≡ half * 2 → IsStoredEntry cluster entry at → cluster_in_entry version cluster entry ≡ GuestCluster.Stored at
said_stored version cluster entry half at is x =
    let some = x.some in
    let none : nat_eq at 0 ≡ false = grind (arith, nat_tests) in
    plain_said version cluster entry half at is x.is x.small x.aligned ∙ ap (λ b. if b then GuestCluster.Absent else GuestCluster.Stored at) none

-- and can so be read of a file that is longer
by_test : (compression : Compression) (file at : ℕ) (none : Bool) → at < file → IsSound compression file (if none then GuestCluster.Absent else GuestCluster.Stored at)
by_test compression file at true h = tt
by_test compression file at false h = h

pub plain_sound : (compression : Compression) (file version cluster entry half at : ℕ) → cluster ≡ half * 2 → entry % 2 ^ 63 ≡ at → at < 2 ^ 56 → at % cluster ≡ 0 → at < file
    → IsSound compression file (cluster_in_entry version cluster entry)
plain_sound compression file version cluster entry half at is e small aligned inside =
    rw (plain_said version cluster entry half at is e small aligned) (by_test compression file at (nat_eq at 0) inside)
