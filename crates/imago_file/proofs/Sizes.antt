-- SPDX-License-Identifier: MIT
use Rattle.std.proofs.Common.{◌≡◌, ℕ, ◌+◌, ◌<◌, ◌≤◌, List, replicate, take, sym, ◌∙◌, ap, arith, subst, Ok, Err}
use Rattle.std.proofs.lemmas.List.{places, same_lists}
use Rattle.std.proofs.lemmas.Result.{err_from_is_err_and}
use Rattle.std.specs.Prelude.{MatchResult, IsErrAnd}
use Rattle.std.specs.declared.io.Error.{Error as IoError}
use Rattle.imago_file.specs.FileCalls.{FileCalls, Answer, IsZeroed, IsStopped, Piece}

-- the first of many zeroes
pub first_zeroes : (m n : ℕ) → n ≤ m → take n (replicate {A = ℕ} m 0) ≡ replicate n 0
first_zeroes m n h = same_lists _ _ (grind (arith, places, h)) (λ k d lt. grind (arith, places, h))

-- a piece is written
pub zeroed_more : {File : Type 0} (calls : FileCalls File) (start : ℕ) (old : File) (at n : ℕ) (mid now : File) (source : List ℕ) (answer : Answer)
    → 0 < n → source ≡ replicate n 0 → IsZeroed calls start old at mid → calls.written at source mid now answer → answer ≡ Ok tt → IsZeroed calls start old (at + n) now
zeroed_more calls start old at n mid now source answer some is done w ok =
    let made : calls.written at (replicate n 0) mid now (Ok tt) = subst (λ a. calls.written at (replicate n 0) mid now a) ok (subst (λ s. calls.written at s mid now answer) is w) in
    Piece at n mid now some done made

-- a piece is refused
pub zeroing_stopped : {File : Type 0} (calls : FileCalls File) (start : ℕ) (old : File) (P : Type 0) (at n : ℕ) (mid now : File) (source : List ℕ) (answer result : Answer) (x : IoError)
    → source ≡ replicate n 0 → IsZeroed calls start old at mid → calls.written at source mid now answer → answer ≡ Err x → IsErrAnd result (λ e. e ≡ x)
    → MatchResult result (λ t. P) (λ e. IsStopped calls start old e now)
zeroing_stopped calls start old P at n mid now source answer result x is done w err passed =
    let p = err_from_is_err_and result passed in
    rw p.1 (record { at = at; mid = mid; zeroed = done; n = n; stopped = subst (λ a. calls.written at (replicate n 0) mid now a) (err ∙ ap Err (sym p.2)) (subst (λ s. calls.written at s mid now answer) is w) })
