-- Blocks of files that were read, and what follows of calls that succeeded.
-- SPDX-License-Identifier: MIT
use Rattle.std.proofs.Common.{◌≡◌, ◌∙◌, ap, List, ℕ, length, Bool, IsTrue, Result, Ok, Err, OnOk, IfOk, subst}
use Rattle.imago_storage.specs.Bytes.{IsReadAt, bytes_at}
use Rattle.imago_storage.proofs.BytesAt.{read_bytes}

-- what is so where a call succeeded that did
pub was_done :
    {T E : Type 0} (r : Result T E) (x : T) (P : Type 0) → r ≡ Ok x → OnOk r P → P
was_done {T} {E} r x P is h = subst (λ (q : Result T E). OnOk q P) is h

-- what follows of each success
pub each_ok :
    {T E : Type 0} (r : Result T E) (P Q : T → Type 0) → ((x : T) → P x → Q x) → IfOk r P → IfOk r Q
each_ok (Ok x) P Q h p = h x p
each_ok (Err e) P Q h p = tt

-- a block that was read
pub block_read :
    (bytes own block : List ℕ) (tells : Bool) (at n : ℕ) → IsTrue tells × (own ≡ bytes)
    → (IsTrue tells → IsReadAt own at block) → length block ≡ n → block ≡ bytes_at bytes at n
block_read bytes own block tells at n told read long =
    read_bytes own at block (read told.0) ∙ ap (bytes_at own at) long
    ∙ ap (λ (xs : List ℕ). bytes_at xs at n) told.1
