-- SPDX-License-Identifier: MIT
use Rattle.std.proofs.Common.{◌≡◌, ℕ, List, Bool, true, Option, Some, inr, subst, Result, Ok, Err}
use Rattle.std.specs.Prelude.{MatchResult}
use Rattle.std.specs.declared.io.Error.{Error as IoError}
use Rattle.imago_storage.specs.Options.{OpenOptions, CreateOptions}
use Rattle.imago_storage.specs.declared.options.PreallocateMode.{PreallocateMode}
use Rattle.imago_file.specs.FileCalls.{FileCalls, Answer, IsSizeSet}
use Rattle.imago_file.specs.Opening.{FileOpening, IsAsked, IsFileCreation}

creation : {Host File S : Type 0} (created : FileOpening Host File) (calls : FileCalls File) (is_storage : Option (List ℕ) → Bool → File → S → Type 0)
    (options : CreateOptions) (old new : Host) (name : List ℕ) (empty file : File) (result : Result S IoError)
    → IsAsked options.to_open name → created name options.overwrite old new (Ok empty) → IsSizeSet calls 0 options.size options.mode empty file (Ok tt)
    → MatchResult result (is_storage (Some name) true file) (λ e. calls.measured file (Err e)) → IsFileCreation created calls is_storage options old new result
creation created calls is_storage options old new name empty file (Ok s) asked made sized r =
    record { name = name; asked = asked; empty = empty; made = made; file = file; sized = sized; storage_is = r }
creation created calls is_storage options old new name empty file (Err e) asked made sized r =
    inr (record { name = name; asked = asked; refused = inr (empty, file, made, inr (sized, r)) })

-- a file that was created and sized, and what came of its storage
pub created_and_sized : {Host File S : Type 0} (created : FileOpening Host File) (calls : FileCalls File) (is_storage : Option (List ℕ) → Bool → File → S → Type 0)
    (options : CreateOptions) (old new : Host) (to_open : OpenOptions) (name path : List ℕ) (replace : Bool) (size : ℕ) (mode : PreallocateMode)
    (empty file : File) (made : Result File IoError) (sized : Answer) (result : Result S IoError)
    → to_open ≡ options.to_open → path ≡ name → replace ≡ options.overwrite → size ≡ options.size → mode ≡ options.mode
    → IsAsked to_open name → created path replace old new made → made ≡ Ok empty → IsSizeSet calls 0 size mode empty file sized → sized ≡ Ok tt
    → MatchResult result (is_storage (Some name) true file) (λ e. calls.measured file (Err e)) → IsFileCreation created calls is_storage options old new result
created_and_sized created calls is_storage options old new to_open name path replace size mode empty file made sized result o p q n m asked c is z ok r =
    let asked_is : IsAsked options.to_open name = subst (λ t. IsAsked t name) o asked in
    let made_is : created name options.overwrite old new (Ok empty) = subst (created name options.overwrite old new) is (subst (λ b. created name b old new made) q (subst (λ x. created x replace old new made) p c)) in
    let sized_is : IsSizeSet calls 0 options.size options.mode empty file (Ok tt) =
    subst (IsSizeSet calls 0 options.size options.mode empty file) ok (subst (λ k. IsSizeSet calls 0 options.size k empty file sized) m (subst (λ k. IsSizeSet calls 0 k mode empty file sized) n z)) in
    creation created calls is_storage options old new name empty file result asked_is made_is sized_is r
