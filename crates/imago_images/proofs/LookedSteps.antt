-- What is kept of the files that were looked at stays so when one more is kept.
-- SPDX-License-Identifier: MIT
use Rattle.std.proofs.Common.{◌≡◌, ℕ, inl, inr, List, Option, Some, sym, subst, String}
use Rattle.std.proofs.Common.{Result, Ok, Err, OnOk, OnErr, IfOk, arith}
use Rattle.std.specs.Global.{Global}
use Rattle.std.specs.String.{string_bytes, string_cmp}
use Rattle.std.specs.BTreeMap.{BTreeMap, Updates, IsUnchanged}
use Rattle.std.proofs.lemmas.Map.Text.{text_keys}
use Rattle.imago_images.specs.declared.files.FileStatus.{FileStatus}
use Rattle.imago_images.specs.declared.opening.OtherFiles.{OtherFiles}
use Rattle.imago_images.specs.Looked.{IsLookedAt, AreLookedAt, KeepsBeside}

-- what holds in any case holds where there is no refusal
pub where_ok : {T E : Type 0} (r : Result T E) (P : Type 0) → P → IfOk r (λ _. P)
where_ok (Ok _) P p = p
where_ok (Err _) P p = tt

put_one :
    (key : String Global) (path : List ℕ) (status : FileStatus)
    (old new : BTreeMap (String Global) FileStatus)
    → string_bytes key ≡ path → Updates string_cmp old new key (Some status)
    → KeepsBeside old new path status
put_one key path status old new is updates = λ other found at. grind (arith, text_keys)

-- a status is put beside those that are kept, or isn't
pub put_or_not :
    {T E : Type 0} (r : Result T E) (key : String Global) (path : List ℕ) (status : FileStatus)
    (old new : BTreeMap (String Global) FileStatus)
    → string_bytes key ≡ path → OnOk r (Updates string_cmp old new key (Some status))
    → OnErr r (IsUnchanged old new) → KeepsBeside old new path status
put_or_not (Ok _) key path status old new is updates unchanged =
    put_one key path status old new is updates
put_or_not (Err _) key path status old new is updates unchanged = λ other found at. inl (cc)

module _ (known : Option (List ℕ → List ℕ)) (statuses : Option (List ℕ → FileStatus))
    (reals : Option (List ℕ → List ℕ)) (others : OtherFiles) (image : List ℕ) (bounds : Option (List ℕ)) where
  -- what is kept beside was looked at
  pub still_looked_at :
      (old new : BTreeMap (String Global) FileStatus) (path : List ℕ) (status : FileStatus)
      → AreLookedAt known statuses reals others image bounds old
      → IsLookedAt known statuses reals others image bounds path status
      → KeepsBeside old new path status
      → AreLookedAt known statuses reals others image bounds new
  still_looked_at old new path status were is keeps = λ other found at.
      elim (keeps other found at) [
        | inl was ↦ were other found was
        | inr same ↦ subst (λ (p : List ℕ). IsLookedAt known statuses reals others image bounds p found) (sym same.0)
            (subst (λ (s : FileStatus). IsLookedAt known statuses reals others image bounds path s) (sym same.1) is)
      ]
