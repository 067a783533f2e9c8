-- What the first bytes of a qcow2 file say of other files, and what is so of a described image.
-- SPDX-License-Identifier: MIT
use Rattle.std.proofs.Common.{◌≡◌, ℕ, ◌+◌, ◌<◌, ◌≤◌, Bool, List, length, Option, None, Result, Ok, IfOk, IfSome, refl, subst, arith}
use Rattle.std.specs.Prelude.{slice_index, MatchResult, IsErr}
use Rattle.imago_storage.specs.Bytes.{IsReadAt}
use Rattle.imago_qcow2.specs.Numbers.{be32, be64}
use Rattle.imago_qcow2.specs.Entry.{disk_size}
use Rattle.imago_qcow2.specs.Header.{features_at, has_bit}
use Rattle.imago_qcow2.proofs.NumberSteps.{range32, range64}
use Rattle.imago_qcow2.proofs.HeaderSteps.{same32, same64, head_same}
use Rattle.imago_images.specs.declared.opening.Opening.{Opening}
use Rattle.imago_images.specs.declared.opening.OtherFiles.{OtherFiles}
use Rattle.imago_images.specs.declared.opening.OtherFiles.TheVariants as Others
use Rattle.imago_images.specs.Alone.{NamesNoOther}
use Rattle.imago_images.specs.Layers.{SaysBacking}
use Rattle.imago_images.proofs.NameSteps.{passed_on}
use Rattle.imago_img_files.specs.Described.{IsDescribed}

-- bytes that begin as others name no file below if these don't
pub below_kept : (bytes changed : List ℕ) → ((i : ℕ) → i < 24 → slice_index changed i ≡ slice_index bytes i)
    → SaysBacking changed None → SaysBacking bytes None
below_kept bytes changed same named =
    let moved : (i : ℕ) → i < 24 → slice_index changed (0 + i) ≡ slice_index bytes (0 + i) = λ i h. (let e : 0 + i ≡ i = omega arith in rw e (same i h)) in
    let at : be64 changed 8 ≡ be64 bytes 8 = range64 changed bytes 0 24 moved 8 (omega arith) in
    let n : be32 changed 16 ≡ be32 bytes 16 = range32 changed bytes 0 24 moved 16 (omega arith) in
    rw (at, n) at named

-- the file whose first cluster was read names none below if that doesn't
pub below_read : (bytes cluster : List ℕ) → IsReadAt bytes 0 cluster → 112 ≤ length cluster → SaysBacking cluster None → SaysBacking bytes None
below_read bytes cluster r len named =
    let begins = head_same bytes cluster r len in
    let at : be64 cluster 8 ≡ be64 bytes 8 = same64 bytes cluster begins 8 (omega arith) in
    let n : be32 cluster 16 ≡ be32 bytes 16 = same32 bytes cluster begins 16 (omega arith) in
    rw (at, n) at named

-- bytes that begin as others have the same size of a disk
pub size_kept : (bytes changed : List ℕ) → ((i : ℕ) → i < 32 → slice_index changed i ≡ slice_index bytes i)
    → disk_size changed ≡ disk_size bytes
size_kept bytes changed same =
    let moved : (i : ℕ) → i < 32 → slice_index changed (0 + i) ≡ slice_index bytes (0 + i) = λ i h. (let e : 0 + i ≡ i = omega arith in rw e (same i h)) in
    range64 changed bytes 0 32 moved 24 (omega arith)

-- the size in a header that was read is that of the file
pub size_in_read : (bytes head : List ℕ) → IsReadAt bytes 0 head → 112 ≤ length head → disk_size head ≡ disk_size bytes
size_in_read bytes head r len = same64 bytes head (head_same bytes head r len) 24 (omega arith)

-- the features of a header that was read are those of the file
pub features_read : (bytes head : List ℕ) → IsReadAt bytes 0 head → 112 ≤ length head → has_bit (features_at head 72) 2 ≡ has_bit (features_at bytes 72) 2
unfolding features_at
features_read bytes head r len =
    let begins = head_same bytes head r len in
    let version : be32 head 4 ≡ be32 bytes 4 = same32 bytes head begins 4 (omega arith) in
    let features : be64 head 72 ≡ be64 bytes 72 = same64 bytes head begins 72 (omega arith) in
    rw (version, features) refl

-- what is described is what the words of a command line say
pub described_as_said : (how said : Opening) → how ≡ said → (json : Bool) (contents : Option (List ℕ → List ℕ)) (path text : List ℕ)
    → IfSome contents (λ files. IsDescribed how json path (files path) text)
    → IfSome contents (λ files. IsDescribed said json path (files path) text)
described_as_said how said e json contents path text h =
    subst (λ (w : Opening). IfSome contents (λ files. IsDescribed w json path (files path) text)) e h

-- a first cluster names no file below where its image, of the same first bytes, doesn't
pub below_of : {D E F : Type 0} (cluster : List ℕ) (others : OtherFiles) (tells : D → Type 0) (bytes : D → List ℕ)
    (answer : Result D E) (r : Result D F) (d : D)
    → IfOk answer tells → IfOk answer (λ x. (i : ℕ) → i < 24 → slice_index (bytes x) i ≡ slice_index cluster i)
    → MatchResult answer (λ y. r ≡ Ok y) (λ e. IsErr r) → r ≡ Ok d
    → (tells d → NamesNoOther others (bytes d)) → others ≡ Others.None → SaysBacking cluster None
below_of cluster others tells bytes answer r d told first given is names none =
    let t : tells d = passed_on answer r d tells told given is in
    let f : (i : ℕ) → i < 24 → slice_index (bytes d) i ≡ slice_index cluster i = passed_on answer r d (λ x. (i : ℕ) → i < 24 → slice_index (bytes x) i ≡ slice_index cluster i) first given is in
    below_kept cluster (bytes d) f (subst (λ (o : OtherFiles). NamesNoOther o (bytes d)) none (names t))
