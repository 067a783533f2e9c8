-- SPDX-License-Identifier: MIT
use Rattle.std.proofs.Common.{◌≡◌, ℕ, ◌++◌, List, [], map, Option, Some, None, IfSome, IsTrue, sym, ap, ◌∙◌, subst}
use Rattle.std.proofs.lemmas.Option.{same_Some}
use Rattle.imago.specs.Place.{Value, Byte}
use Rattle.imago.specs.FileDisks.{ShowsDisk, HasDisk}
use Rattle.imago_examples.specs.ByPath.{as_found}
use Rattle.imago_examples.proofs.by_path.whole_disk.Goals as goal

-- the bytes that a copy put into an empty list are the disk
copied :
    {T : Type 0} (known : Option (List ℕ → List ℕ)) (path : List ℕ) (disk : List Value)
    (old now : List ℕ) → old ≡ []
    → IfSome known (λ files. ShowsDisk as_found files path disk) → IfSome known (λ _. T)
    → (T → (bytes : List ℕ) × (disk ≡ map Byte bytes) × (Some now ≡ Some (old ++ bytes)))
    → IfSome known (λ files. HasDisk as_found files path now)
copied None path disk old now empty shows told put = tt
copied (Some files) path disk old now empty shows told put =
    let p = put told in
    let all : now ≡ p.0 = same_Some now (old ++ p.0) p.2 ∙ ap (λ (o : List ℕ). o ++ p.0) empty in
    subst (ShowsDisk as_found files path) (p.1 ∙ ap (map Byte) (sym all)) shows

pub returns-in-Ok : goal.returns-in-Ok
returns-in-Ok g c =
    copied (g.H.Files.contents c.args.host.now) c.args.path.now _
    c.new-bytes.result.items c.copy_to.new.target.items c.new-bytes.ensures.items
    c.in_ok-disk.ensures.shows c.in_ok-disk.ensures.told c.in-Ok.ensures.put
