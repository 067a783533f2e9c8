-- SPDX-License-Identifier: MIT
use Rattle.std.proofs.Common.{◌≡◌, ℕ, List, Option, Some, None, Result, Ok, Err, IfSome, IsErr, OnOk, MatchResult, subst}
use Rattle.imago.specs.Place.{Value}
use Rattle.imago.specs.Disk.{IsPartOf}
use Rattle.imago.specs.FileDisks.{ShowsDisk}
use Rattle.imago_examples.specs.ByPath.{as_found, BeginsWith}
use Rattle.imago_examples.proofs.by_path.first_sector.Goals as goal

-- what a read gave of the disk is what it begins with
read_first :
    {T E F : Type 0} (known : Option (List ℕ → List ℕ)) (path : List ℕ) (disk : List Value)
    (sector : List ℕ) (read : Result (Unit {0}) E) (told : Result (Unit {0}) F)
    → IfSome known (λ files. ShowsDisk as_found files path disk) → IfSome known (λ _. T)
    → (T → OnOk read (IsPartOf disk 0 512 sector))
    → MatchResult read (λ y. told ≡ Ok y) (λ e. IsErr told) → told ≡ Ok tt
    → IfSome known (λ files. BeginsWith files path sector)
read_first None path disk sector read told shows tells values given is = tt
read_first (Some files) path disk sector (Ok y) told shows tells values given is = (disk, shows, values tells)
read_first {T} {E} {F} (Some files) path disk sector (Err e) told shows tells values given is =
    let z : IsErr {T = Unit {0}} {E = F} (Ok tt) = subst (λ (q : Result (Unit {0}) F). IsErr q) is given in
    let none : ⊥ = cc z in absurd none

pub returns : goal.returns
returns g c =
    read_first (g.H.Files.contents c.args.host.now) c.args.path.now _ c.read-read.new.buf
    c.read-read.result c.or_image.result c.in_ok-disk.ensures.shows c.in_ok-disk.ensures.told c.read-read.ensures
    c.or_image.ensures.given c.in_ok-or_image.was
