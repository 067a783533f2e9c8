-- What a qcow2 file says of the one below it.
-- SPDX-License-Identifier: MIT
use Rattle.std.proofs.Common.{◌≡◌, ℕ, ◌<◌, List, Option, Some, None, Result, Ok, Err}
use Rattle.std.proofs.Common.{IfOk, IfSome, MatchResult, IsErr, Global, sym, ap, ◌∙◌, subst, length, inl, inr}
use Rattle.std.specs.Prelude.{option_map}
use Rattle.std.specs.declared.vec.Vec.{Vec}
use Rattle.imago_qcow2.specs.Numbers.{be64}
use Rattle.imago_qcow2.specs.Backing.{IsBackingName, IsFormatName}
use Rattle.imago_storage.specs.Bytes.{bytes_at}
use Rattle.imago_storage.proofs.BytesAt.{read_bytes}
use Rattle.imago_images.specs.declared.format.ImageFormat.{ImageFormat}
use Rattle.imago_images.specs.Formats.{format_named, SaysFormat}
use Rattle.imago_images.specs.Layers.{SaysBacking}
use Rattle.imago_images.specs.Refusals.{SaysOtherFormat}

-- what the image layer gave is passed on
pub passed_on :
    {X E F : Type 0} (answer : Result X E) (r : Result X F) (x : X) (P : X → Type 0)
    → IfOk answer P → MatchResult answer (λ y. r ≡ Ok y) (λ e. IsErr r) → r ≡ Ok x → P x
passed_on {X} {E} {F} (Ok y) r x P h m e = subst (λ (z : Result X F). IfOk z P) (sym m ∙ e) h
passed_on {X} {E} {F} (Err d) r x P h m e =
    let z : IsErr {T = X} {E = F} (Ok x) = subst (λ (q : Result X F). IsErr q) e m in
    let none : ⊥ = cc z in absurd none

-- what is said of the format of the file below: nothing, or a name
pub no_format :
    {E F : Type 0} (bytes : List ℕ) (answer : Result (Option (Vec ℕ Global)) E)
    (r : Result (Option (Vec ℕ Global)) F)
    → IfOk answer (IsFormatName bytes) → MatchResult answer (λ y. r ≡ Ok y) (λ e. IsErr r)
    → r ≡ Ok None → SaysFormat bytes None
no_format bytes answer r h m e = passed_on answer r None (IsFormatName bytes) h m e

pub format_is :
    {E F : Type 0} (bytes : List ℕ) (answer : Result (Option (Vec ℕ Global)) E)
    (r : Result (Option (Vec ℕ Global)) F) (name : Vec ℕ Global) (text : List ℕ) (f : ImageFormat)
    → IfOk answer (IsFormatName bytes) → MatchResult answer (λ y. r ≡ Ok y) (λ e. IsErr r)
    → r ≡ Ok (Some name) → text ≡ name.items → format_named text ≡ Some f → SaysFormat bytes (Some f)
format_is bytes answer r name text f h m e t k =
    let here : IsFormatName bytes (Some name) = passed_on answer r (Some name) (IsFormatName bytes) h m e in (
      here.0,
      length name.items,
      here.1,
      ap format_named (sym (read_bytes bytes here.0 name.items here.2) ∙ sym t) ∙ k,
    )

pub other_format :
    {E F : Type 0} (bytes : List ℕ) (answer : Result (Option (Vec ℕ Global)) E)
    (r : Result (Option (Vec ℕ Global)) F) (name : Vec ℕ Global) (text : List ℕ)
    → IfOk answer (IsFormatName bytes) → MatchResult answer (λ y. r ≡ Ok y) (λ e. IsErr r)
    → r ≡ Ok (Some name) → text ≡ name.items → format_named text ≡ None → SaysOtherFormat bytes text
other_format bytes answer r name text h m e t k =
    let here : IsFormatName bytes (Some name) = passed_on answer r (Some name) (IsFormatName bytes) h m e in
    (here.0, length name.items, here.1, sym (read_bytes bytes here.0 name.items here.2) ∙ sym t, k)

-- what is said of the format of a file below, if there is one
pub told_format :
    (o : Option (List ℕ → List ℕ)) (path : List ℕ) (A : Type 0) (said : A → Option ImageFormat) (below : Option A) (b : A)
    → below ≡ Some b → IfSome o (λ files. IfSome below (λ x. SaysFormat (files path) (said x)))
    → IfSome o (λ files. SaysFormat (files path) (said b))
told_format None path A said below b e h = tt
told_format (Some files) path A said below b e h = subst (λ (z : Option A). IfSome z (λ x. SaysFormat (files path) (said x))) e h

-- no name, one without bytes, and one
pub no_name :
    {E F : Type 0} (bytes : List ℕ) (answer : Result (Option (Vec ℕ Global)) E)
    (r : Result (Option (Vec ℕ Global)) F)
    → IfOk answer (IsBackingName bytes) → MatchResult answer (λ y. r ≡ Ok y) (λ e. IsErr r)
    → r ≡ Ok None → SaysBacking bytes None
no_name bytes answer r h m e = inl (passed_on answer r None (IsBackingName bytes) h m e)

pub empty_name :
    {E F : Type 0} (bytes : List ℕ) (answer : Result (Option (Vec ℕ Global)) E)
    (r : Result (Option (Vec ℕ Global)) F) (name : Vec ℕ Global)
    → IfOk answer (IsBackingName bytes) → MatchResult answer (λ y. r ≡ Ok y) (λ e. IsErr r)
    → r ≡ Ok (Some name) → length name.items ≡ 0 → SaysBacking bytes None
empty_name bytes answer r name h m e z =
    let here : IsBackingName bytes (Some name) = passed_on answer r (Some name) (IsBackingName bytes) h m e in
    inr (sym here.1 ∙ z)

pub name_said :
    {E F : Type 0} (bytes : List ℕ) (answer : Result (Option (Vec ℕ Global)) E)
    (r : Result (Option (Vec ℕ Global)) F) (name : Vec ℕ Global)
    → IfOk answer (IsBackingName bytes) → MatchResult answer (λ y. r ≡ Ok y) (λ e. IsErr r)
    → r ≡ Ok (Some name) → 0 < length name.items → SaysBacking bytes (Some name.items)
name_said bytes answer r name h m e some =
    let here : IsBackingName bytes (Some name) = passed_on answer r (Some name) (IsBackingName bytes) h m e in (
      here.0,
      subst (λ (n : ℕ). 0 < n) here.1 some,
      read_bytes bytes (be64 bytes 8) name.items here.2 ∙ ap (bytes_at bytes (be64 bytes 8)) here.1,
    )

-- the name that was given
pub name_given :
    (bytes : List ℕ) (o : Option (Vec ℕ Global)) (name : Vec ℕ Global) → o ≡ Some name
    → SaysBacking bytes (option_map (λ (n : Vec ℕ Global). n.items) o) → SaysBacking bytes (Some name.items)
name_given bytes o name is h =
    subst (λ (x : Option (Vec ℕ Global)). SaysBacking bytes (option_map (λ (n : Vec ℕ Global). n.items) x)) is h
