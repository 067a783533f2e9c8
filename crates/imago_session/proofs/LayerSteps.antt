-- What layers that are open over a part of their files show.
-- SPDX-License-Identifier: MIT
use Rattle.std.proofs.Common.{⊎_elim, ◌≡◌, ℕ, suc, ◌+◌, ◌≤◌, List, Bool, true, false, refl, sym, ap, subst, ◌∙◌, arith, map, slice_index_or, ◌∷◌, [], Ok}
use Rattle.std.specs.Prelude.{slice_index, nat_lt, if◌then◌else◌}
use Rattle.std.specs.String.{string_bytes}
use Rattle.imago_drivers.specs.Place.{Place, Stored, Zeroed, Special, Lower, Refused, End, Value, Byte, shown}
use Rattle.imago_drivers.specs.Raw.{raw_place}
use Rattle.imago_drivers.specs.View.{View}
use Rattle.imago_drivers.specs.declared.mapping.Ticket.{Ticket}
use Rattle.imago_access.specs.declared.access.FormatAccess.{FormatAccess, FormatAccess', Held-FormatAccess-backing, None', Some', is-FormatAccess', out-FormatAccess, back-FormatAccess-backing}
use Rattle.imago_access.specs.Chain.{driver}
use Rattle.imago_access.specs.Target.{Target, target, target_below, followed}
use Rattle.imago_session.specs.declared.permitted.Permitted.{Permitted}
use Rattle.imago_vmdk.specs.Vmdk.{vmdk_place}
use Rattle.imago_vmdk.specs.Disk.{with_bytes, places_read}
use Rattle.imago_vmdk.specs.Reading.{reading_of}
use Rattle.imago_vmdk.specs.Line.{extent_with}
use Rattle.imago_vmdk.proofs.Disk.{places_with, same_read}
use Rattle.imago_plan.specs.StoredBytes.{target_value}
use Rattle.imago_plan.specs.Pieces.{Stands}
use Rattle.imago_plan.specs.declared.piece.Source.{Source}
use Rattle.imago_plan.specs.declared.piece.Source.TheVariants as From
use Rattle.imago_plan.proofs.Disks.{source_byte as disk_byte}
use Rattle.imago_qcow2.specs.Entry.{cluster_length, qcow2_place}
use Rattle.imago_qcow2.specs.Disk.{HaveSameTables, StandsAlike}
use Rattle.imago_qcow2.proofs.NumberSteps.{range64}
use Rattle.imago_qcow2.proofs.ToldSteps.{places_told, cluster_told, size_told}
use Rattle.imago_any_driver.specs.AnyDriver.{view_over}
use Rattle.imago_any_driver.specs.declared.any.AnyDriver.TheVariants as Of
use Rattle.imago_session.specs.Features.{loaded_features}
use Rattle.imago_session.specs.declared.loaded.LoadedFile.{LoadedFile}
use Rattle.imago_session.specs.Loaded.{loaded_bytes}
use Rattle.imago_session.proofs.PlaceSteps.{IsNoSpecial, same_place, same_clusters}
use Rattle.imago_session.specs.Files.{File, Layer, described_by, IsOver, AreLayersOf, AreBelow, described_value, described_below, size_by, size_read}
use Rattle.imago_session.specs.Opening.{source_byte}

-- the view of a layer
abbrev pub view_of : Layer → View Ticket
view_of = view_over (λ (s : LoadedFile). loaded_features) (λ (s : LoadedFile). 0) loaded_bytes

-- the law of qcow2 files with the same tables
abbrev pub StandAlike : Type 0
StandAlike = (a b : List ℕ) → HaveSameTables a b → 8 ≤ cluster_length a → (p : ℕ) → StandsAlike (qcow2_place a p) (qcow2_place b p)

-- a raw place, with other bytes
raw_with : (b : ℕ → List ℕ) (own : List ℕ) (p : ℕ) (inside : Bool)
    → with_bytes b (if inside then Stored (slice_index own p) 0 p true else End) ≡ (if inside then Stored (slice_index (b 0) p) 0 p true else End)
raw_with b own p true = refl
raw_with b own p false = refl

module _ (law : StandAlike) (permitted : Permitted) where
  -- a place of a layer, where its storages have other bytes, is the one that the files say
  pub layer_shows : (d : Layer) (b : ℕ → List ℕ) → IsOver permitted d (b 0) → (p : ℕ) → IsNoSpecial ((view_of d).place p)
      → with_bytes b ((view_of d).place p) ≡ described_by d b p
  layer_shows (Of.Raw r) b over p other =
      raw_with b (loaded_bytes r.storage) p (nat_lt p r.size)
      ∙ ap (λ (n : ℕ). raw_place n (b 0) p) over
  layer_shows (Of.Vmdk v) b over p other =
      let held : ℕ → List ℕ = λ i. slice_index_or (loaded_bytes v.descriptor ∷ map loaded_bytes v.storages.items) i [] in
      ap (with_bytes b)
      (ap (λ (o : Bool). vmdk_place held o v.extents.items p) over.1
      ∙ sym (places_with string_bytes held 1 v.extents.items p))
      ∙ sym (same_read held b (Ok (map (extent_with string_bytes) v.extents.items, v.size)) p)
      ∙ ap (λ r. places_read b r p) (sym (v.read refl))
      ∙ ap (λ (text : List ℕ). places_read b (reading_of v.accepted text) p) (sym over.2)
  layer_shows (Of.Cow c) b over p other = absurd over
  layer_shows (Of.Qcow2 q) b over p other =
      let own : List ℕ = loaded_bytes q.storage in
      let places : (x : ℕ) → (view_of (Of.Qcow2 q)).place x ≡ qcow2_place own x =
      places_told loaded_features own refl q.header q.tables q.cluster.length q.cluster_is q.loaded q.cluster.shortest q.covers in
      let wide : 512 ≤ cluster_length own = subst (λ n. 512 ≤ n) (cluster_told loaded_features own refl q.header q.tables q.cluster.length q.cluster_is q.loaded) q.cluster.shortest in
      ap (with_bytes b) (places p)
      ∙ same_place b own p (law (b 0) own over.0 (same_clusters (b 0) own over.0 wide) p) (subst IsNoSpecial (places p) other)

  -- a place of a layer, over what is below it
  followed_value : (bytes : ℕ → ℕ → List ℕ) (deep : ℕ → Target) (below : ℕ → Value)
      → ((q : ℕ) → IsNoSpecial (deep q).place → target_value (λ k. bytes (suc k)) (deep q) ≡ below q)
      → (place : Place) → IsNoSpecial (followed deep place).place → target_value bytes (followed deep place) ≡ shown below (with_bytes (bytes 0) place)
  followed_value bytes deep below h (Lower q w) other =
      let t : Target = deep q in
      let next : 1 + t.depth ≡ suc t.depth = omega arith in
      ap (λ (z : ℕ). shown (λ (i : ℕ). Byte 0) (with_bytes (bytes z) t.place)) next ∙ h q other
  followed_value bytes deep below h (Stored b s o w) other = refl
  followed_value bytes deep below h (Zeroed e) other = refl
  followed_value bytes deep below h (Special b o) other = refl
  followed_value bytes deep below h (Refused e) other = refl
  followed_value bytes deep below h End other = refl

  -- a place that leads to none that is made up isn't one
  not_here : (deep : ℕ → Target) (place : Place) → IsNoSpecial (followed deep place).place → IsNoSpecial place
  not_here deep place other v o is = other v o (ap (λ (z : Place). (followed deep z).place) is)

  -- the storages of each layer are the files from its own on
  abbrev pub AreNumbered : (ℕ → ℕ → List ℕ) → (ℕ → File) → Type 0
  AreNumbered bytes files = (k s : ℕ) → bytes k s ≡ (files (k + s)).bytes

  next_numbered : (bytes : ℕ → ℕ → List ℕ) (files : ℕ → File) → AreNumbered bytes files → AreNumbered (λ k. bytes (suc k)) (λ k. files (suc k))
  next_numbered bytes files are k s = let e : suc k + s ≡ suc (k + s) = omega arith in are (suc k) s ∙ ap (λ (n : ℕ). (files n).bytes) e

  own_numbered : (bytes : ℕ → ℕ → List ℕ) (files : ℕ → File) → AreNumbered bytes files → (s : ℕ) → bytes 0 s ≡ (files s).bytes
  own_numbered bytes files are s = let e : 0 + s ≡ s = omega arith in are 0 s ∙ ap (λ (n : ℕ). (files n).bytes) e

  mutual
    pub layers_show : (bytes : ℕ → ℕ → List ℕ) (files : ℕ → File) → AreNumbered bytes files → (x : FormatAccess Layer) → AreLayersOf permitted files x
        → (p : ℕ) → IsNoSpecial (target view_of x p).place → target_value bytes (target view_of x p) ≡ described_value files x p
    layers_show bytes files are (FormatAccess' below inner) h p other =
        let own : (s : ℕ) → bytes 0 s ≡ (files s).bytes = own_numbered bytes files are in
        let over : IsOver permitted inner (bytes 0 0) = subst (λ (xs : List ℕ). IsOver permitted inner xs) (sym (own 0)) h.0.1 in
        let rest : ℕ → Value = described_below (λ k. files (suc k)) below in
        followed_value bytes (target_below view_of below) rest (below_show (λ k. bytes (suc k)) (λ k. files (suc k)) (next_numbered bytes files are) inner (files 0).bytes below h.1) ((view_of inner).place p) other
        ∙ ap (shown rest) (layer_shows inner (bytes 0) over p (not_here (target_below view_of below) ((view_of inner).place p) other))
        ∙ ap (λ (b : ℕ → List ℕ). shown rest (described_by inner b p)) (λ i s. own s i)

    below_show : (bytes : ℕ → ℕ → List ℕ) (files : ℕ → File) → AreNumbered bytes files → (inner : Layer) (top : List ℕ) (below : Held-FormatAccess-backing Layer) → AreBelow permitted files inner top below
        → (q : ℕ) → IsNoSpecial (target_below view_of below q).place → target_value bytes (target_below view_of below q) ≡ described_below files below q
    below_show bytes files are inner top None' h q other = refl
    below_show bytes files are inner top (Some' k x) h q other = layers_show bytes files are x h.1 q other

module _ (permitted : Permitted) where
  -- the size of a layer
  pub layer_size : (d : Layer) (bytes : List ℕ) → IsOver permitted d bytes → (view_of d).size ≡ size_by d bytes
  layer_size (Of.Raw r) bytes over = over
  layer_size (Of.Vmdk v) bytes over =
      sym v.sized
      ∙ sym (ap size_read (v.read refl))
      ∙ ap (λ (text : List ℕ). size_read (reading_of v.accepted text)) (sym over.2)
  layer_size (Of.Cow c) bytes over = absurd over
  layer_size (Of.Qcow2 q) bytes over =
      let own : List ℕ = loaded_bytes q.storage in
      size_told loaded_features own refl q.header q.tables q.cluster.length q.cluster_is q.loaded
      ∙ sym (range64 bytes own 0 112 over.0.header 24 (omega arith))

  pub image_size : (files : ℕ → File) (x : FormatAccess Layer) → AreLayersOf permitted files x → (view_of (driver x)).size ≡ size_by (driver x) (files 0).bytes
  image_size files x h =
      let here : AreLayersOf permitted files (FormatAccess' (back-FormatAccess-backing Layer (out-FormatAccess Layer x).backing) (driver x)) = subst (λ (y : FormatAccess Layer). AreLayersOf permitted files y) (is-FormatAccess' x) h in
      layer_size (driver x) (files 0).bytes here.0.1

-- where a source stands isn't made up
pub stands_no_special : (s : Source) (i : ℕ) (t : Target) → Stands s i t → IsNoSpecial t.place
stands_no_special From.Zero i t h v o is = ⊎_elim
    (λ z. let e = z.1 in let q : ⊥ = cc in q)
    (λ e. let q : ⊥ = cc in q)
    h
stands_no_special (From.Stored from) i t h v o is = let e = h.1.2 in let q : ⊥ = cc in q

-- the byte of a source, by the numbers of files
pub source_is : (files : ℕ → File) (s : Source) (i : ℕ) → Byte (disk_byte (λ (k n : ℕ). (files (k + n)).bytes) s i) ≡ Byte (source_byte files s i)
source_is files From.Zero i = refl
source_is files (From.Stored from) i = refl
