-- What a descriptor's text is refused for.
-- SPDX-License-Identifier: MIT
use Rattle.std.proofs.Common.{◌≡◌, ℕ, Bool, true, false, ◌&&◌, ◌||◌, ◌==◌, nat_eq, codes, slice_index, length, cond, List, [], ◌∷◌, Option, Some, None, Result, Ok, Err, IfErr, ◌⊎◌, inl, inr, refl, ⊎_elim}
use Rattle.std.specs.List.{sum_by, starts_with}
use Rattle.std.specs.Str.{trim}
use Rattle.imago_vmdk.specs.Text.{utf8_of, lines_of, words_of, cut_at, number_of, is_text}
use Rattle.imago_storage.specs.declared.error.Error.{Error}
use Rattle.imago_vmdk.specs.declared.line.Access.{Access}
use Rattle.imago_vmdk.specs.declared.line.Extent.{Extent}
use Rattle.imago_vmdk.specs.declared.line.Accepted.{Accepted}
use Rattle.imago_vmdk.specs.declared.line.Line.{Line}
use Rattle.imago_vmdk.specs.Line.{◌>>=◌, or_invalid, access_of, unquoted, is_setting, is_geometry, offset_of, flat_of, typed_of, sized_of, extent_of, setting_of, pair_of, worded_of, text_of, verdict_of}
use Rattle.imago_vmdk.specs.Reading.{lines_say, last_version, extents_in, size_of, is_version, is_length, is_sparse, fitting, disk_of, disk_in, reading_of}

-- a text is refused as invalid data or as not offered
pub record HasFaults {A : Type 0} (r : Result A Error) : Type 0 where
  pub only : IfErr r (λ e. (e ≡ Error.InvalidData) ⊎ (e ≡ Error.Unsupported))

fine : {A : Type 0} (x : A) → HasFaults (Ok x)
fine x = record { only = tt }

bad_data : {A : Type 0} → HasFaults {A = A} (Err Error.InvalidData)
bad_data = record { only = inl refl }

lacking : {A : Type 0} → HasFaults {A = A} (Err Error.Unsupported)
lacking = record { only = inr refl }

bound : {A B : Type 0} (r : Result A Error) (f : A → Result B Error) → HasFaults r → ((x : A) → HasFaults (f x)) → HasFaults (r >>= f)
bound (Ok x) f h k = k x
bound (Err e) f h k = record { only = h.only }

invalid : {A : Type 0} (o : Option A) → HasFaults (or_invalid o)
invalid None = bad_data
invalid (Some x) = fine _

either : {A : Type 0} (b : Bool) (r s : Result A Error) → HasFaults r → HasFaults s → HasFaults (cond b r s)
either true r s h k = h
either false r s h k = k

offset_faults : (vmfs : Bool) (words : List (List ℕ)) → HasFaults (offset_of vmfs words)
offset_faults vmfs [] = fine 0
offset_faults true (word ∷ words) = bad_data
offset_faults false (word ∷ words) = invalid (number_of 64 word)

flat_faults : (vmfs w : Bool) (n : ℕ) (text : List ℕ) → HasFaults (flat_of vmfs w n text)
unfolding flat_of
flat_faults vmfs w n text = bound {A = List ℕ × List ℕ} _ _ (invalid (cut_at 34 text)) (λ opening. bound {A = List ℕ × List ℕ} _ _ (invalid (cut_at 34 opening.1)) (λ closing. bound {A = ℕ} _ _ (offset_faults vmfs (words_of closing.1)) (λ offset. either (length (words_of opening.0) == 3) _ _ (fine (Extent.Flat n (trim closing.0) offset w vmfs)) bad_data)))

typed_faults : (accepted : Accepted) (w : Bool) (n : ℕ) (words : List (List ℕ)) (text : List ℕ) → HasFaults (typed_of accepted w n words text)
unfolding typed_of
typed_faults accepted w n [] text = bad_data
typed_faults accepted w n (word ∷ words) text = either (is_text word (codes "ZERO")) _ _ (fine (Extent.Zero n)) (either (is_text word (codes "FLAT")) _ _ (flat_faults false w n text) (either (is_text word (codes "VMFS") && accepted.vmfs) _ _ (flat_faults true w n text) lacking))

sized_faults : (accepted : Accepted) (first : Access) (n : ℕ) (words : List (List ℕ)) (text : List ℕ) → HasFaults (sized_of accepted first n words text)
unfolding sized_of
sized_faults accepted Access.NoAccess n words text = fine (Extent.NoAccess n)
sized_faults accepted Access.ReadOnly n words text = typed_faults accepted false n words text
sized_faults accepted Access.ReadWrite n words text = typed_faults accepted true n words text

extent_faults : (accepted : Accepted) (first : Access) (words : List (List ℕ)) (text : List ℕ) → HasFaults (extent_of accepted first words text)
unfolding extent_of
extent_faults accepted first [] text = fine Line.Nothing
extent_faults accepted first (word ∷ words) text = bound {A = ℕ} _ _ (invalid (number_of 64 word)) (λ n. bound {A = Extent (List ℕ)} _ _ (sized_faults accepted first n words text) (λ e. fine (Line.Extent e)))

setting_faults : (accepted : Accepted) (key value : List ℕ) → HasFaults (setting_of accepted key value)
unfolding setting_of
setting_faults accepted key value =
    either (is_text key (codes "version")) _ _ (bound {A = ℕ} _ _ (invalid (number_of 32 value)) (λ n. fine (Line.Version n)))
    (either (is_setting key) _ _ (fine Line.Setting)
    (either (is_text key (codes "parentFileNameHint")) _ _ lacking
    (either (is_geometry key) _ _ (bound {A = ℕ} _ _ (invalid (number_of 64 (unquoted value))) (λ n. fine Line.Setting))
    (either (accepted.unknown_keys || starts_with nat_eq key (codes "ddb.")) _ _ (fine Line.Nothing) bad_data))))

pair_faults : (accepted : Accepted) (pair : Option (List ℕ × List ℕ)) → HasFaults (pair_of accepted pair)
pair_faults accepted None = fine Line.Nothing
pair_faults accepted (Some p) = setting_faults accepted (trim p.0) (trim p.1)

worded_faults : (accepted : Accepted) (first : Option Access) (words : List (List ℕ)) (text : List ℕ) → HasFaults (worded_of accepted first words text)
worded_faults accepted None words text = pair_faults accepted (cut_at 61 text)
worded_faults accepted (Some first) words text = extent_faults accepted first words text

text_faults : (accepted : Accepted) (words : List (List ℕ)) (text : List ℕ) → HasFaults (text_of accepted words text)
unfolding text_of
text_faults accepted [] text = fine Line.Nothing
text_faults accepted (first ∷ words) text = either (slice_index text 0 == 35) _ _ (fine Line.Nothing) (worded_faults accepted (access_of first) words text)

verdict_faults : (accepted : Accepted) (line : List ℕ) → HasFaults (verdict_of accepted line)
unfolding verdict_of
verdict_faults accepted line = bound {A = List ℕ} _ _ (invalid (utf8_of line)) (λ text. text_faults accepted (words_of (trim text)) (trim text))

lines_faults : (accepted : Accepted) (lines : List (List ℕ)) → HasFaults (lines_say accepted lines)
lines_faults accepted [] = fine []
lines_faults accepted (x ∷ xs) = bound {A = Line (List ℕ)} _ _ (verdict_faults accepted x) (λ l. bound {A = List (Line (List ℕ))} _ _ (lines_faults accepted xs) (λ ls. fine (l ∷ ls)))

size_faults : (extents : List (Extent (List ℕ))) (size : Option ℕ) → HasFaults (disk_of extents size)
size_faults extents None = bad_data
size_faults extents (Some n) = let disk : List (Extent (List ℕ)) × ℕ = (extents, n) in fine disk

disk_faults : (lines : List (Line (List ℕ))) → HasFaults (disk_in lines)
unfolding disk_in
disk_faults lines = either (is_version (last_version 0 lines)) _ _ (size_faults (extents_in lines) (fitting (sum_by size_of (extents_in lines)))) lacking

pub reading_faults : (accepted : Accepted) (bytes : List ℕ) → HasFaults (reading_of accepted bytes)
unfolding reading_of
reading_faults accepted bytes = either (is_length (length bytes)) _ _ (either (is_sparse bytes) _ _ lacking (bound {A = List (Line (List ℕ))} _ _ (lines_faults accepted (lines_of bytes)) disk_faults)) bad_data

-- so no device fails in it
never_device : {A : Type 0} (r : Result A Error) → HasFaults r → r ≡ Err Error.Device → ⊥
never_device (Ok x) h e = let z : ⊥ = cc in z
never_device (Err d) h e = let k : d ≡ Error.Device = cc in ⊎_elim (λ i. let z : ⊥ = cc in z) (λ u. let z : ⊥ = cc in z) h.only

pub reading_no_device : (accepted : Accepted) (bytes : List ℕ) → reading_of accepted bytes ≡ Err Error.Device → ⊥
reading_no_device accepted bytes e = never_device (reading_of accepted bytes) (reading_faults accepted bytes) e

pub read_device : (accepted : Accepted) (bytes : List ℕ) (e : Error) {P : Type 0} → (reading_of accepted bytes ≡ Err e) ⊎ ((e ≡ Error.Memory) × P) → e ≡ Error.Device → ⊥
read_device accepted bytes e h k = ⊎_elim (λ r. reading_no_device accepted bytes (rw k at r)) (λ m. let x = m.0 in let z : ⊥ = cc in z) h
