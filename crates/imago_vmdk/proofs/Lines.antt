-- Going over the lines, one after the other.
-- SPDX-License-Identifier: MIT
use Rattle.std.proofs.Common.{◌≡◌, ℕ, Bool, true, false, cond, ◌+◌, ◌*◌, ◌<◌, ◌^◌, List, [], ◌∷◌, ◌++◌, map, Option, Some, None, MatchOption, Result, Ok, Err, refl, ⊎_elim, sym, ap, ◌∙◌, append_assoc, arith, nat_lt}
use Rattle.std.proofs.lemmas.Bool.{cases_lt}
use Rattle.std.proofs.lemmas.Bool.Decides.{nat_tests}
use Rattle.std.proofs.lemmas.List.{append-nil}
use Rattle.std.specs.List.{sum_by}
use Rattle.std.specs.Option.{ok_or}
use Rattle.imago_storage.specs.declared.error.Error.{Error}
use Rattle.imago_vmdk.specs.declared.line.Accepted.{Accepted}
use Rattle.imago_vmdk.specs.declared.line.Line.{Line}
use Rattle.imago_storage.specs.declared.error.Error.TheVariants.{InvalidData, Unsupported}
use Rattle.std.proofs.lemmas.List.Sums.{sum_by-cons}
use Rattle.imago_vmdk.specs.declared.line.Extent.{Extent}
use Rattle.imago_vmdk.specs.Line.{◌>>=◌, verdict_of, extent_with, line_with, or_invalid, Gives}
use Rattle.imago_vmdk.specs.Reading.{lines_say, last_version, extents_in, extent_in, version_with, size_in, AreKept, sectors_of, size_of, is_version, fitting, disk_of, disk_in, found_in, survey_of}

-- what is made of the lines that are left, where none of them is a fault
abbrev pub onward : {B : Type 0} → Accepted → (List (Line (List ℕ)) → B) → List (List ℕ) → Result B Error
onward accepted f lines = lines_say accepted lines >>= λ ls. Ok (f ls)

past : {B : Type 0} (l : Line (List ℕ)) (r : Result (List (Line (List ℕ))) Error) (f : List (Line (List ℕ)) → B) → ((r >>= λ ls. Ok (l ∷ ls)) >>= λ ls. Ok (f ls)) ≡ (r >>= λ ls. Ok (f (l ∷ ls)))
past l (Ok ls) f = refl
past l (Err e) f = refl

-- a line is past
pub step : {B : Type 0} (accepted : Accepted) (f : List (Line (List ℕ)) → B) (x : List ℕ) (l : Line (List ℕ)) (lines : List (List ℕ)) → verdict_of accepted x ≡ Ok l → onward accepted f (x ∷ lines) ≡ onward accepted (λ ls. f (l ∷ ls)) lines
step accepted f x l lines h = rw h (past l (lines_say accepted lines) f)

-- a line is a fault
pub fault : {B : Type 0} (accepted : Accepted) (f : List (Line (List ℕ)) → B) (x : List ℕ) (lines : List (List ℕ)) (e : Error) → verdict_of accepted x ≡ Err e → onward accepted f (x ∷ lines) ≡ Err e
fault accepted f x lines e h = rw h refl

made_same : {B : Type 0} (f g : List (Line (List ℕ)) → B) (r : Result (List (Line (List ℕ))) Error) → ((ls : List (Line (List ℕ))) → f ls ≡ g ls) → (r >>= λ ls. Ok (f ls)) ≡ (r >>= λ ls. Ok (g ls))
made_same f g (Ok ls) h = ap Ok (h ls)
made_same f g (Err e) h = refl

pub same : {B : Type 0} (accepted : Accepted) (f g : List (Line (List ℕ)) → B) (lines : List (List ℕ)) → ((ls : List (Line (List ℕ))) → f ls ≡ g ls) → onward accepted f lines ≡ onward accepted g lines
same accepted f g lines h = made_same f g (lines_say accepted lines) h

-- the last version and the size, from such a version and size on
abbrev pub surveyed : ℕ → ℕ → List (Line (List ℕ)) → ℕ × Option ℕ
surveyed version size ls = (last_version version ls, fitting (size + sum_by size_of (extents_in ls)))

sectors_same : {N M : Type 0} (f : N → M) (e : Extent N) → sectors_of (extent_with f e) ≡ sectors_of e
sectors_same f (Extent.Zero s) = refl
sectors_same f (Extent.NoAccess s) = refl
sectors_same f (Extent.Flat s name offset writable vmfs) = refl

surveyed_more : {N : Type 0} (version size : ℕ) (f : N → List ℕ) (l : Line N) (ls : List (Line (List ℕ))) → surveyed version size (line_with f l ∷ ls) ≡ surveyed (version_with version l) (size + size_in l) ls
surveyed_more version size f Line.Nothing ls = let e : size ≡ size + 0 = omega arith in ap (λ n. surveyed version n ls) e
surveyed_more version size f (Line.Version m) ls = let e : size ≡ size + 0 = omega arith in ap (λ n. surveyed m n ls) e
surveyed_more version size f Line.Setting ls = let e : size ≡ size + 0 = omega arith in ap (λ n. surveyed version n ls) e
surveyed_more version size f (Line.Extent e) ls =
    let sum = sum_by-cons size_of (extent_with f e) (extents_in ls) in
    let one : size_of (extent_with f e) ≡ size_of e = ap (λ k. k * 512) (sectors_same f e) in
    let total : size + sum_by size_of (extent_with f e ∷ extents_in ls) ≡ size + size_of e + sum_by size_of (extents_in ls) = omega (arith, sum, one) in
    ap (λ n. (last_version version ls, fitting n)) total

-- a line adds its version and its size
pub counted : {N : Type 0} (accepted : Accepted) (version size : ℕ) (f : N → List ℕ) (l : Line N) (x : List ℕ) (lines : List (List ℕ)) → verdict_of accepted x ≡ Ok (line_with f l)
    → onward accepted (surveyed version size) (x ∷ lines) ≡ onward accepted (surveyed (version_with version l) (size + size_in l)) lines
counted accepted version size f l x lines h = step accepted (surveyed version size) x (line_with f l) lines h ∙ same accepted _ _ lines (surveyed_more version size f l)

pub starts : (accepted : Accepted) (lines : List (List ℕ)) → onward accepted (surveyed 0 0) lines ≡ survey_of accepted lines
starts accepted lines = same accepted (surveyed 0 0) found_in lines (λ ls. let e : 0 + sum_by size_of (extents_in ls) ≡ sum_by size_of (extents_in ls) = omega arith in ap (λ n. (last_version 0 ls, fitting n)) e)

pub done : (accepted : Accepted) (version n : ℕ) → onward accepted (surveyed version n) [] ≡ Ok (version, fitting n)
done accepted version n = let e : n + 0 ≡ n = omega arith in let found : ℕ → Result (ℕ × Option ℕ) Error = λ m. Ok (version, fitting m) in ap found e

more_extents : (es : List (Extent (List ℕ))) (l : Line (List ℕ)) (ls : List (Line (List ℕ))) → es ++ extents_in (l ∷ ls) ≡ (es ++ extent_in l) ++ extents_in ls
more_extents es Line.Nothing ls = ap (λ xs. xs ++ extents_in ls) (sym (append-nil es))
more_extents es (Line.Version m) ls = ap (λ xs. xs ++ extents_in ls) (sym (append-nil es))
more_extents es Line.Setting ls = ap (λ xs. xs ++ extents_in ls) (sym (append-nil es))
more_extents es (Line.Extent e) ls = simp append_assoc

-- a line's extent comes behind those so far
pub appended : (accepted : Accepted) (es : List (Extent (List ℕ))) (l : Line (List ℕ)) (x : List ℕ) (lines : List (List ℕ)) → verdict_of accepted x ≡ Ok l
    → onward accepted (λ ls. es ++ extents_in ls) (x ∷ lines) ≡ onward accepted (λ ls. (es ++ extent_in l) ++ extents_in ls) lines
appended accepted es l x lines h = step accepted (λ ls. es ++ extents_in ls) x l lines h ∙ same accepted _ _ lines (more_extents es l)

-- where extents are kept, they are what the lines give
pub kept_are : {V : Type 0} (view : V → List (Extent (List ℕ))) (o : Option V) (es : List (Extent (List ℕ))) (r : Result (List (Extent (List ℕ))) Error) → AreKept view o es → r ≡ Ok es → MatchOption o (Unit {0}) (λ v. r ≡ Ok (view v))
kept_are view None es r k h = tt
kept_are view (Some v) es r k h = rw k h

by_version : (known : Bool) (extents : List (Extent (List ℕ))) (size : Option ℕ) → ((cond known (disk_of extents size) (Err Unsupported)) >>= λ disk. Ok disk.1) ≡ cond known (or_invalid size) (Err Unsupported)
by_version false extents size = refl
by_version true extents None = refl
by_version true extents (Some n) = refl

-- what all lines say together, by what the survey found
pub size_by_survey : (r : Result (List (Line (List ℕ))) Error) (found : ℕ × Option ℕ) → (r >>= λ ls. Ok (found_in ls)) ≡ Ok found
    → ((r >>= disk_in) >>= λ disk. Ok disk.1) ≡ cond (is_version found.0) (or_invalid found.1) (Err Unsupported)
unfolding disk_in
size_by_survey (Err e) found h = let z : ⊥ = cc in absurd z
size_by_survey (Ok ls) found h =
    let same_found : found_in ls ≡ found = cc in
    by_version (is_version (last_version 0 ls)) (extents_in ls) (fitting (sum_by size_of (extents_in ls))) ∙ ap (λ (x : ℕ × Option ℕ). cond (is_version x.0) (or_invalid x.1) (Err Unsupported)) same_found

size_by_version : (known : Bool) (extents : List (Extent (List ℕ))) (size : Option ℕ) (n : ℕ) (es : List (Extent (List ℕ))) → ((cond known (disk_of extents size) (Err Unsupported)) >>= λ disk. Ok disk.1) ≡ Ok n → extents ≡ es → cond known (disk_of extents size) (Err Unsupported) ≡ Ok (es, n)
size_by_version false extents size n es h k = let z : ⊥ = cc in absurd z
size_by_version true extents None n es h k = let z : ⊥ = cc in absurd z
size_by_version true extents (Some m) n es h k = let e : m ≡ n = cc in rw (e, k) refl

-- the size and the extents together are what the lines say
pub disk_by_parts : (r : Result (List (Line (List ℕ))) Error) (n : ℕ) (es : List (Extent (List ℕ))) → ((r >>= disk_in) >>= λ disk. Ok disk.1) ≡ Ok n → (r >>= λ ls. Ok (extents_in ls)) ≡ Ok es → (r >>= disk_in) ≡ Ok (es, n)
unfolding disk_in
disk_by_parts (Err e) n es h k = let z : ⊥ = cc in absurd z
disk_by_parts (Ok ls) n es h k = let same_extents : extents_in ls ≡ es = cc in size_by_version (is_version (last_version 0 ls)) (extents_in ls) (fitting (sum_by size_of (extents_in ls))) n es h same_extents

pub behind_none : (accepted : Accepted) (es : List (Extent (List ℕ))) → onward accepted (λ ls. es ++ extents_in ls) [] ≡ Ok es
behind_none accepted es = ap Ok (append-nil es)

pub gives_size : (size : Option ℕ) (wanted : Result ℕ Error) → wanted ≡ or_invalid size → Gives (λ n. n) (ok_or size InvalidData) wanted
gives_size None wanted h = h
gives_size (Some n) wanted h = h

sum_by_version : (known : Bool) (extents : List (Extent (List ℕ))) (sum n : ℕ) → ((cond known (disk_of extents (fitting sum)) (Err Unsupported)) >>= λ disk. Ok disk.1) ≡ Ok n → (n ≡ sum) × (n < 2 ^ 64)
sum_by_version false extents sum n h = let z : ⊥ = cc in absurd z
sum_by_version true extents sum n h = ⊎_elim
    (λ below. let t : nat_lt sum (2 ^ 64) ≡ true = grind (arith, nat_tests) in let f : fitting sum ≡ Some sum = rw t refl in let g = rw f at h in let e : sum ≡ n = cc in (sym e, omega (arith, below, e)))
    (λ above. let t : nat_lt sum (2 ^ 64) ≡ false = grind (arith, nat_tests) in let f : fitting sum ≡ None = rw t refl in let g = rw f at h in let z : ⊥ = cc in absurd z)
    (cases_lt sum (2 ^ 64))

-- the size is the sum of the extents' sizes
pub disk_sum : (r : Result (List (Line (List ℕ))) Error) (n : ℕ) (es : List (Extent (List ℕ))) → ((r >>= disk_in) >>= λ disk. Ok disk.1) ≡ Ok n → (r >>= λ ls. Ok (extents_in ls)) ≡ Ok es → (n ≡ sum_by size_of es) × (n < 2 ^ 64)
unfolding disk_in
disk_sum (Err e) n es h k = let z : ⊥ = cc in absurd z
disk_sum (Ok ls) n es h k =
    let same_extents : extents_in ls ≡ es = cc in
    let s = sum_by_version (is_version (last_version 0 ls)) (extents_in ls) (sum_by size_of (extents_in ls)) n h in
    (s.0 ∙ ap (sum_by size_of) same_extents, s.1)

-- names don't count in the sum
pub sum_of_views : {N M : Type 0} (f : N → M) (es : List (Extent N)) → sum_by size_of (map (extent_with f) es) ≡ sum_by size_of es
sum_of_views f [] = refl
sum_of_views f (e ∷ es) = sum_by-cons size_of (extent_with f e) (map (extent_with f) es) ∙ ap (λ k. k * 512 + sum_by size_of (map (extent_with f) es)) (sectors_same f e)
    ∙ ap (λ k. sectors_of e * 512 + k) (sum_of_views f es) ∙ sym (sum_by-cons size_of e es)
