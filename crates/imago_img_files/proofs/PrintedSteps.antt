-- Texts that were printed one behind the other.
-- SPDX-License-Identifier: MIT
use Rattle.std.proofs.Common.{◌≡◌, ℕ, List, [], ◌++◌, Option, None, Some, Result, Ok, Err, Bool, ap, sym, refl, ◌∙◌}
use Rattle.std.specs.Prelude.{OnOk, IfOk}
use mathlib.Core.List.{append_assoc, append-nil}
use Rattle.std.specs.Io.KnownBytes.{Appends, Keeps}
use Rattle.imago_images.specs.declared.format.ImageFormat.{ImageFormat}
use Rattle.imago_img_files.specs.Printed.{HasPrinted, IsAnyText, TellsFormat, format_text}

-- what follows of success follows where there is one
pub on_ok : {T E : Type 0} (r : Result T E) {P Q : Type 0} → (P → Q) → OnOk r P → OnOk r Q
on_ok (Ok x) f p = f p
on_ok (Err e) f p = tt

pub if_ok : {T E : Type 0} (r : Result T E) {P Q : T → Type 0} → ((x : T) → P x → Q x) → IfOk r P → IfOk r Q
if_ok (Ok x) f p = f x p
if_ok (Err e) f p = tt

-- two texts one behind the other are one
pub appends_both : (a b c : Option (List ℕ)) (xs ys : List ℕ) → Appends a b xs → Appends b c ys → Appends a c (xs ++ ys)
appends_both None b c xs ys h k = tt
appends_both (Some xs₀) None c xs ys h k = absurd h
appends_both (Some xs₀) (Some bs) None xs ys h k = absurd k
appends_both (Some xs₀) (Some bs) (Some cs) xs ys h k = k ∙ ap (λ (l : List ℕ). l ++ ys) h ∙ append_assoc xs₀ xs ys

-- the same of texts of which nothing is said
pub any_both : (a b c : Option (List ℕ)) → HasPrinted IsAnyText a b → HasPrinted IsAnyText b c → HasPrinted IsAnyText a c
any_both a b c p q = (p.0 ++ q.0, appends_both a b c (p.0) (q.0) (p.1) (q.1), tt)

pub any_of : (a b : Option (List ℕ)) (xs : List ℕ) → Appends a b xs → HasPrinted IsAnyText a b
any_of a b xs h = (xs, h, tt)

pub forgotten : (P : List ℕ → Type 0) (a b : Option (List ℕ)) → HasPrinted P a b → HasPrinted IsAnyText a b
forgotten P a b p = (p.0, p.1, tt)

module _ (json : Bool) (format : ImageFormat) (size : ℕ) where
  -- what is told is told too where more stands before it, or behind it
  pub told_behind : (xs ys : List ℕ) → TellsFormat json format size ys → TellsFormat json format size (xs ++ ys)
  told_behind xs ys t = record {
    before = xs ++ t.before;
    unit = t.unit;
    behind = t.behind;
    whole = ap (λ (l : List ℕ). xs ++ l) t.whole ∙ sym (append_assoc xs t.before (format_text json format size t.unit ++ t.behind));
  }

  pub told_before : (xs ys : List ℕ) → TellsFormat json format size xs → TellsFormat json format size (xs ++ ys)
  told_before xs ys t =
      let f = format_text json format size t.unit in
      record {
        before = t.before;
        unit = t.unit;
        behind = t.behind ++ ys;
        whole = ap (λ (l : List ℕ). l ++ ys) t.whole ∙ append_assoc t.before (f ++ t.behind) ys
            ∙ ap (λ (l : List ℕ). t.before ++ l) (append_assoc f t.behind ys);
      }

  pub told_of : (unit : List ℕ) → TellsFormat json format size (format_text json format size unit)
  told_of unit = record { before = []; unit = unit; behind = []; whole = sym (append-nil (format_text json format size unit)) }

  -- it was told by one of two texts that were printed
  pub told_second : (a b c : Option (List ℕ)) → HasPrinted IsAnyText a b → HasPrinted (TellsFormat json format size) b c → HasPrinted (TellsFormat json format size) a c
  told_second a b c p q = (p.0 ++ q.0, appends_both a b c (p.0) (q.0) (p.1) (q.1), told_behind (p.0) (q.0) (q.2))

  pub told_first : (a b c : Option (List ℕ)) → HasPrinted (TellsFormat json format size) a b → HasPrinted IsAnyText b c → HasPrinted (TellsFormat json format size) a c
  told_first a b c p q = (p.0 ++ q.0, appends_both a b c (p.0) (q.0) (p.1) (q.1), told_before (p.0) (q.0) (p.2))

-- what was printed is still there once the writer is flushed
pub kept_printed : (P : List ℕ → Type 0) (a b c : Option (List ℕ)) → HasPrinted P a b → Keeps b c → HasPrinted P a c
kept_printed P a b c p k = (p.0, each a b c (p.0) (p.1) k, p.2)
  where
    each : (a b c : Option (List ℕ)) (xs : List ℕ) → Appends a b xs → Keeps b c → Appends a c xs
    each None b c xs h k = tt
    each (Some xs₀) None c xs h k = absurd h
    each (Some xs₀) (Some ys) None xs h k = absurd k
    each (Some xs₀) (Some ys) (Some zs) xs h k = k ∙ h
