-- Pieces behind one another.
-- SPDX-License-Identifier: MIT
use Rattle.std.proofs.Common.{◌≡◌, ℕ, ◌+◌, ◌-◌, ◌<◌, ◌≤◌, ⊎_elim, ◌&&◌, ◌==◌, true, false, List, [], ◌∷◌, ◌++◌, refl, sym, ap, ◌∙◌, subst, arith}
use Rattle.std.proofs.lemmas.Bool.{cases_lt, and_parts, eqb-true}
use Rattle.imago_drivers.specs.Place.{Stored}
use Rattle.imago_access.specs.Target.{Target}
use Rattle.imago_plan.specs.declared.piece.Source.{Source}
use Rattle.imago_plan.specs.declared.piece.Source.TheVariants as S
use Rattle.imago_plan.specs.declared.piece.Piece.{Piece}
use Rattle.imago_plan.specs.Pieces.{Stands, IsPieceAt, Covers, goes_on, continues, joined, IsMerged, IsPut}

-- a byte behind that many of a source
behind_stands : (s r : Source) (n j : ℕ) (t : Target) → goes_on s n r ≡ true → Stands r j t → Stands s (n + j) t
behind_stands S.Zero S.Zero n j t e h = h
behind_stands S.Zero (S.Stored next) n j t e h = absurd (cc e)
behind_stands (S.Stored from) S.Zero n j t e h = absurd (cc e)
behind_stands (S.Stored from) (S.Stored next) n j t e h =
    let a = and_parts ((from.layer == next.layer) && (from.storage == next.storage)) (from.offset + n == next.offset) e in
    let b = and_parts (from.layer == next.layer) (from.storage == next.storage) a.0 in
    let same_layer : from.layer ≡ next.layer = eqb-true from.layer next.layer b.0 in
    let same_storage : from.storage ≡ next.storage = eqb-true from.storage next.storage b.1 in
    let there : from.offset + n ≡ next.offset = eqb-true (from.offset + n) next.offset a.1 in
    let at : next.offset + j ≡ from.offset + (n + j) = omega (arith, there) in
    (same_layer ∙ h.0, (h.1.0, h.1.1, h.1.2 ∙ ap (λ (z : ℕ). Stored h.1.0 z (next.offset + j) h.1.1) (sym same_storage) ∙ ap (λ (z : ℕ). Stored h.1.0 from.storage z h.1.1) at))

module _ (leads : ℕ → Target) where
  covers_append : (from mid to : ℕ) (xs ys : List Piece) → Covers leads from mid xs → Covers leads mid to ys → Covers leads from to (xs ++ ys)
  covers_append from mid to [] ys h k = subst (λ (z : ℕ). Covers leads z to ys) (sym h) k
  covers_append from mid to (x ∷ xs) ys h k = (h.0, covers_append (from + x.count) mid to xs ys h.1 k)

  covers_split : (from to : ℕ) (xs ys : List Piece) → Covers leads from to (xs ++ ys) → (mid : ℕ) × Covers leads from mid xs × Covers leads mid to ys
  covers_split from to [] ys h = (from, refl, h)
  covers_split from to (x ∷ xs) ys h = let r = covers_split (from + x.count) to xs ys h.1 in (r.0, (h.0, r.1), r.2)

  -- the last piece ends where all end
  pub last_small : (from to : ℕ) (before : List Piece) (last : Piece) → Covers leads from to (before ++ last ∷ []) → last.count ≤ to
  last_small from to before last h =
      let r = covers_split from to before (last ∷ []) h in
      let e : r.0 + last.count ≡ to = r.2.1 in
      omega (arith, e)

  joined_piece : (mid : ℕ) (last next : Piece) → continues last next ≡ true → IsPieceAt leads mid last → IsPieceAt leads (mid + last.count) next → IsPieceAt leads mid (joined last next)
  joined_piece mid last next e h k =
      let some : 0 < last.count = h.1 in (
        h.0,
        omega (arith, some),
        λ i lt. ⊎_elim
            (λ (in_last : i < last.count). h.2 i in_last)
            (λ (behind : last.count ≤ i).
            let j : ℕ = i - last.count in
            let inside : j < next.count = omega (arith, lt, behind) in
            let is : last.count + j ≡ i = omega (arith, behind) in
            let on_disk : mid + last.count + j ≡ mid + i = omega (arith, behind) in
            subst (λ (z : ℕ). Stands last.source z (leads (mid + i))) is
            (behind_stands last.source next.source last.count j (leads (mid + i)) e (subst (λ (z : ℕ). Stands next.source j (leads z)) on_disk (k.2 j inside))))
            (cases_lt i last.count),
      )

  -- what is put behind others covers what is behind
  pub put_covers : (from mid : ℕ) (old : List Piece) (next : Piece) (new : List Piece) → Covers leads from mid old → IsPieceAt leads mid next → IsPut old next new → Covers leads from (mid + next.count) new
  put_covers from mid old next new h k put = ⊎_elim
      (λ part.
      let before = part.0 in
      let last = part.1 in
      let r = covers_split from mid before (last ∷ []) (subst (λ (z : List Piece). Covers leads from mid z) part.2 h) in
      let end : r.0 + last.count ≡ mid = r.2.1 in
      let at : IsPieceAt leads (r.0 + last.count) next = subst (λ (z : ℕ). IsPieceAt leads z next) (sym end) k in
      let to : r.0 + (last.count + next.count) ≡ mid + next.count = omega (arith, end) in
      subst (λ (z : List Piece). Covers leads from (mid + next.count) z) (sym part.4)
      (covers_append from r.0 (mid + next.count) before (joined last next ∷ []) r.1 (joined_piece r.0 last next part.3 r.2.0 at, to)))
      (λ own. subst (λ (z : List Piece). Covers leads from (mid + next.count) z) (sym own.0) (covers_append from mid (mid + next.count) old (next ∷ []) h (k, refl)))
      put

-- a longer last piece is merged as the shorter one was
merged_longer : (before : List Piece) (last next : Piece) → IsMerged (before ++ last ∷ []) → IsMerged (before ++ joined last next ∷ [])
merged_longer [] last next h = (tt, tt)
merged_longer (p ∷ []) last next h = (h.0, (tt, tt))
merged_longer (p ∷ q ∷ qs) last next h = (h.0, merged_longer (q ∷ qs) last next h.1)

merged_more : (old : List Piece) (next : Piece) → IsMerged old → ((before : List Piece) (last : Piece) → old ≡ before ++ last ∷ [] → continues last next ≡ false) → IsMerged (old ++ next ∷ [])
merged_more [] next h apart = (tt, tt)
merged_more (p ∷ []) next h apart = (apart [] p refl, (tt, tt))
merged_more (p ∷ q ∷ qs) next h apart = (h.0, merged_more (q ∷ qs) next h.1 (λ before last e. apart (p ∷ before) last (ap (λ (z : List Piece). p ∷ z) e)))

pub put_merged : (old : List Piece) (next : Piece) (new : List Piece) → IsMerged old → IsPut old next new → IsMerged new
put_merged old next new h put = ⊎_elim
    (λ part. subst IsMerged (sym part.4) (merged_longer part.0 part.1 next (subst IsMerged part.2 h)))
    (λ own. subst IsMerged (sym own.0) (merged_more old next h own.1))
    put
