-- Mappings as runs, and runs behind one another.
-- SPDX-License-Identifier: MIT
use Rattle.std.proofs.Common.{◌≡◌, ℕ, ◌+◌, ◌-◌, ◌<◌, ◌≤◌, ⊎_elim, ◌&&◌, ◌==◌, true, Some, None, sym, ap, ◌∙◌, subst, arith}
use Rattle.std.proofs.lemmas.Bool.{cases_lt, and_parts, eqb-true}
use Rattle.imago_drivers.specs.Place.{Stored}
use Rattle.imago_access.specs.Target.{Target}
use Rattle.imago_copy.specs.declared.runs.Kind.{Kind}
use Rattle.imago_copy.specs.declared.runs.Kind.TheVariants as K
use Rattle.imago_copy.specs.declared.runs.Run.{Run}
use Rattle.imago_copy.specs.Runs.{Stands, IsRunAt, goes_on}

-- a byte behind that many of a kind
behind_stands : (s r : Kind) (n j : ℕ) (t : Target) → goes_on s n r ≡ true → Stands r j t → Stands s (n + j) t
behind_stands K.Zero K.Zero n j t e h = h
behind_stands K.Zero (K.Stored a b c) n j t e h = absurd (cc e)
behind_stands K.Zero (K.Special a b) n j t e h = absurd (cc e)
behind_stands (K.Stored a b c) K.Zero n j t e h = absurd (cc e)
behind_stands (K.Stored a b c) (K.Special d f) n j t e h = absurd (cc e)
behind_stands (K.Special a b) K.Zero n j t e h = absurd (cc e)
behind_stands (K.Special a b) (K.Special c d) n j t e h = absurd (cc e)
behind_stands (K.Special a b) (K.Stored c d f) n j t e h = absurd (cc e)
behind_stands (K.Stored layer storage offset) (K.Stored next_layer next_storage next_offset) n j t e h =
    let a = and_parts ((layer == next_layer) && (storage == next_storage)) (offset + n == next_offset) e in
    let b = and_parts (layer == next_layer) (storage == next_storage) a.0 in
    let same_layer : layer ≡ next_layer = eqb-true layer next_layer b.0 in
    let same_storage : storage ≡ next_storage = eqb-true storage next_storage b.1 in
    let there : offset + n ≡ next_offset = eqb-true (offset + n) next_offset a.1 in
    let at : next_offset + j ≡ offset + (n + j) = omega (arith, there) in
    (same_layer ∙ h.0, (h.1.0, h.1.1, h.1.2 ∙ ap (λ (z : ℕ). Stored h.1.0 z (next_offset + j) h.1.1) (sym same_storage) ∙ ap (λ (z : ℕ). Stored h.1.0 storage z h.1.1) at))

-- a run with the next one, which goes on, is a run
pub joined_run : (leads : ℕ → Target) (p : ℕ) (run next : Run) → goes_on run.kind run.count next.kind ≡ true → IsRunAt leads p run → IsRunAt leads (p + run.count) next → IsRunAt leads p (record run { count = run.count + next.count })
joined_run leads p run next e h k =
    let some : 0 < run.count = h.1 in (
      h.0,
      omega (arith, some),
      λ i lt. ⊎_elim
          (λ (inside : i < run.count). h.2 i inside)
          (λ (behind : run.count ≤ i).
          let j : ℕ = i - run.count in
          let within : j < next.count = omega (arith, lt, behind) in
          let is : run.count + j ≡ i = omega (arith, behind) in
          let on_disk : p + run.count + j ≡ p + i = omega (arith, behind) in
          subst (λ (z : ℕ). Stands run.kind z (leads (p + i))) is
          (behind_stands run.kind next.kind run.count j (leads (p + i)) e (subst (λ (z : ℕ). Stands next.kind j (leads z)) on_disk (k.2 j within))))
          (cases_lt i run.count),
    )
