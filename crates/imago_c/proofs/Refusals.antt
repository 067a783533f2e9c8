-- What a call that gives something answers where it is refused.
-- SPDX-License-Identifier: MIT
use Rattle.std.proofs.Common.{◌≡◌, ℕ, ◌<◌, ◌⊎◌, inl, Option, Some, Result, Ok, Err, refl, sym, subst, true≢false, arith}
use Rattle.std.specs.Prelude.{IfErr, IfSome, OnErr, IsOk}
use Rattle.imago_storage.specs.declared.error.Error.{Error}
use Rattle.imago_session.specs.declared.session.Session.{Session}
use Rattle.imago_access.specs.declared.access.FormatAccess.{FormatAccess}
use Rattle.imago_session.specs.declared.session.State.{State}
use Rattle.imago_session.specs.declared.session.State.TheVariants as S
use Rattle.imago_session.specs.declared.session.Want.{Want}
use Rattle.imago_session.specs.declared.session.Want.TheVariants as W
use Rattle.imago_session.specs.Files.{File, Layer}
use Rattle.imago_session.specs.Opening.{IsOf, IfOpen}
use Rattle.imago_session.specs.Refusals.{IsRefusalOf}
use Rattle.imago_c.specs.Answer.{answer_code, code_of}
use Rattle.imago_c.specs.Images.{AsksBacking, AsksExtent, IsRefusedGive}

pub give_refused : (a b : Session) (r : Result (Unit {0}) Error) (code : ℕ) (agree : (ℕ → File) → Type 0) → code ≡ answer_code r → 0 < code
    → IfErr r (λ e. (b.state ≡ State.Refused) ⊎ ((e ≡ Error.Memory) × (b ≡ a)))
    → IfErr r (λ e. (files : ℕ → File) → agree files → IsOf files a → IsRefusalOf files a e)
    → IsRefusedGive a (Some b) agree code
give_refused a b (Ok done) code agree is some left cause = absurd (let z : ⊥ = omega (arith, is, some) in z)
give_refused a b (Err e) code agree is some left cause = (e, is, left, cause)

-- the same where the opening is over
pub over_refused : (a b : Session) (r : Result (Unit {0}) Error) → OnErr r (b.state ≡ State.Refused) → IfErr r (λ e. (b.state ≡ State.Refused) ⊎ ((e ≡ Error.Memory) × (b ≡ a)))
over_refused a b (Ok done) h = tt
over_refused a b (Err e) h = inl h

pub done_code : (r : Result (Unit {0}) Error) → IsOk r → answer_code r ≡ 0
done_code (Ok done) h = refl
done_code (Err e) h = absurd (true≢false (sym h))

-- a backing file, or the file of an extent, is a want of one
pub backing_of : (w : Want) (P : Type 0) → AsksBacking w → ((k : ℕ) → w ≡ Want.Backing k → P) → P
backing_of (W.Bytes k from count) P h f = absurd h
backing_of (W.Backing k) P h f = f k refl
backing_of (W.Extent k) P h f = absurd h
backing_of W.Nothing P h f = absurd h
backing_of W.Refused P h f = absurd h

pub extent_of : (w : Want) (P : Type 0) → AsksExtent w → ((k : ℕ) → w ≡ Want.Extent k → P) → P
extent_of (W.Bytes k from count) P h f = absurd h
extent_of (W.Backing k) P h f = absurd h
extent_of (W.Extent k) P h f = f k refl
extent_of W.Nothing P h f = absurd h
extent_of W.Refused P h f = absurd h

open_more : (s : State) (P Q : FormatAccess Layer → Type 0) → IfOpen s P → ((x : FormatAccess Layer) → P x → Q x) → IfOpen s Q
open_more (S.Loading l) P Q h f = tt
open_more (S.Below named) P Q h f = tt
open_more (S.Extents p) P Q h f = tt
open_more (S.Open image) P Q h f = f image h
open_more S.Refused P Q h f = tt

-- what an open image's session refuses to tell, in the numbers of C
pub map_refused : (o : Option Session) (s : Session) (N : FormatAccess Layer → ℕ → Error → Type 0) (m n : ℕ) (e : Error) (code : ℕ) → o ≡ Some s → m ≡ n → code ≡ code_of e
    → IfOpen s.state (λ x. N x m e) → IfSome o (λ y. IfOpen y.state (λ x. (cause : Error) × (code ≡ code_of cause) × N x n cause))
map_refused o s N m n e code is same told h =
    subst (λ (q : Option Session). IfSome q (λ y. IfOpen y.state (λ x. (cause : Error) × (code ≡ code_of cause) × N x n cause))) (sym is)
    (open_more s.state (λ x. N x m e) (λ x. (cause : Error) × (code ≡ code_of cause) × N x n cause) h
    (λ x k. (e, told, subst (λ (i : ℕ). N x i e) same k)))
