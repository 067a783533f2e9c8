-- SPDX-License-Identifier: MIT
use Rattle.std.proofs.Common.{◌≡◌, ℕ, List, [], ◌∷◌, length, Ok, refl, arith}
use Rattle.std.proofs.lemmas.Bool.Decides.{nat_tests}
use Rattle.std.specs.Str.{chars, is_utf8, trim_start, trim_end}
use Rattle.imago_vmdk.specs.declared.line.Accepted.{Accepted}
use Rattle.imago_vmdk.specs.declared.line.Line.{Line}
use Rattle.imago_vmdk.specs.Text.{utf8_of, words_of}
use Rattle.imago_vmdk.specs.Line.{text_of, verdict_of}
use Rattle.imago_vmdk.proofs.line.verdict.Goals as goal

no_bytes : (xs : List ℕ) → length xs ≡ 0 → xs ≡ []
no_bytes [] h = refl
no_bytes (x ∷ xs) h = absurd (omega (arith, h))

empty_line : (accepted : Accepted) → verdict_of accepted [] ≡ Ok Line.Nothing
unfolding chars is_utf8 trim_start trim_end utf8_of words_of text_of verdict_of
empty_line accepted = refl

pub returns-then-is_empty : goal.returns-then-is_empty
returns-then-is_empty c =
    let none : length c.args.line.now ≡ 0 = grind (arith, nat_tests, c.if-is_empty.true, c.is_empty.ensures) in
    rw (no_bytes c.args.line.now none) (empty_line c.args.accepted)
