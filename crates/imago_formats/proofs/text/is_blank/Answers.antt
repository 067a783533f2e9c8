-- SPDX-License-Identifier: MIT
use Rattle.std.proofs.Common.{rules, tests, ◌≡◌, length, nat_lt, nat_eq, true}
use Rattle.std.specs.List.{list_all}
use Rattle.std.proofs.lemmas.Iterator.{YieldsList-from_slice}
use Rattle.std.proofs.lemmas.Iterator.Search.{all_from_yields_List}
use Rattle.imago_formats.proofs.text.is_blank.Goals as goal

pub returns-then-not-is_empty : goal.returns-then-not-is_empty
returns-then-not-is_empty c =
    let spaces : c.all.result ≡ list_all (λ b. nat_eq b 32) c.args.text.now =
    all_from_yields_List (λ b. nat_eq b 32) _ _ c.all.result c.all.ensures.ran
    (YieldsList-from_slice c.args.text.now cc) (λ x b q k. search (rules, tests)) in
    let some : nat_lt 0 (length c.args.text.now) ≡ true = search (rules, tests) in
    rw some spaces
