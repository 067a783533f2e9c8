-- SPDX-License-Identifier: MIT
use Rattle.std.proofs.Common.{◌≡◌, ◌/◌, sym, ◌∙◌, arith}
use Rattle.std.proofs.lemmas.Bool.Decides.{nat_tests}
use Rattle.imago_qcow2.proofs.ClusterSteps.{halved}
use Rattle.imago_qcow2.proofs.EntrySteps.{said_stored, stored_said}
use Rattle.imago_qcow2.proofs.entry.says_stored.Goals as goal
use Rattle.imago_qcow2.proofs.entry.says_stored.Goals.{then-at-eq0-via-then-at-eq0, then-at-eq0-via-else-at-eq0+then-at-ge-OFFSETS}

pub returns-then-entry-at-clause-no : goal.returns-then-entry-at-clause-no
returns-then-entry-at-clause-no c = λ _ version said. c.if-entry-at.true (stored_said version c.args.cluster.length c.args.entry c.args.at said).is

pub returns-then-at-eq0-clause-no : goal.returns-then-at-eq0-clause-no
returns-then-at-eq0-clause-no c = λ _ version said.
    let stored = stored_said version c.args.cluster.length c.args.entry c.args.at said in
    let some = stored.some in
    let small = stored.small in
    elim c.then-at-eq0.branch [
      | then-at-eq0-via-then-at-eq0 w ↦ omega (arith, some, w.if-at-eq0.true)
      | then-at-eq0-via-else-at-eq0+then-at-ge-OFFSETS w ↦ omega (arith, small, w.if-at-ge-OFFSETS.true)
    ]

pub returns-clause-yes : goal.returns-clause-yes
returns-clause-yes c = λ yes version.
    let s = c.args.cluster in
    let none : c.rest.result ≡ 0 = grind (arith, nat_tests) in
    said_stored version s.length c.args.entry (s.length / 2) c.args.at (halved s.bits s.length s.least s.power) (record {
      is = c.if-entry-at.false;
      some = let x = c.if-at-eq0.false in omega (arith, x);
      small = c.if-at-ge-OFFSETS.false;
      aligned = sym c.rest.ensures.value ∙ none;
    })

pub returns-clause-no : goal.returns-clause-no
returns-clause-no c = λ no version said.
    let stored = stored_said version c.args.cluster.length c.args.entry c.args.at said in
    let none : c.rest.result ≡ 0 = c.rest.ensures.value ∙ stored.aligned in
    let z : ⊥ = grind (arith, nat_tests) in z
