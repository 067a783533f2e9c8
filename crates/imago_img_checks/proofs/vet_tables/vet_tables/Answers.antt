-- SPDX-License-Identifier: MIT
use Rattle.std.proofs.Common.{◌≡◌, ℕ, ◌+◌, ◌*◌, ◌/◌, ◌^◌, ◌<◌, ◌≤◌, List, length, ap, ◌∙◌, sym, subst, arith}
use Rattle.std.specs.Prelude.{Decides, IsTrue}
use Rattle.std.proofs.lemmas.Result.{IfOk-weaker}
use Rattle.imago_storage.specs.Bytes.{IsReadAt}
use Rattle.imago_qcow2.specs.Numbers.{be64}
use Rattle.imago_qcow2.specs.Header.{compression_of}
use Rattle.imago_qcow2.specs.Entry.{version_of, cluster_length, l1_start, table_in_entry}
use Rattle.imago_qcow2.specs.Opening.{table_count}
use Rattle.imago_qcow2.specs.Limit.{l1_length}
use Rattle.imago_img_checks.specs.declared.vet_tables.Shape.{Shape}
use Rattle.imago_img_checks.specs.Vetted.{AreSafeTables, named_tables}
use Rattle.imago_img_checks.specs.VettedParts.{AreEntriesSafe}
use Rattle.imago_img_checks.proofs.VetSteps.{cluster_moved, start_moved, count_moved, said_moved, version_moved, way_moved, tables_safe, tables_back, tables_taken, decides_no, decides_as}
use Rattle.imago_img_checks.proofs.vet_tables.vet_tables.Goals as goal

-- a header that was read has no fault
pub returns-in_default : goal.returns-in_default
returns-in_default g c = λ told file read.
    let says = c.requires.says in let fault = c.in_default.ensures.refused in let never : ⊥ = cc (says, fault) in absurd never

-- an L1 table that is too long
pub returns-then-said-gt-LONGEST_L1 : goal.returns-then-said-gt-LONGEST_L1
returns-then-said-gt-LONGEST_L1 g c = λ told (file : c.args.file ≡ length (g.S.Storage.bytes c.args.storage.now)) (read : IsReadAt (g.S.Storage.bytes c.args.storage.now) 0 c.args.head.now).
    let B = g.S.Storage.bytes c.args.storage.now in
    let said : c.l1_length-said.result ≡ l1_length B = c.l1_length-said.ensures ∙ said_moved B c.args.head.now read c.requires.len in
    decides_no (λ safe. omega (arith, said, safe.held, c.if-said-gt-LONGEST_L1.true))

-- tables that are too long
pub returns-then-taken-most : goal.returns-then-taken-most
returns-then-taken-most g c = λ (told : IsTrue (g.S.Storage.features c.args.storage.now).tells_bytes) (file : c.args.file ≡ length (g.S.Storage.bytes c.args.storage.now)) (read : IsReadAt (g.S.Storage.bytes c.args.storage.now) 0 c.args.head.now).
    let B = g.S.Storage.bytes c.args.storage.now in
    let head = c.args.head.now in
    let len = c.requires.len in
    let l1 = c.in-Ok.l1 in
    let says = c.in-Ok.ensures in
    let entries = c.in_ok-entries.entries.items in
    let shape : Shape = record { file = c.args.file; cluster = l1.cluster; version = c.version.result; compression = c.compression.result } in
    let cluster : l1.cluster ≡ cluster_length B = says.cluster ∙ cluster_moved B head read len in
    let version : c.version.result ≡ version_of B = c.version.ensures ∙ c.requires.sound.version ∙ version_moved B head read len in
    let way : c.compression.result ≡ compression_of B = c.compression.ensures ∙ c.requires.sound.compression ∙ way_moved B head read len in
    let start : l1.start ≡ l1_start B = says.start ∙ start_moved B head read len in
    let count : l1.count ≡ table_count B = says.count ∙ count_moved B head read len in
    let r : IsReadAt B l1.start entries = c.in_ok-entries.ensures.read told in
    let whole : length entries ≡ 8 * l1.count = c.in_ok-entries.ensures.whole in
    let named : c.count_tables.result ≡ named_tables (λ i. table_in_entry c.args.file l1.cluster (be64 entries (8 * i))) (length entries / 8) = rw c.deref.ensures.value at c.count_tables.ensures.count in
    let taken = tables_taken shape B file cluster version way entries l1.start l1.count start count r whole
    (8 * l1.count + l1.cluster * c.count_tables.result) (ap (λ n. 8 * l1.count + l1.cluster * n) named) in
    let more : c.args.most < 8 * l1.count + l1.cluster * c.count_tables.result = omega (arith, c.if-taken-most.true) in
    decides_no (λ safe. omega (arith, taken, more, safe.few))

pub returns : goal.returns
returns g c = λ (told : IsTrue (g.S.Storage.features c.args.storage.now).tells_bytes) (file : c.args.file ≡ length (g.S.Storage.bytes c.args.storage.now)) (read : IsReadAt (g.S.Storage.bytes c.args.storage.now) 0 c.args.head.now).
    let B = g.S.Storage.bytes c.args.storage.now in
    let head = c.args.head.now in
    let len = c.requires.len in
    let l1 = c.in-Ok.l1 in
    let says = c.in-Ok.ensures in
    let entries = c.in_ok-entries.entries.items in
    let shape : Shape = record { file = c.args.file; cluster = l1.cluster; version = c.version.result; compression = c.compression.result } in
    let cluster : l1.cluster ≡ cluster_length B = says.cluster ∙ cluster_moved B head read len in
    let version : c.version.result ≡ version_of B = c.version.ensures ∙ c.requires.sound.version ∙ version_moved B head read len in
    let way : c.compression.result ≡ compression_of B = c.compression.ensures ∙ c.requires.sound.compression ∙ way_moved B head read len in
    let start : l1.start ≡ l1_start B = says.start ∙ start_moved B head read len in
    let count : l1.count ≡ table_count B = says.count ∙ count_moved B head read len in
    let r : IsReadAt B l1.start entries = c.in_ok-entries.ensures.read told in
    let whole : length entries ≡ 8 * l1.count = c.in_ok-entries.ensures.whole in
    let named : c.count_tables.result ≡ named_tables (λ i. table_in_entry c.args.file l1.cluster (be64 entries (8 * i))) (length entries / 8) = rw c.deref.ensures.value at c.count_tables.ensures.count in
    let few : 8 * l1.count + l1.cluster * c.count_tables.result ≤ c.args.most = omega (arith, c.if-taken-most.false) in
    let said : c.l1_length-said.result ≡ l1_length B = c.l1_length-said.ensures ∙ said_moved B head read len in
    let held : l1_length B ≤ 2 ^ 25 = omega (arith, said, c.if-said-gt-LONGEST_L1.false) in
    let same = c.deref-2.ensures.value in
    let there : List ℕ → Type 0 = λ es. AreEntriesSafe shape B es (length es / 8) in
    IfOk-weaker c.look_at_l1.result
    (λ safe. Decides safe (there c.deref-2.result.now))
    (λ safe. Decides safe (AreSafeTables c.args.most B))
    (λ safe each. decides_as safe
    (λ all. tables_safe shape B file cluster version way entries l1.start l1.count start count r whole c.args.most
    (8 * l1.count + l1.cluster * c.count_tables.result)
    (ap (λ n. 8 * l1.count + l1.cluster * n) named) few held (subst there same all))
    (λ all. subst there (sym same) (tables_back shape B file cluster version way entries l1.start l1.count start count r whole c.args.most all)) each)
    (c.look_at_l1.ensures.safe told)
