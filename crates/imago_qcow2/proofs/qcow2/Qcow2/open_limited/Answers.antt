-- SPDX-License-Identifier: MIT
use Rattle.std.proofs.Common.{rules, ◌*◌, ◌/◌, ◌≤◌, ◌∙◌, ◌≡◌, false, ap, refl, inl, inr, length, arith}
use Rattle.std.specs.Prelude.{IfErr, ◌⊎◌}
use Rattle.std.specs.Int.{div_ceil}
use Rattle.imago_storage.specs.declared.error.Error.TheVariants as E
use Rattle.imago_qcow2.specs.declared.fault.OpenFault.TheVariants as O
use Rattle.imago_qcow2.specs.Fault.{by_fault}
use Rattle.imago_qcow2.specs.Limit.{TablesNeedMore}
use Rattle.imago_qcow2.specs.Opening.{IsRefusedOpening, IsRefusedOverlay, IsRefusedAlone}
use Rattle.imago_qcow2.proofs.AbsentSteps.{lacks_memory}
use Rattle.std.proofs.lemmas.Result.{err_from_is_err_and}
use Rattle.imago_qcow2.specs.Header.{NamesBacking}
use Rattle.imago_qcow2.proofs.HeldSteps.{covers_disk, enough, span_positive}
use Rattle.imago_qcow2.proofs.ToldSteps.{told_header, told_within, header_refused, tables_late, loaded_image}
use Rattle.imago_qcow2.proofs.LimitedSteps.{tables_fault_late, header_alone, tables_alone}
use Rattle.imago_qcow2.proofs.qcow2.Qcow2.open_limited.Goals as goal
use Rattle.imago_qcow2.proofs.qcow2.Qcow2.open_limited.Goals.{else-not-backing_laid-via-then-not-backing_laid+else-names_backing, else-not-backing_laid-via-else-not-backing_laid}

pub read_tables-requires-clause-inside : goal.read_tables-requires-clause-inside
read_tables-requires-clause-inside g c =
    let h = c.in_ok-header.header in
    let s = c.in_ok-header.ensures.header.sound in
    let cluster = c.of_length-cluster.result.length in
    let here : h.size ≤ h.l1_count * (cluster / 8 * cluster) = rw c.of_length-cluster.ensures s.covers in
    let few : c.div_ceil-count.result ≤ h.l1_count = rw c.div_ceil-count.ensures (enough h.size h.l1_count (cluster / 8 * cluster) (span_positive cluster c.of_length-cluster.result.shortest) here) in
    omega (arith, few, s.inside, c.in_ok-file.ensures.value)

pub returns-in_err-header-clause-refused : goal.returns-in_err-header-clause-refused
returns-in_err-header-clause-refused g c =
    let p = err_from_is_err_and c.from_residual-in_err-header.result c.from_residual-in_err-header.ensures.1 in
    rw (p.1, p.2) (inl (header_refused (g.S.Storage.features c.args.storage) (g.S.Storage.bytes c.args.storage) c.in_err-header.field-0.0 c.in_err-header.ensures.refusals))

pub returns-in_err-tables-clause-refused : goal.returns-in_err-tables-clause-refused
returns-in_err-tables-clause-refused g c =
    let h = c.in_ok-header.header in
    let value = c.of_length-cluster.ensures in
    let p = err_from_is_err_and c.from_residual-in_err-tables.result c.from_residual-in_err-tables.ensures.1 in
    rw (p.1, p.2) (tables_fault_late (g.S.Storage.features c.args.storage) (g.S.Storage.bytes c.args.storage) h c.div_ceil-count.result c.of_length-cluster.result.length c.args.most_tables
    (λ e. (c.args.backing_laid ≡ false) × IsRefusedOverlay (g.S.Storage.features c.args.storage) (g.S.Storage.bytes c.args.storage) e) c.in_err-tables.field-0.0 c.in_ok-header.ensures.header
    (c.div_ceil-count.ensures ∙ ap (λ x. div_ceil h.size (x / 8 * x)) value) value c.in_err-tables.ensures.refusals)

pub returns-clause-opened : goal.returns-clause-opened
returns-clause-opened g c =
    let x = c.in_ok-header.ensures.header in (
      refl,
      (x, λ told. told_header (g.S.Storage.features c.args.storage) (g.S.Storage.bytes c.args.storage) told c.in_ok-header.header x),
      λ (alone : c.args.backing_laid ≡ false) (named : NamesBacking c.in_ok-header.header). elim c.else-not-backing_laid.branch [
        | else-not-backing_laid-via-then-not-backing_laid+else-names_backing w ↦ w.names_backing.ensures.no w.if-names_backing.false named
        | else-not-backing_laid-via-else-not-backing_laid w ↦ let laid = w.if-not-backing_laid.false in let z : ⊥ = cc in z
      ],
    )

pub returns-clause-told : goal.returns-clause-told
returns-clause-told g c = λ told.
    let h = c.in_ok-header.header in
    let value = c.of_length-cluster.ensures in
    told_within (g.S.Storage.features c.args.storage) (g.S.Storage.bytes c.args.storage) told h c.in_ok-header.ensures.header
    c.div_ceil-count.result c.of_length-cluster.result.length c.args.most_tables
    (c.div_ceil-count.ensures ∙ ap (λ x. div_ceil h.size (x / 8 * x)) value) value c.in_ok-tables.ensures.counted

pub returns-then-names_backing-clause-refused : goal.returns-then-names_backing-clause-refused
returns-then-names_backing-clause-refused g c =
    let h = c.in_ok-header.header in
    let x = c.in_ok-header.ensures.header in
    let alone : c.args.backing_laid ≡ false = c.if-not-backing_laid.true in
    inr (alone, (refl, (h, (x, λ told. told_header (g.S.Storage.features c.args.storage) (g.S.Storage.bytes c.args.storage) told h x), c.names_backing.ensures.yes c.if-names_backing.true)))

pub invariant_of-result : goal.invariant_of-result
invariant_of-result g c = record {
  cluster_is = search rules;
  fits = search rules;
  covers = let cluster = c.of_length-cluster.result.length in
      covers_disk c.in_ok-header.header.size (length c.in_ok-tables.tables.l1.items) c.div_ceil-count.result (cluster / 8 * cluster) (span_positive cluster c.of_length-cluster.result.shortest) c.div_ceil-count.ensures c.in_ok-tables.ensures.held.all;
  loaded = let value = c.of_length-cluster.ensures in
      loaded_image (g.S.Storage.features c.args.storage) (g.S.Storage.bytes c.args.storage) c.in_ok-header.header c.in_ok-tables.tables c.div_ceil-count.result c.of_length-cluster.result.length c.in_ok-header.ensures.header
      (c.div_ceil-count.ensures ∙ ap (λ x. div_ceil c.in_ok-header.header.size (x / 8 * x)) value) value c.in_ok-tables.ensures.held;
  absent_runs = c.in_ok-absent.ensures c.in_ok-header.header c.of_length-cluster.result.length refl;
}

pub returns-in_err-absent-clause-refused : goal.returns-in_err-absent-clause-refused
returns-in_err-absent-clause-refused g c =
    let F = g.S.Storage.features c.args.storage in
    let B = g.S.Storage.bytes c.args.storage in
    let h = c.in_ok-header.header in
    let value = c.of_length-cluster.ensures in
    let m : IfErr c.from_residual-in_err-absent.result (λ e. e ≡ O.Driver E.Memory) = search rules in
    lacks_memory c.from_residual-in_err-absent.result (O.Driver E.Memory)
    (by_fault (λ e. IsRefusedOpening F B e ⊎ ((c.args.backing_laid ≡ false) × IsRefusedOverlay F B e)) (TablesNeedMore F B c.args.most_tables)) m
    (inl (tables_late F B h h.l1_start c.div_ceil-count.result c.of_length-cluster.result.length E.Memory c.in_ok-header.ensures.header refl
    (c.div_ceil-count.ensures ∙ ap (λ x. div_ceil h.size (x / 8 * x)) value) value tt))

pub returns-in_err-header-clause-alone : goal.returns-in_err-header-clause-alone
returns-in_err-header-clause-alone g c = λ alone.
    let p = err_from_is_err_and c.from_residual-in_err-header.result c.from_residual-in_err-header.ensures.1 in
    rw (p.1, p.2) (header_alone (g.S.Storage.features c.args.storage) (g.S.Storage.bytes c.args.storage) c.in_err-header.field-0.0 c.in_err-header.ensures.refusals)

pub returns-then-names_backing-clause-alone : goal.returns-then-names_backing-clause-alone
returns-then-names_backing-clause-alone g c = λ alone.
    let h = c.in_ok-header.header in
    let x = c.in_ok-header.ensures.header in
    inr (inr (inl (refl, (h, (x, λ told. told_header (g.S.Storage.features c.args.storage) (g.S.Storage.bytes c.args.storage) told h x), c.names_backing.ensures.yes c.if-names_backing.true))))

pub returns-in_err-tables-clause-alone : goal.returns-in_err-tables-clause-alone
returns-in_err-tables-clause-alone g c = λ (alone : c.args.backing_laid ≡ false).
    let h = c.in_ok-header.header in
    let value = c.of_length-cluster.ensures in
    let none : NamesBacking h → ⊥ = λ (named : NamesBacking h). elim c.else-not-backing_laid.branch [
      | else-not-backing_laid-via-then-not-backing_laid+else-names_backing w ↦ w.names_backing.ensures.no w.if-names_backing.false named
      | else-not-backing_laid-via-else-not-backing_laid w ↦ let laid = w.if-not-backing_laid.false in let z : ⊥ = cc in z
    ] in
    let p = err_from_is_err_and c.from_residual-in_err-tables.result c.from_residual-in_err-tables.ensures.1 in
    rw (p.1, p.2) (tables_alone (g.S.Storage.features c.args.storage) (g.S.Storage.bytes c.args.storage) h c.div_ceil-count.result c.of_length-cluster.result.length c.args.most_tables c.in_err-tables.field-0.0 c.in_ok-header.ensures.header none
    (c.div_ceil-count.ensures ∙ ap (λ x. div_ceil h.size (x / 8 * x)) value) value c.in_err-tables.ensures.refusals)

pub returns-in_err-absent-clause-alone : goal.returns-in_err-absent-clause-alone
returns-in_err-absent-clause-alone g c = λ (alone : c.args.backing_laid ≡ false).
    let F = g.S.Storage.features c.args.storage in
    let B = g.S.Storage.bytes c.args.storage in
    let h = c.in_ok-header.header in
    let value = c.of_length-cluster.ensures in
    let none : NamesBacking h → ⊥ = λ (named : NamesBacking h). elim c.else-not-backing_laid.branch [
      | else-not-backing_laid-via-then-not-backing_laid+else-names_backing w ↦ w.names_backing.ensures.no w.if-names_backing.false named
      | else-not-backing_laid-via-else-not-backing_laid w ↦ let laid = w.if-not-backing_laid.false in let z : ⊥ = cc in z
    ] in
    let m : IfErr c.from_residual-in_err-absent.result (λ e. e ≡ O.Driver E.Memory) = search rules in
    lacks_memory c.from_residual-in_err-absent.result (O.Driver E.Memory) (by_fault (IsRefusedAlone F B) (TablesNeedMore F B c.args.most_tables)) m
    (tables_alone F B h c.div_ceil-count.result c.of_length-cluster.result.length c.args.most_tables (O.Driver E.Memory) c.in_ok-header.ensures.header none
    (c.div_ceil-count.ensures ∙ ap (λ x. div_ceil h.size (x / 8 * x)) value) value tt)
