-- SPDX-License-Identifier: MIT
use Rattle.std.proofs.Common.{rules, arith, inr, refl, sym, ◌≡◌, ◌+◌, ◌<◌, ◌≤◌, true, false}
use Rattle.std.specs.Prelude.{is_none}
use Rattle.std.proofs.lemmas.Result.{on_err_weaker, on_ok_weaker}
use Rattle.imago_test_drivers.specs.CopyOnce.{copy_view, copy_place}
use Rattle.imago_drivers.specs.Place.{HasStranger}
use Rattle.imago_drivers.proofs.StorageBytes.{not_foreign}
use Rattle.imago_test_drivers.proofs.CopySteps.{copy_put_on_ok, copy_put_on_err, no_pending}
use Rattle.imago_drivers.proofs.RawSteps.{stranger, no_stranger, foreign_stateless, foreign_not, written_stateless}
use Rattle.imago_test_drivers.proofs.copy_once.CopyOnceFormatDriverInstance.write_prepared.Goals as goal

pub returns-clause-foreign : goal.returns-clause-foreign
returns-clause-foreign g c =
    let s = c.args.self.now in
    let m = c.args.mapping.now in
    let B = g.S.Storage.bytes s.storage in
    let stateless : is_none m.state ≡ true = sym c.if-not-is_nonblocking.ensures in
    let zero : m.storage ≡ 0 = omega (arith, c.storage.ensures, c.if-storage-ne0.false) in
    let copied : s.copied ≡ true = c.if-not-self.false in
    let inside : m.offset + m.length ≤ s.size = omega (arith, c.offset-start.ensures, c.length-length.ensures, c.if-length-self.false, c.if-start-self.false) in
    let none : HasStranger (copy_place s.copied s.size B) m.storage m.offset m.length → ⊥ = rw (copied, zero) (no_stranger s.size B m.offset m.length inside) in (
      λ e. absurd (not_foreign c.write_copy-2.result c.write_copy-2.ensures.only e),
      λ f. absurd (foreign_not (copy_view (g.S.Storage.features s.storage) (g.S.Storage.fault_count s.storage + s.faults) B s.size s.copied s.waiting) m m.state stateless refl none f),
    )

pub returns-then-start-self-clause-foreign : goal.returns-then-start-self-clause-foreign
returns-then-start-self-clause-foreign g c =
    let s = c.args.self.now in
    let m = c.args.mapping.now in
    let B = g.S.Storage.bytes s.storage in
    let stateless : is_none m.state ≡ true = sym c.if-not-is_nonblocking.ensures in
    let copied : s.copied ≡ true = c.if-not-self.false in
    let some : 0 < m.length = omega (arith, c.length-length.ensures, c.if-length-eq0.false) in
    let out : s.size < m.offset + m.length = omega (arith, c.offset-start.ensures, c.length-length.ensures, c.if-length-self.false, c.if-start-self.true) in
    let stands : HasStranger (copy_place s.copied s.size B) m.storage m.offset m.length = rw copied (stranger s.size B m.storage m.offset m.length some (inr out)) in
    (λ e. foreign_stateless (copy_view (g.S.Storage.features s.storage) (g.S.Storage.fault_count s.storage + s.faults) B s.size s.copied s.waiting) m m.state stateless stands, λ f. refl)

pub returns-clause-call : goal.returns-clause-call
returns-clause-call g c = record {
  written =
      let s = c.args.self.now in
      let m = c.args.mapping.now in
      let stateless : is_none m.state ≡ true = sym c.if-not-is_nonblocking.ensures in
      let zero : m.storage ≡ 0 = omega (arith, c.storage.ensures, c.if-storage-ne0.false) in
      on_ok_weaker c.write_copy-2.result (λ h. written_stateless _ _ m m.state false c.args.at c.args.source.now stateless (no_pending (g.S.Storage.features s.storage).keeps_data s.size (g.S.Storage.bytes s.storage) (g.S.Storage.bytes c.write_copy-2.new.storage) s.copied s.waiting c.if-not-self.false s.waits_inside) (rw zero h))
      (copy_put_on_ok s.size _ _ s.copied _ (m.offset + c.args.at) _ c.write_copy-2.result (rw c.offset-start.ensures at c.write_copy-2.ensures.written));
  torn =
      let s = c.args.self.now in
      let m = c.args.mapping.now in
      let stateless : is_none m.state ≡ true = sym c.if-not-is_nonblocking.ensures in
      let zero : m.storage ≡ 0 = omega (arith, c.storage.ensures, c.if-storage-ne0.false) in
      on_err_weaker c.write_copy-2.result (λ h. written_stateless _ _ m m.state true c.args.at c.args.source.now stateless (no_pending (g.S.Storage.features s.storage).keeps_data s.size (g.S.Storage.bytes s.storage) (g.S.Storage.bytes c.write_copy-2.new.storage) s.copied s.waiting c.if-not-self.false s.waits_inside) (rw zero h))
      (copy_put_on_err s.size _ _ s.copied _ (m.offset + c.args.at) _ c.write_copy-2.result (rw c.offset-start.ensures at c.write_copy-2.ensures.torn));
  round = search rules;
  causes = search rules;
  reaches = search rules;
  storages = search rules;
  framed = search rules;
  refusals = search rules;
}
