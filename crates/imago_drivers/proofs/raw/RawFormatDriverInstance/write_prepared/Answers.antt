-- SPDX-License-Identifier: MIT
use Rattle.std.proofs.Common.{rules, arith, inr, refl, sym, ◌≡◌, ◌+◌, ◌<◌, ◌≤◌, length, true, false}
use Rattle.std.proofs.lemmas.Grind.{common_steps}
use Rattle.std.specs.Prelude.{is_none, IsTrue}
use Rattle.std.proofs.lemmas.Result.{on_err_weaker, on_ok_weaker}
use Rattle.imago_drivers.specs.Operation.{Write}
use Rattle.imago_drivers.specs.Raw.{raw_view}
use Rattle.imago_drivers.proofs.StorageBytes.{zero_behind_write, either_bytes, not_foreign}
use Rattle.imago_drivers.proofs.RawSteps.{raw_at, raw_put_on_ok, raw_put_on_err, request_refused, stranger, no_stranger, foreign_stateless, foreign_not, written_stateless, for_stateless}
use Rattle.imago_drivers.proofs.raw.RawFormatDriverInstance.write_prepared.Goals as goal

pub returns-clause-foreign : goal.returns-clause-foreign
returns-clause-foreign g c =
    let s = c.args.self.now in
    let m = c.args.mapping.now in
    let B = g.S.Storage.bytes s.storage in
    let stateless : is_none m.state ≡ true = sym c.if-not-is_nonblocking.ensures in
    let zero : m.storage ≡ 0 = c.if-mapping-ne0.false in
    let inside : m.offset + m.length ≤ s.size = omega (arith, c.if-mapping-self.false, c.if-mapping-self-2.false) in (
      λ e. absurd (not_foreign c.write_bytes.result c.write_bytes.ensures.only e),
      λ f. absurd (foreign_not (raw_view (g.S.Storage.features s.storage) (g.S.Storage.fault_count s.storage) B s.size s.writable) m m.state stateless c.if-not-self.false (rw zero (no_stranger s.size B m.offset m.length inside)) f),
    )

pub invariant_of-self : goal.invariant_of-self
invariant_of-self g c =
    let s = c.args.self.now in
    let m = c.args.mapping.now in
    let w = c.write_bytes.ensures in
    let inside : m.offset + c.args.at + length c.args.source.now ≤ s.size = omega (arith, c.requires) in
    record {
      fits = s.fits;
      bounded = omega (arith, w.no_shorter, s.bounded);
      zero_behind = λ k.
          let k' : IsTrue (g.S.Storage.features s.storage).keeps_data = rw (← w.features) k in
          zero_behind_write true (m.offset + c.args.at) (length c.args.source.now) s.size _ _ _ (λ h. inside)
          (either_bytes _ _ _ _ _ c.write_bytes.result (w.written k') (w.torn k')) (s.zero_behind k');
    }

pub returns-then-mapping-self-2-clause-foreign : goal.returns-then-mapping-self-2-clause-foreign
returns-then-mapping-self-2-clause-foreign g c =
    let s = c.args.self.now in
    let m = c.args.mapping.now in
    let B = g.S.Storage.bytes s.storage in
    let stateless : is_none m.state ≡ true = sym c.if-not-is_nonblocking.ensures in
    let some : 0 < m.length = omega arith in
    let out : s.size < m.offset + m.length = omega arith in
    (λ e. foreign_stateless (raw_view (g.S.Storage.features s.storage) (g.S.Storage.fault_count s.storage) B s.size s.writable) m m.state stateless (stranger s.size B m.storage m.offset m.length some (inr out)), λ f. refl)

pub returns-then-not-self-clause-foreign : goal.returns-then-not-self-clause-foreign
returns-then-not-self-clause-foreign g c = (λ e. grind (arith, common_steps), λ f. refl)

pub returns-clause-call : goal.returns-clause-call
returns-clause-call g c = record {
  written =
      let m = c.args.mapping.now in
      let stateless : is_none m.state ≡ true = sym c.if-not-is_nonblocking.ensures in
      let zero : m.storage ≡ 0 = c.if-mapping-ne0.false in
      on_ok_weaker c.write_bytes.result (λ h. written_stateless _ _ m m.state false c.args.at c.args.source.now stateless refl (rw zero h)) (raw_put_on_ok _ _ _ _ (m.offset + c.args.at) _ c.write_bytes.result c.write_bytes.ensures.written);
  torn =
      let m = c.args.mapping.now in
      let stateless : is_none m.state ≡ true = sym c.if-not-is_nonblocking.ensures in
      let zero : m.storage ≡ 0 = c.if-mapping-ne0.false in
      on_err_weaker c.write_bytes.result (λ h. written_stateless _ _ m m.state true c.args.at c.args.source.now stateless refl (rw zero h)) (raw_put_on_err _ _ _ _ (m.offset + c.args.at) _ c.write_bytes.result c.write_bytes.ensures.torn);
  round = search rules;
  causes = search rules;
  reaches = search rules;
  storages = search rules;
  framed = search rules;
  refusals =
      let s = c.args.self.now in
      let m = c.args.mapping.now in
      let B = g.S.Storage.bytes s.storage in
      let n = length c.args.source.now in
      let stateless : is_none m.state ≡ true = sym c.if-not-is_nonblocking.ensures in
      let v = raw_view (g.S.Storage.features s.storage) (g.S.Storage.fault_count s.storage) B s.size s.writable in
      request_refused (g.S.Storage.features s.storage) s.size (length B) (m.offset + c.args.at) n Write _ _ _ (Unit {0}) c.write_bytes.result
      (λ x h q. raw_at s.size B m.storage (m.offset + c.args.at) n x h (for_stateless v m m.state c.args.at n x stateless q)) (λ zero. (c.write_bytes.ensures.empty zero).0) c.write_bytes.ensures.only (λ e. tt) c.write_bytes.ensures.wraps (λ x h q w. w) c.write_bytes.ensures.memory;
}

pub returns-then-not-self-clause-call : goal.returns-then-not-self-clause-call
returns-then-not-self-clause-call g c = record {
  written = tt;
  torn = search rules;
  round = search rules;
  causes = search rules;
  reaches = search rules;
  storages = search rules;
  framed = search rules;
  refusals = search rules;
}
