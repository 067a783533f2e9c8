-- SPDX-License-Identifier: MIT
use Rattle.std.proofs.Common.{rules, ◌≡◌, arith, length, true}
use Rattle.std.specs.Prelude.{IsTrue}
use Rattle.imago_drivers.specs.Operation.{Write}
use Rattle.imago_drivers.specs.Place.{PlacesStandAt}
use Rattle.imago_drivers.specs.Raw.{raw_place}
use Rattle.imago_drivers.proofs.StorageBytes.{zero_behind_write, either_bytes}
use Rattle.imago_drivers.proofs.RawSteps.{raw_at, raw_inside, raw_put_on_ok, raw_put_on_err, request_refused}
use Rattle.imago_drivers.proofs.raw.RawFormatDriverInstance.write_mapped.Goals as goal

pub invariant_of-self : goal.invariant_of-self
invariant_of-self g c =
    let s = c.args.self.now in
    let w = c.write_bytes.ensures in
    record {
      fits = s.fits;
      bounded = omega (arith, w.no_shorter, s.bounded);
      zero_behind = λ k.
          let k' : IsTrue (g.S.Storage.features s.storage).keeps_data = rw (← w.features) k in
          zero_behind_write true c.args.offset (length c.args.source.now) s.size _ _ _ (λ h. raw_inside s.size (g.S.Storage.bytes s.storage) c.args._storage c.args.offset (length c.args.source.now) h c.requires.mapped)
          (either_bytes _ _ _ _ _ c.write_bytes.result (w.written k') (w.torn k')) (s.zero_behind k');
    }

pub returns-clause-call : goal.returns-clause-call
returns-clause-call g c = record {
  written =
      let z : c.args._storage ≡ 0 = omega (arith, c.requires.known) in
      rw z (raw_put_on_ok _ _ _ _ _ _ c.write_bytes.result c.write_bytes.ensures.written);
  torn =
      let z : c.args._storage ≡ 0 = omega (arith, c.requires.known) in
      rw z (raw_put_on_err _ _ _ _ _ _ c.write_bytes.result c.write_bytes.ensures.torn);
  causes = search rules;
  leaves = search rules;
  storages = search rules;
  framed = search rules;
  refusals =
      let s = c.args.self.now in
      let B = g.S.Storage.bytes s.storage in
      let n = length c.args.source.now in
      request_refused (g.S.Storage.features s.storage) s.size (length B) c.args.offset n Write _ (PlacesStandAt (raw_place s.size B) c.args._storage c.args.offset n) _ ⊥ c.write_bytes.result
      (λ x h q. raw_at s.size B c.args._storage c.args.offset n x h q) (λ zero. (c.write_bytes.ensures.empty zero).0) c.write_bytes.ensures.only (λ e. tt) c.write_bytes.ensures.wraps (λ x h q w. w) c.write_bytes.ensures.memory;
}
