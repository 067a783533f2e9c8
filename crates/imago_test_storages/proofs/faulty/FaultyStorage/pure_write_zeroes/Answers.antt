-- SPDX-License-Identifier: MIT
use Rattle.std.proofs.Common.{inl, inr, refl, ⊎_elim, rules}
use Rattle.imago_test_storages.proofs.OwnZeroes.{unsupported_or_not}
use Rattle.imago_test_storages.proofs.faulty.FaultyStorage.pure_write_zeroes.Goals as goal

pub returns : goal.returns
returns c =
    let e = c.zero_in_place.ensures in
    record {
      written = e.written;
      torn = search rules;
      atomic = search rules;
      features = e.features;
      only = e.only;
      offered = search rules;
      refused = search rules;
      cause = e.cause;
      memory = search rules;
      early = search rules;
      unchanged = e.unchanged;
      performed = ⊎_elim
          (λ is. inr (inr (
            c.zero_in_place.new.self,
            tt,
            record {
              work = search rules;
              performed = inl (refl, inl is);
            },
          )))
          (λ other. inr (inl (tt, other)))
          (unsupported_or_not c.zero_in_place.result);
    }
