-- SPDX-License-Identifier: MIT
use Rattle.std.proofs.Common.{refl}
use Rattle.imago_test_drivers.specs.Choppy.{told, raw_over}
use Rattle.imago_test_drivers.proofs.Variants.{flush_of}
use Rattle.imago_test_drivers.proofs.ChoppySteps.{flushed}
use Rattle.imago_test_drivers.proofs.choppy.ChoppyFormatDriverInstance.invalidate_cache.Goals as goal

pub returns : goal.returns
returns g c =
    let s = c.args.self.now in
    let st = g.S.Storage in
    let v = raw_over st.features st.fault_count st.bytes in
    flush_of (λ r. record s { raw = r }) _ s.raw c.invalidate_cache.new.self c.invalidate_cache.result _ _ (λ p. (p, refl, refl)) (flushed (told s.is_granular s.cut) v s.raw c.invalidate_cache.new.self _ c.invalidate_cache.result c.invalidate_cache.ensures)
