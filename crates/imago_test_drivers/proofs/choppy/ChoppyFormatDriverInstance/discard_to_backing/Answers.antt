-- SPDX-License-Identifier: MIT
use Rattle.std.proofs.Common.{refl}
use Rattle.std.specs.Prelude.{◌≡◌, ◌⊎◌}
use Rattle.imago_drivers.specs.Operation.{DiscardToBacking}
use Rattle.imago_drivers.specs.Place.{Byte}
use Rattle.imago_drivers.specs.RawImage.{storage_in, size_of, writability_of}
use Rattle.imago_drivers.specs.RawLaws.{raw_causes}
use Rattle.imago_test_drivers.specs.Choppy.{told, raw_over}
use Rattle.imago_test_drivers.proofs.ChoppySteps.{discarded, padded_part}
use Rattle.imago_test_drivers.proofs.choppy.ChoppyFormatDriverInstance.discard_to_backing.Goals as goal

pub returns-clause-call : goal.returns-clause-call
returns-clause-call g c =
    let s = c.args.self.now in
    let st = g.S.Storage in
    let f = st.features (storage_in s.raw) in
    let v = raw_over st.features st.fault_count st.bytes in
    let part = c.first_block-start.result in
    let p = c.first_block-start.ensures in
    let x = c.discard_to_backing in
    discarded (told s.is_granular s.cut) (v s.raw) (v x.new.self) DiscardToBacking c.args.offset c.args.count part.0 part.1 (p.0) (p.1) (λ i. padded_part f c.args.offset c.args.count part.0 part.1 (p.0) (p.1)) (λ free. free)
    (raw_causes f (st.fault_count (storage_in s.raw)) (st.bytes (storage_in s.raw)) (size_of s.raw) (writability_of s.raw)) (λ a b. (b ≡ a) ⊎ (b ≡ Byte 0)) x.result x.ensures.call

pub returns-clause-performed : goal.returns-clause-performed
returns-clause-performed g c =
    let part = c.first_block-start.result in
    let p = c.first_block-start.ensures in
    ((part.0, part.1, p.0, p.1, c.discard_to_backing.ensures.performed), refl, refl)
