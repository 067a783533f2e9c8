-- SPDX-License-Identifier: MIT
use Rattle.std.specs.Prelude.{ℕ, List}
use Rattle.imago_storage.specs.Features.{Features, AreLawful}
use Rattle.imago_drivers.specs.Laws.{IsLawful, AreCauses}
use Rattle.imago_drivers.specs.declared.raw.Raw.{Raw}
use Rattle.imago_drivers.specs.Raw.{raw_view}
use Rattle.imago_drivers.specs.RawImage.{storage_in, writability_of, size_of as raw_size}
use Rattle.imago_drivers.specs.RawLaws.{raw_lawful, raw_causes}
use Rattle.imago_drivers.specs.declared.mapping.Ticket.{Ticket}
use Rattle.imago_drivers.specs.View.{View}
use Rattle.imago_test_drivers.specs.Choppy.{choppy_view}
use Rattle.imago_test_drivers.specs.ChoppyImage.{raw_of, granularity_of}
use Rattle.imago_test_drivers.specs.ChoppyLaws.{choppy_lawful, choppy_causes}
use Rattle.imago_test_drivers.specs.declared.choppy.Choppy.{Choppy}
use Rattle.imago_test_drivers.specs.Pattern.{kind_of, size_of, pattern_view}
use Rattle.imago_test_drivers.specs.PatternLaws.{pattern_lawful, pattern_causes}
use Rattle.imago_test_drivers.specs.declared.pattern.Pattern.{Pattern}
use Rattle.imago_test_drivers.specs.declared.test_driver.TestDriver.{TestDriver}
use Rattle.imago_test_drivers.specs.declared.test_driver.TestDriver.TheVariants as T

-- the view of the driver that it is, over storages that show these features, counts of faults and
-- bytes
abbrev pub test_view : {S : Type 0} {g : _} {h : _} → (S → Features) → (S → ℕ) → (S → List ℕ)
    → TestDriver S g h → View Ticket
test_view features fault_count bytes (T.Raw r) = raw_view (features (storage_in r))
    (fault_count (storage_in r)) (bytes (storage_in r)) (raw_size r) (writability_of r)
test_view features fault_count bytes (T.Choppy c) = choppy_view features fault_count bytes
    (granularity_of c) (raw_of c)
test_view features fault_count bytes (T.Pattern p) = pattern_view (kind_of p) (size_of p)

-- a call on a driver is one on the driver that it is, which stays that one
abbrev pub by_driver : {S : Type 0} {g : _} {h : _} {R : Type 0}
    → (Raw S g h → Raw S g h → R → Type 0) → (Choppy S g h → Choppy S g h → R → Type 0)
    → (Pattern → Pattern → R → Type 0)
    → TestDriver S g h → TestDriver S g h → R → Type 0
by_driver raw choppy pattern (T.Raw a) (T.Raw b) r = raw a b r
by_driver raw choppy pattern (T.Choppy a) (T.Choppy b) r = choppy a b r
by_driver raw choppy pattern (T.Pattern a) (T.Pattern b) r = pattern a b r
by_driver raw choppy pattern (T.Raw a) _ r = ⊥
by_driver raw choppy pattern (T.Choppy a) _ r = ⊥
by_driver raw choppy pattern (T.Pattern a) _ r = ⊥

pub test_lawful : {S : Type 0} {g : _} {h : _} (features : S → Features) (fault_count : S → ℕ)
    (bytes : S → List ℕ) → ((s : S) → AreLawful (features s)) → (d : TestDriver S g h)
    → IsLawful (test_view features fault_count bytes d)
test_lawful features fault_count bytes lawful (T.Raw r) = raw_lawful (features (storage_in r))
    (fault_count (storage_in r)) (bytes (storage_in r)) (raw_size r) (writability_of r)
    (lawful (storage_in r))
test_lawful features fault_count bytes lawful (T.Choppy c) = choppy_lawful features fault_count
    bytes c.is_granular c.cut c.raw (lawful (storage_in c.raw))
test_lawful features fault_count bytes lawful (T.Pattern p) = pattern_lawful (kind_of p) (size_of p)

pub test_causes : {S : Type 0} {g : _} {h : _} (features : S → Features) (fault_count : S → ℕ)
    (bytes : S → List ℕ) (d : TestDriver S g h) → AreCauses (test_view features fault_count bytes d)
test_causes features fault_count bytes (T.Raw r) = raw_causes (features (storage_in r))
    (fault_count (storage_in r)) (bytes (storage_in r)) (raw_size r) (writability_of r)
test_causes features fault_count bytes (T.Choppy c) = choppy_causes features fault_count bytes
    c.is_granular c.cut c.raw
test_causes features fault_count bytes (T.Pattern p) = pattern_causes (kind_of p) (size_of p)
