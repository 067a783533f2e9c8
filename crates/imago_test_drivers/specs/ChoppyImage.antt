-- SPDX-License-Identifier: MIT
use Rattle.std.specs.Prelude.{ℕ, Option}
use Rattle.imago_drivers.specs.declared.raw.Raw.{Raw}
use Rattle.imago_test_drivers.specs.Choppy.{told}
use Rattle.imago_test_drivers.specs.declared.choppy.Choppy.{Choppy}

-- the raw image that is in blocks
abbrev pub raw_of : {S : Type 0} {g : _} {h : _} → Choppy S g h → Raw S g h
raw_of d = d.raw

-- the granularity that is told
abbrev pub granularity_of : {S : Type 0} {g : _} {h : _} → Choppy S g h → Option ℕ
granularity_of d = told d.is_granular d.cut
