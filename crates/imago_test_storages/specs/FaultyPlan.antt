-- SPDX-License-Identifier: MIT
use Rattle.std.specs.Prelude.{ℕ, Bool, false, Some}
use Rattle.imago_test_storages.specs.declared.faulty.Tear.{Tear}
use Rattle.imago_test_storages.specs.declared.faulty.Plan.{Plan}
use Rattle.imago_test_storages.specs.declared.faulty.Faulty.{Faulty}

-- what a storage refuses from now on, and how often its device has failed
abbrev pub plan_of : Faulty → Plan
plan_of s = s.plan

-- the same storage without zero writes
abbrev pub not_zeroing : Faulty → Faulty
not_zeroing s = record s { zero_writes = false }

-- the same storage, with its next resizes refused, so many
abbrev pub refusing_resizes : Faulty → ℕ → Faulty
refusing_resizes s count = record s { plan = record s.plan { resizes = count } }

-- the same storage, with the call refused that comes after so many
abbrev pub armed_at : Faulty → ℕ → Tear → Faulty
armed_at s pass tear = record
    s { plan = record s.plan { armed = Some (record { pass = pass; tear = tear }) } }

-- the same storage, with each shared read refused or none
abbrev pub failing_reads : Faulty → Bool → Faulty
failing_reads s fails = record s { plan = record s.plan { reads_fail = fails } }
