-- SPDX-License-Identifier: MIT
use Rattle.std.specs.Prelude.{Result}
use Rattle.imago.specs.DeclaredError.{Error}
use Rattle.imago.specs.Maintenance.{Maintenance}
use Rattle.imago_script_parts.specs.declared.script_storage.ScriptStorage.{ScriptStorage}
use Rattle.imago_script_parts.specs.declared.script_storage.ScriptStorage.TheVariants.{Mem, Null}
use Rattle.imago.specs.MemStorage.{MemStorage}
use Rattle.imago.specs.Null.{Null as NullStorage}
use Rattle.imago.specs.Features.{AreLawful}
use Rattle.imago.specs.Mem.{null_features, null_lawful}
use Rattle.imago.specs.MemParts.{features_of, alignments_of}

-- a member of a script's storage: that of the storage in memory, or of the null one, that it holds
abbrev pub by_kind : {T : Type 0} → (MemStorage → T) → (NullStorage → T) → ScriptStorage → T
by_kind of_mem of_null (Mem storage) = of_mem storage
by_kind of_mem of_null (Null storage) = of_null storage

-- a relation between script's storages: that of their kind, where they are of one
abbrev pub related : (MemStorage → MemStorage → Result (Unit {0}) Error → Type 0)
    → (NullStorage → NullStorage → Result (Unit {0}) Error → Type 0) → ScriptStorage → ScriptStorage
    → Result (Unit {0}) Error → Type 0
related of_mem of_null (Mem old) (Mem new) r = of_mem old new r
related of_mem of_null (Null old) (Null new) r = of_null old new r
related of_mem of_null (Mem old) (Null new) r = ⊥
related of_mem of_null (Null old) (Mem new) r = ⊥

-- the calls that no byte shows are those of the storage inside
abbrev pub maintenance_by_kind : Maintenance MemStorage → Maintenance NullStorage
    → Maintenance ScriptStorage
maintenance_by_kind m n = record {
  flushed = related m.flushed n.flushed;
  synced = related m.synced n.synced;
  invalidated = related m.invalidated n.invalidated;
  settled = related m.settled n.settled;
  discarded = λ at count. related (m.discarded at count) (n.discarded at count);
  resized = λ new_size mode. related (m.resized new_size mode) (n.resized new_size mode);
  counted = λ at buffer. related (m.counted at buffer) (n.counted at buffer);
  written = λ at source. related (m.written at source) (n.written at source);
  zeroed_in_place = λ kind at count. related (m.zeroed_in_place kind at count)
      (n.zeroed_in_place kind at count);
  zeroed = λ kind at count. related (m.zeroed kind at count) (n.zeroed kind at count);
}

-- the alignments of both kinds are lawful
pub kinds_lawful : (storage : ScriptStorage)
    → AreLawful (by_kind features_of (λ n. null_features) storage)
kinds_lawful (Mem m) = alignments_of m
kinds_lawful (Null n) = null_lawful
