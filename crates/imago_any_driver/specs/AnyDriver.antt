-- The driver of any format: what it shows, and which format bytes have.
-- SPDX-License-Identifier: MIT
use Rattle.std.specs.Prelude.{◌≡◌, ℕ, ◌+◌, ◌⊎◌, ◌||◌, Bool, List, ◌∷◌, map, if◌then◌else◌}
use Rattle.imago_storage.specs.Features.{Features, AreLawful}
use Rattle.imago_drivers.specs.Laws.{IsLawful, AreCauses}
use Rattle.imago_drivers.specs.Raw.{raw_view}
use Rattle.imago_drivers.specs.RawImage.{storage_in as raw_storage, writability_of, size_of}
use Rattle.imago_drivers.specs.RawLaws.{raw_lawful, raw_causes}
use Rattle.imago_drivers.specs.Reasons.{Reasons}
use Rattle.imago_drivers.specs.View.{View}
use Rattle.imago_drivers.specs.declared.format.Format.{Format}
use Rattle.imago_drivers.specs.declared.mapping.Ticket.{Ticket}
use Rattle.imago_drivers.specs.declared.raw.Raw.{Raw as RawImage}
use Rattle.imago_vmdk.specs.Vmdk.{vmdk_view}
use Rattle.imago_vmdk.specs.VmdkLaws.{vmdk_lawful, vmdk_causes}
use Rattle.imago_vmdk.specs.declared.vmdk.Vmdk.{Vmdk as VmdkImage}
use Rattle.imago_cow.specs.Cow.{cow_view}
use Rattle.imago_cow.specs.CowImage.{block_of}
use Rattle.imago_cow.specs.CowLaws.{cow_lawful, cow_causes}
use Rattle.imago_cow.specs.TableView.{entries_of, count_of}
use Rattle.imago_cow.specs.TableLaws.{named_once}
use Rattle.imago_cow.specs.declared.cow.Cow.{Cow as CowImage}
use Rattle.imago_qcow2.specs.Qcow2.{loaded_view}
use Rattle.imago_qcow2.specs.Qcow2Image.{storage_in as qcow2_storage, loaded_in}
use Rattle.imago_qcow2.specs.Qcow2Laws.{qcow2_lawful, qcow2_causes}
use Rattle.imago_qcow2.specs.declared.qcow2.Qcow2.{Qcow2 as Qcow2Image}
use Rattle.imago_any_driver.specs.declared.any.AnyDriver.{AnyDriver}
use Rattle.imago_any_driver.specs.declared.any.AnyDriver.TheVariants.{Raw, Vmdk, Cow, Qcow2}

module _ {S : Type 0} {g : _} {h : _} where
  -- it is that raw image
  abbrev pub HoldsRaw : RawImage S g h → AnyDriver S g h → Type 0
  HoldsRaw driver it = it ≡ Raw driver

  -- it is that VMDK image
  abbrev pub HoldsVmdk : VmdkImage S g h → AnyDriver S g h → Type 0
  HoldsVmdk driver it = it ≡ Vmdk driver

  -- it is that copy-on-write disk
  abbrev pub HoldsCow : CowImage S g h → AnyDriver S g h → Type 0
  HoldsCow driver it = it ≡ Cow driver

  -- it is that qcow2 image
  abbrev pub HoldsQcow2 : Qcow2Image S g h → AnyDriver S g h → Type 0
  HoldsQcow2 driver it = it ≡ Qcow2 driver

-- the view of the driver that it is
abbrev pub view_by_format : {S : Type 0} {g : _} {h : _} → (RawImage S g h → View Ticket)
    → (VmdkImage S g h → View Ticket) → (CowImage S g h → View Ticket)
    → (Qcow2Image S g h → View Ticket) → AnyDriver S g h → View Ticket
view_by_format raw vmdk cow qcow2 (Raw driver) = raw driver
view_by_format raw vmdk cow qcow2 (Vmdk driver) = vmdk driver
view_by_format raw vmdk cow qcow2 (Cow driver) = cow driver
view_by_format raw vmdk cow qcow2 (Qcow2 driver) = qcow2 driver

-- Which format bytes have: qcow2 where they look like a qcow2 file's, else VMDK where they look
-- like a descriptor's, else raw.
abbrev pub detected : (List ℕ → Bool) → (List ℕ → Bool) → List ℕ → Format
detected is_qcow2 is_vmdk bytes =
    if is_qcow2 bytes then Format.Qcow2 else if is_vmdk bytes then Format.Vmdk else Format.Raw

-- the bytes look like those of one of two formats
abbrev pub either : (List ℕ → Bool) → (List ℕ → Bool) → List ℕ → Bool
either one other bytes = one bytes || other bytes

-- a refusal has a reason among these or those
abbrev pub reasons_of_both : Reasons → Reasons → Reasons
reasons_of_both a b = record {
  read_only = a.read_only ⊎ b.read_only;
  beyond_disk = a.beyond_disk ⊎ b.beyond_disk;
  range_overflow = a.range_overflow ⊎ b.range_overflow;
  cause = λ e. a.cause e ⊎ b.cause e;
  device = a.device ⊎ b.device;
  memory = a.memory ⊎ b.memory;
  foreign_mapping = a.foreign_mapping ⊎ b.foreign_mapping;
}

-- a raw image over a storage that shows these features, counts of faults and bytes
abbrev pub raw_in : {S : Type 0} {g : _} {h : _} → (S → Features) → (S → ℕ) → (S → List ℕ)
    → RawImage S g h → View Ticket
raw_in features fault_count bytes r =
    raw_view (features (raw_storage r)) (fault_count (raw_storage r)) (bytes (raw_storage r))
    (size_of r) (writability_of r)

-- a VMDK image over storages that show these features and bytes
abbrev pub vmdk_in : {S : Type 0} {g : _} {h : _} → (S → Features) → (S → List ℕ)
    → VmdkImage S g h → View Ticket
vmdk_in features bytes v =
    vmdk_view (features v.descriptor ∷ map features v.storages.items)
    (bytes v.descriptor ∷ map bytes v.storages.items) v.opened v.extents.items

-- a copy-on-write disk over a storage that shows these features, counts of faults and bytes
abbrev pub cow_in : {S : Type 0} {g : _} {h : _} → (S → Features) → (S → ℕ) → (S → List ℕ)
    → CowImage S g h → View Ticket
cow_in features fault_count bytes d =
    cow_view (features d.storage) (fault_count d.storage + d.faults) (bytes d.storage) d.size
    (block_of d) (entries_of d.table) (count_of d.table) d.waiting

-- a qcow2 image that was loaded from a storage that shows these features and bytes
abbrev pub qcow2_in : {S : Type 0} {g : _} {h : _} → (S → Features) → (S → List ℕ)
    → Qcow2Image S g h → View Ticket
qcow2_in features bytes d =
    loaded_view (features (qcow2_storage d)) (bytes (qcow2_storage d)) (loaded_in d)

-- the view of a driver over storages that show these features, counts of faults and bytes
abbrev pub view_over : {S : Type 0} {g : _} {h : _} → (S → Features) → (S → ℕ) → (S → List ℕ)
    → AnyDriver S g h → View Ticket
view_over features fault_count bytes =
    view_by_format (raw_in features fault_count bytes) (vmdk_in features bytes)
    (cow_in features fault_count bytes) (qcow2_in features bytes)

module _ {S : Type 0} {g : _} {h : _} (features : S → Features) (fault_count : S → ℕ)
    (bytes : S → List ℕ) where
  -- the laws of each format are those of a driver, over lawful storages
  pub formats_lawful : ((s : S) → AreLawful (features s)) → (d : AnyDriver S g h)
      → IsLawful (view_over features fault_count bytes d)
  formats_lawful lawful (Raw r) = raw_lawful (features (raw_storage r))
      (fault_count (raw_storage r)) (bytes (raw_storage r)) (size_of r) (writability_of r)
      (lawful (raw_storage r))
  formats_lawful lawful (Vmdk v) = vmdk_lawful
      (features v.descriptor ∷ map features v.storages.items)
      (bytes v.descriptor ∷ map bytes v.storages.items) v.opened v.extents.items
  formats_lawful lawful (Cow d) = cow_lawful (features d.storage) (fault_count d.storage + d.faults)
      (bytes d.storage) d.size (block_of d) (entries_of d.table) (count_of d.table) d.waiting
      d.positive d.exact.covers (named_once d.table) (lawful d.storage)
  formats_lawful lawful (Qcow2 d) = qcow2_lawful (features (qcow2_storage d))
      (bytes (qcow2_storage d)) (loaded_in d)

  pub formats_causes : (d : AnyDriver S g h) → AreCauses (view_over features fault_count bytes d)
  formats_causes (Raw r) = raw_causes (features (raw_storage r)) (fault_count (raw_storage r))
      (bytes (raw_storage r)) (size_of r) (writability_of r)
  formats_causes (Vmdk v) = vmdk_causes (features v.descriptor ∷ map features v.storages.items)
      (bytes v.descriptor ∷ map bytes v.storages.items) v.opened v.extents.items
  formats_causes (Cow d) = cow_causes (features d.storage) (fault_count d.storage + d.faults)
      (bytes d.storage) d.size (block_of d) (entries_of d.table) (count_of d.table) d.waiting
  formats_causes (Qcow2 d) = qcow2_causes (features (qcow2_storage d)) (bytes (qcow2_storage d))
      (loaded_in d)
