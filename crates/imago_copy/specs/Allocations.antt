-- Which layer of an image has what an offset of its disk leads to, if one has.
-- SPDX-License-Identifier: MIT
use Rattle.std.specs.Prelude.{◌≡◌, ℕ, ◌+◌, ◌-◌, ◌<◌, true, false}
use Rattle.imago_drivers.specs.Place.{Place, Stored, Zeroed, Special, Lower, Refused, End}
use Rattle.imago_access.specs.Target.{Target, told_depth}
use Rattle.imago_copy.specs.declared.allocation.Allocation.{Allocation}

-- the layer of that depth has it
abbrev pub in_layer : ℕ → Allocation
in_layer depth = record { depth = depth; is_present = true }

-- no layer has it, and the one of that depth is the last that leaves it to the layer below
abbrev pub in_none : ℕ → Allocation
in_none depth = record { depth = depth; is_present = false }

-- What stands that many layers down: the layer there has it, unless that is past its end, or there
-- is no such layer. Then no layer has it, and the last one that left it is the one above.
abbrev pub allocated : ℕ → Place → Allocation
allocated depth End = in_none (told_depth depth - 1)
allocated depth (Stored byte storage offset writable) = in_layer (told_depth depth)
allocated depth (Zeroed explicit) = in_layer (told_depth depth)
allocated depth (Special value offset) = in_layer (told_depth depth)
allocated depth (Lower offset writable) = in_layer (told_depth depth)
allocated depth (Refused e) = in_layer (told_depth depth)

-- the layer that has what an offset leads to: the first one from the top that doesn't refer to the
-- layer below there
abbrev pub allocation_of : Target → Allocation
allocation_of t = allocated t.depth t.place

-- the same layer has what the n offsets from p on lead to, or none has it
abbrev pub AreAllocated : (ℕ → Target) → ℕ → ℕ → Allocation → Type 0
AreAllocated leads p n a = (i : ℕ) → i < n → allocation_of (leads (p + i)) ≡ a
