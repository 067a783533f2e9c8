-- How an image is opened: the usual way, what may be said otherwise, and which other files are
-- opened.
-- SPDX-License-Identifier: MIT
use Rattle.std.specs.Prelude.{ℕ, Bool, false, true, Some, None}
use Rattle.imago_vmdk.specs.declared.line.Accepted.{Accepted}
use Rattle.imago_images.specs.declared.format.ImageFormat.{ImageFormat}
use Rattle.imago_images.specs.declared.opening.Opening.{Opening}
use Rattle.imago_images.specs.declared.opening.OtherFiles.{OtherFiles}
use Rattle.imago_images.specs.declared.opening.OtherFiles.TheVariants as Others

-- whether files outside an image's folder are
abbrev pub may_be_outside : OtherFiles → Bool
may_be_outside Others.None = false
may_be_outside Others.InFolder = false
may_be_outside Others.Any = true

-- the usual way, with tables of at most 256 MiB
abbrev pub usual : Opening
usual = record {
  format = None;
  accepted = record { unknown_keys = true; vmfs = true };
  other_files = Others.InFolder;
  tables = Some 268435456;
  longest = None;
}

-- the same opening, but for one of these
abbrev pub with_format : ImageFormat → Opening → Opening
with_format format how = record how { format = Some format }

abbrev pub with_accepted : Accepted → Opening → Opening
with_accepted accepted how = record how { accepted = accepted }

abbrev pub with_other_files : OtherFiles → Opening → Opening
with_other_files others how = record how { other_files = others }

abbrev pub with_tables : ℕ → Opening → Opening
with_tables most how = record how { tables = Some most }

abbrev pub with_longest : ℕ → Opening → Opening
with_longest most how = record how { longest = Some most }
