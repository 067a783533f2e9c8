-- Which paths each command asks a host for.
-- SPDX-License-Identifier: MIT
use Rattle.std.specs.Prelude.{Bool, true, false, ℕ, List, Option, Some, None}
use Rattle.std.proofs.Common.{Bor}
use Rattle.imago_words.specs.declared.command.Command.{Command}
use Rattle.imago_words.specs.declared.command.Command.TheVariants as Asked
use Rattle.imago_words.specs.declared.command.Backing.{Backing}
use Rattle.imago_words.specs.declared.command.Measured.{Measured}
use Rattle.imago_words.specs.declared.command.Measured.TheVariants as M
use Rattle.imago_images.specs.declared.confined.Reach.{Reach}
use Rattle.imago_images.specs.declared.confined.Reach.TheVariants as R

-- those that the command line names, where no other files are opened, and else any: these are read
abbrev pub read_when : Bool → Reach → Reach
read_when true named = named
read_when false named = R.Reading

-- the same where a file is made or changed too, which is the one that the command line names
abbrev pub copy_when : Bool → Bor (List ℕ) → Bor (List ℕ) → Reach
copy_when true source target = R.Copy source target
copy_when false source target = R.ReadingInto target

-- what makes a new image reads its layer below alone, if it has one
abbrev pub below_reach : Bool → Option Backing → Bor (List ℕ) → Reach
below_reach alone None target = R.Fresh target
below_reach alone (Some below) target = copy_when alone below.file target

-- what is measured: a file, or a size alone
abbrev reach_to : Bool → Measured → Reach
reach_to alone (M.File file) = read_when alone (R.File file)
reach_to alone (M.Size size) = R.Nothing

-- What a command asks for: help, the version and the settings of a format for none, and `vet` and
-- `resize` for their file alone. With `--alone` and without, it makes or changes its OUT, or FILE of
-- `resize`, and no other.
abbrev pub reach_by : Command → Reach
reach_by (Asked.Help kind) = R.Nothing
reach_by Asked.Version = R.Nothing
reach_by (Asked.Settings format) = R.Nothing
reach_by (Asked.Info c) = read_when c.opening.alone (R.File c.file)
reach_by (Asked.Map c) = read_when c.opening.alone (R.File c.file)
reach_by (Asked.Check c) = read_when c.opening.alone (R.File c.file)
reach_by (Asked.Vet c) = R.File c.file
reach_by (Asked.Compare c) = read_when c.opening.alone (R.Files c.first c.second)
reach_by (Asked.Convert c) = copy_when c.opening.alone c.source c.target
reach_by (Asked.Create c) = below_reach c.opening.alone c.backing c.target
reach_by (Asked.Measure c) = reach_to c.opening.alone c.disk
reach_by (Asked.Resize c) = R.Copy c.file c.file
