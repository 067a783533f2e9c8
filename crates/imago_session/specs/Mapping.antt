-- What is told of where bytes of an image's disk are.
-- SPDX-License-Identifier: MIT
use Rattle.std.specs.Prelude.{ℕ, ◌≤◌}
use Rattle.imago_access.specs.declared.access.FormatAccess.{FormatAccess}
use Rattle.imago_access.specs.Target.{Target}
use Rattle.imago_plan.specs.Pieces.{IsPieceAt}
use Rattle.imago_session.specs.declared.session.Mapped.{Mapped}
use Rattle.imago_session.specs.declared.session.Mapped.TheVariants as M
use Rattle.imago_session.specs.Files.{File, Layer}
use Rattle.imago_session.specs.Opening.{ShowsBytes}
use Rattle.imago_session.specs.Streams.{IsPartOfCluster, ShowsStream}

-- It begins at an offset of a disk whose offsets lead there, isn't empty, and has at most so many
-- bytes: a piece, or a part of a compressed cluster.
abbrev pub IsMappedAt : (ℕ → Target) → ℕ → ℕ → Mapped → Type 0
IsMappedAt leads at most (M.Plain p) = IsPieceAt leads at p × (p.count ≤ most)
IsMappedAt leads at most (M.Compressed c) = IsPartOfCluster at most c

-- each byte is that of the disk which the files say
abbrev pub ShowsMapped : (ℕ → File) → ℕ → Mapped → FormatAccess Layer → Type 0
ShowsMapped files at (M.Plain p) image = ShowsBytes files at p image
ShowsMapped files at (M.Compressed c) image = ShowsStream files c image
