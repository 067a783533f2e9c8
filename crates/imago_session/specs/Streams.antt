-- What compressed clusters of an image's files have, by their streams.
-- SPDX-License-Identifier: MIT
use Rattle.std.specs.Prelude.{◌≡◌, ℕ, ◌+◌, ◌<◌, ◌≤◌}
use Rattle.imago_drivers.specs.Place.{Value}
use Rattle.imago_inflate.specs.Inflate.{inflated}
use Rattle.imago_qcow2.specs.Compressed.{value_in}
use Rattle.imago_storage.specs.Bytes.{bytes_at}
use Rattle.imago_access.specs.declared.access.FormatAccess.{FormatAccess}
use Rattle.imago_session.specs.declared.compressed.Compressed.{Compressed}
use Rattle.imago_session.specs.Files.{File, Layer, described_value}

-- a part of a cluster, which begins at an offset of the disk, isn't empty, and has at most so many
-- bytes
abbrev pub IsPartOfCluster : ℕ → ℕ → Compressed → Type 0
IsPartOfCluster at most c =
    (c.at ≡ at) × (0 < c.count) × (c.count ≤ most) × (c.skip + c.count ≤ c.cluster)

-- what the cluster has at an index: the byte there of what its stream puts out; a faulty stream has
-- no bytes that can be read
abbrev pub cluster_value : (ℕ → File) → Compressed → ℕ → Value
cluster_value files c i =
    value_in (inflated (bytes_at (files c.file).bytes c.offset c.length) c.cluster) i

-- each byte of the part is the cluster's
abbrev pub ShowsStream : (ℕ → File) → Compressed → FormatAccess Layer → Type 0
ShowsStream files c image = (i : ℕ) → i < c.count
    → described_value files image (c.at + i) ≡ cluster_value files c (c.skip + i)
