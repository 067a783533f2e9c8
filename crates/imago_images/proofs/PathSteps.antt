-- What is seen of the storage of a path, for drivers over it.
-- SPDX-License-Identifier: MIT
use Rattle.std.proofs.Common.{ℕ, List, Option}
use Rattle.std.specs.String.{string_bytes}
use Rattle.imago_storage.specs.Features.{Features}
use Rattle.imago_file.specs.declared.file.FileStorage.{FileStorage}
use Rattle.imago_file.specs.StorageParts.{features_of as features_by, bytes_of as bytes_by}
use Rattle.imago_images.specs.declared.file.PathFile.{PathFile}
use Rattle.imago_images.specs.PathFile.{reached_bytes}

abbrev pub held_by :
    {H File : Type 0} → (H → Option (List ℕ → List ℕ)) → (File → Option (List ℕ)) → PathFile H File
    → Option (List ℕ)
held_by contents opened f = reached_bytes opened (contents f.host.now) (string_bytes f.path) f.access

module _ {H File : Type 0} {g : _} (contents : H → Option (List ℕ → List ℕ))
    (opened : File → Option (List ℕ)) where
  abbrev pub features_of : FileStorage (PathFile H File) g → Features
  features_of s = features_by (held_by contents opened) s

  abbrev pub bytes_of : FileStorage (PathFile H File) g → List ℕ
  bytes_of s = bytes_by (held_by contents opened) s
