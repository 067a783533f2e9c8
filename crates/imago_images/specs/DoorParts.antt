-- What is seen of the door before the files that an image names.
-- SPDX-License-Identifier: MIT
use Rattle.std.specs.Prelude.{ℕ, List}
use Rattle.imago_images.specs.declared.door.Door.{Door}
use Rattle.imago_images.specs.declared.opening.OtherFiles.{OtherFiles}

-- the host whose files are behind it
abbrev pub door_host : {H File : Type 0} → Door H File → H
door_host door = door.host.now

-- the path of the image that names them
abbrev pub door_image : {H File : Type 0} → Door H File → List ℕ
door_image door = door.image.now

-- which of them are let through
abbrev pub door_files : {H File : Type 0} → Door H File → OtherFiles
door_files door = door.others
