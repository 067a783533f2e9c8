-- SPDX-License-Identifier: MIT
use Rattle.imago_img_disks.proofs.map.print_image.Goals as goal

pub returns : goal.returns
returns g c = rw c.image-image.ensures at c.print_disk.ensures
