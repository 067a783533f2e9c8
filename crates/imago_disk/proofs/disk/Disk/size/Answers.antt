-- SPDX-License-Identifier: MIT
use Rattle.imago_any_driver.specs.AnyDriver.{view_over}
use Rattle.imago_disk.specs.Disk.{image_of}
use Rattle.imago_disk.proofs.Shown.{disk_length}
use Rattle.imago_disk.proofs.disk.Disk.size.Goals as goal

pub returns-clause-length : goal.returns-clause-length
returns-clause-length g c =
    let s = g.S.Storage in
    disk_length (view_over s.features s.fault_count s.bytes) (image_of c.args.self.now) c.size.result c.size.ensures
