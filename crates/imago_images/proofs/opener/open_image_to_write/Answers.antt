-- SPDX-License-Identifier: MIT
use Rattle.std.proofs.Common.{ℕ, subst}
use Rattle.imago_qcow2.specs.Limit.{IsWithin}
use Rattle.imago_any_driver.specs.AnyDriver.{view_over}
use Rattle.imago_file.specs.StorageParts.{features_of, bytes_of, faults_of}
use Rattle.imago_images.proofs.WriteSteps.{raw_written}
use Rattle.imago_images.proofs.opener.open_image_to_write.Goals as goal

pub returns-clause-image : goal.returns-clause-image
returns-clause-image g c =
    let opened = g.H.File.HostFile.contents in
    raw_written (view_over (features_of opened) faults_of (bytes_of opened)) (features_of opened) (bytes_of opened)
    c.in_ok-file.file c.in_ok-image.image (g.H.Files.contents c.args.host.now) c.args.path.now
    (opened c.in_ok-open.open) c.in_ok-open.ensures.told c.in_ok-file.ensures.told
    c.in_ok-image.ensures.image c.args.how
    (subst (λ (n : ℕ). IsWithin c.args.how.longest n) c.size.ensures c.in_ok-refuse_size.ensures.within)
