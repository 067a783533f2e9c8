-- SPDX-License-Identifier: MIT
use Rattle.std.proofs.Common.{◌≡◌, sym, subst}
use Rattle.std.specs.String.{string_bytes}
use Rattle.imago_file.specs.Contents.{resized}
use Rattle.imago_images.specs.HostBytes.{shown_bytes}
use Rattle.imago_images.specs.PathFile.{reached_bytes}
use Rattle.imago_images.proofs.ShownBytes.{shown_less}
use Rattle.imago_images.proofs.file.PathFileHostFile.set_len.Goals as goal

pub returns-else-size-shown-clause-sized : goal.returns-else-size-shown-clause-sized
returns-else-size-shown-clause-sized g c =
    let f = c.args.self.now in
    let known = g.H.Files.contents f.host.now in
    subst (λ a. shown_bytes known (string_bytes f.path) c.args.size
    ≡ resized (reached_bytes g.H.File.HostFile.contents known (string_bytes f.path) a) c.args.size)
    (sym c.in-ByPath.is)
    (shown_less known (string_bytes f.path) c.args.size c.in-ByPath.shown c.if-size-shown.false)
