-- SPDX-License-Identifier: MIT
use Rattle.std.proofs.Common.{sym, subst}
use Rattle.std.specs.String.{string_bytes}
use Rattle.imago_file.specs.Contents.{HoldsAt}
use Rattle.imago_images.specs.PathFile.{reached_bytes}
use Rattle.imago_images.proofs.ShownBytes.{shown_read}
use Rattle.imago_images.proofs.file.PathFileHostFile.read_at.Goals as goal

pub returns-in_ok-read_at-in-ByPath-clause-told : goal.returns-in_ok-read_at-in-ByPath-clause-told
returns-in_ok-read_at-in-ByPath-clause-told g c =
    let f = c.args.self.now in
    let known = g.H.Files.contents f.host.now in
    let opened = g.H.File.HostFile.contents in
    subst (λ a. HoldsAt (reached_bytes opened known (string_bytes f.path) a) c.args.offset c.hide.new.buf)
    (sym c.in-ByPath.is)
    (shown_read known c.deref.result.now (string_bytes f.path) c.read_at.new.buf
    c.hide.new.buf c.in-ByPath.shown c.args.offset c.deref.ensures c.in_ok-read_at-in-ByPath.ensures
    c.hide.ensures.long c.hide.ensures.shown c.hide.ensures.hidden)
