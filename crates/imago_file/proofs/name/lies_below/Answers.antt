-- SPDX-License-Identifier: MIT
use Rattle.std.proofs.Common.{◌≡◌, false, true, ◌++◌, ap, sym, ◌∙◌}
use Rattle.std.specs.Path.{path_components, path_bytes}
use Rattle.imago_file.specs.Names.{stays_below, parts_lie_below}
use Rattle.imago_file.proofs.Names.{parts_behind, parts_elsewhere}
use Rattle.imago_file.proofs.name.lies_below.Goals as goal

pub returns-in-Ok : goal.returns-in-Ok
returns-in-Ok c =
    let folder = path_components c.args.folder.now in
    let strips : path_components c.args.path.now ≡ folder ++ path_components (path_bytes c.in-Ok.rest) = ap path_components (sym c.new.ensures) ∙ c.in-Ok.ensures.rest in
    c.stays_below.ensures ∙ ap stays_below c.as_os_str.ensures ∙ sym (parts_behind folder (path_components (path_bytes c.in-Ok.rest))) ∙ ap (λ parts. parts_lie_below folder parts) (sym strips)

pub returns-in-Err : goal.returns-in-Err
returns-in-Err c =
    sym (parts_elsewhere (path_components c.args.folder.now) (path_components c.args.path.now) (λ rest e.
    let never : false ≡ true = c.in-Err.ensures.succeeds.1 (rest, ap path_components c.new.ensures ∙ e) in
    cc))
