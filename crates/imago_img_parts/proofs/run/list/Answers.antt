-- SPDX-License-Identifier: MIT
use Rattle.std.proofs.Common.{refl}
use Rattle.imago_img_files.specs.Openings.{how_by}
use Rattle.imago_img_files.specs.Printed.{is_json}
use Rattle.imago_img_parts.proofs.Told.{mapped_as_said}
use Rattle.imago_img_parts.proofs.run.list.Goals as goal

pub returns : goal.returns
returns g c =
    let (text, appended, told) = c.in_ok-map_image.ensures in (
      refl,
      (
        text,
        appended,
        mapped_as_said c.how_to_open-how.result (how_by c.args.asked.format c.args.asked.opening) c.how_to_open-how.ensures
            c.is_json.result (is_json c.args.asked.output) c.is_json.ensures (g.H.Files.contents c.args.host.now) c.args.asked.file.now text told,
      ),
    )
