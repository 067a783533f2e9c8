-- SPDX-License-Identifier: MIT
use Rattle.std.specs.Prelude.{option_map}
use Rattle.imago_img_files.specs.Openings.{how_by, image_format}
use Rattle.imago_img_parts.proofs.Told.{told_apart, told_by}
use Rattle.imago_img_parts.proofs.run.compare.Goals as goal

pub returns : goal.returns
returns g c =
    let contents = g.H.Files.contents c.args.host.now in
    let asked = c.args.asked in (
      c.are_alike.result,
      c.outcome_of.ensures,
      told_by c.how_to_open-how.result (how_by asked.first_format asked.opening)
          c.said_format-other.result (option_map image_format asked.second_format)
          c.how_to_open-how.ensures c.said_format-other.ensures asked.same_size contents
          asked.first.now asked.second.now c.are_alike.result
          (told_apart c.how_to_open-how.result c.said_format-other.result asked.same_size contents
          asked.first.now asked.second.now c.in_ok-found.found.sizes.0 c.in_ok-found.found.sizes.1
          c.in_ok-found.found.difference c.are_alike.result c.are_alike.ensures
          c.in_ok-found.ensures),
    )
