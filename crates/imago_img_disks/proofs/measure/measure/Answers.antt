-- SPDX-License-Identifier: MIT
use Rattle.imago_img_disks.specs.Measures.{lengths_text}
use Rattle.imago_img_disks.proofs.Measures.{measured}
use Rattle.imago_img_disks.proofs.measure.measure.Goals as goal

pub returns-in-Ok : goal.returns-in-Ok
returns-in-Ok g c =
    let lengths = c.in_ok-lengths.lengths in
    let json = c.is_json.result in (
      lengths_text json lengths.required lengths.full,
      c.in-Ok.ensures,
      measured c.args.asked (g.H.Files.contents c.args.host.now) json lengths.required lengths.full c.is_json.ensures c.in_ok-lengths.ensures,
    )
