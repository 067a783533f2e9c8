-- SPDX-License-Identifier: MIT
use Rattle.std.proofs.Common.{refl}
use Rattle.imago_img_files.specs.Openings.{how_by}
use Rattle.imago_img_parts.proofs.Told.{checked_as_said}
use Rattle.imago_img_parts.proofs.run.look_for_faults.Goals as goal

pub returns : goal.returns
returns g c = (
  c.in_ok-verdict.verdict,
  refl,
  checked_as_said c.how_to_open-how.result (how_by c.args.asked.format c.args.asked.opening)
      c.how_to_open-how.ensures (g.H.Files.contents c.args.host.now) c.args.asked.file.now
      c.in_ok-verdict.verdict c.in_ok-verdict.ensures,
)
