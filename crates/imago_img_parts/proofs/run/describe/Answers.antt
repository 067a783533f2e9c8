-- SPDX-License-Identifier: MIT
use Rattle.std.proofs.Common.{refl, subst}
use Rattle.std.specs.Prelude.{Bool, IfSome, List}
use Rattle.imago_img_files.specs.Described.{IsDescribed}
use Rattle.imago_img_files.specs.Openings.{how_by}
use Rattle.imago_img_files.proofs.DescribedSteps.{described_as_said}
use Rattle.imago_img_parts.proofs.run.describe.Goals as goal

pub returns : goal.returns
returns g c =
    let how = how_by c.args.asked.format c.args.asked.opening in
    let contents = g.H.Files.contents c.args.host.now in
    let path = c.args.asked.file.now in
    let (text, appended, told) = c.in_ok-info.ensures in (
      refl,
      (
        text,
        appended,
        subst (λ (json : Bool). IfSome contents (λ files. IsDescribed how json path (files path) text)) c.is_json.ensures
            (described_as_said c.how_to_open-how.result how c.how_to_open-how.ensures c.is_json.result contents path text told),
      ),
    )
