-- SPDX-License-Identifier: MIT
use Rattle.std.proofs.Common.{sym, subst}
use Rattle.imago_images.specs.declared.format.ImageFormat.{ImageFormat}
use Rattle.imago_img_files.specs.Described.{IsReportOf}
use Rattle.imago_img_files.proofs.info.report_on.Goals as goal

pub returns : goal.returns
returns g c = λ bytes has.
    let report = c.in_ok-report.report in
    subst (λ (f : ImageFormat). IsReportOf c.args.how c.args.path.now bytes f report.size) (sym c.in_ok-report.ensures.format) record {
      is_format = c.in_ok-format.ensures.told bytes has;
      is_size = c.in_ok-report.ensures.size bytes has;
      one = c.in_ok-refuse_another.ensures.one bytes has;
      longest = c.in_ok-refuse_longer.ensures.within bytes has;
      alone = c.in_ok-report.ensures.alone bytes has;
    }
