-- SPDX-License-Identifier: MIT
use Rattle.std.proofs.Common.{IfSome, Option, subst}
use Rattle.imago_images.specs.declared.format.ImageFormat.{ImageFormat}
use Rattle.imago_images.specs.Formats.{IsFormatBy}
use Rattle.imago_img_checks.proofs.VetSteps.{decides_no, not_decided}
use Rattle.imago_img_checks.proofs.VetLaws.{safe_as, seen_as, short_as}
use Rattle.imago_img_checks.proofs.vet.vet_file.Goals as goal

pub returns-in_default : goal.returns-in_default
returns-in_default g c = λ bytes has. decides_no
    (λ v. c.in_ok-format.ensures.untold bytes has c.in_default.is v.format v.is_format)

pub returns-then-not-one : goal.returns-then-not-one
returns-then-not-one g c = λ bytes has. decides_no
    (λ v. not_decided c.in_ok-one.one c.if-not-one.true (c.in_ok-one.ensures bytes has) v.one)

pub returns-then-not-seen : goal.returns-then-not-seen
returns-then-not-seen g c = λ bytes has. decides_no (λ v.
    let is = subst (λ (o : Option ImageFormat). IfSome o (IsFormatBy c.args.how.format c.args.path.now bytes))
    c.in-Some.is (c.in_ok-format.ensures.told bytes has) in
    not_decided c.in_ok-seen.seen c.if-not-seen.true (c.in_ok-seen.ensures bytes has)
    (seen_as c.args.how c.args.path.now bytes v c.in-Some.format is))

pub returns-then-not-short : goal.returns-then-not-short
returns-then-not-short g c = λ bytes has. decides_no (λ v.
    let is = subst (λ (o : Option ImageFormat). IfSome o (IsFormatBy c.args.how.format c.args.path.now bytes))
    c.in-Some.is (c.in_ok-format.ensures.told bytes has) in
    not_decided c.in_ok-short.short c.if-not-short.true
    (c.in_ok-short.ensures bytes has (safe_as c.args.how c.args.path.now bytes v c.in-Some.format is))
    (short_as c.args.how c.args.path.now bytes v c.in-Some.format is))

-- each part of the record, from what was looked at
pub returns : goal.returns
returns g c = λ bytes has.
    let is = subst (λ (o : Option ImageFormat). IfSome o (IsFormatBy c.args.how.format c.args.path.now bytes))
    c.in-Some.is (c.in_ok-format.ensures.told bytes has) in
    let all = c.in_ok-safe.ensures bytes has in (
      (λ safe. record {
        one = (c.in_ok-one.ensures bytes has).0 c.if-not-one.false;
        format = c.in-Some.format;
        is_format = is;
        seen = (c.in_ok-seen.ensures bytes has).0 c.if-not-seen.false;
        longest = (c.in_ok-short.ensures bytes has (all.0 safe)).0 c.if-not-short.false;
        safe = all.0 safe;
      }),
      (λ v. all.1 (safe_as c.args.how c.args.path.now bytes v c.in-Some.format is)),
    )
