-- SPDX-License-Identifier: MIT
use Rattle.std.proofs.Common.{rules, arith, ap, ◌∙◌, ◌≡◌, ◌-◌, ◌++◌, length, min, take, drop, replicate}
use Rattle.std.specs.Fmt.{decimal}
use Rattle.std.proofs.lemmas.Fmt.{length-decimal-le}
use Rattle.std.proofs.lemmas.List.{length-take}
use Rattle.imago_img_disks.proofs.TextSteps.{digits_of, first_of_mid}
use Rattle.imago_img_disks.proofs.text.Text.put_number.Goals as goal

pub write_digits-start-requires : goal.write_digits-start-requires
write_digits-start-requires c = search (rules, length-decimal-le 20)

pub returns-clause-text : goal.returns-clause-text
returns-clause-text c =
    let start = c.write_digits-start.result in
    let put = c.copy_from_slice.new.self in
    let text : drop start c.write_digits-start.new.buf ≡ decimal c.args.number ++ replicate 21 32 = c.write_digits-start.ensures.written in
    let few = c.write_digits-start.ensures.start in
    let is : take (20 - start) put ≡ decimal c.args.number = ap (take (20 - start)) c.copy_from_slice.ensures.after ∙ digits_of _ _ (20 - start) c.args.number text (omega arith) (omega (arith, few)) (omega arith) in
    let long : length (take (20 - start) put) ≡ min (20 - start) (length put) = length-take (20 - start) put in
    first_of_mid _ _ (20 - start) _ _ put (omega (arith, few)) (omega (arith, few, long, ap length is)) (search rules) ∙ ap (λ t. take c.args.self.now.count c.args.self.now.bytes ++ t) is
