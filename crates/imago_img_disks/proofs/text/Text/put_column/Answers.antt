-- SPDX-License-Identifier: MIT
use Rattle.std.proofs.Common.{rules, arith, length, ap, ◌∙◌, ◌≡◌, ◌≤◌, ◌++◌, take, drop, replicate}
use Rattle.std.specs.Fmt.{decimal}
use Rattle.std.proofs.lemmas.Fmt.{length-decimal-le}
use Rattle.std.proofs.lemmas.Slice.{take-put_mid}
use Rattle.imago_img_disks.specs.Lines.{column}
use Rattle.imago_img_disks.proofs.TextSteps.{column_of, column_length}
use Rattle.imago_img_disks.proofs.text.Text.put_column.Goals as goal

pub write_digits-start-requires : goal.write_digits-start-requires
write_digits-start-requires c = search (rules, length-decimal-le 20)

pub returns-clause-text : goal.returns-clause-text
returns-clause-text c =
    let start = c.write_digits-start.result in
    let put = c.copy_from_slice.new.self in
    let text : drop start c.write_digits-start.new.buf ≡ decimal c.args.number ++ replicate 21 32 = c.write_digits-start.ensures.written in
    let is : put ≡ column c.args.number = c.copy_from_slice.ensures.after ∙ column_of _ _ c.args.number text (omega arith) (omega (arith, c.write_digits-start.ensures.start)) in
    let few : length (decimal c.args.number) ≤ 20 = omega (arith, c.write_digits-start.ensures.start) in
    let count : length put ≡ 21 = ap length is ∙ column_length c.args.number few in
    take-put_mid _ _ _ put _ (omega (arith, count)) (search rules) ∙ ap (λ t. take c.args.self.now.count c.args.self.now.bytes ++ t) is
