-- SPDX-License-Identifier: MIT
use Rattle.std.proofs.Common.{◌≡◌, ◌++◌, List, [], ℕ, OnOk, codes, subst, ap, ◌∙◌}
use Rattle.std.specs.Fmt.{decimal}
use Rattle.std.specs.Io.KnownBytes.{Appends}
use Rattle.imago_img_disks.specs.Lines.{kind_members, members_in}
use Rattle.imago_img_disks.specs.Text.{text_of}
use Rattle.imago_img_disks.proofs.TextSteps.{behind, seven_parts, three_before}
use Rattle.imago_img_disks.proofs.lines.print_object.Goals as goal

pub returns-in_default : goal.returns-in_default
returns-in_default g c =
    let line = c.args.line in
    let rest : List ℕ = [] ++ codes "}" in
    let kind : text_of c.put-4.new.self ≡ text_of c.put_number-3.new.self ++ kind_members line.kind
    = c.put-4.ensures.text ∙ ap (λ (k : List ℕ). text_of c.put_number-3.new.self ++ k) c.kind_members.ensures.members in
    let all = seven_parts (text_of c.new-text.result) (text_of c.put.new.self) (text_of c.put_number.new.self) (text_of c.put-2.new.self) (text_of c.put_number-2.new.self) (text_of c.put-3.new.self) (text_of c.put_number-3.new.self) (text_of c.put-4.new.self)
    (codes "{ \"start\": ") (decimal line.start) (codes ", \"length\": ") (decimal line.length) (codes ", \"depth\": ") (decimal line.depth) (kind_members line.kind) rest
    c.new-text.ensures.text c.put.ensures.text c.put_number.ensures.text c.put-2.ensures.text c.put_number-2.ensures.text c.put-3.ensures.text c.put_number-3.ensures.text kind in
    rw c.in_default.is
    (subst (λ (t : List ℕ). OnOk c.print_with.result (Appends (g.W.Write.contents c.args.output.now) (g.W.Write.contents c.print_with.new.output) t)) all c.print_with.ensures)

pub returns : goal.returns
unfolding members_in
returns g c =
    let line = c.args.line in
    let file = c.in-Some.file.now in
    let offset = c.in-Some.offset in
    let end : List ℕ = codes "}" in
    let at : List ℕ = codes ", \"offset\": " in
    let name : List ℕ = codes ", \"filename\": " in
    let kind : text_of c.put-4.new.self ≡ text_of c.put_number-3.new.self ++ kind_members line.kind
    = c.put-4.ensures.text ∙ ap (λ (k : List ℕ). text_of c.put_number-3.new.self ++ k) c.kind_members.ensures.members in
    let all = seven_parts (text_of c.new-text.result) (text_of c.put.new.self) (text_of c.put_number.new.self) (text_of c.put-2.new.self) (text_of c.put_number-2.new.self) (text_of c.put-3.new.self) (text_of c.put_number-3.new.self) (text_of c.put-4.new.self)
    (codes "{ \"start\": ") (decimal line.start) (codes ", \"length\": ") (decimal line.length) (codes ", \"depth\": ") (decimal line.depth) (kind_members line.kind) (members_in file offset ++ end)
    c.new-text.ensures.text c.put.ensures.text c.put_number.ensures.text c.put-2.ensures.text c.put_number-2.ensures.text c.put-3.ensures.text c.put_number-3.ensures.text kind in
    let last : text_of c.put-6.new.self ++ (c.as_bytes.result.now ++ end) ≡ text_of c.put-4.new.self ++ (members_in file offset ++ end)
    = ap (λ (n : List ℕ). text_of c.put-6.new.self ++ (n ++ end)) c.as_bytes.ensures.value
    ∙ behind (text_of c.put-6.new.self) (text_of c.put_number-4.new.self) name (file ++ end) c.put-6.ensures.text
    ∙ behind (text_of c.put_number-4.new.self) (text_of c.put-5.new.self) (decimal offset) (name ++ (file ++ end)) c.put_number-4.ensures.text
    ∙ behind (text_of c.put-5.new.self) (text_of c.put-4.new.self) at (decimal offset ++ (name ++ (file ++ end))) c.put-5.ensures.text
    ∙ ap (λ (x : List ℕ). text_of c.put-4.new.self ++ x) (three_before at (decimal offset) name file end) in
    rw c.in-Some.is
    (subst (λ (t : List ℕ). OnOk c.print_with-2.result (Appends (g.W.Write.contents c.args.output.now) (g.W.Write.contents c.print_with-2.new.output) t)) (last ∙ all) c.print_with-2.ensures)
