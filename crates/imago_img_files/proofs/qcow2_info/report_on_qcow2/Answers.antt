-- SPDX-License-Identifier: MIT
use Rattle.std.proofs.Common.{rules, ◌≡◌, Ok}
use Rattle.imago_qcow2.specs.Entry.{disk_size}
use Rattle.imago_images.proofs.NameSteps.{passed_on}
use Rattle.imago_img_files.proofs.qcow2_info.report_on_qcow2.Goals as goal

pub returns-clause-size : goal.returns-clause-size
returns-clause-size g c = λ bytes has.
    let head = c.in_ok-head.head in
    let length = c.in_ok-head.length in
    let found : c.told_by_host.result ≡ Ok (head, length) = search rules in
    passed_on c.read_head-read.result c.told_by_host.result (head, length) (λ x. x.0.header.size ≡ disk_size bytes) (c.read_head-read.ensures bytes has)
    c.told_by_host.ensures found
