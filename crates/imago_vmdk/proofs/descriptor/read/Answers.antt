-- SPDX-License-Identifier: MIT
use Rattle.std.proofs.Common.{◌≡◌, Some, map, length, true, false, rules, ◌∙◌}
use Rattle.std.specs.String.{string_bytes}
use Rattle.imago_vmdk.specs.Text.{lines_of}
use Rattle.imago_vmdk.specs.Line.{extent_with}
use Rattle.imago_vmdk.specs.Reading.{lines_say, reading_of, is_length, is_sparse}
use Rattle.imago_vmdk.proofs.Lines.{disk_by_parts, disk_sum, sum_of_views}
use Rattle.imago_vmdk.proofs.descriptor.read.Goals as goal

pub returns-clause-reading : goal.returns-clause-reading
unfolding reading_of
returns-clause-reading c =
    let r = lines_say c.args.accepted (lines_of c.args.text.now) in
    let es = map (extent_with string_bytes) c.in_ok-extents.extents.items in
    let size = c.in_ok-size.ensures r c.in_ok-version.ensures.found in
    let some : c.in_ok-version.field-0.extents ≡ Some c.in_ok-extents.extents = search rules in
    let found = rw some at c.in_ok-version.ensures.extents in
    let whole = disk_by_parts r c.in_ok-size.size es size found in
    let long : is_length (length c.args.text.now) ≡ true = search rules in
    let text : is_sparse c.args.text.now ≡ false = search rules in
    rw (long, text) whole

pub returns-clause-size : goal.returns-clause-size
returns-clause-size c =
    let r = lines_say c.args.accepted (lines_of c.args.text.now) in
    let es = map (extent_with string_bytes) c.in_ok-extents.extents.items in
    let size = c.in_ok-size.ensures r c.in_ok-version.ensures.found in
    let some : c.in_ok-version.field-0.extents ≡ Some c.in_ok-extents.extents = search rules in
    let found = rw some at c.in_ok-version.ensures.extents in
    let sum = disk_sum r c.in_ok-size.size es size found in
    (sum.0 ∙ sum_of_views string_bytes c.in_ok-extents.extents.items, sum.1)
