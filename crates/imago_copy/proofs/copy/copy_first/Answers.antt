-- SPDX-License-Identifier: MIT
use Rattle.std.proofs.Common.{◌≡◌, ◌+◌, ◌-◌, ◌≤◌, length, arith}
use borrow.Rule.Slice.PartMut.{mid_of, mid_len}
use Rattle.imago_access.specs.Chain.{disk_value}
use Rattle.imago_access.specs.ReaderOf.{image_of}
use Rattle.imago_copy.proofs.Copies.{on_error, gathered_more, partly_held}
use Rattle.imago_copy.proofs.copy.copy_first.Goals as goal

pub returns-then-count-eq0-clause-refused : goal.returns-then-count-eq0-clause-refused
returns-then-count-eq0-clause-refused g c = λ tells s held.
    let value = disk_value g.D.FormatDriverInstance.view (image_of c.args.reader.now) in
    let p = c.args.run.at + c.args.done in
    let all : p ≤ p = omega arith in
    partly_held value p p c.in_ok-start.start s _ c.args.buf.now all (c.in_ok-start.ensures.put value p s held)

pub returns-in_err-read_run-clause-refused : goal.returns-in_err-read_run-clause-refused
returns-in_err-read_run-clause-refused g c = λ tells s held.
    let value = disk_value g.D.FormatDriverInstance.view (image_of c.args.reader.now) in
    let p = c.args.run.at + c.args.done in
    let all : p ≤ p = omega arith in
    on_error _ _ (partly_held value p p c.in_ok-start.start s _ c.args.buf.now all (c.in_ok-start.ensures.put value p s held))

pub returns-clause-put : goal.returns-clause-put
returns-clause-put g c = λ tells s held.
    let value = disk_value g.D.FormatDriverInstance.view (image_of c.args.reader.now) in
    let p = c.args.run.at + c.args.done in
    let start = c.in_ok-start.start in
    let count = c.min-count.result in
    let chunk = c.read_run.new.buf in
    let mid : length chunk ≡ length (mid_of start (start + count - start) c.args.buf.now) = c.read_run.auto.buf in
    let room : start + count ≤ length c.args.buf.now = omega (arith, c.min-count.ensures, c.in_ok-start.ensures.held) in
    let cut : length (mid_of start (start + count - start) c.args.buf.now) ≡ start + count - start = mid_len start (start + count) c.args.buf.now room in
    let len : length chunk ≡ count = omega (arith, mid, cut) in
    gathered_more value p start count _ s _ c.args.buf.now chunk len mid room (c.in_ok-read_run.ensures.bytes tells) (c.in_ok-start.ensures.put value p s held)
