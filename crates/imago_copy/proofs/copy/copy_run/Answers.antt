-- SPDX-License-Identifier: MIT
use Rattle.std.proofs.Common.{◌≡◌, ◌+◌, ◌-◌, ◌<◌, ◌≤◌, ◌∙◌, ℕ, ap, sym, subst, arith}
use Rattle.imago_drivers.specs.Place.{Byte}
use Rattle.imago_access.specs.Chain.{disk_value}
use Rattle.imago_access.specs.ReaderOf.{image_of}
use Rattle.imago_copy.specs.Copies.{IsGathered, IsPut}
use Rattle.imago_copy.proofs.Copies.{on_error, gathered_put, partly_within, zero_as}
use Rattle.imago_copy.proofs.copy.copy_run.Goals as goal

pub returns-in_err-room-clause-refused : goal.returns-in_err-room-clause-refused
returns-in_err-room-clause-refused g c = λ tells s held.
    let value = disk_value g.D.FormatDriverInstance.view (image_of c.args.reader.now) in
    let run = c.args.run in
    let more : run.at ≤ run.at + run.count = omega arith in
    on_error _ _ (partly_within value run.at (run.at + run.count) s _ more (c.in_err-room.ensures.refused value run.at s held))

pub returns-in_err-done-clause-refused : goal.returns-in_err-done-clause-refused
returns-in_err-done-clause-refused g c = λ tells s held.
    let value = disk_value g.D.FormatDriverInstance.view (image_of c.args.reader.now) in
    on_error _ _ (c.in_err-done.ensures.refused tells s (c.in_ok-room.ensures.put value c.args.run.at s held))

pub returns-then-done-run-clause-put : goal.returns-then-done-run-clause-put
returns-then-done-run-clause-put g c = λ tells s held.
    let value = disk_value g.D.FormatDriverInstance.view (image_of c.args.reader.now) in
    let run = c.args.run in
    let all : run.at + c.in_ok-done.done ≡ run.at + run.count = omega (arith, c.if-done-run.true) in
    subst (λ (p : ℕ). IsGathered value p s (g.T.Target.contents c.copy_data.new.target) c.copy_data.new.buf c.in_ok-done.held) all
    (c.in_ok-done.ensures.put tells s (c.in_ok-room.ensures.put value run.at s held))

pub returns-in_err-put_zeroes-clause-refused : goal.returns-in_err-put_zeroes-clause-refused
returns-in_err-put_zeroes-clause-refused g c = λ tells s held.
    let view = g.D.FormatDriverInstance.view in
    let x = image_of c.args.reader.now in
    let value = disk_value view x in
    let run = c.args.run in
    let done = c.in_ok-done.done in
    let zero = zero_as view c.image.result.now x run.at c.data_count-data.result run.count c.image.ensures c.data_count-data.ensures.zero in
    let left : (i : ℕ) → i < run.count - done → value (run.at + done + i) ≡ Byte 0 = λ i lt.
    let place : run.at + (done + i) ≡ run.at + done + i = omega arith in
    ap value (sym place) ∙ zero (done + i) (omega (arith, c.in_ok-done.ensures.least)) (omega (arith, lt)) in
    let all : run.at + done + (run.count - done) ≤ run.at + run.count = omega (arith, c.in_ok-done.ensures.within) in
    on_error _ _ (partly_within value (run.at + done + (run.count - done)) (run.at + run.count) s _ all
    (c.in_err-put_zeroes.ensures.refused value (run.at + done) s (c.in_ok-done.ensures.put tells s (c.in_ok-room.ensures.put value run.at s held)) left))

pub returns-clause-put : goal.returns-clause-put
returns-clause-put g c = λ tells s held.
    let view = g.D.FormatDriverInstance.view in
    let x = image_of c.args.reader.now in
    let value = disk_value view x in
    let run = c.args.run in
    let done = c.in_ok-done.done in
    let zero = zero_as view c.image.result.now x run.at c.data_count-data.result run.count c.image.ensures c.data_count-data.ensures.zero in
    let left : (i : ℕ) → i < run.count - done → value (run.at + done + i) ≡ Byte 0 = λ i lt.
    let place : run.at + (done + i) ≡ run.at + done + i = omega arith in
    ap value (sym place) ∙ zero (done + i) (omega (arith, c.in_ok-done.ensures.least)) (omega (arith, lt)) in
    let all : run.at + done + (run.count - done) ≡ run.at + run.count = omega (arith, c.in_ok-done.ensures.within) in
    gathered_put value (run.at + run.count) s _ c.copy_data.new.buf
    (subst (λ (p : ℕ). IsPut value 0 p s (g.T.Target.contents c.put_zeroes.new.target)) all
    (c.in_ok-put_zeroes.ensures.put value (run.at + done) s (c.in_ok-done.ensures.put tells s (c.in_ok-room.ensures.put value run.at s held)) left))
