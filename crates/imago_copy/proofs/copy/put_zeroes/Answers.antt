-- SPDX-License-Identifier: MIT
use Rattle.std.proofs.Common.{◌+◌, ◌≤◌, arith}
use Rattle.imago_copy.proofs.Copies.{on_error, partly_gathered, partly_tail, partly_within, put_gathered, put_tail}
use Rattle.imago_copy.proofs.copy.put_zeroes.Goals as goal

pub returns-in_err-put_held-clause-refused : goal.returns-in_err-put_held-clause-refused
returns-in_err-put_held-clause-refused g c = λ at p s held zero.
    let more : p ≤ p + c.args.count = omega arith in
    on_error _ _ (partly_within at p (p + c.args.count) s _ more (partly_gathered at p c.args.held s _ _ c.args.buf.now held c.in_err-put_held.ensures.refused))

pub returns-in_err-append_zeroes-clause-refused : goal.returns-in_err-append_zeroes-clause-refused
returns-in_err-append_zeroes-clause-refused g c = λ at p s held zero.
    on_error _ _ (partly_tail at p c.args.count s _ _ zero (put_gathered at p c.args.held s _ _ c.args.buf.now held c.in_ok-put_held.ensures.appended) c.in_err-append_zeroes.ensures.refused)

pub returns-clause-put : goal.returns-clause-put
returns-clause-put g c = λ at p s held zero.
    put_tail at p c.args.count s _ _ zero (put_gathered at p c.args.held s _ _ c.args.buf.now held c.in_ok-put_held.ensures.appended) c.in_ok-append_zeroes.ensures.appended
