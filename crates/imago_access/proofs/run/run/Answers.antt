-- SPDX-License-Identifier: MIT
use Rattle.std.proofs.Common.{arith, ◌≡◌, ◌+◌, ◌++◌, ◌∷◌, [], take, sym, ap, ◌∙◌, append_assoc}
use Rattle.std.proofs.lemmas.List.{take_more, take_all}
use Rattle.imago_access.proofs.Flat.{flat_history}
use Rattle.imago_access.proofs.RunSteps.{run_more}
use Rattle.imago_access.proofs.run.run.Goals as goal

pub loop-call-preserved : goal.loop-call-preserved
loop-call-preserved g c =
    let r = c.loop-call.invariant.run in
    let items : c.push.new.self.items ≡ c.loop-call.replies.items ++ c.step-reply.result ∷ [] = c.in-Ok.ensures.items in
    let calls : take (c.loop-call.call-index + 1) c.args.calls.now ≡ take c.loop-call.call-index c.args.calls.now ++ c.call-item.result ∷ [] = take_more c.args.calls.now c.loop-call.call-index c.call-item.result (omega arith) ∙ ap (λ x. take c.loop-call.call-index c.args.calls.now ++ x ∷ []) (sym c.call-item.is) in
    record {
      spent = c.step-reply.ensures.spent;
      room = omega (arith, c.in-Ok.ensures.len, c.in-Ok.ensures.capacity, c.loop-call.invariant.room);
      run = (r.0 ++ c.step-reply.result ∷ [], items ∙ ap (λ xs. xs ++ c.step-reply.result ∷ []) r.1 ∙ append_assoc c.args.replies.now.items r.0 (c.step-reply.result ∷ []), rw calls (run_more g.D.FormatDriverInstance.view g.D.FormatDriverInstance.calls c.args.image.now c.loop-call.image c.step-reply.new.image (take c.loop-call.call-index c.args.calls.now) r.0 c.call-item.result c.step-reply.result r.2 c.step-reply.ensures.step));
    }

pub returns-clause-history : goal.returns-clause-history
returns-clause-history g c = λ keeps.
    let l = c.loop-call in
    let r = l.invariant.run in
    let all : take l.call-index c.args.calls.now ≡ c.args.calls.now = take_all l.call-index c.args.calls.now (omega arith) in
    (r.0, r.1, flat_history g.D.FormatDriverInstance.view g.met.D.FormatDriverInstance.lawful g.met.D.FormatDriverInstance.causes_lawful g.D.FormatDriverInstance.calls c.args.image.now l.image c.args.calls.now r.0 keeps (rw all at r.2))
