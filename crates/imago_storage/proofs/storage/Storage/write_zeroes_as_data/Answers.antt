-- SPDX-License-Identifier: MIT
use Rattle.std.proofs.Common.{◌≡◌, ℕ, ◌+◌, ◌-◌, ◌%◌, length, replicate, max, min, take, arith, refl, ap, ◌∙◌, inl, inr, IsErrOf}
use Rattle.std.proofs.lemmas.List.{length-replicate}
use Rattle.std.proofs.lemmas.Grind.{common_steps}
use Rattle.std.proofs.lemmas.Result.{err_from_is_err_and}
use Rattle.imago_storage.specs.Features.{len_align, zero_piece}
use Rattle.imago_storage.proofs.Alignment.{multiple_add}
use Rattle.imago_storage.proofs.Outcomes.{WriteOutcome_unchanged, WriteOutcome_ok, WriteOutcome_refused, CountsFaults_ok, CountsFaults_then}
use Rattle.imago_storage.proofs.Splices.{length-splice}
use Rattle.imago_storage.proofs.ZeroPieces.{next_piece, next_whole, zeroes_then, zero_front, OldOrNew_zeroes}
use Rattle.imago_storage.proofs.Work.{first_piece, next_piece_done, pieces_within, no_pieces}
use Rattle.imago_storage.specs.declared.error.Error.{Error}
use Rattle.imago_storage.specs.Steps.{IsPureWrite}
use Rattle.imago_storage.proofs.Steps.{pure_write, passed_on}
use Rattle.imago_storage.proofs.Orders.{some_piece, first_whole, next_whole_pieces, first_piece_made, first_piece_refused, next_piece_made, next_piece_refused}
use Rattle.imago_storage.proofs.storage.Storage.write_zeroes_as_data.Goals as goal

pub returns-then-remainder-ne0-clause-written : goal.returns-then-remainder-ne0-clause-written
returns-then-remainder-ne0-clause-written g c = WriteOutcome_unchanged _ _ _ _ _ refl (omega (arith, length-splice (g.Self.Storage.bytes c.args.self.now) c.args.offset (replicate {A = ℕ} c.args.count 0)))

pub returns-in_err-zeroes-clause-written : goal.returns-in_err-zeroes-clause-written
returns-in_err-zeroes-clause-written g c =
    let p = err_from_is_err_and c.from_residual.result c.from_residual.ensures.1 in
    WriteOutcome_unchanged _ _ _ _ _ p.1 (omega (arith, length-splice (g.Self.Storage.bytes c.args.self.now) c.args.offset (replicate {A = ℕ} c.args.count 0)))

pub pure_writev-requires : goal.pure_writev-requires
pure_writev-requires g c =
    let f = g.Self.Storage.features c.args.self.now in
    let whole : c.args.count % f.mem_align ≡ 0 = grind arith in
    let n : length c.deref.result.now ≡ min (max (len_align f) 1048576) (c.args.count - 0) = grind (arith, common_steps) in
    let at : c.args.offset ≡ c.args.offset + 0 = omega arith in
    rw (n, at) (next_piece f f c.args.offset c.args.count 0 refl (g.met.Self.Storage.lawful c.args.self.now) c.requires whole (grind arith) (omega arith) _ refl)

pub returns-in_err-pure_writev-clause-written : goal.returns-in_err-pure_writev-clause-written
returns-in_err-pure_writev-clause-written g c =
    let xs = g.Self.Storage.bytes c.args.self.now in
    let w : c.deref.result.now ≡ replicate {A = ℕ} c.min-first.result 0 = c.deref.ensures.value ∙ c.in_ok-zeroes.ensures.zeroes in
    let p = err_from_is_err_and c.from_residual-in_err-pure_writev.result c.from_residual-in_err-pure_writev.ensures.1 in
    WriteOutcome_refused _ _ _ _ _ _ _ _ _ c.in_err-pure_writev.was p.1 (OldOrNew_zeroes xs c.args.offset c.args.count c.min-first.result (omega arith)) (rw w at c.pure_writev.ensures.written)

pub loop-done-init : goal.loop-done-init
loop-done-init g c =
    let f = g.Self.Storage.features c.args.self.now in
    let whole : c.args.count % f.mem_align ≡ 0 = grind arith in
    let n : c.min-first.result ≡ min (max (len_align f) 1048576) (c.args.count - 0) = grind (arith, common_steps) in
    let w : c.deref.result.now ≡ replicate {A = ℕ} c.min-first.result 0 = c.deref.ensures.value ∙ c.in_ok-zeroes.ensures.zeroes in
    record {
      counted = omega arith;
      whole = rw n (next_whole f c.args.offset c.args.count 0 (g.met.Self.Storage.lawful c.args.self.now) c.requires whole (grind arith));
      features = c.in_ok-pure_writev.ensures.features;
      written = WriteOutcome_ok _ _ _ _ _ _ _ c.in_ok-pure_writev.was (rw w at c.pure_writev.ensures.written);
      cause = CountsFaults_ok _ _ _ _ tt c.pure_writev.ensures.cause;
      pieces = first_piece (zero_piece f) c.args.count c.min-first.result (omega (arith, n)) (rw (w, length-replicate {A = ℕ} c.min-first.result 0) at c.pure_writev.ensures.work);
      begun = λ more. omega (arith, n, some_piece f, more);
      whole_pieces = first_whole (zero_piece f) c.args.count c.min-first.result (omega (arith, n));
      made = first_piece_made (λ at n. IsPureWrite g.Self.Storage.features g.Self.Storage.bytes g.Self.Storage.maintenance at (replicate {A = ℕ} n 0)) (zero_piece f) c.args.offset c.min-first.result (some_piece f) (omega (arith, n)) (rw (w, c.in_ok-pure_writev.was) at (pure_write g.Self.Storage.features g.Self.Storage.bytes g.Self.Storage.maintenance c.pure_writev.ensures.performed c.pure_writev.ensures.written c.pure_writev.ensures.features));
    }

pub pure_writev-requires-in-loop-done : goal.pure_writev-requires-in-loop-done
pure_writev-requires-in-loop-done g c =
    let f = g.Self.Storage.features c.args.self.now in
    let whole : c.args.count % f.mem_align ≡ 0 = grind arith in
    let n : c.min-next.result ≡ min (max (len_align f) 1048576) (c.args.count - c.loop-done.done) = grind (arith, common_steps) in
    let w = zero_front c.deref-in-loop-done.result.now c.min-first.result c.min-next.result (c.deref-in-loop-done.ensures.value ∙ c.in_ok-zeroes.ensures.zeroes) (omega arith) in
    let k : length (take c.min-next.result c.deref-in-loop-done.result.now) ≡ c.min-next.result = ap length w ∙ length-replicate {A = ℕ} _ 0 in
    rw k (next_piece f (g.Self.Storage.features c.loop-done.self) c.args.offset c.args.count c.loop-done.done c.loop-done.invariant.features (g.met.Self.Storage.lawful c.args.self.now) c.requires whole c.loop-done.invariant.whole c.loop-done.invariant.counted _ n)

pub returns-in_err-pure_writev-2-clause-written : goal.returns-in_err-pure_writev-2-clause-written
returns-in_err-pure_writev-2-clause-written g c =
    let xs = g.Self.Storage.bytes c.args.self.now in
    let w = zero_front c.deref-in-loop-done.result.now c.min-first.result c.min-next.result (c.deref-in-loop-done.ensures.value ∙ c.in_ok-zeroes.ensures.zeroes) (omega arith) in
    let p = err_from_is_err_and c.from_residual-in_err-pure_writev-2.result c.from_residual-in_err-pure_writev-2.ensures.1 in
    let step = zeroes_then _ xs _ _ c.args.offset c.loop-done.done c.min-next.result _ _ _ c.loop-done.invariant.written refl (rw (w, c.loop-done.invariant.features) at c.pure_writev-in-loop-done.ensures.written) in
    WriteOutcome_refused _ _ _ _ _ _ _ _ _ c.in_err-pure_writev-2.was p.1 (OldOrNew_zeroes xs c.args.offset c.args.count (c.loop-done.done + c.min-next.result) (omega arith)) step

pub loop-done-preserved : goal.loop-done-preserved
loop-done-preserved g c =
    let f = g.Self.Storage.features c.args.self.now in
    let whole : c.args.count % f.mem_align ≡ 0 = grind arith in
    let n : c.min-next.result ≡ min (max (len_align f) 1048576) (c.args.count - c.loop-done.done) = grind (arith, common_steps) in
    let w = zero_front c.deref-in-loop-done.result.now c.min-first.result c.min-next.result (c.deref-in-loop-done.ensures.value ∙ c.in_ok-zeroes.ensures.zeroes) (omega arith) in
    let step = zeroes_then _ (g.Self.Storage.bytes c.args.self.now) _ _ c.args.offset c.loop-done.done c.min-next.result _ _ _ c.loop-done.invariant.written refl (rw (w, c.loop-done.invariant.features) at c.pure_writev-in-loop-done.ensures.written) in
    record {
      counted = omega arith;
      whole = multiple_add _ _ _ c.loop-done.invariant.whole (rw n (next_whole f c.args.offset c.args.count c.loop-done.done (g.met.Self.Storage.lawful c.args.self.now) c.requires whole c.loop-done.invariant.whole));
      features = c.in_ok-pure_writev-2.ensures.features ∙ c.loop-done.invariant.features;
      written = WriteOutcome_ok _ _ _ _ _ _ _ c.in_ok-pure_writev-2.was step;
      cause = CountsFaults_ok _ _ _ _ tt (CountsFaults_then _ _ _ _ _ _ _ (ap (λ f. f.is_reliable) c.loop-done.invariant.features) c.loop-done.invariant.cause c.pure_writev-in-loop-done.ensures.cause);
      pieces = next_piece_done (zero_piece f) c.args.count c.loop-done.done c.min-next.result (omega arith) n c.loop-done.invariant.pieces (rw (w, length-replicate {A = ℕ} c.min-next.result 0) at c.pure_writev-in-loop-done.ensures.work);
      begun = λ more. omega (arith, n, some_piece f);
      whole_pieces = next_whole_pieces (zero_piece f) c.args.count c.loop-done.done c.min-next.result (some_piece f) c.loop-done.invariant.whole_pieces (omega arith) n;
      made = next_piece_made (λ at n. IsPureWrite g.Self.Storage.features g.Self.Storage.bytes g.Self.Storage.maintenance at (replicate {A = ℕ} n 0)) (zero_piece f) c.args.offset c.args.count c.loop-done.done c.min-next.result (some_piece f) c.loop-done.invariant.whole_pieces (c.loop-done.invariant.begun (omega arith)) (omega arith) n c.loop-done.invariant.made
          (rw (w, c.in_ok-pure_writev-2.was) at (pure_write g.Self.Storage.features g.Self.Storage.bytes g.Self.Storage.maintenance c.pure_writev-in-loop-done.ensures.performed c.pure_writev-in-loop-done.ensures.written c.pure_writev-in-loop-done.ensures.features));
    }

pub returns-then-remainder-ne0-clause-performed : goal.returns-then-remainder-ne0-clause-performed
returns-then-remainder-ne0-clause-performed g c = record { work = no_pieces _ _ _; performed = inl (refl, inl refl) }

pub returns-in_err-zeroes-clause-performed : goal.returns-in_err-zeroes-clause-performed
returns-in_err-zeroes-clause-performed g c =
    let p = err_from_is_err_and c.from_residual.result c.from_residual.ensures.1 in
    let memory : IsErrOf c.from_residual.result Error.Memory = grind (arith, common_steps) in
    record { work = no_pieces _ _ _; performed = inl (refl, inr memory) }

pub returns-in_err-pure_writev-clause-performed : goal.returns-in_err-pure_writev-clause-performed
returns-in_err-pure_writev-clause-performed g c =
    let f = g.Self.Storage.features c.args.self.now in
    let n : c.min-first.result ≡ min (zero_piece f) c.args.count = grind (arith, common_steps) in
    let w : c.deref.result.now ≡ replicate {A = ℕ} c.min-first.result 0 = c.deref.ensures.value ∙ c.in_ok-zeroes.ensures.zeroes in
    let e = c.pure_writev.ensures in
    let same = passed_on _ _ _ c.in_err-pure_writev.was c.from_residual-in_err-pure_writev.ensures.1 in
    let write = pure_write g.Self.Storage.features g.Self.Storage.bytes g.Self.Storage.maintenance e.performed e.written e.features in
    record {
      work = pieces_within (zero_piece f) c.args.count c.min-first.result (omega arith) (first_piece (zero_piece f) c.args.count c.min-first.result n (rw (w, length-replicate {A = ℕ} c.min-first.result 0) at e.work));
      performed = inr (first_piece_refused (λ at n. IsPureWrite g.Self.Storage.features g.Self.Storage.bytes g.Self.Storage.maintenance at (replicate {A = ℕ} n 0)) (zero_piece f) c.args.offset c.args.count c.min-first.result n (rw w at write) c.in_err-pure_writev.was same);
    }

pub returns-in_err-pure_writev-2-clause-performed : goal.returns-in_err-pure_writev-2-clause-performed
returns-in_err-pure_writev-2-clause-performed g c =
    let f = g.Self.Storage.features c.args.self.now in
    let n : c.min-next.result ≡ min (zero_piece f) (c.args.count - c.loop-done.done) = grind (arith, common_steps) in
    let w = zero_front c.deref-in-loop-done.result.now c.min-first.result c.min-next.result (c.deref-in-loop-done.ensures.value ∙ c.in_ok-zeroes.ensures.zeroes) (omega arith) in
    let e = c.pure_writev-in-loop-done.ensures in
    let same = passed_on _ _ _ c.in_err-pure_writev-2.was c.from_residual-in_err-pure_writev-2.ensures.1 in
    let write = pure_write g.Self.Storage.features g.Self.Storage.bytes g.Self.Storage.maintenance e.performed e.written e.features in
    record {
      work = pieces_within (zero_piece f) c.args.count (c.loop-done.done + c.min-next.result) (omega arith)
          (next_piece_done (zero_piece f) c.args.count c.loop-done.done c.min-next.result (omega arith) n c.loop-done.invariant.pieces (rw (w, length-replicate {A = ℕ} c.min-next.result 0) at e.work));
      performed = inr (next_piece_refused (λ at n. IsPureWrite g.Self.Storage.features g.Self.Storage.bytes g.Self.Storage.maintenance at (replicate {A = ℕ} n 0)) (zero_piece f) c.args.offset c.args.count c.loop-done.done c.min-next.result (some_piece f) c.loop-done.invariant.whole_pieces (c.loop-done.invariant.begun (omega arith)) (omega arith) n c.loop-done.invariant.made (rw w at write) c.in_err-pure_writev-2.was same);
    }

pub returns-clause-performed : goal.returns-clause-performed
returns-clause-performed g c =
    let all : c.loop-done.done ≡ c.args.count = omega (arith, c.loop-done.invariant.counted, c.loop-done-test.false) in
    record {
      work = pieces_within _ _ _ c.loop-done.invariant.counted c.loop-done.invariant.pieces;
      performed = inr (rw all at c.loop-done.invariant.made);
    }

pub returns-clause-written : goal.returns-clause-written
returns-clause-written g c =
    let all : c.loop-done.done ≡ c.args.count = omega (arith, c.loop-done.invariant.counted, c.loop-done-test.false) in
    rw all at c.loop-done.invariant.written

pub returns-then-remainder-ne0-clause-unsupported : goal.returns-then-remainder-ne0-clause-unsupported
returns-then-remainder-ne0-clause-unsupported g c = grind (arith, common_steps)

pub returns-clause-unsupported : goal.returns-clause-unsupported
returns-clause-unsupported g c = grind (arith, common_steps)
