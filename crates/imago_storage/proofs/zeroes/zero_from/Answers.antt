-- SPDX-License-Identifier: MIT
use Rattle.std.proofs.Common.{arith, ◌≡◌, ℕ, ◌+◌, ◌-◌, ◌<◌, ◌≤◌, length, take, replicate, ap, refl, ◌∙◌}
use Rattle.std.proofs.lemmas.List.{length-take-le}
use Rattle.imago_storage.specs.Features.{len_align}
use Rattle.imago_storage.specs.Padding.{padded_end}
use Rattle.imago_storage.proofs.Outcomes.{RequestMayRunOut_more}
use Rattle.imago_storage.proofs.ZeroPieces.{zero_front}
use Rattle.imago_storage.proofs.ZeroRanges.{HasZeroed_written}
use Rattle.imago_storage.proofs.ZeroWraps.{padded_covers, padded_near}
use Rattle.imago_storage.proofs.zeroes.zero_from.Goals as goal

pub returns-clause-written : goal.returns-clause-written
returns-clause-written g c =
    let f = g.S.Storage.features c.args.storage.now in
    let n = c.args.count in
    let size : length (take n c.args.zeroes.now) ≡ n = length-take-le n c.args.zeroes.now c.requires.zeroes.enough in
    let zeroes : take n c.args.zeroes.now ≡ replicate {A = ℕ} n 0 = zero_front c.args.zeroes.now _ n c.requires.zeroes.zeroes c.requires.zeroes.enough in
    record {
      some = λ some. HasZeroed_written f _ _ c.args.offset n (padded_end f c.args.offset n) _ (padded_covers f c.args.offset n) (padded_near f c.args.offset n (g.met.S.Storage.lawful c.args.storage.now))
          (rw (size, zeroes) at (c.write_by.ensures.written (rw size some)));
      none = λ zero. (let e = c.write_by.ensures.empty (size ∙ zero) in (e.0, ap g.S.Storage.bytes e.1));
    }

pub returns-clause-memory : goal.returns-clause-memory
returns-clause-memory g c = λ m.
    let f = g.S.Storage.features c.args.storage.now in
    let xs = g.S.Storage.bytes c.args.storage.now in
    let n = c.args.count in
    let size : length (take n c.args.zeroes.now) ≡ n = length-take-le n c.args.zeroes.now c.requires.zeroes.enough in
    let near : padded_end f c.args.offset n < c.args.offset + n + len_align f = padded_near f c.args.offset n (g.met.S.Storage.lawful c.args.storage.now) in
    let longer : length xs ≤ length xs = omega arith in
    let end : padded_end f c.args.offset n ≤ c.args.offset + n + (len_align f - 1) = omega (arith, near) in
    RequestMayRunOut_more f f _ _ _ _ refl longer end (rw size at (c.write_by.ensures.memory m))

pub returns-clause-performed : goal.returns-clause-performed
returns-clause-performed g c =
    let n = c.args.count in
    let size : length (take n c.args.zeroes.now) ≡ n = length-take-le n c.args.zeroes.now c.requires.zeroes.enough in
    let zeroes : take n c.args.zeroes.now ≡ replicate {A = ℕ} n 0 = zero_front c.args.zeroes.now _ n c.requires.zeroes.zeroes c.requires.zeroes.enough in
    record {
      made = λ fits. rw zeroes at (c.write_by.ensures.performed (rw size fits));
      wraps = λ wraps. c.write_by.ensures.nothing (rw size wraps);
    }
