-- SPDX-License-Identifier: MIT
use Rattle.std.proofs.Common.{◌≡◌, ℕ, ◌+◌, ◌-◌, ◌*◌, ◌%◌, ◌<◌, ◌≤◌, max, min, arith, ◌∙◌}
use Rattle.std.proofs.Math.Nat.{add-mul}
use Rattle.imago_storage.specs.Features.{Features, AreLawful, len_align}
use Rattle.imago_storage.specs.IoCount.{IoCount, AddsAtMost, IsWriteWork, IsInPieces, IsEdgedWork}
use Rattle.imago_storage.specs.Padding.{padded_length}
use Rattle.imago_storage.proofs.Alignment.{power_positive}
use Rattle.imago_storage.proofs.Padding.{next_below, len_positive}

-- work one after the other
pub adds_then : {old mid new : IoCount} {r rb w wb s sb v vb : ℕ} (t tb u ub : ℕ) → AddsAtMost r rb w wb old mid → AddsAtMost s sb v vb mid new
    → r + s ≤ t → rb + sb ≤ tb → w + v ≤ u → wb + vb ≤ ub → AddsAtMost t tb u ub old new
adds_then t tb u ub a b reads bytes_read writes bytes_written = record {
  reads = omega (arith, a.reads, b.reads, reads);
  bytes_read = omega (arith, a.bytes_read, b.bytes_read, bytes_read);
  writes = omega (arith, a.writes, b.writes, writes);
  bytes_written = omega (arith, a.bytes_written, b.bytes_written, bytes_written);
  longest_write = omega (arith, a.longest_write, b.longest_write, bytes_written);
}

pub adds_more : {old new : IoCount} {r rb w wb : ℕ} (t tb u ub : ℕ) → AddsAtMost r rb w wb old new
    → r ≤ t → rb ≤ tb → w ≤ u → wb ≤ ub → AddsAtMost t tb u ub old new
adds_more t tb u ub a reads bytes_read writes bytes_written = record {
  reads = omega (arith, a.reads, reads);
  bytes_read = omega (arith, a.bytes_read, bytes_read);
  writes = omega (arith, a.writes, writes);
  bytes_written = omega (arith, a.bytes_written, bytes_written);
  longest_write = omega (arith, a.longest_write, bytes_written);
}

pub adds_nothing : (t tb u ub : ℕ) (old : IoCount) → AddsAtMost t tb u ub old old
adds_nothing t tb u ub old = record {
  reads = omega arith;
  bytes_read = omega arith;
  writes = omega arith;
  bytes_written = omega arith;
  longest_write = omega arith;
}

-- an aligned write is the work of any
pub write_direct : (f : Features) (at n : ℕ) {old new : IoCount} → n ≤ padded_length f at n → AddsAtMost 0 0 1 n old new → IsWriteWork f at n old new
write_direct f at n within w = adds_more _ _ _ _ w (omega arith) (omega arith) (omega arith) within

-- a padded request is less than two blocks longer
pub padded_less : (f : Features) (at n : ℕ) → AreLawful f → padded_length f at n ≤ n + 2 * len_align f
padded_less f at n a =
    let r : 0 < f.req_align = power_positive f.req_align a.req in
    omega (arith, next_below (at % f.req_align + n) (len_align f) (len_positive f a))

pub write_loose : (f : Features) (at n : ℕ) {old new : IoCount} → AreLawful f → IsWriteWork f at n old new → AddsAtMost 2 (2 * len_align f) 3 (n + 2 * len_align f) old new
write_loose f at n a w = adds_more _ _ _ _ w (omega arith) (omega arith) (omega arith) (padded_less f at n a)

suc_times : (k piece : ℕ) → (k + 1) * piece ≡ k * piece + piece
suc_times k piece = add-mul k 1 piece ∙ omega arith

-- So many of n bytes are written in whole pieces, or all of them are.
pub record PiecesDone (piece n done : ℕ) (old new : IoCount) : Type 0 where
  pub pieces : ℕ
  pub whole : done < n → pieces * piece ≡ done
  pub few : pieces * piece < max 1 n + piece
  pub work : AddsAtMost 0 0 pieces done old new
  pub short : new.longest_write ≤ max old.longest_write piece

pub first_piece : (piece n k : ℕ) {old new : IoCount} → k ≡ min piece n → AddsAtMost 0 0 1 k old new → PiecesDone piece n k old new
first_piece piece n k is w =
    let one : 1 * piece ≡ piece = omega arith in
    record {
      pieces = 1;
      whole = λ left. omega (arith, is, left, one);
      few = omega (arith, one);
      work = w;
      short = omega (arith, w.longest_write, is);
    }

pub next_piece_done : (piece n done k : ℕ) {old mid new : IoCount} → done < n → k ≡ min piece (n - done) → PiecesDone piece n done old mid → AddsAtMost 0 0 1 k mid new
    → PiecesDone piece n (done + k) old new
next_piece_done piece n done k left is p w =
    let more = suc_times p.pieces piece in
    let so_far = p.whole left in
    record {
      pieces = p.pieces + 1;
      whole = λ rest. omega (arith, is, rest, more, so_far);
      few = omega (arith, left, more, so_far);
      work = adds_then _ _ _ _ p.work w (omega arith) (omega arith) (omega arith) (omega arith);
      short = omega (arith, p.short, w.longest_write, is);
    }

-- what is done is within all of it
pub pieces_within : (piece n done : ℕ) {old new : IoCount} → done ≤ n → PiecesDone piece n done old new → IsInPieces piece n old new
pieces_within piece n done le p = record {
  pieces = p.pieces;
  few = p.few;
  work = adds_more _ _ _ _ p.work (omega arith) (omega arith) (omega arith) le;
  short = p.short;
}

pub no_pieces : (piece n : ℕ) (old : IoCount) → IsInPieces piece n old old
no_pieces piece n old =
    let none : 0 * piece ≡ 0 = omega arith in
    record { pieces = 0; few = omega (arith, none); work = adds_nothing _ _ _ _ old; short = omega arith }

-- The same of bytes that needn't be aligned, of which the last piece may be an edge.
pub record EdgedDone (block piece n done : ℕ) (old new : IoCount) : Type 0 where
  pub pieces : ℕ
  pub whole : done < n → pieces * piece ≡ done
  pub few : pieces * piece < n + piece
  pub direct : done < n → AddsAtMost 0 0 pieces done old new
  pub work : AddsAtMost 2 (2 * block) (pieces + 3) (done + 2 * block) old new

pub edged_none : (block piece n : ℕ) (old : IoCount) → 0 < piece → EdgedDone block piece n 0 old old
edged_none block piece n old positive =
    let none : 0 * piece ≡ 0 = omega arith in
    record {
      pieces = 0;
      whole = λ left. none;
      few = omega (arith, none);
      direct = λ left. adds_nothing _ _ _ _ old;
      work = adds_nothing _ _ _ _ old;
    }

pub edged_next : (block piece n done k : ℕ) {old mid new : IoCount} → done < n → k ≡ min piece (n - done) → EdgedDone block piece n done old mid
    → AddsAtMost 2 (2 * block) 3 (k + 2 * block) mid new → (done + k < n → AddsAtMost 0 0 1 k mid new) → EdgedDone block piece n (done + k) old new
edged_next block piece n done k left is p w direct =
    let more = suc_times p.pieces piece in
    let so_far = p.whole left in
    let before = p.direct left in
    record {
      pieces = p.pieces + 1;
      whole = λ rest. omega (arith, is, rest, more, so_far);
      few = omega (arith, left, more, so_far);
      direct = λ rest. adds_then _ _ _ _ before (direct rest) (omega arith) (omega arith) (omega arith) (omega arith);
      work = adds_then _ _ _ _ before w (omega arith) (omega arith) (omega arith) (omega arith);
    }

pub edged_within : (block piece n done : ℕ) {old new : IoCount} → done ≤ n → EdgedDone block piece n done old new → IsEdgedWork 1 block piece n old new
edged_within block piece n done le p = record {
  pieces = p.pieces;
  few = p.few;
  work = adds_more _ _ _ _ p.work (omega arith) (omega arith) (omega arith) (omega (arith, le));
}

-- a first write, which needn't be aligned, and then what follows it in pieces
pub edge_then_pieces : (block piece n m : ℕ) {old mid new : IoCount} → m ≤ n → AddsAtMost 2 (2 * block) 3 (m + 2 * block) old mid → IsEdgedWork 1 block piece (n - m) mid new
    → IsEdgedWork 2 block piece n old new
edge_then_pieces block piece n m le first rest = record {
  pieces = rest.pieces;
  few = omega (arith, rest.few, le);
  work = adds_then _ _ _ _ first rest.work (omega arith) (omega arith) (omega arith) (omega (arith, le));
}

-- one write that needn't be aligned, of some of the bytes, and two
pub edge_alone : (block piece n m : ℕ) {old new : IoCount} → 0 < piece → m ≤ n → AddsAtMost 2 (2 * block) 3 (m + 2 * block) old new → IsEdgedWork 2 block piece n old new
edge_alone block piece n m positive le w =
    let none : 0 * piece ≡ 0 = omega arith in
    record {
      pieces = 0;
      few = omega (arith, none);
      work = adds_more _ _ _ _ w (omega arith) (omega arith) (omega arith) (omega (arith, le));
    }

pub both_edges : (block piece k m : ℕ) {old mid new : IoCount} → 0 < piece → AddsAtMost 2 (2 * block) 3 (k + 2 * block) old mid → AddsAtMost 2 (2 * block) 3 (m + 2 * block) mid new
    → IsEdgedWork 2 block piece (k + m) old new
both_edges block piece k m positive first second =
    let none : 0 * piece ≡ 0 = omega arith in
    record {
      pieces = 0;
      few = omega (arith, none);
      work = adds_then _ _ _ _ first second (omega arith) (omega arith) (omega arith) (omega arith);
    }
