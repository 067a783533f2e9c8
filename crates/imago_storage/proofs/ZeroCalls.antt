-- SPDX-License-Identifier: MIT
use Rattle.std.proofs.Common.{◌≡◌, ℕ, ◌+◌, ◌-◌, ◌<◌, ◌≤◌, ◌⊎◌, List, [], arith, inl, inr, refl, sym, ◌∙◌, Result, Ok, Err, IsErrOf}
use Rattle.imago_storage.specs.declared.error.Error.{Error}
use Rattle.imago_storage.specs.declared.error.Error.TheVariants.{Unsupported, Memory}
use Rattle.imago_storage.specs.declared.options.ZeroKind.{ZeroKind}
use Rattle.imago_storage.specs.Features.{Features, len_align, zero_piece}
use Rattle.imago_storage.specs.IoCount.{IoCount, IsEdgedWork}
use Rattle.imago_storage.specs.Maintenance.{Maintenance}
use Rattle.imago_storage.specs.Padding.{aligned_start, aligned_end, IsAlignedPart}
use Rattle.imago_storage.specs.Steps.{AreMadeInOrder}
use Rattle.imago_storage.specs.Zeroes.{HasPart, IsAlignedZeroing, IsPartAndEdges, IsPartThenData, IsZeroedInParts, IsZeroesWritten, data_ranges, edge_ranges}

-- a range whose aligned part ends behind its start has that part, and no other one does
pub has_part : (f : Features) (at n start end : ℕ) → IsAlignedPart f.zero_align at n start end → start < end → HasPart f at n
has_part f at n start end p some = omega (arith, p.is_start, p.is_end, some)

pub has_no_part : (f : Features) (at n start end : ℕ) → IsAlignedPart f.zero_align at n start end → end ≤ start → HasPart f at n → ⊥
has_no_part f at n start end p none has = omega (arith, p.is_start, p.is_end, none, has)

-- the part is the whole range: nothing stands beside it
no_edge_ranges : (at n start end : ℕ) → start ≡ at → end ≡ at + n → edge_ranges at n start end ≡ []
no_edge_ranges at n start end first last =
    let before : start - at ≡ 0 = omega (arith, first) in
    let behind : at + n - end ≡ 0 = omega (arith, last) in
    rw (before, behind) refl

module _ {S : Type 0} (features_of : S → Features) (bytes_of : S → List ℕ) (calls : Maintenance S) (work_of : S → IoCount) (f : Features) (kind : ZeroKind) (at n start end : ℕ) (p : IsAlignedPart f.zero_align at n start end) where
  -- the part is the whole range, so nothing stands beside it
  pub part_alone : (old new : S) (result : Result (Unit {0}) Error) → start ≡ at → end ≡ at + n → IsAlignedZeroing features_of bytes_of calls work_of f kind start (end - start) old new result
      → IsPartAndEdges features_of bytes_of calls work_of f kind at n start end old new result
  part_alone old new result first last call = record {
    answer = result;
    between = new;
    part = call;
    refused = λ e is. (refl, is);
    edges = λ made. (rw (first, last) (record { pieces = 0; few = omega arith; work = record { reads = omega arith; bytes_read = omega arith; writes = omega arith; bytes_written = omega arith; longest_write = omega arith } }), λ is. absurd (cc));
    edges_made = λ made. rw (no_edge_ranges at n start end first last) (refl, made);
  }

  -- the part was unsupported, so the whole was written as data
  pub part_then_data : (old mid new : S) (result done : Result (Unit {0}) Error) → result ≡ Err Unsupported
      → ((mid ≡ old) × IsErrOf result Memory) ⊎ IsPartAndEdges features_of bytes_of calls work_of f kind at n start end old mid result
      → IsEdgedWork 2 (len_align f) (zero_piece f) n (work_of mid) (work_of new)
      → ((new ≡ mid) × IsErrOf done Memory) ⊎ AreMadeInOrder (IsZeroesWritten features_of bytes_of calls) (data_ranges f at n) mid new done
      → IsPartThenData features_of bytes_of calls work_of f kind at n (aligned_start f.zero_align at) (aligned_end f.zero_align at n) old new done
  part_then_data old mid new result done is (inl none) data_work data_made = absurd (cc)
  part_then_data old mid new result done is (inr made) data_work data_made = rw (← p.is_start, ← p.is_end) (refused_part made.answer refl)
    where
      refused_part : (a : Result (Unit {0}) Error) → made.answer ≡ a → IsPartThenData features_of bytes_of calls work_of f kind at n start end old new done
      refused_part (Ok x) same = absurd ((made.edges same).1 is)
      refused_part (Err e) same =
          let r = made.refused e same in
          let u : made.answer ≡ Err Unsupported = same ∙ sym r.1 ∙ is in
          record { between = mid; part = rw (u, ← r.0) at made.part; data_work = data_work; data_made = data_made }

  -- the part was made, and then its edges; or nothing was
  pub part_and_edges : (old new : S) (result : Result (Unit {0}) Error) → start < end
      → ((new ≡ old) × IsErrOf result Memory) ⊎ IsPartAndEdges features_of bytes_of calls work_of f kind at n start end old new result
      → IsZeroedInParts features_of bytes_of calls work_of f kind at n old new result
  part_and_edges old new result some (inl none) = inl none
  part_and_edges old new result some (inr made) = inr (inl (has_part f at n start end p some, rw (p.is_start, p.is_end) at made))
