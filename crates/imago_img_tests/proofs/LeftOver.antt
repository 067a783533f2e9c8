-- Files in memory, of which those of a path are removed.
-- SPDX-License-Identifier: MIT
use Rattle.std.proofs.Common.{◌≡◌, ◌≢◌, ℕ, Bool, true, false, not, List, [], ◌∷◌, Some, refl, sym, ap, ◌∙◌, cond, arith}
use Rattle.std.specs.Str.{bytes_eq}
use Rattle.std.specs.String.{string_bytes}
use Rattle.std.proofs.lemmas.Slice.Eq.{bytes_eq-Decides}
use Rattle.imago_img_tests.specs.declared.memory_host.MemoryFile.{MemoryFile}
use Rattle.imago_img_files.specs.Files.{IsWithoutLeftOver}
use Rattle.imago_img_tests.specs.MemoryFiles.{file_bytes, files_without, has_file, unfinished_path}

module _ (gone : List ℕ) where
  -- nothing has that path any more
  pub no_bytes : (files : List MemoryFile) → file_bytes (files_without gone files) gone ≡ []
  no_bytes [] = refl
  no_bytes (file ∷ files) = grind (arith, bytes_eq-Decides (string_bytes file.path) gone, no_bytes files)

  pub no_path : (files : List MemoryFile) → has_file (files_without gone files) gone ≡ false
  no_path [] = refl
  no_path (file ∷ files) = grind (arith, bytes_eq-Decides (string_bytes file.path) gone, no_path files)

  -- all else is as it was
  pub same_bytes :
      (files : List MemoryFile) (other : List ℕ) → other ≢ gone
      → file_bytes (files_without gone files) other ≡ file_bytes files other
  same_bytes [] other differ = refl
  same_bytes (file ∷ files) other differ = grind (arith, bytes_eq-Decides (string_bytes file.path) gone, bytes_eq-Decides (string_bytes file.path) other, same_bytes files other differ)

  pub same_paths :
      (files : List MemoryFile) (other : List ℕ) → other ≢ gone
      → has_file (files_without gone files) other ≡ has_file files other
  same_paths [] other differ = refl
  same_paths (file ∷ files) other differ = grind (arith, bytes_eq-Decides (string_bytes file.path) gone, bytes_eq-Decides (string_bytes file.path) other, same_paths files other differ)

-- the unfinished file of a copy to a path is gone
pub left_gone :
    (path gone : List ℕ) (files now : List MemoryFile) (unfinished : ℕ) (held : List ℕ → Bool)
    → gone ≡ unfinished_path path
    → now ≡ files_without gone files
    → IsWithoutLeftOver (Some (file_bytes files)) (Some (file_bytes now))
    (Some (record { there = has_file files; unfinished = unfinished; beside = unfinished_path; held = held }))
    (Some (record { there = has_file now; unfinished = unfinished; beside = unfinished_path; held = held })) path
left_gone path gone files now unfinished held is removed =
    let left : List ℕ = unfinished_path path in
    let e : now ≡ files_without left files = removed ∙ ap (λ g. files_without g files) is in (
      file_bytes now,
      record { there = has_file now; unfinished = unfinished; beside = unfinished_path; held = held },
      refl,
      refl,
      record {
        free = ap (λ fs. has_file fs left) e ∙ no_path left files;
        empty = ap (λ fs. file_bytes fs left) e ∙ no_bytes left files;
        others = λ other differ. ap (λ fs. file_bytes fs other) e ∙ same_bytes left files other differ;
        still_there = λ other differ. ap (λ fs. has_file fs other) e ∙ same_paths left files other differ;
        unfinished = refl;
        beside = refl;
        held = refl;
      },
    )
