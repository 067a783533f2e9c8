-- SPDX-License-Identifier: MIT
use Rattle.std.proofs.Common.{refl, replicate, ℕ, ◌≤◌, arith}
use Rattle.imago_storage.specs.declared.error.Error.{Error}
use Rattle.imago_file.proofs.Files.{file_refused, file_kept, same_length}
use Rattle.imago_file.proofs.file.FileStorageStorage.zero_in_place.Goals as goal

pub returns-clause-written : goal.returns-clause-written
returns-clause-written g c =
    let s = c.args.self.now in
    let held = g.F.HostFile.contents s.file in
    let least : s.length ≤ s.length = omega arith in
    file_refused held held s.length s.length c.args._offset (replicate {A = ℕ} c.args._count 0) Error.Unsupported refl least (same_length _ _ _)

pub returns-clause-torn : goal.returns-clause-torn
returns-clause-torn g c =
    let s = c.args.self.now in
    let held = g.F.HostFile.contents s.file in
    let least : s.length ≤ s.length = omega arith in
    file_kept held held s.length s.length c.args._offset (replicate {A = ℕ} c.args._count 0) refl least (same_length _ _ _)
