-- SPDX-License-Identifier: MIT
use Rattle.std.proofs.Common.{refl, ◌≤◌, arith}
use Rattle.imago_file.proofs.Files.{long_spliced, file_written, file_refused, file_kept, same_length}
use Rattle.imago_file.proofs.file.FileStorageStorage.pure_writev.Goals as goal

pub returns-then-not-self-clause-written : goal.returns-then-not-self-clause-written
returns-then-not-self-clause-written g c =
    let s = c.args.self.now in
    let held = g.F.HostFile.contents s.file in
    let least : s.length ≤ s.length = omega arith in
    file_refused held held s.length s.length c.args.offset c.args.source.now _ refl least (same_length _ _ _)

pub returns-then-not-self-clause-torn : goal.returns-then-not-self-clause-torn
returns-then-not-self-clause-torn g c =
    let s = c.args.self.now in
    let held = g.F.HostFile.contents s.file in
    let least : s.length ≤ s.length = omega arith in
    file_kept held held s.length s.length c.args.offset c.args.source.now refl least (same_length _ _ _)

pub invariant_of-self-in-Ok : goal.invariant_of-self-in-Ok
invariant_of-self-in-Ok g c =
    let C = g.F.HostFile.contents in
    let s = c.args.self.now in
    record { long = long_spliced (C s.file) (C c.write_at.new.self) s.length c.args.offset _ c.args.source.now s.long c.in-Ok.ensures.written c.max-self.ensures }

pub returns-in-Ok-clause-written : goal.returns-in-Ok-clause-written
returns-in-Ok-clause-written g c =
    let C = g.F.HostFile.contents in
    let s = c.args.self.now in
    file_written (C s.file) (C c.write_at.new.self) s.length c.args.offset _ c.args.source.now s.long c.in-Ok.ensures.written c.max-self.ensures

pub returns-in-Err-clause-written : goal.returns-in-Err-clause-written
returns-in-Err-clause-written g c =
    let C = g.F.HostFile.contents in
    let s = c.args.self.now in
    file_refused (C s.file) (C c.write_at.new.self) s.length _ c.args.offset c.args.source.now _ c.in-Err.ensures.refused c.length_after_refusal-self.ensures.least c.length_after_refusal-self.ensures.most

pub returns-in-Err-clause-torn : goal.returns-in-Err-clause-torn
returns-in-Err-clause-torn g c =
    let C = g.F.HostFile.contents in
    let s = c.args.self.now in
    file_kept (C s.file) (C c.write_at.new.self) s.length _ c.args.offset c.args.source.now c.in-Err.ensures.refused c.length_after_refusal-self.ensures.least c.length_after_refusal-self.ensures.most
