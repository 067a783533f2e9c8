-- SPDX-License-Identifier: MIT
use Rattle.std.proofs.Common.{refl, arith}
use Rattle.imago_storage.proofs.Splices.{length-splice}
use Rattle.imago_file.proofs.host.MemoryFileHostFile.write_at.Goals as goal

pub returns-clause-performed : goal.returns-clause-performed
returns-clause-performed c =
    let n = length-splice c.args.self.now.bytes.items c.args.offset c.args.source.now in record {
      done = c.put.ensures.ok;
      refused = c.put.ensures.err;
      within = λ le. c.put.ensures.within (omega (arith, n, le));
      syncs = refl;
    }
