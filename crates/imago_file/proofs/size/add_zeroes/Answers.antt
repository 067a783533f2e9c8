-- SPDX-License-Identifier: MIT
use Rattle.imago_file.proofs.Files.{refused_restores}
use Rattle.imago_file.proofs.size.add_zeroes.Goals as goal

pub returns-then-is_err-clause-refused : goal.returns-then-is_err-clause-refused
returns-then-is_err-clause-refused g c =
    refused_restores _ _ _ _ _ c.set_len.result c.requires.long c.write_zeroes-written.ensures.partly c.set_len.ensures.sized c.set_len.ensures.refused c.set_len.ensures.cut
