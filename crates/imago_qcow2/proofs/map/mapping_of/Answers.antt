-- SPDX-License-Identifier: MIT
use Rattle.std.proofs.Common.{◌≡◌, ◌+◌, slice_index, refl, arith}
use Rattle.imago_qcow2.proofs.map.mapping_of.Goals as goal

pub returns-in-Stored-clause-names : goal.returns-in-Stored-clause-names
returns-in-Stored-clause-names c = λ packed bytes i.
    let e : c.in-Stored.at + (c.args.rest + i) ≡ c.in-Stored.at + c.args.rest + i = omega arith in
    (slice_index bytes (c.in-Stored.at + c.args.rest + i), rw (c.in-Stored.is, e) refl)

pub returns-in-Compressed-clause-names : goal.returns-in-Compressed-clause-names
returns-in-Compressed-clause-names c = λ packed bytes i. (packed c.in-Compressed.at c.in-Compressed.length (c.args.rest + i), rw c.in-Compressed.is refl)
