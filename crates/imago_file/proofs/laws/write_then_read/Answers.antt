-- SPDX-License-Identifier: MIT
use Rattle.std.proofs.Common.{◌∙◌}
use Rattle.imago_file.proofs.RoundTrips.{round_trip}
use Rattle.imago_file.proofs.laws.write_then_read.Goals as goal

pub returns : goal.returns
returns g c =
    round_trip _ c.args.image.now c.write.new.self c.args.offset c.args.source.now c.read.new.buf c.read.result c.in_ok-write.ensures.written c.requires.alone c.requires.told c.requires.told c.read.ensures.bytes
    (c.read.auto.buf ∙ c.requires.same_length)
