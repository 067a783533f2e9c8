-- SPDX-License-Identifier: MIT
use Rattle.std.proofs.Common.{map, string_bytes}
use Rattle.std.proofs.lemmas.Result.{IfErr-weaker, IfOk-weaker}
use Rattle.imago_words.proofs.LineLaws.{asks_of, memory_of}
use Rattle.imago_words.proofs.laws.convert_is_read.Goals as goal

pub returns-clause-ok : goal.returns-clause-ok
returns-clause-ok c =
    let asks = asks_of (map string_bytes c.args.words.now) c.requires in
    IfOk-weaker c.read.result _ _ asks c.read.ensures.ok

pub returns-clause-err : goal.returns-clause-err
returns-clause-err c =
    let memory = memory_of (map string_bytes c.args.words.now) c.requires in
    IfErr-weaker c.read.result _ _ (λ r. memory _) c.read.ensures.err
