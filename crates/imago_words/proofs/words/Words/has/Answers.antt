-- SPDX-License-Identifier: MIT
use Rattle.std.proofs.Common.{◌∙◌, ap, map}
use Rattle.std.specs.List.{list_any}
use Rattle.imago_words.specs.Reading.{is_key, shown}
use Rattle.imago_words.proofs.ReadingSteps.{any_given}
use Rattle.imago_words.proofs.words.Words.has.Goals as goal

pub returns : goal.returns
returns c = (c.has_key.ensures ∙ any_given c.args.key.now c.deref.result.now)
    ∙ ap (λ xs. list_any (is_key c.args.key.now) (map shown xs)) c.deref.ensures.value
