-- SPDX-License-Identifier: MIT
use Rattle.std.proofs.Common.{◌∙◌, ap, map}
use Rattle.std.specs.List.{list_any}
use Rattle.imago_words.specs.Reading.{shown}
use Rattle.imago_words.specs.Settings.{asks_help}
use Rattle.imago_words.proofs.ReadingSteps.{any_shown}
use Rattle.imago_words.proofs.words.Words.asks_settings.Goals as goal

pub returns : goal.returns
returns c = (c.ask_settings.ensures ∙ any_shown asks_help c.deref.result.now)
    ∙ ap (λ xs. list_any asks_help (map shown xs)) c.deref.ensures.value
