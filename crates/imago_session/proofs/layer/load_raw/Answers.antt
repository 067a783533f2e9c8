-- SPDX-License-Identifier: MIT
use Rattle.std.proofs.Common.{◌∙◌, sym, ap, map}
use Rattle.std.specs.String.{string_bytes}
use Rattle.imago_session.proofs.LoadedSteps.{loaded_length}
use Rattle.imago_session.proofs.layer.load_raw.Goals as goal

pub returns-clause-agrees : goal.returns-clause-agrees
returns-clause-agrees c = λ f part is.
    ((is, c.in_ok-image.ensures.opened.1 ∙ loaded_length c.args.file ∙ sym part.1), ap (map string_bytes) c.new.ensures.items)
