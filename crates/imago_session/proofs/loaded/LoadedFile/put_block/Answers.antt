-- SPDX-License-Identifier: MIT
use Rattle.std.proofs.Common.{refl, ap, ◌∙◌, slice_index, List, ℕ}
use Rattle.imago_session.proofs.LoadedSteps.{has_more}
use Rattle.imago_session.proofs.loaded.LoadedFile.put_block.Goals as goal

pub returns-clause-bytes : goal.returns-clause-bytes
returns-clause-bytes c = λ file read has.
    let old = c.args.self.now in
    has_more old (record { length = old.length; block = old.block; blocks = c.insert.new.self; positive = old.positive })
    c.args.number c.in_ok-shared.shared refl c.in_ok-insert.ensures.updates file (λ i lt. ap (λ (ys : List ℕ). slice_index ys i) c.in_ok-shared.ensures ∙ read i lt) has
