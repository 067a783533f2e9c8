-- SPDX-License-Identifier: MIT
use Rattle.std.proofs.Common.{rules, refl, ap, sym, ◌∙◌, Ok}
use Rattle.imago_access.specs.Chain.{driver}
use Rattle.imago_vmdk.specs.declared.line.Accepted.{Accepted}
use Rattle.imago_vmdk.specs.Image.{extents_in}
use Rattle.imago_vmdk.specs.Reading.{reading_of}
use Rattle.imago_c.proofs.plan.image_of.Goals as goal

pub returns-clause-keys : goal.returns-clause-keys
returns-clause-keys c = search rules

pub returns-clause-bytes : goal.returns-clause-bytes
returns-clause-bytes c = search rules

pub returns-clause-reading : goal.returns-clause-reading
returns-clause-reading c =
    let d = driver c.new.result in (
      extents_in d,
      ap (λ (a : Accepted). reading_of a c.args.text.now) (sym (returns-clause-keys c))
          ∙ ap (reading_of d.accepted) (sym (returns-clause-bytes c))
          ∙ d.read refl
          ∙ ap (λ size. Ok (extents_in d, size)) d.sized,
    )
