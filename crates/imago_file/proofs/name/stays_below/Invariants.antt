-- SPDX-License-Identifier: MIT
use Rattle.std.proofs.Common.{◌≡◌}
use Rattle.std.specs.Path.{path_components, components_remaining}
use Rattle.imago_file.specs.Names.{none_leads_out}
use Rattle.imago_file.proofs.name.stays_below.Given as goal

-- what the whole says, what is left says
abbrev pub invariant-loop-component : goal.invariant-loop-component
invariant-loop-component l = none_leads_out (components_remaining l.component-iterator) ≡ none_leads_out (path_components l.name)
