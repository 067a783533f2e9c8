-- SPDX-License-Identifier: MIT
use Rattle.std.proofs.Common.{◌≡◌, Bool, true, inr}
use Rattle.imago_images.specs.FolderParts.{IsBeyond}
use Rattle.imago_images.specs.GateParts.{gate_host, gate_image, gate_bounds}
use Rattle.imago_images.proofs.NameSteps.{passed_on}
use Rattle.imago_images.proofs.RefusalSteps.{not_false, leads_out}
use Rattle.imago_images.proofs.gate.FolderGate.is_in_folder.Goals as goal

pub returns-clause-out : goal.returns-clause-out
returns-clause-out g c = λ bounded out.
    let gate = c.args.self.now in
    let reals = g.H.Files.real_paths (gate_host gate) in
    let leaves = c.in_ok-or_system.field-0 in
    let beyond : leaves ≡ true → IsBeyond reals c.args.path.now (gate_bounds gate) =
    passed_on c.leaves-leaves.result c.or_system.result leaves
    (λ (yes : Bool). yes ≡ true → IsBeyond reals c.args.path.now (gate_bounds gate))
    c.leaves-leaves.ensures.out c.or_system.ensures.given c.in_ok-or_system.was in
    inr (leads_out reals (gate_image gate) c.args.path.now (gate_bounds gate) bounded (beyond (not_false leaves out)))
