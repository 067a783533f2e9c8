-- SPDX-License-Identifier: MIT
use Rattle.imago_images.specs.GateParts.{gate_host, gate_image, gate_files, gate_bounds}
use Rattle.imago_images.proofs.LookedSteps.{still_looked_at}
use Rattle.imago_images.proofs.gate.FolderGate.keep.Goals as goal

pub invariant_of-self : goal.invariant_of-self
invariant_of-self g c =
    let s = c.args.self.now in
    let host = gate_host s in
    record {
      looked_at = still_looked_at (g.H.Files.contents host) (g.H.Files.statuses host) (g.H.Files.real_paths host)
          (gate_files s) (gate_image s) (gate_bounds s) s.looked c.keep_status.new.looked c.args.path.now c.args.status
          s.looked_at c.requires c.keep_status.ensures;
    }
