-- SPDX-License-Identifier: MIT
use Rattle.std.proofs.Common.{rules, ◌≡◌, Some}
use Rattle.std.specs.BTreeMap.{get_by_text}
use Rattle.imago_images.specs.Gate.{IsLetThrough, IsInside}
use Rattle.imago_images.specs.GateParts.{gate_host, gate_image, gate_files}
use Rattle.imago_images.proofs.LookedSteps.{where_ok}
use Rattle.imago_images.proofs.gate.FolderGate.look_once.Goals as goal

pub known-requires-clause-through : goal.known-requires-clause-through
known-requires-clause-through g c =
    let here : get_by_text c.args.self.now.looked c.args.path.now ≡ Some c.in-Some.status.now = search rules in
    (c.args.self.now.looked_at c.args.path.now c.in-Some.status.now here).0.0

pub known-requires-clause-told : goal.known-requires-clause-told
known-requires-clause-told g c =
    let here : get_by_text c.args.self.now.looked c.args.path.now ≡ Some c.in-Some.status.now = search rules in
    (c.args.self.now.looked_at c.args.path.now c.in-Some.status.now here).1.0

pub known-requires-clause-length : goal.known-requires-clause-length
known-requires-clause-length g c =
    let here : get_by_text c.args.self.now.looked c.args.path.now ≡ Some c.in-Some.status.now = search rules in
    (c.args.self.now.looked_at c.args.path.now c.in-Some.status.now here).1.1

pub returns-in-Some-clause-through : goal.returns-in-Some-clause-through
returns-in-Some-clause-through g c =
    let s = c.args.self.now in
    let here : get_by_text s.looked c.args.path.now ≡ Some c.in-Some.status.now = search rules in
    where_ok c.known.result (IsLetThrough (gate_files s) (gate_image s) c.args.path.now)
    ((s.looked_at c.args.path.now c.in-Some.status.now here).0.0)

pub returns-in-Some-clause-inside : goal.returns-in-Some-clause-inside
returns-in-Some-clause-inside g c = λ some bounded.
    let s = c.args.self.now in
    let here : get_by_text s.looked c.args.path.now ≡ Some c.in-Some.status.now = search rules in
    where_ok c.known.result
    (IsInside (g.H.Files.real_paths (gate_host s)) (gate_files s) (gate_image s) c.args.path.now)
    ((s.looked_at c.args.path.now c.in-Some.status.now here).0.1 some bounded)
