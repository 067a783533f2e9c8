-- SPDX-License-Identifier: MIT
use Rattle.std.proofs.Common.{ℕ, List, [], get_or, arith}
use Rattle.imago_vmdk.specs.declared.vmdk.Start.{Start}
use Rattle.imago_vmdk.proofs.Extents.{found_at, some_start, first_start, names_on_disk, rest_on_disk, refusal_on_disk}
use Rattle.imago_vmdk.proofs.vmdk.disk_mapping.Goals as goal

pub find-index-requires-clause-some : goal.find-index-requires-clause-some
find-index-requires-clause-some c = rw c.requires.started (some_start c.args.extents.now c.args.offset c.requires.inside)

pub find-index-requires-clause-first : goal.find-index-requires-clause-first
find-index-requires-clause-first c = λ d. rw c.requires.started (first_start c.args.extents.now c.args.offset d c.requires.inside)

pub extent_mapping-requires-clause-inside : goal.extent_mapping-requires-clause-inside
extent_mapping-requires-clause-inside c =
    let d : Start = record { offset = 0; storage = 0 } in
    let i = c.find-index in
    (found_at (λ _. []) c.args.extents.now c.args.starts.now i.result c.args.offset c.index-extents-index.result d c.requires.started i.ensures.inside c.index-extents-index.is i.ensures.begins i.ensures.last c.requires.inside).inside

pub extent_mapping-requires-clause-fits : goal.extent_mapping-requires-clause-fits
extent_mapping-requires-clause-fits c =
    let d : Start = record { offset = 0; storage = 0 } in
    let i = c.find-index in
    let f = found_at (λ _. []) c.args.extents.now c.args.starts.now i.result c.args.offset c.index-extents-index.result d c.requires.started i.ensures.inside c.index-extents-index.is i.ensures.begins i.ensures.last c.requires.inside in
    omega (arith, f.fits, c.requires.fits)

pub returns-clause-names : goal.returns-clause-names
returns-clause-names c = λ bytes.
    let d : Start = record { offset = 0; storage = 0 } in
    let i = c.find-index in
    let f = found_at bytes c.args.extents.now c.args.starts.now i.result c.args.offset c.index-extents-index.result d c.requires.started i.ensures.inside c.index-extents-index.is i.ensures.begins i.ensures.last c.requires.inside in
    names_on_disk bytes c.args.extents.now c.args.offset c.index-extents-index.result (get_or c.args.starts.now i.result d) c.extent_mapping.result f (c.extent_mapping.ensures.names bytes) c.extent_mapping.ensures.rest

pub returns-clause-rest : goal.returns-clause-rest
returns-clause-rest c =
    let d : Start = record { offset = 0; storage = 0 } in
    let i = c.find-index in
    let bytes : ℕ → List ℕ = λ _. [] in
    let f = found_at bytes c.args.extents.now c.args.starts.now i.result c.args.offset c.index-extents-index.result d c.requires.started i.ensures.inside c.index-extents-index.is i.ensures.begins i.ensures.last c.requires.inside in
    rest_on_disk bytes c.args.extents.now c.args.offset c.index-extents-index.result (get_or c.args.starts.now i.result d) c.extent_mapping.result f c.extent_mapping.ensures.rest

pub returns-clause-refused : goal.returns-clause-refused
returns-clause-refused c = λ bytes.
    let d : Start = record { offset = 0; storage = 0 } in
    let i = c.find-index in
    let f = found_at bytes c.args.extents.now c.args.starts.now i.result c.args.offset c.index-extents-index.result d c.requires.started i.ensures.inside c.index-extents-index.is i.ensures.begins i.ensures.last c.requires.inside in
    refusal_on_disk bytes c.args.extents.now c.args.offset c.index-extents-index.result (get_or c.args.starts.now i.result d) c.extent_mapping.result f (c.extent_mapping.ensures.refused bytes)
