-- SPDX-License-Identifier: MIT
use Rattle.std.proofs.Common.{◌≡◌, ℕ, ◌≤◌, List, [], ◌∷◌, map, true, slice_index_or, arith, sym}
use Rattle.std.specs.List.{sum_by}
use Rattle.imago_vmdk.specs.Reading.{size_of}
use Rattle.imago_vmdk.specs.Vmdk.{places_from, rest_from}
use Rattle.imago_vmdk.specs.VmdkLaws.{past_is_end}
use Rattle.imago_vmdk.proofs.Extents.{length_starts, right_end, rest_past, mapped_right, mapped_part, mapped_whole, mapped_refused, mapped_allowed}
use Rattle.imago_vmdk.proofs.vmdk.VmdkFormatDriverInstance.get_mapping.Goals as goal

pub returns-then-offset-self-clause-right : goal.returns-then-offset-self-clause-right
returns-then-offset-self-clause-right g c =
    let s = c.args.self.now in
    let bytes : ℕ → List ℕ = λ i. slice_index_or (g.S.Storage.bytes s.descriptor ∷ map g.S.Storage.bytes s.storages.items) i [] in
    let opened : s.opened ≡ true = c.if-not-self.false in
    let past : sum_by size_of s.extents.items ≤ c.args.offset = omega (arith, s.sized, c.if-offset-self.true) in
    rw opened (right_end (places_from bytes 1 s.extents.items) c.args.offset c.args._max_length (past_is_end bytes 1 s.extents.items c.args.offset past))

pub returns-then-offset-self-clause-part : goal.returns-then-offset-self-clause-part
returns-then-offset-self-clause-part g c =
    let s = c.args.self.now in
    let opened : s.opened ≡ true = c.if-not-self.false in
    let past : sum_by size_of s.extents.items ≤ c.args.offset = omega (arith, s.sized, c.if-offset-self.true) in
    rw opened (sym (rest_past s.extents.items c.args.offset past))

pub returns-then-offset-self-clause-whole : goal.returns-then-offset-self-clause-whole
returns-then-offset-self-clause-whole g c =
    let s = c.args.self.now in
    let opened : s.opened ≡ true = c.if-not-self.false in
    let past : sum_by size_of s.extents.items ≤ c.args.offset = omega (arith, s.sized, c.if-offset-self.true) in
    let none = rest_past s.extents.items c.args.offset past in
    rw opened (λ h. omega (arith, none, h))

pub returns-clause-right : goal.returns-clause-right
returns-clause-right g c =
    let s = c.args.self.now in
    let bytes : ℕ → List ℕ = λ i. slice_index_or (g.S.Storage.bytes s.descriptor ∷ map g.S.Storage.bytes s.storages.items) i [] in
    let opened : s.opened ≡ true = c.if-not-self.false in
    rw opened (mapped_right (places_from bytes 1 s.extents.items) c.args.offset c.args._max_length (rest_from s.extents.items c.args.offset) c.disk_mapping.result (rw c.deref.ensures.value at (c.disk_mapping.ensures.names bytes)) (rw c.deref.ensures.value at c.disk_mapping.ensures.rest))

pub returns-clause-part : goal.returns-clause-part
returns-clause-part g c =
    let s = c.args.self.now in
    let opened : s.opened ≡ true = c.if-not-self.false in
    rw opened (mapped_part (rest_from s.extents.items c.args.offset) c.disk_mapping.result (rw c.deref.ensures.value at c.disk_mapping.ensures.rest))

pub returns-clause-whole : goal.returns-clause-whole
returns-clause-whole g c =
    let s = c.args.self.now in
    let opened : s.opened ≡ true = c.if-not-self.false in
    rw opened (mapped_whole c.args._max_length (rest_from s.extents.items c.args.offset) c.disk_mapping.result (rw c.deref.ensures.value at c.disk_mapping.ensures.rest))

pub returns-clause-refused_place : goal.returns-clause-refused_place
returns-clause-refused_place g c =
    let s = c.args.self.now in
    let bytes : ℕ → List ℕ = λ i. slice_index_or (g.S.Storage.bytes s.descriptor ∷ map g.S.Storage.bytes s.storages.items) i [] in
    let opened : s.opened ≡ true = c.if-not-self.false in
    rw opened (mapped_refused (places_from bytes 1 s.extents.items) c.args.offset c.disk_mapping.result (rw c.deref.ensures.value at (c.disk_mapping.ensures.refused bytes)))

pub returns-clause-refusals : goal.returns-clause-refusals
returns-clause-refusals g c =
    let s = c.args.self.now in
    let storages = g.S.Storage.bytes s.descriptor ∷ map g.S.Storage.bytes s.storages.items in
    let bytes : ℕ → List ℕ = λ i. slice_index_or storages i [] in
    let opened : s.opened ≡ true = c.if-not-self.false in
    rw opened (mapped_allowed (g.S.Storage.features s.descriptor ∷ map g.S.Storage.features s.storages.items) storages s.extents.items c.args.offset c.args._max_length c.disk_mapping.result (rw c.deref.ensures.value at (c.disk_mapping.ensures.refused bytes)))

pub disk_mapping-requires-clause-started : goal.disk_mapping-requires-clause-started
disk_mapping-requires-clause-started g c = rw (c.deref-2.ensures.value, c.deref.ensures.value) c.args.self.now.started

pub disk_mapping-requires-clause-inside : goal.disk_mapping-requires-clause-inside
disk_mapping-requires-clause-inside g c = rw c.deref.ensures.value (omega (arith, c.args.self.now.sized, c.if-offset-self.false))

pub disk_mapping-requires-clause-fits : goal.disk_mapping-requires-clause-fits
disk_mapping-requires-clause-fits g c = rw c.deref.ensures.value (omega (arith, c.args.self.now.sized, c.args.self.now.fits))

pub disk_mapping-requires-clause-paired : goal.disk_mapping-requires-clause-paired
disk_mapping-requires-clause-paired g c = rw (c.deref-2.ensures.value, c.deref.ensures.value) (rw c.args.self.now.started (length_starts 0 1 c.args.self.now.extents.items))
