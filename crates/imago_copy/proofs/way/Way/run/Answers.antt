-- SPDX-License-Identifier: MIT
use Rattle.std.proofs.Common.{◌≡◌, ◌+◌, ◌<◌, ap, ◌∙◌, sym, subst, arith}
use Rattle.imago_drivers.specs.Mapping.{IsEof}
use Rattle.imago_drivers.specs.Place.{End}
use Rattle.imago_drivers.specs.declared.mapping.ShallowMapping.{ShallowMapping}
use Rattle.imago_access.specs.Target.{told_depth}
use Rattle.imago_copy.specs.declared.runs.Kind.TheVariants as Kind
use Rattle.imago_copy.specs.Ways.{IsLast}
use Rattle.imago_copy.specs.WayOf.{place_of}
use Rattle.imago_copy.proofs.WaySteps.{own_kind, run_ended, run_missing, run_owned}
use Rattle.imago_copy.proofs.way.Way.run.Goals as goal

pub returns-in-Indirect-clause-run : goal.returns-in-Indirect-clause-run
returns-in-Indirect-clause-run g c = λ x way.
    let view = g.D.FormatDriverInstance.view in
    let w = c.args.self.now in
    let (hops, writable, depth, along) = way in
    let told : c.saturating_add.result ≡ told_depth (hops + 1) = let b = c.saturating_add.ensures in omega (arith, depth, b) in
    let last = subst (λ (m : ShallowMapping). IsLast m w.layer.now) c.in-Indirect.is c.requires.end in
    run_missing view g.met.D.FormatDriverInstance.lawful x w.at w.layer.now hops w.offset w.count writable along c.requires.some c.args.mapping c.args.mapped c.requires.right c.requires.mapped
    _ c.saturating_add.result _ c.new.result c.in_none-none.result c.new.ensures c.in_none-none.ensures told c.in-Indirect.is last

pub returns-else-depth-eq0-clause-run : goal.returns-else-depth-eq0-clause-run
returns-else-depth-eq0-clause-run g c = λ x way.
    let view = g.D.FormatDriverInstance.view in
    let w = c.args.self.now in
    let (hops, writable, depth, along) = way in
    let end : place_of view w w.offset ≡ End = c.requires.right.eof.0 (subst IsEof (sym c.in-Eof.is) tt) in
    let deep : 0 < w.depth = omega (arith, c.if-depth-eq0.false) in
    run_ended view g.met.D.FormatDriverInstance.lawful x w.at w.layer.now hops w.offset w.count writable along c.requires.some
    w.depth c.new-in-Eof.result c.in_none-none-in-Eof.result c.new-in-Eof.ensures c.in_none-none-in-Eof.ensures depth deep end

pub returns-in-Zero-clause-run : goal.returns-in-Zero-clause-run
returns-in-Zero-clause-run g c = λ x way.
    let view = g.D.FormatDriverInstance.view in
    let w = c.args.self.now in
    let (hops, writable, depth, along) = way in
    run_owned view g.met.D.FormatDriverInstance.lawful x w.at w.layer.now hops w.offset w.count writable along c.requires.some c.args.mapping c.args.mapped c.requires.right c.requires.mapped
    w.depth Kind.Zero c.new-in-Zero.result c.in_layer-own.result c.new-in-Zero.ensures c.in_layer-own.ensures depth (ap (own_kind w.depth) c.in-Zero.is)

pub returns-in-Raw-clause-run : goal.returns-in-Raw-clause-run
returns-in-Raw-clause-run g c = λ x way.
    let view = g.D.FormatDriverInstance.view in
    let w = c.args.self.now in
    let (hops, writable, depth, along) = way in
    run_owned view g.met.D.FormatDriverInstance.lawful x w.at w.layer.now hops w.offset w.count writable along c.requires.some c.args.mapping c.args.mapped c.requires.right c.requires.mapped
    w.depth (Kind.Stored w.depth c.in-Raw.storage c.in-Raw.offset) c.new-in-Raw.result c.in_layer.result c.new-in-Raw.ensures c.in_layer.ensures depth (ap (own_kind w.depth) c.in-Raw.is)

pub returns-in-Special-clause-run : goal.returns-in-Special-clause-run
returns-in-Special-clause-run g c = λ x way.
    let view = g.D.FormatDriverInstance.view in
    let w = c.args.self.now in
    let (hops, writable, depth, along) = way in
    run_owned view g.met.D.FormatDriverInstance.lawful x w.at w.layer.now hops w.offset w.count writable along c.requires.some c.args.mapping c.args.mapped c.requires.right c.requires.mapped
    w.depth (Kind.Special w.depth c.in-Special.offset) c.new-in-Special.result c.in_layer-in-Special.result c.new-in-Special.ensures c.in_layer-in-Special.ensures depth (ap (own_kind w.depth) c.in-Special.is)
