-- SPDX-License-Identifier: MIT
use Rattle.imago_any_driver.specs.declared.any.AnyDriver.TheVariants as T
use Rattle.imago_any_driver.specs.AnyDriver.{view_over}
use Rattle.imago_any_driver.proofs.Variants.{foreign_at, write_at}
use Rattle.imago_any_driver.proofs.any.AnyDriverFormatDriverInstance.write_prepared.Goals as goal

pub returns-in-Raw-clause-foreign : goal.returns-in-Raw-clause-foreign
returns-in-Raw-clause-foreign g c =
    let s = g.S.Storage in
    foreign_at (view_over s.features s.fault_count s.bytes) c.in-Raw.is c.args.mapping.now _ c.write_prepared.ensures.foreign

pub returns-in-Raw-clause-call : goal.returns-in-Raw-clause-call
returns-in-Raw-clause-call g c =
    let s = g.S.Storage in
    let v = view_over s.features s.fault_count s.bytes in
    write_at v c.in-Raw.is c.args.mapping.now (v (T.Raw c.write_prepared.new.self)) c.args.at c.args.source.now c.write_prepared.result c.write_prepared.ensures.call

pub returns-in-Cow-clause-foreign : goal.returns-in-Cow-clause-foreign
returns-in-Cow-clause-foreign g c =
    let s = g.S.Storage in
    foreign_at (view_over s.features s.fault_count s.bytes) c.in-Cow.is c.args.mapping.now _ c.write_prepared-in-Cow.ensures.foreign

pub returns-in-Cow-clause-call : goal.returns-in-Cow-clause-call
returns-in-Cow-clause-call g c =
    let s = g.S.Storage in
    let v = view_over s.features s.fault_count s.bytes in
    write_at v c.in-Cow.is c.args.mapping.now (v (T.Cow c.write_prepared-in-Cow.new.self)) c.args.at c.args.source.now c.write_prepared-in-Cow.result c.write_prepared-in-Cow.ensures.call

pub returns-in-Vmdk-clause-call : goal.returns-in-Vmdk-clause-call
returns-in-Vmdk-clause-call g c =
    let s = g.S.Storage in
    let v = view_over s.features s.fault_count s.bytes in
    write_at v c.in-Vmdk.is c.args.mapping.now (v (T.Vmdk c.write_prepared-in-Vmdk.new.self)) c.args.at c.args.source.now c.write_prepared-in-Vmdk.result c.write_prepared-in-Vmdk.ensures.call

pub returns-in-Qcow2-clause-call : goal.returns-in-Qcow2-clause-call
returns-in-Qcow2-clause-call g c =
    let s = g.S.Storage in
    let v = view_over s.features s.fault_count s.bytes in
    write_at v c.in-Qcow2.is c.args.mapping.now (v (T.Qcow2 c.write_prepared-in-Qcow2.new.self)) c.args.at c.args.source.now c.write_prepared-in-Qcow2.result c.write_prepared-in-Qcow2.ensures.call
