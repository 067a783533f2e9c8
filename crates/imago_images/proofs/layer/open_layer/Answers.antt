-- SPDX-License-Identifier: MIT
use Rattle.imago_any_driver.specs.AnyDriver.{view_over}
use Rattle.imago_images.proofs.PathSteps.{features_of, bytes_of}
use Rattle.imago_file.specs.StorageParts.{faults_of}
use Rattle.imago_images.proofs.PartSteps.{driver_in, below_in, path_in, format_in}
use Rattle.imago_images.proofs.LayerSteps.{raw_told, qcow2_told, vmdk_told, qcow2_said, alone_said, few_told, few_raw, few_vmdk}
use Rattle.imago_images.proofs.FaultSteps.{vmdk_layer_out}
use Rattle.imago_images.specs.declared.format.ImageFormat.TheVariants as Of
use Rattle.imago_images.proofs.NamedSteps.{raw_named, qcow2_named, named_as}
use Rattle.imago_images.proofs.layer.open_layer.Goals as goal

pub returns-in-Raw-clause-layer : goal.returns-in-Raw-clause-layer
returns-in-Raw-clause-layer g c =
    let contents = g.H.Files.contents in
    let opened = g.H.File.HostFile.contents in
    let file = c.args.file in
    raw_told (view_over (features_of contents opened) faults_of (bytes_of contents opened)) (features_of contents opened) (bytes_of contents opened)
    c.args.how.accepted c.args.how.other_files (contents c.args.host.now) c.args.path.now file c.raw_layer.result
    driver_in below_in path_in format_in
    c.requires.told
    c.args.format c.in-Raw.is c.raw_layer.ensures.alone c.raw_layer.ensures.driver

pub returns-in-Qcow2-clause-layer : goal.returns-in-Qcow2-clause-layer
returns-in-Qcow2-clause-layer g c =
    let contents = g.H.Files.contents in
    let opened = g.H.File.HostFile.contents in
    let file = c.args.file in
    qcow2_told (view_over (features_of contents opened) faults_of (bytes_of contents opened)) (features_of contents opened) (bytes_of contents opened)
    c.args.how.accepted c.args.how.other_files (contents c.args.host.now) c.args.path.now file c.qcow2_layer.result
    driver_in below_in path_in format_in
    c.requires.told
    c.args.format c.in-Qcow2.is c.qcow2_layer.ensures.driver c.qcow2_layer.ensures.below

pub returns-in-Vmdk-clause-layer : goal.returns-in-Vmdk-clause-layer
returns-in-Vmdk-clause-layer g c =
    let contents = g.H.Files.contents in
    let opened = g.H.File.HostFile.contents in
    let file = c.args.file in
    vmdk_told (view_over (features_of contents opened) faults_of (bytes_of contents opened)) (features_of contents opened) (bytes_of contents opened)
    c.args.how.accepted c.args.how.other_files (contents c.args.host.now) c.args.path.now file c.vmdk_layer.result
    driver_in below_in path_in format_in
    c.requires.told
    c.args.format c.in-Vmdk.is c.vmdk_layer.ensures.alone c.vmdk_layer.ensures.layer

pub returns-in-Raw-clause-format : goal.returns-in-Raw-clause-format
returns-in-Raw-clause-format g c =
    let contents = g.H.Files.contents in
    let opened = g.H.File.HostFile.contents in
    let file = c.args.file in
    alone_said (view_over (features_of contents opened) faults_of (bytes_of contents opened)) (features_of contents opened) (bytes_of contents opened)
    c.args.how.accepted c.args.how.other_files (contents c.args.host.now) c.args.path.now file c.raw_layer.result
    driver_in below_in path_in format_in
    c.requires.told
    c.raw_layer.ensures.alone

pub returns-in-Vmdk-clause-format : goal.returns-in-Vmdk-clause-format
returns-in-Vmdk-clause-format g c =
    let contents = g.H.Files.contents in
    let opened = g.H.File.HostFile.contents in
    let file = c.args.file in
    alone_said (view_over (features_of contents opened) faults_of (bytes_of contents opened)) (features_of contents opened) (bytes_of contents opened)
    c.args.how.accepted c.args.how.other_files (contents c.args.host.now) c.args.path.now file c.vmdk_layer.result
    driver_in below_in path_in format_in
    c.requires.told
    c.vmdk_layer.ensures.alone

pub returns-in-Qcow2-clause-format : goal.returns-in-Qcow2-clause-format
returns-in-Qcow2-clause-format g c =
    let contents = g.H.Files.contents in
    let opened = g.H.File.HostFile.contents in
    let file = c.args.file in
    qcow2_said (view_over (features_of contents opened) faults_of (bytes_of contents opened)) (features_of contents opened) (bytes_of contents opened)
    c.args.how.accepted c.args.how.other_files (contents c.args.host.now) c.args.path.now file c.qcow2_layer.result
    driver_in below_in path_in format_in
    c.requires.told
    c.qcow2_layer.ensures.format

pub returns-in-Vmdk-clause-refused : goal.returns-in-Vmdk-clause-refused
returns-in-Vmdk-clause-refused g c =
    let host = c.args.host.now in
    vmdk_layer_out (g.H.Files.contents host) (g.H.Files.statuses host) (g.H.Files.real_paths host)
    c.args.how.other_files c.args.how c.args.path.now c.vmdk_layer.result c.args.format c.in-Vmdk.is
    c.vmdk_layer.ensures.refused

pub returns-in-Raw-clause-files : goal.returns-in-Raw-clause-files
returns-in-Raw-clause-files g c =
    let contents = g.H.Files.contents in
    let opened = g.H.File.HostFile.contents in
    raw_named c.raw_layer.result
    (λ l. (view_over (features_of contents opened) faults_of (bytes_of contents opened) (driver_in l)).stores)
    c.args.how.accepted (contents c.args.host.now) c.args.path.now c.args.format c.in-Raw.is
    (c.raw_layer.ensures.files c.requires.path)

pub returns-in-Qcow2-clause-files : goal.returns-in-Qcow2-clause-files
returns-in-Qcow2-clause-files g c =
    let contents = g.H.Files.contents in
    let opened = g.H.File.HostFile.contents in
    qcow2_named c.qcow2_layer.result
    (λ l. (view_over (features_of contents opened) faults_of (bytes_of contents opened) (driver_in l)).stores)
    c.args.how.accepted (contents c.args.host.now) c.args.path.now c.args.format c.in-Qcow2.is
    (c.qcow2_layer.ensures.files c.requires.path)

pub returns-in-Vmdk-clause-files : goal.returns-in-Vmdk-clause-files
returns-in-Vmdk-clause-files g c =
    let contents = g.H.Files.contents in
    let opened = g.H.File.HostFile.contents in
    named_as c.vmdk_layer.result
    (λ l. (view_over (features_of contents opened) faults_of (bytes_of contents opened) (driver_in l)).stores)
    c.args.how.accepted (contents c.args.host.now) c.args.path.now c.args.format Of.Vmdk c.in-Vmdk.is
    c.vmdk_layer.ensures.files

pub returns-in-Raw-clause-few : goal.returns-in-Raw-clause-few
returns-in-Raw-clause-few g c =
    few_raw (g.H.Files.contents c.args.host.now) c.args.path.now c.args.how.tables c.args.format c.raw_layer.result
    c.in-Raw.is

pub returns-in-Qcow2-clause-few : goal.returns-in-Qcow2-clause-few
returns-in-Qcow2-clause-few g c =
    let contents = g.H.Files.contents in
    let opened = g.H.File.HostFile.contents in
    few_told (features_of contents opened) (bytes_of contents opened) (contents c.args.host.now) c.args.path.now
    c.args.file c.args.how.tables c.args.format c.qcow2_layer.result c.in-Qcow2.is c.requires.told
    c.qcow2_layer.ensures.few

pub returns-in-Vmdk-clause-few : goal.returns-in-Vmdk-clause-few
returns-in-Vmdk-clause-few g c =
    few_vmdk (g.H.Files.contents c.args.host.now) c.args.path.now c.args.how.tables c.args.format c.vmdk_layer.result
    c.in-Vmdk.is
