-- SPDX-License-Identifier: MIT
use Rattle.std.proofs.Common.{rules, ◌≤◌, length}
use Rattle.std.specs.Prelude.{IsTrue}
use Rattle.imago_storage.specs.Bytes.{IsReadAt}
use Rattle.imago_qcow2_check.proofs.KnownSteps.{known_moved, bitmaps_moved}
use Rattle.imago_qcow2_check.proofs.HeadSteps.{longest, head_moved, header_accepted}
use Rattle.imago_qcow2_check.proofs.head.read_head.Goals as goal

pub check_known-requires-clause-most : goal.check_known-requires-clause-most
check_known-requires-clause-most g c = longest c.in_ok-says.says.cluster c.in_ok-says.ensures.size

pub returns-clause-says : goal.returns-clause-says
returns-clause-says g c = λ (told : IsTrue (g.S.Storage.features c.args.storage.now).tells_bytes).
    let B = g.S.Storage.bytes c.args.storage.now in
    let r : IsReadAt B 0 c.read.new.buf = search rules in
    let l : 112 ≤ length c.read.new.buf = search rules in
    let m = head_moved B c.read.new.buf c.in_ok-says.says r l c.in_ok-says.ensures.says in
    record {
      cluster = m.cluster;
      version = m.version;
      order = m.order;
      blocks_start = m.blocks_start;
      blocks_length = m.blocks_length;
      l1_start = m.l1_start;
      l1_count = m.l1_count;
      snapshots_start = m.snapshots_start;
      snapshots_count = m.snapshots_count;
    }

pub returns-clause-known : goal.returns-clause-known
returns-clause-known g c = λ (told : IsTrue (g.S.Storage.features c.args.storage.now).tells_bytes).
    let B = g.S.Storage.bytes c.args.storage.now in
    let r : IsReadAt B 0 c.read.new.buf = search rules in
    let l : 112 ≤ length c.read.new.buf = search rules in
    let k = c.in_ok-bitmaps.ensures in
    known_moved B c.read.new.buf r l k.features (k.extensions told c.in_ok-says.ensures.says.cluster)

pub returns-clause-bitmaps : goal.returns-clause-bitmaps
returns-clause-bitmaps g c = λ (told : IsTrue (g.S.Storage.features c.args.storage.now).tells_bytes).
    let B = g.S.Storage.bytes c.args.storage.now in
    let r : IsReadAt B 0 c.read.new.buf = search rules in
    let l : 112 ≤ length c.read.new.buf = search rules in
    bitmaps_moved B c.read.new.buf c.in_ok-bitmaps.bitmaps r l (c.in_ok-bitmaps.ensures.bitmaps told c.in_ok-says.ensures.says.cluster)

pub returns-clause-header : goal.returns-clause-header
returns-clause-header g c = λ (told : IsTrue (g.S.Storage.features c.args.storage.now).tells_bytes).
    let B = g.S.Storage.bytes c.args.storage.now in
    let r : IsReadAt B 0 c.read.new.buf = search rules in
    let l : 112 ≤ length c.read.new.buf = search rules in
    header_accepted B c.read.new.buf c.in_ok-file.file r l c.in_ok-file.ensures.value c.in_ok-says.ensures.header
