-- SPDX-License-Identifier: MIT
use Rattle.std.proofs.Common.{◌≡◌, length, arith}
use Rattle.imago_qcow2.proofs.TableSteps.{there_kept, loaded_last, known_more}
use Rattle.imago_qcow2.proofs.table.add.Goals as goal

pub returns-clause-kept : goal.returns-clause-kept
returns-clause-kept g c = λ k x e. rw c.in_ok-push.ensures.items (there_kept c.args.loaded.now.tables.items c.in_ok-table.table k x e)

pub returns-clause-loaded : goal.returns-clause-loaded
returns-clause-loaded g c =
    let n : c.len-number.result ≡ length c.args.loaded.now.tables.items = omega (arith, c.len-number.ensures, c.args.loaded.now.tables.ok.0) in
    loaded_last (g.S.Storage.features c.args.storage.now) (g.S.Storage.bytes c.args.storage.now) c.args.cluster c.args.loaded.now.tables.items c.push.new.self.items c.in_ok-table.table c.len-number.result c.args.at c.in_ok-push.ensures.items n c.in_ok-table.ensures.whole c.in_ok-table.ensures.read

pub returns-clause-known : goal.returns-clause-known
returns-clause-known g c =
    known_more (g.S.Storage.features c.args.storage.now) (g.S.Storage.bytes c.args.storage.now) c.args.cluster c.args.loaded.now (record { tables = c.push.new.self; numbers = c.insert.new.self; room = c.args.loaded.now.room }) c.args.at c.len-number.result (returns-clause-kept g c) (returns-clause-loaded g c) c.in_ok-insert.ensures.updates c.requires.known
