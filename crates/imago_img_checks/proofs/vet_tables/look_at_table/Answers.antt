-- SPDX-License-Identifier: MIT
use Rattle.std.proofs.Common.{rules, ◌≡◌, ℕ, ◌*◌, ◌/◌, ◌<◌, length, sym, subst}
use Rattle.std.specs.Prelude.{Decides, IsTrue}
use Rattle.std.proofs.lemmas.Result.{IfOk-weaker}
use Rattle.imago_storage.specs.Bytes.{IsReadAt}
use Rattle.imago_qcow2.specs.Numbers.{be64}
use Rattle.imago_img_checks.specs.VettedParts.{IsEntrySafe, IsTableSafe}
use Rattle.imago_img_checks.proofs.VetSteps.{decides_as, table_read, table_written}
use Rattle.imago_img_checks.proofs.vet_tables.look_at_table.Goals as goal

pub returns-in_ok-read-in-Stored-clause-safe : goal.returns-in_ok-read-in-Stored-clause-safe
returns-in_ok-read-in-Stored-clause-safe g c = λ (told : IsTrue (g.S.Storage.features c.args.storage.now).tells_bytes).
    let B = g.S.Storage.bytes c.args.storage.now in
    let shape = c.args.shape in
    let at = c.in-Stored.at in
    let table = c.read.new.buf in
    let r : IsReadAt B at table = search rules in
    let whole : length table ≡ shape.cluster = search rules in
    IfOk-weaker c.look_at_entries.result
    (λ safe. Decides safe ((j : ℕ) → j < length table / 8 → IsEntrySafe shape (be64 table (8 * j))))
    (λ safe. Decides safe (IsTableSafe shape B c.args.says))
    (λ safe each. decides_as safe
    (λ all. subst (IsTableSafe shape B) (sym c.in-Stored.is) (table_read shape B table at r whole all))
    (λ all. table_written shape B table at r whole (subst (IsTableSafe shape B) c.in-Stored.is all)) each)
    c.look_at_entries.ensures
