-- SPDX-License-Identifier: MIT
use Rattle.std.proofs.Common.{sym, ◌∙◌, Ok}
use Rattle.imago_qcow2.proofs.OpenSteps.{image_of, never_both}
use Rattle.imago_qcow2.proofs.qcow2_builder.Qcow2OpenBuilder.open_by.Goals as goal

pub returns-clause-opened : goal.returns-clause-opened
returns-clause-opened g c = (
  λ w. absurd (never_both c.args.self.base.writable w (sym c.get_writable.ensures ∙ c.if-get_writable.false)),
  λ no. (
    Ok c.in_ok-storage.storage,
    c.in_ok-storage.ensures,
    image_of g.S.Storage.bytes g.S.Storage.features c.args.self.backing_laid c.in_ok-storage.storage c.open_read_only.result c.open_read_only.ensures.opened c.open_read_only.ensures.refused c.open_read_only.ensures.alone,
  ),
)
