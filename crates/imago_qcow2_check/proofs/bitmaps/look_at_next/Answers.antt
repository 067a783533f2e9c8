-- SPDX-License-Identifier: MIT
use Rattle.imago_qcow2_check.proofs.bitmaps.look_at_next.Goals as goal

pub returns-clause-told : goal.returns-clause-told
returns-clause-told g c = λ counts told. c.in_ok-look_at_table.ensures.told counts told (c.in_ok-bitmap.ensures.says told)

pub returns-clause-next : goal.returns-clause-next
returns-clause-next g c = λ told. (c.in_ok-bitmap.ensures.says told).ends
