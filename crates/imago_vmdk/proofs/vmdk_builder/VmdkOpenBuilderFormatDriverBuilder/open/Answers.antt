-- SPDX-License-Identifier: MIT
use Rattle.imago_vmdk.proofs.vmdk_builder.VmdkOpenBuilderFormatDriverBuilder.open.Goals as goal

pub returns-clause-opened : goal.returns-clause-opened
returns-clause-opened g c = (c.open_by.new.gate, c.open_by.ensures.opened)
