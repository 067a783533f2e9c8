-- SPDX-License-Identifier: MIT
use Rattle.imago_vmdk.proofs.Extents.{flat_names}
use Rattle.imago_vmdk.proofs.vmdk.extent_mapping.Goals as goal

pub returns-in-Flat-clause-names : goal.returns-in-Flat-clause-names
returns-in-Flat-clause-names c = λ bytes. rw c.in-Flat.is (flat_names bytes c.args.storage c.in-Flat.offset c.args.at _ c.in-Flat.writable c.flat_mapping.result c.flat_mapping.ensures.mapping c.flat_mapping.ensures.rest)
