-- SPDX-License-Identifier: MIT
use Rattle.imago_qcow2.proofs.DiskSteps.{same_header, stand_alike, streams_alike}
use Rattle.imago_qcow2.proofs.laws.same_tables_stand_alike.Goals as goal

pub returns-clause-header : goal.returns-clause-header
returns-clause-header c = λ a b same. same_header a b same

pub returns-clause-places : goal.returns-clause-places
returns-clause-places c = λ a b same eight p. stand_alike a b same eight p

pub returns-clause-streams : goal.returns-clause-streams
returns-clause-streams c = λ a b same eight p at n is h. streams_alike a b same eight p at n is h
