-- SPDX-License-Identifier: MIT
use Rattle.imago_cow.specs.TableLaws.{named_once, named_below, held_below, held_apart}
use Rattle.imago_cow.proofs.laws.each_data_block_is_used_once.Goals as goal

pub returns-clause-named_once : goal.returns-clause-named_once
returns-clause-named_once c = named_once c.args.table.now

pub returns-clause-named_below : goal.returns-clause-named_below
returns-clause-named_below c = named_below c.args.table.now

pub returns-clause-held_below : goal.returns-clause-held_below
returns-clause-held_below c = held_below c.args.table.now

pub returns-clause-held_apart : goal.returns-clause-held_apart
returns-clause-held_apart c = held_apart c.args.table.now
