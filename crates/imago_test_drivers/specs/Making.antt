-- SPDX-License-Identifier: MIT
use Rattle.std.specs.Prelude.{ℕ, false}
use Rattle.imago_drivers.specs.Laws.{IsLawful, AreCauses}
use Rattle.imago_drivers.specs.declared.mapping.Ticket.{Ticket}
use Rattle.imago_drivers.specs.View.{View}
use Rattle.imago_test_drivers.specs.declared.making.Making.{Making}
use Rattle.imago_test_drivers.specs.declared.pattern.Kind.{Kind}
use Rattle.imago_test_drivers.specs.Pattern.{pattern_view}
use Rattle.imago_test_drivers.specs.PatternLaws.{pattern_lawful, pattern_causes}

-- a disk of that kind which doesn't tell its bytes, nor how many it maps at once
abbrev pub making_view : Kind → ℕ → View Ticket
making_view kind size =
    let v = pattern_view kind size in
    record v {
      abilities = record v.abilities { keeps_data = false; tells_bytes = false };
      limits = record v.limits { whole = λ op o n. ⊥ };
    }

pub making_lawful : (kind : Kind) (size : ℕ) → IsLawful (making_view kind size)
making_lawful kind size =
    let l = pattern_lawful kind size in
    record {
      ends = l.ends;
      bounded = l.bounded;
      stored = l.stored;
      special = l.special;
      faulty = l.faulty;
      lower = l.lower;
      own = l.own;
      refused = l.refused;
      told = λ keeps. keeps;
      granularity = l.granularity;
      blocks = l.blocks;
    }

pub making_causes : (kind : Kind) (size : ℕ) → AreCauses (making_view kind size)
making_causes kind size =
    let c = pattern_causes kind size in
    record { part = c.part; part_copied = c.part_copied; bound = c.bound; lends = c.lends }

-- a disk as its callers see it
abbrev pub view_of : Making → View Ticket
view_of d = making_view d.kind d.size
