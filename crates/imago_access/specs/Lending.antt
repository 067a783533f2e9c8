-- SPDX-License-Identifier: MIT
use Rattle.std.specs.Borrow.{Lends, MutBor, Fml, RattleType}
use Rattle.imago_access.specs.declared.access.FormatAccess.{FormatAccess, roll-FormatAccess}
use Rattle.imago_access.specs.declared.access.FormatAccess.{out-FormatAccess}
use Rattle.imago_access.specs.contracts.access.FormatAccess.{the_row}

-- the image with another driver
abbrev pub with_driver : {D : Type 0} → FormatAccess D → D → FormatAccess D
with_driver {D} x d = roll-FormatAccess D record {
  inner = d;
  backing = (out-FormatAccess D x).backing;
}

-- once the borrow of the driver ends, the image has what was left there
abbrev pub LendsDriver : (D : RattleType) → MutBor (FormatAccess D.Denot) → MutBor D.Denot → Fml
LendsDriver D s r = Lends (the_row D) D s r (with_driver s.now)
