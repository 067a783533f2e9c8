-- SPDX-License-Identifier: MIT
use Rattle.std.proofs.Common.{rules, refl}
use Rattle.imago_storage.proofs.Outcomes.{shows_same}
use Rattle.imago_storage.proofs.Padding.{len_positive}
use Rattle.imago_storage.proofs.ZeroRanges.{HasZeroed_unchanged}
use Rattle.imago_storage.proofs.zeroes.zero_any.Goals as goal

pub returns-in_default : goal.returns-in_default
returns-in_default g c = record {
  empty = search rules;
  written = λ some. HasZeroed_unchanged _ _ _ _ _ _ (len_positive _ (g.met.S.Storage.lawful c.args.storage.now)) refl;
  wraps = search rules;
  may_wrap = search rules;
  fits = search rules;
  features = refl;
  only = search rules;
  cause = search rules;
  memory = search rules;
  early = λ m none. shows_same _ _ _ _ _ refl;
  performed = λ some fits. search rules;
}
