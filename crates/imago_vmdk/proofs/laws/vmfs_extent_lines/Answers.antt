-- SPDX-License-Identifier: MIT
use Rattle.std.proofs.Common.{refl}
use Rattle.std.specs.Str.{chars, is_utf8, trim_start, trim_end}
use Rattle.imago_vmdk.specs.Text.{utf8_of, words_of, number_of}
use Rattle.imago_vmdk.specs.Line.{access_of, flat_of, typed_of, sized_of, extent_of, unquoted, setting_of, text_of, verdict_of}
use Rattle.imago_vmdk.proofs.laws.vmfs_extent_lines.Goals as goal

pub returns : goal.returns
unfolding lib.Utf8.encode chars is_utf8 trim_start trim_end utf8_of words_of number_of access_of flat_of typed_of sized_of extent_of unquoted setting_of text_of verdict_of
returns c = record {
  refused = refl;
  refused_beside_unknown_keys = refl;
  read_write = refl;
  read_only = refl;
  no_access = refl;
  offset = refl;
  no_quotes = refl;
  flat = refl;
  sparse = refl;
  small_letters = refl;
  unknown_key = refl;
}
