-- SPDX-License-Identifier: MIT
use Rattle.std.proofs.Common.{refl}
use Rattle.std.specs.Str.{chars, is_utf8, trim_start, trim_end}
use Rattle.imago_vmdk.specs.Text.{utf8_of, words_of, number_of}
use Rattle.imago_vmdk.specs.Line.{access_of, flat_of, typed_of, sized_of, extent_of, unquoted, setting_of, text_of, verdict_of}
use Rattle.imago_vmdk.proofs.laws.faulty_extent_lines.Goals as goal

pub returns : goal.returns
unfolding lib.Utf8.encode chars is_utf8 trim_start trim_end utf8_of words_of number_of access_of flat_of typed_of sized_of extent_of unquoted setting_of text_of verdict_of
returns c = record {
  no_quotes = refl;
  open_quotes = refl;
  four_fields = refl;
  bad_offset = refl;
  glued_type = refl;
  sparse = refl;
  no_type = refl;
  bad_count = refl;
  count_before_type = refl;
  minus_sign = refl;
  large_count = refl;
}
