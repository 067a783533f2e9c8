-- SPDX-License-Identifier: MIT
use Rattle.std.proofs.Common.{refl}
use Rattle.std.specs.Str.{chars, is_utf8, trim_start, trim_end}
use Rattle.imago_vmdk.specs.Text.{utf8_of, words_of, number_of}
use Rattle.imago_vmdk.specs.Line.{access_of, flat_of, typed_of, sized_of, extent_of, unquoted, setting_of, text_of, verdict_of}
use Rattle.imago_vmdk.proofs.laws.lines_with_unknown_keys.Goals as goal

pub returns : goal.returns
unfolding lib.Utf8.encode chars is_utf8 trim_start trim_end utf8_of words_of number_of access_of flat_of typed_of sized_of extent_of unquoted setting_of text_of verdict_of
returns c = record {
  encoding = refl;
  key_like_a_word = refl;
  unknown_key = refl;
  bad_count = refl;
  bad_geometry = refl;
  parent = refl;
}
