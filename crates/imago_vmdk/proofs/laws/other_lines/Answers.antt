-- SPDX-License-Identifier: MIT
use Rattle.std.proofs.Common.{refl}
use Rattle.std.specs.Str.{chars, is_utf8, trim_start, trim_end}
use Rattle.imago_vmdk.specs.Text.{utf8_of, words_of, number_of}
use Rattle.imago_vmdk.specs.Line.{access_of, flat_of, typed_of, sized_of, extent_of, unquoted, setting_of, text_of, verdict_of}
use Rattle.imago_vmdk.proofs.laws.other_lines.Goals as goal

pub returns : goal.returns
unfolding lib.Utf8.encode chars is_utf8 trim_start trim_end utf8_of words_of number_of access_of flat_of typed_of sized_of extent_of unquoted setting_of text_of verdict_of
returns c = record {
  word_alone = refl;
  small_letters = refl;
  key_like_a_word = refl;
  comment = refl;
  no_key = refl;
  unknown_key = refl;
  other_ddb_key = refl;
}
