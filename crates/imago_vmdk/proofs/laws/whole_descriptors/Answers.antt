-- SPDX-License-Identifier: MIT
use Rattle.std.proofs.Common.{refl}
use Rattle.std.specs.Str.{chars, is_utf8, trim_start, trim_end}
use Rattle.imago_vmdk.specs.Text.{utf8_of, words_of, number_of}
use Rattle.imago_vmdk.specs.Line.{access_of, flat_of, typed_of, sized_of, extent_of, unquoted, setting_of, text_of, verdict_of}
use Rattle.imago_vmdk.specs.Reading.{disk_in, reading_of}
use Rattle.imago_vmdk.proofs.laws.whole_descriptors.Goals as goal

pub returns : goal.returns
unfolding lib.Utf8.encode chars is_utf8 trim_start trim_end utf8_of words_of number_of access_of flat_of typed_of sized_of extent_of unquoted setting_of text_of verdict_of disk_in reading_of
returns c = record {
  extents = refl;
  vmfs = refl;
  vmfs_refused = refl;
  no_version = refl;
  last_version = refl;
  fault_before_version = refl;
  other_kind = refl;
  three_bytes = refl;
  size_past_64_bits = refl;
  version_before_size = refl;
  sum_past_64_bits = refl;
}
