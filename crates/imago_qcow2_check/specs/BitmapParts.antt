-- A bitmap, and the directory of bitmaps, as they are read.
-- SPDX-License-Identifier: MIT
use Rattle.std.specs.Prelude.{◌≡◌, ℕ, List}
use Rattle.imago_qcow2_check.specs.declared.bitmaps.Bitmap.{Bitmap}
use Rattle.imago_qcow2_check.specs.declared.bitmaps.Directory.{Directory}
use Rattle.imago_qcow2_check.specs.Bitmaps.{bitmap_count, directory_start, directory_length}
use Rattle.imago_qcow2_check.specs.Bitmaps.{bitmap_table, bitmap_table_count, bitmap_end}

-- what the header extension says that begins there
pub record IsDirectory (bytes : List ℕ) (at : ℕ) (d : Directory) : Type 0 where
  pub start : d.start ≡ directory_start bytes at
  pub size : d.size ≡ directory_length bytes at
  pub count : d.count ≡ bitmap_count bytes at

-- what the entry of a bitmap says that begins there
pub record IsBitmap (bytes : List ℕ) (at : ℕ) (b : Bitmap) : Type 0 where
  pub table : b.table ≡ bitmap_table bytes at
  pub count : b.count ≡ bitmap_table_count bytes at
  pub ends : b.end ≡ bitmap_end bytes at
