-- What a text is that is made up in place.
-- SPDX-License-Identifier: MIT
use Rattle.std.specs.Prelude.{ℕ, List, take}
use Rattle.imago_img_disks.specs.declared.text.Text.{Text}

-- its bytes
abbrev pub text_of : Text → List ℕ
text_of t = take t.count t.bytes
