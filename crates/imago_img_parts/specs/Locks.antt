-- Which files QEMU holds, by the lines of /proc/locks.
-- SPDX-License-Identifier: MIT
use Rattle.std.specs.Prelude.{◌∷◌, ◌+◌, ◌-◌, ◌*◌, ◌/◌, ◌%◌, ◌^◌, ◌==◌, ◌||◌, ◌&&◌, ℕ, List, []}
use Rattle.std.specs.Prelude.{Bool, false, Option, Some, None, if◌then◌else◌, nat_lt, not}
use Rattle.std.specs.Prelude.{option_and_then, codes}
use Rattle.std.specs.List.{list_any, slice_split}
use Rattle.std.specs.Str.{bytes_eq, trim_start}
use Rattle.imago_words.specs.Reading.{cut_at}

-- the first of two parts, or all of a text that has one; and the second, or nothing
abbrev first_part : List ℕ → Option (List ℕ × List ℕ) → List ℕ
first_part text None = text
first_part text (Some parts) = parts.0

abbrev second_part : Option (List ℕ × List ℕ) → List ℕ
second_part None = []
second_part (Some parts) = parts.1

-- The first field of a text, and what stands behind it. Fields have spaces between them.
abbrev pub field : List ℕ → List ℕ
field text = first_part (trim_start text) (cut_at 32 (trim_start text))

abbrev pub behind : List ℕ → List ℕ
behind text = second_part (cut_at 32 (trim_start text))

-- the value of a digit, of which those above 9 are lower-case letters
unfoldable pub digit_of : ℕ → Option ℕ
digit_of b = if nat_lt 47 b && nat_lt b 58 then Some (b - 48) else
    if nat_lt 96 b && nat_lt b 103 then Some (b - 87) else None

-- a number in that base with one more digit behind it, if it is below 2 ^ 64
abbrev with_value : ℕ → ℕ → ℕ → Option ℕ
with_value base n digit = if nat_lt digit base && nat_lt (n * base + digit) (2 ^ 64)
    then Some (n * base + digit) else None

abbrev pub with_digit : ℕ → ℕ → ℕ → Option ℕ
with_digit base n b = option_and_then (with_value base n) (digit_of b)

-- the number in that base that a text is whose digits so far are that number
unfoldable pub number_from : ℕ → ℕ → List ℕ → Option ℕ
number_from base n [] = Some n
number_from base n (b ∷ rest) =
    option_and_then (λ m. number_from base m rest) (with_digit base n b)

-- the number in that base that a text is: it has one digit or more
abbrev pub number_of : ℕ → List ℕ → Option ℕ
number_of base [] = None
number_of base (b ∷ rest) = number_from base 0 (b ∷ rest)

-- what was read is that number
abbrev pub is_value : ℕ → Option ℕ → Bool
is_value n None = false
is_value n (Some found) = found == n

-- A device has a major number of 12 bits, and a minor one of 20 bits, of which the lowest 8 stand
-- below the major one.
abbrev pub major_of : ℕ → ℕ
major_of device = device / 2 ^ 8 % 2 ^ 12

abbrev pub minor_of : ℕ → ℕ
minor_of device = device / 2 ^ 20 % 2 ^ 12 * 2 ^ 8 + device % 2 ^ 8

-- the minor number of a file's device and the file's own number, cut at a colon
abbrev pub is_inode : ℕ → ℕ → Option (List ℕ × List ℕ) → Bool
is_inode device inode None = false
is_inode device inode (Some parts) = is_value (minor_of device) (number_of 16 parts.0)
    && is_value inode (number_of 10 parts.1)

-- the same behind the major number
abbrev is_file_in : ℕ → ℕ → Option (List ℕ × List ℕ) → Bool
is_file_in device inode None = false
is_file_in device inode (Some parts) = is_value (major_of device) (number_of 16 parts.0)
    && is_inode device inode (cut_at 58 parts.1)

-- A text is MAJOR:MINOR:INODE of a file, of which the first two are hexadecimal.
abbrev pub is_file : ℕ → ℕ → List ℕ → Bool
is_file device inode text = is_file_in device inode (cut_at 58 text)

-- the last byte of a range: EOF stands for the greatest
abbrev pub last_of : List ℕ → Option ℕ
last_of text = if bytes_eq text (codes "EOF") then Some (2 ^ 64 - 1) else number_of 10 text

abbrev is_within : ℕ → ℕ → ℕ → Bool
is_within first last byte = not (nat_lt byte first) && not (nat_lt last byte)

-- A range has a byte by which QEMU holds a file. From byte 100 on stands one for each right that it
-- has, and from byte 200 on one for each that it leaves to nobody else: right 1 is to write, and
-- right 3 to change the length.
abbrev pub is_held_between : ℕ → ℕ → Bool
is_held_between first last = is_within first last 101 || (is_within first last 103
    || (is_within first last 201 || is_within first last 203))

abbrev is_held_to : ℕ → Option ℕ → Bool
is_held_to first None = false
is_held_to first (Some last) = is_held_between first last

abbrev pub is_held_from : Option ℕ → List ℕ → Bool
is_held_from None last = false
is_held_from (Some first) last = is_held_to first (last_of last)

-- the kinds of locks on ranges: those of a process, and those of an open file
abbrev pub is_lock : List ℕ → Bool
is_lock kind = bytes_eq kind (codes "POSIX") || bytes_eq kind (codes "OFDLCK")

-- a lock's file, the first byte and the last one
abbrev pub holds_behind : ℕ → ℕ → List ℕ → Bool
holds_behind device inode text = is_file device inode (field text)
    && is_held_from (number_of 10 (field (behind text))) (field (behind (behind text)))

-- the same behind its kind, whether it is advisory, what it is for, and its process
abbrev holds_by : ℕ → ℕ → List ℕ → Bool
holds_by device inode text = is_lock (field text)
    && holds_behind device inode (behind (behind (behind (behind text))))

-- A line tells a lock by which QEMU holds a file. The line of one that is waited for has an arrow in
-- the place of its kind.
abbrev pub is_holding : ℕ → ℕ → List ℕ → Bool
is_holding device inode line = holds_by device inode (behind line)

-- Some line does. A line ends at a byte of value 10.
abbrev pub is_held_in : ℕ → ℕ → List ℕ → Bool
is_held_in device inode text = list_any (is_holding device inode) (slice_split (λ b. b == 10) text)
