-- A sector: the 4,096 bytes in which a superblock lies on the disk. It begins with its contents, the number of fields and each field's
-- offset, 2 bytes each. The fields' bodies lie from byte 64 on, 8 bytes each: the record's numbers and the check number, which is their
-- sum with the carry past 64 bits dropped. Numbers are low byte first, and every other byte is zero. Each definition takes the numbers, or
-- how many there are, n; the fields are one more. The format is these at a superblock's five numbers. Assumes nothing.
use Rattle.std.specs.Prelude.{ℕ, ◌+◌, ◌-◌, ◌*◌, ◌%◌, ◌^◌, Bool, List, [], ◌∷◌, ◌++◌, length, take, drop, replicate, ◌==◌, slice_index}
use Rattle.laws.specs.Choice.{also, and_then, ask}
use Rattle.laws.specs.Fold.{sum, every, same}
use Rattle.laws.specs.Part.{tab}
use Rattle.laws.specs.Bytes.{is_zero}
use Rattle.laws.specs.LowFirst.{low_first, from_low, each_low, each_from_low}
use Rattle.superblock.specs.declared.Superblock.{Superblock}

abbrev pub sector_size : ℕ
sector_size = 4096

-- the place of the first body, and the sizes of a body and of a number in the contents
abbrev pub bodies_start : ℕ
bodies_start = 64

abbrev pub body_size : ℕ
body_size = 8

abbrev pub offset_size : ℕ
offset_size = 2

-- where body i begins, and how many bytes the contents of n numbers and the check number take
abbrev pub body_start : ℕ → ℕ
body_start i = bodies_start + i * body_size

abbrev pub contents_size : ℕ → ℕ
contents_size n = offset_size + (n + 1) * offset_size

-- the contents: the number of fields, and the offset of each
unfoldable pub contents : ℕ → List ℕ
contents n = each_low offset_size ((n + 1) ∷ tab (n + 1) body_start)

unfoldable pub check_number : List ℕ → ℕ
check_number ns = sum ns % 2 ^ 64

-- the sector of some numbers
unfoldable pub sector_of : List ℕ → List ℕ
sector_of ns =
    contents (length ns)
    ++ replicate (bodies_start - contents_size (length ns)) 0
    ++ each_low body_size ns
    ++ low_first body_size (check_number ns)
    ++ replicate (sector_size - body_start (length ns + 1)) 0

-- what bytes say, taken as a sector of n numbers: the numbers, and the check number behind them
unfoldable pub numbers_in : ℕ → List ℕ → List ℕ
numbers_in n xs = each_from_low body_size n (drop bodies_start xs)

unfoldable pub check_in : ℕ → List ℕ → ℕ
check_in n xs = from_low (take body_size (drop (body_start n) xs))

-- the bytes between contents and bodies, and those behind the bodies: is each of them zero?
abbrev pub gap : ℕ → List ℕ → List ℕ
gap n xs = take (bodies_start - contents_size n) (drop (contents_size n) xs)

abbrev pub rest : ℕ → List ℕ → List ℕ
rest n xs = drop (body_start (n + 1)) xs

abbrev pub zero_elsewhere : ℕ → List ℕ → Bool
zero_elsewhere n xs = also (every is_zero (gap n xs)) (every is_zero (rest n xs))

-- the questions of a sector: its length and contents (10), the bytes that should be zero (11), its check number (12)
abbrev pub ask_length : List ℕ → ℕ
ask_length xs = ask 10 (length xs == sector_size)

unfoldable pub ask_fields : ℕ → List ℕ → ℕ
ask_fields n xs =
    and_then (ask_length xs)
    (and_then (ask 10 (same (contents n) (take (contents_size n) xs)))
    (and_then (ask 11 (zero_elsewhere n xs))
    (ask 12 (check_in n xs == check_number (numbers_in n xs)))))

-- a superblock's numbers, and the superblock that numbers make
abbrev pub number_count : ℕ
number_count = 5

unfoldable pub numbers_of : Superblock → List ℕ
numbers_of s =
    s.counter
    ∷ s.journalStart
    ∷ s.journalLen
    ∷ s.indirectionTableLoc.addr
    ∷ s.indirectionTableLoc.len
    ∷ []

unfoldable pub superblock_of : List ℕ → Superblock
superblock_of ns =
    record {
      counter = slice_index ns 0;
      journalStart = slice_index ns 1;
      journalLen = slice_index ns 2;
      indirectionTableLoc = record {
        addr = slice_index ns 3;
        len = slice_index ns 4;
      };
    }

-- the format
abbrev pub ask_sector : List ℕ → ℕ
ask_sector = ask_fields number_count

abbrev pub encode_superblock : Superblock → List ℕ
encode_superblock s = sector_of (numbers_of s)

abbrev pub superblock_in : List ℕ → Superblock
superblock_in xs = superblock_of (numbers_in number_count xs)
