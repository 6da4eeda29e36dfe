-- Superblocks and sectors, there and back: a sector that was written reads back as its superblock, what reads as a superblock is what would
-- be written of it, and so no second sector reads as the same superblock. Assumes nothing.
use Rattle.std.specs.Prelude.{◌≡◌, ℕ, ◌^◌, ◌<◌, List, replicate, refl, Ok, Err}
use Rattle.std.proofs.Common.{sym, ◌∙◌, ap, arith, lt-ltb}
use Rattle.laws.specs.Choice.{also, and_then, ask, also_both}
use Rattle.laws.specs.Digits.{digits, is_digit}
use Rattle.laws.specs.Fold.{every, same}
use Rattle.laws.specs.Part.{tab}
use Rattle.laws.specs.Bytes.{Bytes}
use Rattle.laws.specs.LowFirst.{each_low, each_from_low}
use Rattle.superblock.specs.declared.Superblock.{Superblock}
use Rattle.refusal.specs.Refusal.{unless_yes, unless_ok}
use Rattle.refusal.specs.declared.Refusal.TheVariants as no
use Rattle.sector.specs.Answer.{read_sector}
use Rattle.sector.specs.Laws.{Words, numbers_in_sector_of, ask_fields_sector_of, sector_asked, sector_of_numbers_in}
use Rattle.sector.specs.Sector.{sector_size, contents, ask_fields, number_count, numbers_in, numbers_of, sector_of, superblock_of, ask_sector, encode_superblock, superblock_in}

-- a superblock of 64-bit numbers, as each is in the code
pub record Fits (s : Superblock) : Type 0 where
  pub counter_fits : s.counter < 2 ^ 64
  pub start_fits : s.journalStart < 2 ^ 64
  pub len_fits : s.journalLen < 2 ^ 64
  pub addr_fits : s.indirectionTableLoc.addr < 2 ^ 64
  pub table_fits : s.indirectionTableLoc.len < 2 ^ 64

superblock_again : (s : Superblock) → superblock_of (numbers_of s) ≡ s
unfolding superblock_of numbers_of
superblock_again s = refl

numbers_fit : (s : Superblock) → Fits s → Words (numbers_of s)
unfolding numbers_of every is_digit
numbers_fit s f =
    also_both _ _ (lt-ltb _ _ f.counter_fits)
    (also_both _ _ (lt-ltb _ _ f.start_fits)
    (also_both _ _ (lt-ltb _ _ f.len_fits)
    (also_both _ _ (lt-ltb _ _ f.addr_fits)
    (also_both _ _ (lt-ltb _ _ f.table_fits) refl))))

-- reading a written sector returns the record
pub read_written : (s : Superblock) → Fits s → read_sector (encode_superblock s) ≡ Ok s
unfolding numbers_of
read_written s f =
    unless_ok (ask_sector (encode_superblock s)) (superblock_in (encode_superblock s))
    (ask_fields_sector_of (numbers_of s) (omega arith) (numbers_fit s f))
    ∙ ap (λ (ns : List ℕ). Ok (superblock_of ns)) (numbers_in_sector_of (numbers_of s) (omega arith) (numbers_fit s f))
    ∙ ap Ok (superblock_again s)

-- a sector of zeros only isn't one: its contents are others
pub zeros_refused : read_sector (replicate sector_size 0) ≡ Err no.Contents
unfolding ask_fields and_then ask same contents each_low digits also tab
zeros_refused = refl

-- the numbers in a sector are those of the superblock in it
numbers_again : (xs : List ℕ) → numbers_of (superblock_in xs) ≡ numbers_in number_count xs
unfolding numbers_of superblock_of numbers_in each_from_low
numbers_again xs = refl

-- what reads as a record is what would be written of it
pub written_read : (s : Superblock) (xs : List ℕ) → Bytes xs → read_sector xs ≡ Ok s → encode_superblock s ≡ xs
written_read s xs b e =
    let p = unless_yes (ask_sector xs) (superblock_in xs) s e in
    ap encode_superblock (sym p.1)
    ∙ ap sector_of (numbers_again xs)
    ∙ sector_of_numbers_in number_count xs (omega arith) b (sector_asked number_count xs p.0)

-- no second sector reads as the same record
pub one_record : (s : Superblock) (xs ys : List ℕ) → Bytes xs → Bytes ys → read_sector xs ≡ Ok s → read_sector ys ≡ Ok s → xs ≡ ys
one_record s xs ys b c e f = sym (written_read s xs b e) ∙ written_read s ys c f
