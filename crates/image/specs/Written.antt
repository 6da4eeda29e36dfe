-- What was written reads back: the two superblocks, and the blocks.
use Rattle.std.specs.Prelude.{None, Some, Ok, Err}
use Rattle.std.specs.declared.option.Option as code
use Rattle.std.specs.Prelude.{ℕ, ◌+◌, ◌*◌, ◌≡◌, refl, drop, replicate, eqb}
use Rattle.std.proofs.Common.{sym, ◌∙◌, arith, eq-eqb, drop_at}
use Rattle.std.proofs.Math.Path.{ap}
use mathlib.Core.List.{List, ◌++◌, append-nil, append_assoc}
use Rattle.std.proofs.Math.ListN.{length, take, length-append}
use Rattle.std.proofs.lemmas.List.{length-replicate}
use Rattle.std.proofs.Math.Seq.{take_at, take_all}
use Rattle.laws.specs.Choice.{ask, unless, ask_holds, unless_done}
use Rattle.laws.specs.Part.{drop_end}
use Rattle.laws.specs.Splice.{clipped, clipped_then, clipped_fits, splice_is}
use Rattle.layout.specs.declared.Geometry.{Geometry}
use Rattle.superblock.specs.declared.Superblock.{Superblock}
use Rattle.refusal.specs.declared.Refusal.TheVariants as no
use Rattle.sector.specs.Answer.{read_sector}
use Rattle.sector.specs.Laws.{length_sector_of}
use Rattle.sector.specs.Round.{Fits, read_written, zeros_refused}
use Rattle.sector.specs.Sector.{sector_size, numbers_of, encode_superblock}
use Rattle.image.specs.Image.{slot_read, journal_of, ask_image, slot_bytes, image_of}
use Rattle.image.specs.Asked.{Imaged, image_asked}

pub length_superblock : (s : Superblock) → length (encode_superblock s) ≡ sector_size
unfolding numbers_of
length_superblock s = length_sector_of (numbers_of s) (omega arith)

pub length_slot : (m : code.Option Superblock) → length (slot_bytes m) ≡ sector_size
unfolding slot_bytes
length_slot (Some s) = length_superblock s
length_slot None = length-replicate {A = ℕ} sector_size 0

-- three runs, one behind the other, over the whole of an image
pub written_runs : (g : Geometry) (first second : code.Option Superblock) (blocks disk x y z : List ℕ) → ask_image g (length disk) (length blocks) (length blocks) (length blocks) ≡ 0
    → x ≡ clipped disk 0 (slot_bytes first) → y ≡ clipped x sector_size (slot_bytes second) → z ≡ clipped y 8192 blocks
    → z ≡ unless (ask_image g (length disk) (length blocks) (length blocks) (length blocks)) disk (image_of first second blocks)
unfolding image_of
written_runs g first second blocks disk x y z q hx hy hz =
    hz
    ∙ (λ i. clipped (two i) (three i) blocks)
    ∙ clipped_then disk 0 (a ++ b) blocks
    ∙ ap (clipped disk 0) (append_assoc a b blocks)
    ∙ clipped_fits disk 0 (a ++ (b ++ blocks)) (omega (arith, long))
    ∙ splice_is disk 0 (a ++ (b ++ blocks))
    ∙ ap (λ (l : List ℕ). (a ++ (b ++ blocks)) ++ l) (drop_end disk (0 + length (a ++ (b ++ blocks))) (omega (arith, long)))
    ∙ append-nil (a ++ (b ++ blocks))
    ∙ sym (unless_done _ _ _ q)
  where
    a : List ℕ
    a = slot_bytes first

    b : List ℕ
    b = slot_bytes second

    v : Imaged g (length disk) (length blocks) (length blocks) (length blocks)
    v = image_asked g (length disk) (length blocks) (length blocks) (length blocks) q

    one : sector_size ≡ 0 + length a
    one = omega (arith, length_slot first)

    two : y ≡ clipped disk 0 (a ++ b)
    two = hy ∙ (λ i. clipped (hx i) (one i) b) ∙ clipped_then disk 0 a b

    three : 8192 ≡ 0 + length (a ++ b)
    three = omega (arith, length-append a b, length_slot first, length_slot second)

    long : length (a ++ (b ++ blocks)) ≡ length disk
    long = omega (arith, length-append a (b ++ blocks), length-append b blocks, length_slot first, length_slot second, v.disk_size, v.pieces_size)

module _ (first second : code.Option Superblock) (blocks : List ℕ) where
  first_sector : take sector_size (image_of first second blocks) ≡ slot_bytes first
  unfolding image_of
  first_sector = take_at (slot_bytes first) (slot_bytes second ++ blocks) sector_size (length_slot first)

  second_sector : take sector_size (drop sector_size (image_of first second blocks)) ≡ slot_bytes second
  unfolding image_of
  second_sector =
      ap (take sector_size) (drop_at (slot_bytes first) (slot_bytes second ++ blocks) sector_size (length_slot first))
      ∙ take_at (slot_bytes second) blocks sector_size (length_slot second)

  -- what the slots hold reads back: a superblock of 64-bit numbers, or, where nothing is held, a 10
  pub first_written : slot_read (image_of first second blocks) 0 ≡ read_sector (slot_bytes first)
  unfolding slot_read
  first_written = ap read_sector first_sector

  pub second_written : slot_read (image_of first second blocks) sector_size ≡ read_sector (slot_bytes second)
  unfolding slot_read
  second_written = ap read_sector second_sector

  pub blocks_written : (g : Geometry) → length blocks ≡ g.blocks * 4096 → journal_of g (image_of first second blocks) ≡ blocks
  unfolding image_of
  blocks_written g h =
      ap (λ (l : List ℕ). take (g.blocks * 4096) (drop 8192 l)) (sym (append_assoc (slot_bytes first) (slot_bytes second) blocks))
      ∙ ap (take (g.blocks * 4096)) (drop_at (slot_bytes first ++ slot_bytes second) blocks 8192 heads)
      ∙ take_all (g.blocks * 4096) blocks (omega (arith, h))
    where
      heads : length (slot_bytes first ++ slot_bytes second) ≡ 8192
      heads = omega (arith, length-append (slot_bytes first) (slot_bytes second), length_slot first, length_slot second)

pub held_written : (s : Superblock) → Fits s → read_sector (slot_bytes (Some s)) ≡ Ok s
unfolding slot_bytes
held_written s f = read_written s f

pub empty_written : read_sector (slot_bytes None) ≡ Err no.Contents
unfolding slot_bytes
empty_written = zeros_refused

-- a sector of its length is written whole
pub held_put : (s : Superblock) (xs : List ℕ) {y : List ℕ} → length xs ≡ sector_size → y ≡ unless (ask 10 (eqb (length xs) sector_size)) xs (encode_superblock s) → y ≡ slot_bytes (Some s)
unfolding slot_bytes
held_put s xs h e = e ∙ unless_done (ask 10 (eqb (length xs) sector_size)) xs (encode_superblock s) (ask_holds 10 (eqb (length xs) sector_size) (eq-eqb (length xs) sector_size h))

pub empty_put : replicate sector_size 0 ≡ slot_bytes None
unfolding slot_bytes
empty_put = refl
