-- The starred lines of document 01's brew day at N = 8, T = 4,096, as one proved table: a field for each fact of a line, in the paper's order.
-- A field gives the whole answer of a public function, as its contract has it: a question that refused this geometry would break it.
use Rattle.std.specs.declared.option.Option as code
use Rattle.std.specs.Prelude.{ℕ, ◌*◌, Bool, true, false, ◌≡◌, refl, List, [], ◌∷◌, ◌++◌, length, drop, replicate, Some, None, Result, Ok}
use Rattle.std.proofs.Common.{◌∙◌, ap}
use Rattle.laws.specs.Choice.{also, either, ask, and_then, unless, unless_done}
use Rattle.laws.specs.Optional.{optional}
use Rattle.laws.specs.Splice.{splice}
use Rattle.laws.specs.Around.{splice_around}
use Rattle.laws.specs.Cut.{cut, lengths}
use Rattle.laws.specs.Fold.{sum, every}
use Rattle.refusal.specs.declared.Refusal.{Refusal}
use Rattle.refusal.specs.Refusal.{ok_unless}
use Rattle.layout.specs.declared.Geometry.{Geometry}
use Rattle.layout.specs.Geometry.{geometry_ok, ask_geometry}
use Rattle.layout.specs.Journal.{journal_pos_add, ask_circular}
use Rattle.interval.specs.declared.JournalInterval.{JournalInterval}
use Rattle.interval.specs.Interval.{interval, valid_journal_interval, journal_front_interval, journal_back_interval, ask_interval, ask_intervals}
use Rattle.interval.specs.Overlap.{source_interval_overlap, source_overlap_parts, source_cyclic_interval_overlap, journal_cyclic_interval_overlap}
use Rattle.superblock.specs.declared.Superblock.{Superblock}
use Rattle.superblock.specs.Superblock.{increment_superblock_counter, increments1, select_superblock_index}
use Rattle.range.specs.Form.{block_size, ok_length, blocks, encode}
use Rattle.range.specs.BrewDay.{one_entry}
use Rattle.range.specs.Memory.{view}
use Rattle.lengths.specs.Held.{held_ok}
use Rattle.lengths.specs.Entries.{entries_ok}
use Rattle.writer.specs.Entries.{range_ok}
use Rattle.writer.specs.Ring.{journal_ok, ask_write}

abbrev pub day : Geometry
day = record { blocks = 8; table = 4096 }

-- a superblock with this counter, which alone decides
abbrev pub counting : ℕ → Superblock
counting c = record { counter = c; journalStart = 0; journalLen = 0; indirectionTableLoc = record { addr = 40960; len = 4096 } }

abbrev pub largest : ℕ
largest = 18446744073709551615

-- what the public functions answer on that day, word for word from their contracts: journal_pos_add, JournalInterval's
-- journal_front_interval, journal_back_interval and journal_cyclic_interval_overlap, select_superblock_index
abbrev pub pos_add : ℕ → ℕ → Result ℕ Refusal
pos_add start span = ok_unless (ask_circular day start span) (journal_pos_add day start span)

abbrev pub front : ℕ → ℕ → Result (code.Option JournalInterval) Refusal
front start len = ok_unless (ask_interval day (interval start len)) (optional (journal_front_interval day start len))

abbrev pub back : ℕ → ℕ → Result (code.Option JournalInterval) Refusal
back start len = ok_unless (ask_interval day (interval start len)) (optional (journal_back_interval day start len))

abbrev pub overlap : JournalInterval → JournalInterval → Result Bool Refusal
overlap a b = ok_unless (ask_intervals day a b) (journal_cyclic_interval_overlap day a b)

abbrev pub selected : ℕ → ℕ → ℕ
selected counter1 counter2 = select_superblock_index (counting counter1) (counting counter2)

-- and write_range, of one entry with this byte, from block 0 on: its answer, and what it leaves in a journal
abbrev pub wrote : ℕ → List ℕ → Result ℕ Refusal
wrote byte journal = ok_unless (ask_write (byte ∷ []) (1 ∷ []) 1 journal 0) (blocks (view (byte ∷ []) (1 ∷ []) 1))

abbrev pub left : ℕ → List ℕ → List ℕ
left byte journal = unless (ask_write (byte ∷ []) (1 ∷ []) 1 journal 0) journal (splice_around journal (0 * block_size) (encode (view (byte ∷ []) (1 ∷ []) 1)))

pub record Starred : Type 0 where
  -- position 6 plus 2 is 0; 6 plus 1 is 7
  pub six_plus_two : pos_add 6 2 ≡ Ok 0
  pub six_plus_one : pos_add 6 1 ≡ Ok 7
  -- (6, 5): front (6, 2), back (0, 3); (6, 2): no back; (6, 0): neither
  pub front_6_5 : front 6 5 ≡ Ok (Some (interval 6 2))
  pub back_6_5 : back 6 5 ≡ Ok (Some (interval 0 3))
  pub back_6_2 : back 6 2 ≡ Ok None
  pub front_6_0 : front 6 0 ≡ Ok None
  pub back_6_0 : back 6 0 ≡ Ok None
  -- counters 7, 8: slot 2; 7, 7 and 7, 9: slot 1; the largest, then 0: slot 2
  pub counters_7_8 : selected 7 8 ≡ 1
  pub counters_7_7 : selected 7 7 ≡ 0
  pub counters_7_9 : selected 7 9 ≡ 0
  pub counters_wrap : selected largest 0 ≡ 1
  -- (6, 4) overlaps (1, 1); not (2, 4); (3, 0) does not overlap (1, 4)
  pub overlap_6_4_1_1 : overlap (interval 6 4) (interval 1 1) ≡ Ok true
  pub overlap_6_4_2_4 : overlap (interval 6 4) (interval 2 4) ≡ Ok false
  pub overlap_3_0_1_4 : overlap (interval 3 0) (interval 1 4) ≡ Ok false
  -- one entry, byte hexadecimal 41: bytes 01 00 01 00 01 41, then zeros; one block, and the seven others stay as they were
  pub entry_41 : (journal : List ℕ) → length journal ≡ 8 * 4096 → wrote 0x41 journal ≡ Ok 1
  pub entry_41_bytes : (journal : List ℕ) → length journal ≡ 8 * 4096
      → left 0x41 journal ≡ (1 ∷ 0 ∷ 1 ∷ 0 ∷ 1 ∷ 0x41 ∷ []) ++ replicate 4090 0 ++ drop 4096 journal

-- that write is asked of the journal's length alone, and puts a block in front
asked_41 : (journal : List ℕ) → length journal ≡ 8 * 4096 → ask_write (0x41 ∷ []) (1 ∷ []) 1 journal 0 ≡ 0
unfolding also ask and_then ask_write journal_ok range_ok entries_ok held_ok ok_length view cut lengths sum every
asked_41 journal h = simp h

put_41 : (journal : List ℕ) → length journal ≡ 8 * 4096
    → splice_around journal 0 (encode (view (0x41 ∷ []) (1 ∷ []) 1)) ≡ (1 ∷ 0 ∷ 1 ∷ 0 ∷ 1 ∷ 0x41 ∷ []) ++ replicate 4090 0 ++ drop 4096 journal
unfolding splice_around splice view cut
put_41 journal h = simp (h, one_entry)

pub starred : Starred
unfolding also either ask and_then geometry_ok ask_geometry valid_journal_interval ask_circular ask_interval ask_intervals journal_pos_add journal_front_interval journal_back_interval select_superblock_index increments1 increment_superblock_counter journal_cyclic_interval_overlap source_cyclic_interval_overlap source_overlap_parts source_interval_overlap view cut lengths sum
starred =
    record {
      six_plus_two = refl;
      six_plus_one = refl;
      front_6_5 = refl;
      back_6_5 = refl;
      back_6_2 = refl;
      front_6_0 = refl;
      back_6_0 = refl;
      counters_7_8 = refl;
      counters_7_7 = refl;
      counters_7_9 = refl;
      counters_wrap = refl;
      overlap_6_4_1_1 = refl;
      overlap_6_4_2_4 = refl;
      overlap_3_0_1_4 = refl;
      entry_41 = λ journal h. ap (λ (q : ℕ). ok_unless q 1) (asked_41 journal h);
      entry_41_bytes = λ journal h. unless_done _ _ _ (asked_41 journal h) ∙ put_41 journal h;
    }
