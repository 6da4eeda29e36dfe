-- The record of an image whose disk can be loaded: the selected superblock, its slot, and the entries that its interval parses to. What a ledger
-- keeps is such a disk.
use Rattle.std.specs.Prelude.{ℕ, ◌+◌, ◌*◌, ◌<◌, Bool, true, false, ◌≡◌, refl, List, [], eqb, length, get_or, Ok, Err, Result}
use Rattle.std.proofs.Common.{sym, ◌∙◌, ap, subst, arith, ext_get_or}
use Rattle.std.proofs.Math.Option.{Option, none, some}
use Rattle.std.proofs.lemmas.List.{length-map}
use Rattle.laws.specs.Choice.{ruin, split_eq, ask_holds}
use Rattle.laws.specs.Cut.{flat, lengths}
use Rattle.laws.specs.Part.{length_part, get_d_map_in}
use Rattle.laws.specs.Ring.{wrap, wrap_in}
use Rattle.laws.specs.Splice.{splice}
use Rattle.laws.specs.Sets.{Two, at, same_value}
use Rattle.refusal.specs.declared.Refusal.{Refusal}
use Rattle.layout.specs.declared.Geometry.{Geometry}
use Rattle.interval.specs.declared.JournalInterval.{JournalInterval}
use Rattle.interval.specs.Interval.{interval}
use Rattle.interval.specs.Facts.{ValidJournalInterval}
use Rattle.interval.specs.Journal.{JournalBlock, cyclic_slice}
use Rattle.interval.proofs.Laws.{slice_at, length_slice}
use Rattle.superblock.specs.declared.Superblock.{Superblock}
use Rattle.superblock.specs.Superblock.{increment_superblock_counter, select_superblock, select_superblock_index}
use Rattle.superblock.specs.Laws.{selects_second, selects_first}
use Rattle.journal.specs.Memory.{slice_bytes, ask_readable}
use Rattle.journal.specs.Cells.{blocks_in, length_bytes, slice_blocks}
use Rattle.journal.specs.Blocks.{length_blocks, block_in, flat_blocks}
use Rattle.range.specs.Form.{all_entries, all_parse}
use Rattle.codec.specs.Codec.{JournalEntry, JournalRange}
use Rattle.codec.specs.Format.{format, format_parses, format_entries}
use Rattle.codec.specs.Ranges.{codes, whole, whole_same, length_codes, parse_codes}
use Rattle.source.specs.JournalDisk as D
use Rattle.source.specs.JournalCache as M
use Rattle.history.specs.Ledger.{Kept}
use Rattle.history.proofs.Journal.Slots.{bit, picked, picked_is, Slots, slots_wf_is}
use Rattle.history.proofs.Simulation.Relation.{super_of, OnDisk}
use Rattle.sector.specs.Sector.{sector_size}
use Rattle.image.specs.Image.{Lent, slot_read, journal_of, interval_of, interval_bytes, interval_entries, ask_parse, refusal, chosen, readable, Chosen, held}
use Rattle.image.specs.Asked.{readable_asked, chosen_holds}
use Rattle.image.proofs.FoundLaws.{held_yes, bytes_yes, lens_yes, interval_is}
use Rattle.records.specs.Pictures.{said, Pictures, RecordIs}

-- what a slot says, taken apart
pub said_holds : (r : Result Superblock Refusal) (v : Superblock) → said r ≡ some v → r ≡ Ok v
said_holds (Ok s) v e = cc
said_holds (Err q) v e = ruin (cc)

-- the slot that is selected, as a number
pub index_bit : (t : Two Superblock) → select_superblock_index t.first t.second ≡ bit (picked t)
index_bit t =
    split_eq t.second.counter (increment_superblock_counter t.first.counter)
    (λ e. let s = selects_second t.first t.second e in s ∙ sym (ap (λ (n : ℕ). bit (eqb n 1)) s))
    (λ f. let s = selects_first t.first t.second f in s ∙ sym (ap (λ (n : ℕ). bit (eqb n 1)) s))

-- a disk that can be loaded: both slots hold well-formed superblocks, s is selected, in slot w, and its interval's blocks can be read and parse to es
pub record Loadable (g : Geometry) (slots : Two (Option Superblock)) (j : List (Option JournalBlock)) (w : Bool) (s : Superblock) (es : List JournalEntry) : Type 0 where
  pub selected : Slots g slots w s
  pub size : length j ≡ g.blocks
  pub held : JournalRange
  pub holds : cyclic_slice g j (interval s.journalStart s.journalLen) ≡ whole held
  pub parses : format.parse_journal_range held ≡ some es

-- a disk can be loaded as one thing only
pub loadable_one : (g : Geometry) (slots : Two (Option Superblock)) (j : List (Option JournalBlock)) (w w' : Bool) (s s' : Superblock) (es es' : List JournalEntry)
    → Loadable g slots j w s es → Loadable g slots j w' s' es' → (s ≡ s') × (w ≡ w') × (es ≡ es')
loadable_one g slots j w w' s s' es es' z y = (
  same_s,
  same_w,
  same_value z.parses (ap format.parse_journal_range same_held ∙ y.parses),
)
  where
    first_same : z.selected.values.first ≡ y.selected.values.first
    first_same = same_value (z.selected.holds false) (y.selected.holds false)

    second_same : z.selected.values.second ≡ y.selected.values.second
    second_same = same_value (z.selected.holds true) (y.selected.holds true)

    same_w : w ≡ w'
    same_w = sym z.selected.picks ∙ (λ i. picked (record { first = first_same i; second = second_same i })) ∙ y.selected.picks

    same_s : s ≡ s'
    same_s = sym z.selected.is ∙ (λ i. at (record { first = first_same i; second = second_same i }) (same_w i)) ∙ y.selected.is

    same_held : z.held ≡ y.held
    same_held = whole_same z.held y.held (sym z.holds ∙ (λ i. cyclic_slice g j (interval (same_s i).journalStart (same_s i).journalLen)) ∙ y.holds)

-- what a ledger keeps
pub kept_loadable : (g : Geometry) (p : ℕ) (d : D.Variables) (k : Kept) (w : Bool) → OnDisk g format p d.superblocks d.req_write_journals d.journal k w
    → Loadable g d.superblocks d.journal w (super_of format k) (flat k.ranges)
kept_loadable g p d k w z =
    record {
      selected = z.selected;
      size = z.size;
      held = codes format k.ranges;
      holds = ap (λ (n : ℕ). cyclic_slice g d.journal (interval k.start n)) (sym (length_codes format k.ranges)) ∙ z.holds;
      parses = parse_codes format k.ranges z.good;
    }

module _ (g : Geometry) (disk : List ℕ) (size_is : length disk ≡ 8192 + g.blocks * 4096) where
  pub journal_size : length (journal_of g disk) ≡ g.blocks * 4096
  journal_size = length_part disk 8192 (g.blocks * 4096) (omega (arith, size_is))

  -- a run of blocks that the disk holds, as the image has it
  module _ (d : D.Variables) (pic : Pictures g disk d) (size : length d.journal ≡ g.blocks) (v : JournalInterval) (f : ValidJournalInterval g v)
      (cs : JournalRange) (n : length cs ≡ v.len) (h : cyclic_slice g d.journal v ≡ whole cs) where
    block_is : (i : ℕ) → i < v.len → get_or (blocks_in v.len (slice_bytes (journal_of g disk) v)) i [] ≡ get_or cs i []
    block_is i l =
        let in_ring : wrap g.blocks (v.start + i) < g.blocks = wrap_in g.blocks (v.start + i) (omega (arith, f.start_in, f.len_in, l)) in
        ap (λ (xs : List JournalBlock). get_or xs i []) (sym (slice_blocks g v f (journal_of g disk) journal_size))
        ∙ slice_at g (blocks_in g.blocks (journal_of g disk)) (length_blocks g.blocks (journal_of g disk)) v f i [] l
        ∙ block_in g.blocks (journal_of g disk) (wrap g.blocks (v.start + i)) in_ring
        ∙ pic.blocks (wrap g.blocks (v.start + i)) (get_or cs i [])
        (sym (slice_at g d.journal size v f i none l)
        ∙ ap (λ (xs : List (Option JournalBlock)). get_or xs i none) h
        ∙ get_d_map_in some cs i [] none (omega (arith, l, n)))

    pub image_blocks : blocks_in v.len (slice_bytes (journal_of g disk) v) ≡ cs
    image_blocks =
        ext_get_or [] (blocks_in v.len (slice_bytes (journal_of g disk) v)) cs (length_blocks v.len (slice_bytes (journal_of g disk) v) ∙ sym n)
        (λ i l. block_is i (omega (arith, l, length_blocks v.len (slice_bytes (journal_of g disk) v))))

    pub image_holds : slice_bytes (journal_of g disk) v ≡ flat cs
    image_holds = sym (flat_blocks v.len (slice_bytes (journal_of g disk) v) (length_bytes g v f (journal_of g disk) journal_size)) ∙ ap flat image_blocks

  -- of a disk that can be loaded
  module _ (d : D.Variables) (pic : Pictures g disk d) (w : Bool) (s : Superblock) (es : List JournalEntry) (z : Loadable g d.superblocks d.journal w s es) where
    abbrev slots : Slots g d.superblocks w s
    slots = z.selected

    first_read : slot_read disk 0 ≡ Ok slots.values.first
    first_read = said_holds (slot_read disk 0) slots.values.first (sym pic.first ∙ slots.holds false)

    second_read : slot_read disk sector_size ≡ Ok slots.values.second
    second_read = said_holds (slot_read disk sector_size) slots.values.second (sym pic.second ∙ slots.holds true)

    -- the interval's blocks are those that the disk holds
    valid : ValidJournalInterval g (interval_of s)
    valid = let f = slots_wf_is g d.superblocks w s slots in record { start_in = f.start_in; len_in = f.len_in }

    bytes_are : interval_bytes g disk s ≡ flat z.held
    bytes_are =
        interval_is g disk s
        ∙ image_holds d pic z.size (interval_of s) valid z.held
        (sym (length-map z.held some) ∙ ap length (sym z.holds) ∙ length_slice g d.journal z.size (interval_of s) valid) z.holds

    parse_yes : all_parse (interval_bytes g disk s) ≡ true
    parse_yes = ap all_parse bytes_are ∙ format_parses z.held es z.parses

    entries_are : interval_entries g disk s ≡ es
    entries_are = ap all_entries bytes_are ∙ format_entries z.held es z.parses

    -- the choice, after a yes to question 1
    pub loadable_choice : chosen g disk 0 ≡ record { no = refusal 0 0; superblock = s; which = bit w }
    loadable_choice =
        chosen_holds g disk slots.values.first slots.values.second first_read second_read (slots.wf false) (slots.wf true)
        ∙ (λ i. record { no = refusal 0 0; superblock = selected_is i; which = which_is i })
      where
        selected_is : select_superblock slots.values.first slots.values.second ≡ s
        selected_is = picked_is slots.values ∙ ap (at slots.values) slots.picks ∙ slots.is

        which_is : select_superblock_index slots.values.first slots.values.second ≡ bit w
        which_is = index_bit slots.values ∙ ap bit slots.picks

    -- so too with marks by which the interval's blocks can be read
    pub marked_choice : (marks : List ℕ) → ask_readable (interval_of s) marks ≡ 0 → readable marks (chosen g disk 0) ≡ chosen g disk 0
    marked_choice marks e =
        ap (readable marks) loadable_choice
        ∙ sym (readable_asked marks (record { no = refusal 0 0; superblock = s; which = bit w }) refl 0 (sym e))
        ∙ sym loadable_choice

    -- and the record by it
    pub loadable_record : (l : Lent) (c : Chosen) → c ≡ chosen g disk 0 → (r : M.ReadyVariables) → r.superblock ≡ s → r.whichSuperblock ≡ w → r.replay_journal ≡ es → RecordIs g disk c l r
    loadable_record l c e r hs hw he = subst (λ (c : Chosen). RecordIs g disk c l r) (sym (e ∙ loadable_choice)) by_choice
      where
        yes : Chosen
        yes = record { no = refusal 0 0; superblock = s; which = bit w }

        parses_yes : ask_parse g disk s ≡ 0
        parses_yes = ask_holds 7 _ parse_yes

        by_choice : RecordIs g disk yes l r
        by_choice =
            record {
              answer = held_yes g disk yes refl parses_yes ∙ (λ i. Ok (held (sym hs i) (bit (sym hw i)) (replay i)));
              bytes = bytes_yes g disk yes refl parses_yes l ∙ ap (λ (xs : List JournalEntry). splice l.rbytes 0 (flat xs)) replay;
              lens = lens_yes g disk yes refl parses_yes l ∙ ap (λ (xs : List JournalEntry). splice l.rlens 0 (lengths xs)) replay;
            }
          where
            replay : interval_entries g disk s ≡ r.replay_journal
            replay = entries_are ∙ sym he
