-- The other half: a disk at rest whose image gives a record is brought to Ready by some load, and the machine there is the record's. Bytes that parse
-- are ranges one after another and nothing else, so that such a disk holds what some ledger keeps.
use Rattle.std.specs.Prelude.{ℕ, ◌+◌, ◌*◌, Bool, true, false, ◌≡◌, refl, List, length}
use Rattle.std.proofs.Common.{sym, ◌∙◌, ap, subst, arith}
use Rattle.std.proofs.Math.Option.{Option, some}
use Rattle.std.proofs.lemmas.List.{length-map}
use Rattle.laws.specs.Choice.{ruin}
use Rattle.laws.specs.Cut.{flat}
use Rattle.laws.specs.Bytes.{is_byte, Bytes}
use Rattle.laws.specs.Fold.{Each}
use Rattle.laws.specs.Sets.{Two, at, both, none_some}
use Rattle.layout.specs.declared.Geometry.{Geometry}
use Rattle.interval.specs.Facts.{ValidJournalInterval}
use Rattle.interval.specs.Interval.{interval}
use Rattle.interval.specs.Journal.{JournalBlock, cyclic_slice, full_range}
use Rattle.interval.proofs.Laws.{length_slice}
use Rattle.superblock.specs.declared.Superblock.{Superblock}
use Rattle.superblock.specs.Laws.{WFSuperblock}
use Rattle.journal.specs.Cells.{blocks_in, length_bytes}
use Rattle.journal.specs.Blocks.{flat_size, blocks_flat}
use Rattle.range.specs.Form as Form
use Rattle.range.specs.Form.{Entry, length_width, most_entry_length, encode_all_at, all_parse}
use Rattle.range.specs.Blocks.{format_sizes}
use Rattle.range.specs.Ranges.{parse_all_some, parse_all_iff}
use Rattle.codec.specs.Codec.{JournalRange, Sized, concat_fold}
use Rattle.codec.specs.Format.{format, codes_sized, flat_codes}
use Rattle.codec.proofs.Good.{each_good}
use Rattle.codec.specs.Ranges.{codes, blocks, whole, full_whole, length_codes}
use Rattle.source.specs.JournalCache as M
use Rattle.source.specs.JournalCache.{SuperblockUnfinished, SuperblockSuccess}
use Rattle.source.specs.JournalSystem as Y
use Rattle.source.specs.Limits.{limits}
use Rattle.history.specs.Ledger.{Call, Kept, fresh, shown}
use Rattle.history.specs.Statement.{ready_by}
use Rattle.history.proofs.Journal.Slots.{parity, picked, picked_is, Slots, slots_wf_is}
use Rattle.history.proofs.Simulation.Relation.{super_of, Sim}
use Rattle.history.proofs.Loads.Comes.{load_calls, taken, comes_trace, comes_loads}
use Rattle.history.proofs.Loads.Superblocks.{resting, limits_room}
use Rattle.history.proofs.Loads.Loads.{comes_up}
use Rattle.sector.specs.Sector.{sector_size}
use Rattle.image.specs.Image.{Lent, slot_read, superblock1, superblock2, selected, journal_of, interval_of, interval_bytes, interval_entries, ask_lent, chosen, unmarked, ask_record}
use Rattle.image.specs.Asked.{SlotsAsked, image_asked, slot_holds_is}
use Rattle.image.proofs.FoundLaws.{interval_is, interval_every, chosen_record}
use Rattle.records.specs.Pictures.{said, Pictures, at_rest, Brought}
use Rattle.records.specs.Proofs.Loadable.{journal_size, image_blocks, loadable_record}
use Rattle.records.specs.Proofs.Loads.{any_load, only_of}

module _ (g : Geometry) (disk : List ℕ) (l : Lent) (slots : Two (Option Superblock)) (j : List (Option JournalBlock)) (pic : Pictures g disk (resting slots j)) (size : length j ≡ g.blocks)
    (full : full_range (cyclic_slice g j (interval_of (selected disk))) ≡ true) (bytes : Bytes disk) (given : (ask_record g disk (unmarked g disk l)).number ≡ 0) where
  asked : SlotsAsked g (slot_read disk 0) (slot_read disk sector_size) (ask_lent g disk l)
  asked = (chosen_record g disk (ask_lent g disk l) given).0

  size_is : length disk ≡ 8192 + g.blocks * 4096
  size_is = (image_asked g (length disk) (length l.pieces) (length l.rbytes) (length l.rlens) asked.lent_asked).disk_size

  parse_yes : all_parse (interval_bytes g disk (selected disk)) ≡ true
  parse_yes = (chosen_record g disk (ask_lent g disk l) given).1

  -- the slots
  abbrev pub values : Two Superblock
  values = record { first = superblock1 disk; second = superblock2 disk }

  slots_are : Slots g slots (picked values) (selected disk)
  slots_are =
      record {
        values = values;
        holds = holds;
        wf = wf;
        picks = refl;
        is = sym (picked_is values);
      }
    where
      holds : (b : Bool) → at slots b ≡ some (at values b)
      holds true = pic.second ∙ ap said (slot_holds_is disk sector_size asked.second_read)
      holds false = pic.first ∙ ap said (slot_holds_is disk 0 asked.first_read)

      wf : (b : Bool) → WFSuperblock g (at values b)
      wf true = asked.second_formed
      wf false = asked.first_formed

  valid : ValidJournalInterval g (interval_of (selected disk))
  valid = let f = slots_wf_is g slots _ (selected disk) slots_are in record { start_in = f.start_in; len_in = f.len_in }

  -- the blocks that the interval holds, as they are read and as the image has them
  abbrev held : JournalRange
  held = concat_fold (cyclic_slice g j (interval_of (selected disk)))

  held_is : cyclic_slice g j (interval_of (selected disk)) ≡ whole held
  held_is = sym (full_whole (cyclic_slice g j (interval_of (selected disk))) full)

  held_long : length held ≡ (selected disk).journalLen
  held_long =
      sym (length-map held some)
      ∙ ap length (sym held_is)
      ∙ length_slice g j size (interval_of (selected disk)) valid

  bytes_held : blocks_in (selected disk).journalLen (interval_bytes g disk (selected disk)) ≡ held
  bytes_held =
      ap (blocks_in (selected disk).journalLen) (interval_is g disk (selected disk))
      ∙ image_blocks g disk size_is (resting slots j) pic size (interval_of (selected disk)) valid _ held_long held_is

  bytes_long : length (interval_bytes g disk (selected disk)) ≡ (selected disk).journalLen * 4096
  bytes_long =
      ap length (interval_is g disk (selected disk))
      ∙ length_bytes g (interval_of (selected disk)) valid (journal_of g disk) (journal_size g disk size_is)

  -- they are ranges, which some ledger keeps
  pub cut_up : (rs : List (List Entry)) × Each (Form.Good most_entry_length) rs × (interval_bytes g disk (selected disk) ≡ encode_all_at length_width rs) × (flat rs ≡ interval_entries g disk (selected disk))
  cut_up =
      (parse_all_iff length_width most_entry_length (interval_bytes g disk (selected disk)) (interval_entries g disk (selected disk)) format_sizes (interval_every is_byte g disk (selected disk) bytes)).0
      (parse_all_some length_width most_entry_length (interval_bytes g disk (selected disk)) parse_yes)

  abbrev pub rs : List (List Entry)
  rs = cut_up.0

  codes_bytes : flat (codes format rs) ≡ interval_bytes g disk (selected disk)
  codes_bytes = flat_codes rs ∙ sym cut_up.2

  blocks_are : blocks format rs ≡ (selected disk).journalLen
  blocks_are = omega (arith, flat_size (blocks format rs) (codes format rs) (codes_sized rs), ap length codes_bytes, bytes_long)

  codes_held : codes format rs ≡ held
  codes_held =
      sym (blocks_flat (blocks format rs) (codes format rs) (codes_sized rs))
      ∙ (λ i. blocks_in (blocks_are i) (codes_bytes i))
      ∙ bytes_held

  abbrev pub kept : Kept
  kept = record { counter = (selected disk).counter; start = (selected disk).journalStart; loc = (selected disk).indirectionTableLoc; ranges = rs }

  super_is : super_of format kept ≡ selected disk
  super_is = λ i. record { counter = (selected disk).counter; journalStart = (selected disk).journalStart; journalLen = blocks_are i; indirectionTableLoc = (selected disk).indirectionTableLoc }

  pub related : Sim g format (parity (selected disk).counter (picked values)) (M.Variables.LoadingSuperblock M.initial) (resting slots j) (fresh kept)
  related =
      record {
        slot = picked values;
        disk =
            record {
              selected = subst (Slots g slots (picked values)) (sym super_is) slots_are;
              parity_is = refl;
              size = size;
              holds =
                  (λ i. cyclic_slice g j (interval (selected disk).journalStart ((length_codes format rs ∙ blocks_are) i)))
                  ∙ held_is
                  ∙ ap whole (sym codes_held);
              good = each_good rs cut_up.1;
              clear = λ id v e. none_some refl e;
            };
        runs = (record { writes_are = refl; none_writing = refl; ledger_is = refl }, λ which v e. ruin (unread which v e));
      }
    where
      unread : (which : Bool) (v : Superblock) → at (both SuperblockUnfinished) which ≡ SuperblockSuccess v → ◌≡◌ {A = ℕ} 0 1
      unread true v e = cc
      unread false v e = cc

  -- so that a load comes to Ready, every call of it taken, and the machine there is the record's
  pub brings : Sized j → Brought g disk (unmarked g disk l) l slots j
  brings sized =
      let up = comes_up g format limits limits_room _ slots j (fresh kept) related sized in
      record {
        calls = xs;
        end = ready_state;
        ready = at_ready;
        load = comes_trace up;
        only_loads = comes_loads up;
        ready_is = refl;
        same =
            loadable_record g disk size_is (resting slots j) pic at_ready.whichSuperblock at_ready.superblock at_ready.replay_journal
            (any_load g (at_rest slots j) ready_state xs (taken xs) at_ready refl (only_of xs (taken xs) (comes_loads up)) (comes_trace up) refl)
            l (unmarked g disk l) (ap (chosen g disk) asked.lent_asked) at_ready refl refl refl;
      }
    where
      xs : List Call
      xs = load_calls g (super_of format kept)

      at_ready : M.ReadyVariables
      at_ready = ready_by (shown format (fresh kept)) related.slot

      ready_state : Y.Variables
      ready_state = record { machine = M.Variables.Ready at_ready; disk = resting slots j }
