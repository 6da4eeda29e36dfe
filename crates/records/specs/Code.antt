-- The record of a disk, of the code: its own store, by the definitions that its promises cite, and the two functions `record` and `record_marked`.
use Rattle.std.specs.Prelude.{ℕ, ◌*◌, Bool, true, ◌≡◌, List, map, length}
use Rattle.std.specs.declared.option.Option as code
use Rattle.std.proofs.Common.{sym, ◌∙◌, ap, subst}
use Rattle.laws.specs.Bytes.{Bytes}
use Rattle.laws.specs.Choice.{and_then, and_then_left}
use Rattle.layout.specs.declared.Geometry.{Geometry}
use Rattle.layout.specs.declared.Location.{Location}
use Rattle.interval.specs.Facts.{ValidJournalInterval}
use Rattle.interval.specs.Journal.{cyclic_slice, full_range}
use Rattle.superblock.specs.declared.Superblock.{Superblock}
use Rattle.journal.specs.Memory.{ask_marks, ask_readable}
use Rattle.journal.specs.Asked.{asked_journal, readable_asked}
use Rattle.journal.specs.Cells.{block_at, cells, length_cells, full_marks_is}
use Rattle.codec.specs.Format.{format}
use Rattle.source.specs.JournalCache as M
use Rattle.source.specs.JournalSystem as Y
use Rattle.source.specs.JournalSystem.{superblock_of_disk}
use Rattle.source.specs.Limits.{limits}
use Rattle.history.specs.Ledger.{begin, books}
use Rattle.history.specs.Statement.{Trace, Ran}
use Rattle.history.proofs.Journal.Slots.{bit}
use Rattle.history.proofs.Loads.Superblocks.{resting}
use Rattle.history.proofs.Whole.First.{first_parity, init_sim}
use Rattle.history.proofs.Whole.Lists.{sim_run}
use Rattle.history.proofs.Whole.Stores.{ran_trace}
use Rattle.sector.specs.Sector.{sector_size}
use Rattle.image.specs.Image.{Lent, slot_read, superblock1, superblock2, interval_of, selected, ask_lent, chosen, unmarked, marked, ask_record, image_of, Chosen}
use Rattle.image.specs.Written.{first_written, second_written, blocks_written}
use Rattle.image.specs.Asked.{SlotsAsked, selected_formed}
use Rattle.image.proofs.FoundLaws.{chosen_record, marked_record}
use Rattle.machine.specs.declared.Kind.TheVariants as kind
use Rattle.requests.specs.Slots.{Slots}
use Rattle.store.specs.Lent as store
use Rattle.store.specs.Lent.{machine_lent}
use Rattle.refine.specs.Disk.View as lentDisk
use Rattle.refine.specs.Machine.MachineView.{MachineLent}
use Rattle.refine.specs.Machine.MachineWork.{work_form, work_seen}
use Rattle.refine.specs.Store.Fresh.{fresh_form}
use Rattle.refine.specs.Store.History.{State, Made, state_seen, code_store, ready_seen, loaded_ready}
use Rattle.refine.specs.Store.Loads.{Load, rest_loads}
use Rattle.records.specs.Pictures.{said, Pictures, OnlyOfLoad, RecordIs}
use Rattle.records.specs.Proofs.Loads.{any_load, only_of}
use Rattle.records.specs.Proofs.Brings.{related}
use Rattle.records.specs.Records.{kept_by, sim_loadable, load_tells}
use Rattle.records.specs.Stores.{StorePictures, Asks, by_marks, replay_of, CodeRecordIs, CodeBrought, initial_state, SlotFits}
use Rattle.records.specs.Proofs.Stores.{store_pictured, asks_record, loaded_formed, slot_number, ready_record, fresh_rests, slot_said}

-- At every time of a history of the code, from a state that is seen as an `Init`, whatever calls were taken or refused: the record of the bytes that picture
-- the store is what the ledger has kept then
pub code_record_tells : (g : Geometry) (disk : List ℕ) (l : Lent) (first : Y.Variables) (loc : Location) (i : Y.Init g first loc) (s : State) (calls : List Made) (answers : List Bool) (t : State)
    → state_seen g s ≡ first → Ran (code_store g) s calls answers t → StorePictures g disk t → (c : Chosen) → Asks g disk l t c
    → RecordIs g disk c l (kept_by g first loc i (books g format (begin (superblock_of_disk g first.disk i.wf)) (map (code_store g).call calls) answers))
code_record_tells g disk l first loc i s calls answers t e h pic c a =
    asks_record g disk l t pic _
    (sim_loadable g first loc i (state_seen g t) _
    (sim_run g format limits (first_parity g format first loc i) first (state_seen g t) (begin (superblock_of_disk g first.disk i.wf)) (map (code_store g).call calls) answers (init_sim g format first loc i)
    (subst (λ (u : Y.Variables). Trace g format limits u (map (code_store g).call calls) answers (state_seen g t)) e (ran_trace g format limits (code_store g) s calls answers t h))))
    c a

-- Whatever a load of the code brings to Ready, from any state whose machine is seen as `Init`'s: the record of the bytes that picture the store is what it shows
pub code_load_records : (g : Geometry) (disk : List ℕ) (l : Lent) (s : State) (calls : List Made) (answers : List Bool) (t : State)
    → (state_seen g s).machine ≡ M.Variables.LoadingSuperblock M.initial → StorePictures g disk s
    → Ran (code_store g) s calls answers t → OnlyOfLoad (map (code_store g).call calls) answers → t.store.machine.kind ≡ kind.Ready
    → (c : Chosen) → Asks g disk l s c → CodeRecordIs g disk c l t
code_load_records g disk l s calls answers t e pic h only k c a =
    let q = work_seen g (machine_lent t.lent) t.store.machine k in
    ready_record g disk c l t k (loaded_formed g s t calls answers (ready_seen t) e h q)
    (asks_record g disk l s pic (ready_seen t)
    (any_load g (state_seen g s) (state_seen g t) (map (code_store g).call calls) answers (ready_seen t) e only (ran_trace g format limits (code_store g) s calls answers t h) q) c a)

-- So what such a load shows is what the ledger has kept
pub code_load_tells : (g : Geometry) (first : Y.Variables) (loc : Location) (i : Y.Init g first loc) (s : State) (calls : List Made) (answers : List Bool) (t : State) → state_seen g s ≡ first
    → Ran (code_store g) s calls answers t → (state_seen g t).machine ≡ M.Variables.LoadingSuperblock M.initial
    → (loading : List Made) (loaded : List Bool) (u : State) → Ran (code_store g) t loading loaded u → OnlyOfLoad (map (code_store g).call loading) loaded → u.store.machine.kind ≡ kind.Ready
    → let k = kept_by g first loc i (books g format (begin (superblock_of_disk g first.disk i.wf)) (map (code_store g).call calls) answers) in
    (u.store.machine.ready.superblock ≡ k.superblock) × (u.store.machine.ready.whichSuperblock ≡ bit k.whichSuperblock) × (replay_of u ≡ k.replay_journal)
code_load_tells g first loc i s calls answers t e h m loading loaded u load only k =
    let q = work_seen g (machine_lent u.lent) u.store.machine k in
    let z =
    load_tells g first loc i (map (code_store g).call calls) answers (state_seen g t)
    (subst (λ (y : Y.Variables). Trace g format limits y (map (code_store g).call calls) answers (state_seen g t)) e (ran_trace g format limits (code_store g) s calls answers t h)) m
    (state_seen g u) (map (code_store g).call loading) loaded (ready_seen u) (ran_trace g format limits (code_store g) t loading loaded u load) only q in (
      z.0,
      sym (slot_number u.store.machine.ready.whichSuperblock (work_form g (machine_lent u.lent) u.store.machine k (loaded_formed g t u loading loaded (ready_seen u) m load q).machine).which_in) ∙ ap bit z.1,
      z.2,
    )

-- And where the record is held by the store's own marks, on any disk, a store that begins with it makes the load
pub code_record_brings : (g : Geometry) (disk : List ℕ) (l : Lent) (m : store.Lent) (slots : Slots) → MachineLent g (machine_lent m) → lentDisk.Lent g m.blocks m.marks
    → Bytes disk → StorePictures g disk (initial_state m slots) → (ask_record g disk (marked g disk m.marks l)).number ≡ 0
    → CodeBrought g disk (marked g disk m.marks l) l (initial_state m slots)
code_record_brings g disk l m slots ml dl bytes pic held =
    record {
      load = load;
      same =
          code_load_records g disk l s load.calls (map (λ x. true) load.calls) load.end (ap (λ (y : Y.Variables). y.machine) (fresh_rests g m slots)) pic load.ran
          (only_of (map (code_store g).call load.calls) (map (λ x. true) load.calls) load.only_loads) (loaded_ready g load.end load.ready load.is_ready).0 (marked g disk m.marks l)
          (by_marks lent_yes (asked_journal g m.blocks m.marks dl.blocks_right dl.marks_right));
    }
  where
    s : State
    s = initial_state m slots

    q : ℕ
    q = and_then (ask_lent g disk l) (ask_marks g m.marks)

    yes : ((ask_record g disk (chosen g disk q)).number ≡ 0) × (ask_readable (interval_of (selected disk)) m.marks ≡ 0)
    yes = marked_record g disk m.marks q held

    asked : SlotsAsked g (slot_read disk 0) (slot_read disk sector_size) q
    asked = (chosen_record g disk q yes.0).0

    lent_yes : ask_lent g disk l ≡ 0
    lent_yes = and_then_left _ _ asked.lent_asked

    plainly_held : (ask_record g disk (unmarked g disk l)).number ≡ 0
    plainly_held = ap (λ (n : ℕ). (ask_record g disk (chosen g disk n)).number) (lent_yes ∙ sym asked.lent_asked) ∙ yes.0

    valid : ValidJournalInterval g (interval_of (selected disk))
    valid =
        let f = selected_formed g (superblock1 disk) (superblock2 disk) asked.first_formed asked.second_formed in
        record { start_in = f.start_in; len_in = f.len_in }

    full : full_range (cyclic_slice g (cells g m.blocks m.marks) (interval_of (selected disk))) ≡ true
    full = full_marks_is g (interval_of (selected disk)) valid m.blocks dl.blocks_right.size m.marks dl.marks_right.size ∙ readable_asked (interval_of (selected disk)) m.marks yes.1

    rest_pictured : Pictures g disk (resting (state_seen g s).disk.superblocks (state_seen g s).disk.journal)
    rest_pictured = let p = store_pictured g disk s pic in record { first = p.first; second = p.second; blocks = p.blocks }

    load : Load g s
    load =
        rest_loads g _ _ s (state_seen g s).disk.superblocks (fresh_form g m slots ml dl) (fresh_rests g m slots)
        (related g disk l (state_seen g s).disk.superblocks (state_seen g s).disk.journal rest_pictured (length_cells g.blocks m.blocks m.marks) full bytes plainly_held)

-- An image that `write_image` makes of a store's slots, of 64-bit numbers, and its blocks pictures the store, whatever a slot holds: so its record is all of the above
pub written_pictures : (g : Geometry) (s : State) → SlotFits s.store.disk.slots.first → SlotFits s.store.disk.slots.second → length s.lent.blocks ≡ g.blocks * 4096
    → StorePictures g (image_of s.store.disk.slots.first s.store.disk.slots.second s.lent.blocks) s
written_pictures g s a b n =
    let first : (code.Option Superblock) = s.store.disk.slots.first in
    let second : (code.Option Superblock) = s.store.disk.slots.second in
    record {
      first = slot_said first a ∙ sym (ap said (first_written first second s.lent.blocks));
      second = slot_said second b ∙ sym (ap said (second_written first second s.lent.blocks));
      blocks = λ i l e. ap (λ (bs : List ℕ). block_at bs i) (blocks_written first second s.lent.blocks g n);
    }
