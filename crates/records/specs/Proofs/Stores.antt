-- Of the code: what a store pictures its view does, the form of a load's end, and a store that begins.
use Rattle.std.specs.Prelude.{ℕ, ◌≤◌, Bool, true, false, ◌≡◌, refl, List, [], ◌∷◌, length, get_or, Ok}
use Rattle.std.specs.declared.option.Option as code
use Rattle.std.proofs.Common.{sym, ◌∙◌, ap, arith}
use Rattle.std.proofs.Math.Option.{none, some}
use Rattle.std.proofs.Math.ListN.{get_or-eq_default}
use Rattle.laws.specs.Choice.{ruin, split_le, by_eqb, cond_some, and_then_both}
use Rattle.laws.specs.Sets.{none_some}
use Rattle.laws.specs.Optional.{option_of}
use Rattle.layout.specs.declared.Geometry.{Geometry}
use Rattle.interval.specs.Facts.{ValidJournalInterval}
use Rattle.interval.specs.Journal.{full_range}
use Rattle.superblock.specs.declared.Superblock.{Superblock}
use Rattle.journal.specs.Memory.{is_one, full_marks}
use Rattle.journal.specs.Asked.{journal_blocks, journal_marks, asked_marks, asked_readable}
use Rattle.journal.specs.Cells.{block_at, cell_at, cells, length_cells, cell_at_is, full_marks_is}
use Rattle.codec.specs.Codec.{JournalEntry}
use Rattle.codec.specs.Ranges.{whole_full}
use Rattle.source.specs.JournalCache as M
use Rattle.source.specs.JournalSystem as Y
use Rattle.history.specs.Statement.{Ran}
use Rattle.history.proofs.Journal.Slots.{bit, slots_wf_is}
use Rattle.history.proofs.Loads.Superblocks.{resting}
use Rattle.sector.specs.Answer.{read_sector}
use Rattle.image.specs.Image.{Lent, interval_of, ask_lent, chosen, readable, slot_bytes, Chosen, held}
use Rattle.image.specs.Written.{held_written, empty_written}
use Rattle.image.specs.Asked.{image_asked}
use Rattle.loading.specs.Which.{is_second}
use Rattle.machine.specs.declared.Kind.TheVariants as kind
use Rattle.requests.specs.Slots.{Slots}
use Rattle.store.specs.Lent as store
use Rattle.store.specs.Lent.{machine_lent}
use Rattle.refine.specs.Machine.MachineInitial.{initial_seen}
use Rattle.refine.specs.Machine.MachineWork.{work_form}
use Rattle.refine.specs.Store.Done.{StoreForm}
use Rattle.refine.specs.Store.Fresh.{idle_seen}
use Rattle.refine.specs.Store.History.{State, Made, state_seen, code_store, ready_seen, next_formed, run_formed}
use Rattle.records.specs.Pictures.{said, Pictures, RecordIs}
use Rattle.records.specs.Proofs.Loadable.{Loadable, loadable_record, marked_choice}
use Rattle.records.specs.Stores.{StorePictures, Asks, plainly, by_marks, replay_of, CodeRecordIs, initial_state, SlotFits, held_fits, nothing_held}

-- What a store pictures, its view does

pub store_pictured : (g : Geometry) (disk : List ℕ) (s : State) → StorePictures g disk s → Pictures g disk (state_seen g s).disk
store_pictured g disk s p =
    record {
      first = p.first;
      second = p.second;
      blocks = λ i b e.
          split_le g.blocks i
          (λ l. none_some (get_or-eq_default (cells g s.lent.blocks s.lent.marks) none (omega (arith, l, length_cells g.blocks s.lent.blocks s.lent.marks))) e)
          (λ l.
          let k : cell_at s.lent.blocks s.lent.marks i ≡ some b = sym (cell_at_is g.blocks s.lent.blocks s.lent.marks i l) ∙ e in
          let q = cond_some (is_one (get_or s.lent.marks i 0)) (block_at s.lent.blocks i) b k in
          p.blocks i l q.0 ∙ q.1);
    }

module _ (g : Geometry) (disk : List ℕ) (l : Lent) (s : State) (pic : StorePictures g disk s) where
  -- either way of asking comes to one choice, where the disk can be loaded
  asks_choice : (w : Bool) (v : Superblock) (es : List JournalEntry) → Loadable g (state_seen g s).disk.superblocks (state_seen g s).disk.journal w v es
      → (c : Chosen) → Asks g disk l s c → (ask_lent g disk l ≡ 0) × (c ≡ chosen g disk 0)
  asks_choice w v es z c (plainly e) = (e, ap (chosen g disk) e)
  asks_choice w v es z c (by_marks e h) = (
    e,
    ap (λ (q : ℕ). readable s.lent.marks (chosen g disk q)) (and_then_both _ _ e (asked_marks g s.lent.marks (journal_marks g s.lent.blocks s.lent.marks h)))
        ∙ marked_choice g disk (image_asked g (length disk) (length l.pieces) (length l.rbytes) (length l.rlens) e).disk_size (state_seen g s).disk (store_pictured g disk s pic) w v es z
        s.lent.marks (asked_readable (interval_of v) s.lent.marks full),
  )
    where
      valid : ValidJournalInterval g (interval_of v)
      valid = let f = slots_wf_is g (state_seen g s).disk.superblocks w v z.selected in record { start_in = f.start_in; len_in = f.len_in }

      full : full_marks s.lent.marks (interval_of v) ≡ true
      full =
          sym (full_marks_is g (interval_of v) valid s.lent.blocks (journal_blocks g s.lent.blocks s.lent.marks h).size s.lent.marks (journal_marks g s.lent.blocks s.lent.marks h).size)
          ∙ ap full_range z.holds
          ∙ whole_full z.held

  pub asks_record : (r : M.ReadyVariables) → Loadable g (state_seen g s).disk.superblocks (state_seen g s).disk.journal r.whichSuperblock r.superblock r.replay_journal
      → (c : Chosen) → Asks g disk l s c → RecordIs g disk c l r
  asks_record r z c a =
      let k = asks_choice r.whichSuperblock r.superblock r.replay_journal z c a in
      loadable_record g disk (image_asked g (length disk) (length l.pieces) (length l.rbytes) (length l.rlens) k.0).disk_size (state_seen g s).disk (store_pictured g disk s pic)
      r.whichSuperblock r.superblock r.replay_journal z l c k.1 r refl refl refl

-- A load's end has the form, whatever it began with: something was taken in it

is_loading : (m : M.Variables) (r : M.ReadyVariables) → m ≡ M.Variables.LoadingSuperblock M.initial → m ≡ M.Variables.Ready r → ◌≡◌ {A = ℕ} 0 1
is_loading m r e q = cc

pub loaded_formed : (g : Geometry) (s t : State) (xs : List Made) (bs : List Bool) (r : M.ReadyVariables) → (state_seen g s).machine ≡ M.Variables.LoadingSuperblock M.initial
    → Ran (code_store g) s xs bs t → (state_seen g t).machine ≡ M.Variables.Ready r → StoreForm g t.lent t.store
loaded_formed g s t [] [] r e h q = ruin (is_loading (state_seen g s).machine r e (sym (ap (λ (u : State). (state_seen g u).machine) h) ∙ q))
loaded_formed g s t [] (b ∷ bs) r e h q = absurd h
loaded_formed g s t (x ∷ xs) [] r e h q = absurd h
loaded_formed g s t (x ∷ xs) (true ∷ bs) r e h q = run_formed g h.0 t xs bs (next_formed g s x h.0 h.1) h.2
loaded_formed g s t (x ∷ xs) (false ∷ bs) r e h q =
    loaded_formed g h.0 t xs bs r (ap (λ (u : Y.Variables). u.machine) ((code_store g).refused s x h.0 h.1) ∙ e) h.2 q

-- so that its slot is 0 or 1
pub slot_number : (w : ℕ) → w ≤ 1 → bit (is_second w) ≡ w
slot_number w h = by_eqb (λ (n : ℕ). n ≡ w) w 1 1 0 (λ e. sym e) (λ n. omega (arith, h, n))

pub ready_record : (g : Geometry) (disk : List ℕ) (c : Chosen) (l : Lent) (t : State) → t.store.machine.kind ≡ kind.Ready → StoreForm g t.lent t.store
    → RecordIs g disk c l (ready_seen t) → CodeRecordIs g disk c l t
ready_record g disk c l t k f z =
    record {
      ready = k;
      answer =
          z.answer
          ∙ ap (λ (w : ℕ). Ok (held t.store.machine.ready.superblock w (replay_of t)))
          (slot_number t.store.machine.ready.whichSuperblock (work_form g (machine_lent t.lent) t.store.machine k f.machine).which_in);
      bytes = z.bytes;
      lens = z.lens;
    }

-- a store that begins is at rest
pub fresh_rests : (g : Geometry) (m : store.Lent) (slots : Slots)
    → state_seen g (initial_state m slots)
    ≡ record {
      machine = M.Variables.LoadingSuperblock M.initial;
      disk = resting (state_seen g (initial_state m slots)).disk.superblocks (state_seen g (initial_state m slots)).disk.journal;
    }
fresh_rests g m slots =
    let k = idle_seen g m.blocks m.marks slots in
    λ i.
    record {
      machine = initial_seen g (machine_lent m) i;
      disk =
          record {
            req_read_superblocks = k.0 i;
            req_read_journals = k.1 i;
            req_write_superblocks = (state_seen g (initial_state m slots)).disk.req_write_superblocks;
            req_write_journals = k.2 i;
            superblocks = (state_seen g (initial_state m slots)).disk.superblocks;
            journal = (state_seen g (initial_state m slots)).disk.journal;
          };
    }

-- what a slot holds is said by the sector that is written of it
pub slot_said : (held : code.Option Superblock) → SlotFits held → option_of held ≡ said (read_sector (slot_bytes held))
slot_said held (held_fits {v = v} f) = sym (ap said (held_written v f))
slot_said held nothing_held = sym (ap said empty_written)
