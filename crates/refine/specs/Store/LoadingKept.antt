-- Steps of a machine that loads, the step to work, and those that bring entries keep its form too.
use Prim.Native.Nat.{ℕ, ◌+◌, ◌≤◌}
use Rattle.std.specs.Prelude.{Bool, true, false, cond, ◌≡◌, refl, take}
use Rattle.std.specs.declared.option.Option as code
use Rattle.std.proofs.Math.Path.{sym, ap, subst}
use Rattle.std.proofs.Common.{◌∙◌, arith}
use mathlib.Core.List.{List}
use borrow.Author.Tests.{leb-true}
use Rattle.std.proofs.Math.Seq.{length-take-le}
use Rattle.laws.specs.Choice.{and_then_left, and_then_right, also_left, also_right, ask_yes, split_eq}
use Rattle.laws.specs.Fold.{sum, every, same_is}
use Rattle.laws.specs.Splice.{clipped, clipped_fits, splice}
use Rattle.laws.specs.Sets.{Distinct}
use Rattle.layout.specs.declared.Geometry.{Geometry}
use Rattle.superblock.specs.declared.Superblock.{Superblock}
use Rattle.superblock.specs.declared.JournalRead.{JournalRead}
use Rattle.superblock.specs.Superblock.{select_superblock_index, increment_superblock_counter}
use Rattle.superblock.specs.Laws.{selects_first, selects_second}
use Rattle.tables.specs.SyncTable.{valid_states}
use Rattle.range.specs.Form.{length_width, most_entry_length, all_entries}
use Rattle.range.specs.Ranges.{all_entries_count, all_entries_bytes}
use Rattle.range.specs.Memory.{total}
use Rattle.memory.specs.Given.{memory, count_of, ask_added, added_asked}
use Rattle.memory.specs.Limits.{store_limits}
use Rattle.memory.specs.Replay.{is_next}
use Rattle.unpacker.specs.Unpack.{unpack_asked}
use Rattle.loading.specs.declared.LoadingOther.{LoadingOther}
use Rattle.loading.specs.declared.Piece.TheVariants as piece
use Rattle.loading.specs.Which.{is_second}
use Rattle.loading.specs.Pieces.{piece_reads, without_read, piece_read}
use Rattle.loading.specs.Other.{to_pieces, selected_other, page_in_journal_req_next, page_in_journal_resp_next}
use Rattle.loading.specs.Laws.Superblocks.{finish_loading_superblock_phase_asked, finished_selects}
use Rattle.ready.specs.declared.Bodies.{Bodies}
use Rattle.ready.specs.State.{count, replay_left}
use Rattle.ready.specs.EntrySteps.{advance_next, replay_next, ask_advance}
use Rattle.ready.specs.Laws.Asked.{MayAdvance, advance_asked}
use Rattle.machine.specs.declared.Machine.{Machine}
use Rattle.machine.specs.Machine.{initial_machine}
use Rattle.machine.specs.Lent.{Lent}
use Rattle.machine.specs.Questions.{bodies_of}
use Rattle.machine.specs.Working.{appended_bytes, appended_lens, given_of, count_in, ask_advance_step, advance_machine, ask_replay_given, ask_replay_step, taken_then, replay_machine}
use Rattle.machine.specs.Loading.{ask_page_in_journal_req_step, page_in_journal_req_machine, page_in_journal_resp_machine, page_in_superblock_req_machine, page_in_superblock_resp_machine, ask_finish_loading_superblock_phase_step, finish_loading_superblock_phase_machine, loaded_bytes, ask_finish_loading_other_phase_step, ask_loaded, loaded_machine, finish_loading_other_phase_machine, loaded_replay_bytes, loaded_replay_lens, ask_again_machine}
use Rattle.machine.specs.Laws.Entries.{given_number, given_count}
use Rattle.refine.specs.Machine.ReadyView.{ReadyLent}
use Rattle.refine.specs.Machine.ReadyForm.{ReadyForm}
use Rattle.refine.specs.Machine.MachineView.{ready_lent, MachineLent, MachineForm}
use Rattle.refine.specs.Machine.MachineKinds.{by_kind_is, asked_other_is}
use Rattle.refine.specs.Machine.MachineWork.{work_asked, work_form, bodies_found}
use Rattle.refine.specs.Machine.MachineEntries.{asked_entries}
use Rattle.refine.specs.Store.ReadyKept.{advance_form, replay_form, loaded_form}
use Rattle.refine.specs.Store.MachineKept.{work_kind}

-- Loading: the slot that the selected superblock stands in stays

pieces_kept : (s : LoadingOther) (which id : ℕ) → s.whichSuperblock ≤ 1 → (page_in_journal_req_next s which id).whichSuperblock ≤ 1
unfolding page_in_journal_req_next
pieces_kept s which id h = go (is_second which)
  where
    go : (c : Bool) → (cond {A = LoadingOther} c (to_pieces s (without_read s.front id) (piece.Reading id)) (to_pieces s (piece.Reading id) (without_read s.back id))).whichSuperblock ≤ 1
    go true = h
    go false = h

paged_kept : (s : LoadingOther) (id : ℕ) (r : JournalRead) → s.whichSuperblock ≤ 1 → (page_in_journal_resp_next s id r).whichSuperblock ≤ 1
unfolding page_in_journal_resp_next
paged_kept s id r h = go (piece_reads s.front id) (piece_reads s.back id)
  where
    go : (a b : Bool)
        → (cond {A = LoadingOther} a (to_pieces s (piece_read r) s.back) (cond {A = LoadingOther} b (to_pieces s s.front (piece_read r)) s)).whichSuperblock ≤ 1
    go true b = h
    go false true = h
    go false false = h

selected_in : (a b : Superblock) → select_superblock_index a b ≤ 1
selected_in a b =
    split_eq b.counter (increment_superblock_counter a.counter)
    (λ e. omega (arith, selects_second a b e))
    (λ e. omega (arith, selects_first a b e))

module _ (g : Geometry) (l : Lent) (m : Machine) (f : MachineForm l m) where
  pub read_journal_kept : (which id : ℕ) → ask_page_in_journal_req_step g m which ≡ 0 → MachineForm l (page_in_journal_req_machine m which id)
  unfolding ask_page_in_journal_req_step page_in_journal_req_machine
  read_journal_kept which id q =
      asked_other_is (λ x. MachineForm l x → MachineForm l (page_in_journal_req_machine x which id)) m (and_then_left _ _ q)
      (λ h. record { sync = h.sync; kind = pieces_kept m.other which id h.kind })
      f

  -- blocks that arrive go to lent pieces, of which the form says nothing
  pub journal_read_kept : (pieces : List ℕ) (id : ℕ) (r : JournalRead)
      → MachineForm (record { bytes = l.bytes; lens = l.lens; pieces = pieces; rbytes = l.rbytes; rlens = l.rlens }) (page_in_journal_resp_machine m id r)
  unfolding page_in_journal_resp_machine
  journal_read_kept pieces id r =
      by_kind_is
      (λ x. MachineForm l x → MachineForm (record { bytes = l.bytes; lens = l.lens; pieces = pieces; rbytes = l.rbytes; rlens = l.rlens }) (page_in_journal_resp_machine x id r)) m
      (λ h. record { sync = h.sync; kind = tt })
      (λ h. record { sync = h.sync; kind = paged_kept m.other id r h.kind })
      (λ h. record { sync = h.sync; kind = h.kind })
      f

  pub read_superblock_kept : (which id : ℕ) → MachineForm l (page_in_superblock_req_machine m which id)
  unfolding page_in_superblock_req_machine
  read_superblock_kept which id = record { sync = f.sync; kind = f.kind }

  pub superblock_read_kept : (which id : ℕ) (r : code.Option Superblock) → MachineForm l (page_in_superblock_resp_machine g m which id r)
  unfolding page_in_superblock_resp_machine
  superblock_read_kept which id r =
      by_kind_is (λ x. MachineForm l x → MachineForm l (page_in_superblock_resp_machine g x which id r)) m
      (λ h. record { sync = h.sync; kind = tt })
      (λ h. h)
      (λ h. h)
      f

  pub ask_again_kept : (which : ℕ) → MachineForm l (ask_again_machine m which)
  unfolding ask_again_machine
  ask_again_kept which = record { sync = f.sync; kind = f.kind }

  pub superblocks_done_kept : ask_finish_loading_superblock_phase_step m ≡ 0 → MachineForm l (finish_loading_superblock_phase_machine m)
  unfolding ask_finish_loading_superblock_phase_step finish_loading_superblock_phase_machine selected_other
  superblocks_done_kept q =
      let a = finish_loading_superblock_phase_asked m.superblocks (and_then_right _ _ q) in
      record {
        sync = f.sync;
        kind =
            subst (λ (x : LoadingOther). x.whichSuperblock ≤ 1) (sym (finished_selects m.superblocks m.other a))
            (selected_in a.superblock1 a.superblock2);
      }

  -- the entries of the pieces go to replay memory
  pub loaded_kept : ask_loaded g m l.pieces l.rbytes l.rlens ≡ 0
      → MachineForm (record { bytes = l.bytes; lens = l.lens; pieces = l.pieces; rbytes = loaded_replay_bytes m l.pieces l.rbytes; rlens = loaded_replay_lens m l.pieces l.rlens })
      (finish_loading_other_phase_machine m l.pieces)
  unfolding ask_loaded ask_finish_loading_other_phase_step loaded_machine
  loaded_kept q =
      let xs : List ℕ = loaded_bytes m l.pieces in
      let r = unpack_asked xs l.rbytes l.rlens (and_then_right _ _ q) in
      let which : m.other.whichSuperblock ≤ 1 = asked_other_is (λ x. MachineForm l x → x.other.whichSuperblock ≤ 1) m (and_then_left _ _ (and_then_left _ _ q)) (λ h. h.kind) f in
      record {
        sync = f.sync;
        kind =
            loaded_form (ready_lent l) m.other.superblock m.other.whichSuperblock (all_entries xs) which
            (omega (arith, all_entries_bytes length_width most_entry_length xs r.parse, r.for_bytes))
            (omega (arith, all_entries_count length_width most_entry_length xs r.parse, r.for_lens));
      }

-- Init's machine
pub initial_form : (l : Lent) → MachineForm l initial_machine
unfolding initial_machine Distinct valid_states every
initial_form l = record { sync = record { in_array = omega arith; differ = tt; states = refl }; kind = tt }

-- Entries that a step brings

module _ (g : Geometry) (l : Lent) (m : Machine) (t : MachineLent g l) (f : MachineForm l m) (brought sizes : List ℕ) (k : ℕ) where
  abbrev held : Bodies
  held = bodies_of l.lens m

  -- pending memory with them
  abbrev appended : Lent
  appended =
      record {
        bytes = appended_bytes held (count_of (memory brought sizes k)) brought l.bytes;
        lens = appended_lens m (count_of (memory brought sizes k)) sizes l.lens;
        pieces = l.pieces;
        rbytes = l.rbytes;
        rlens = l.rlens;
      }

  pub add_kept : ask_advance_step m held (given_of brought sizes k) ≡ 0 → MachineForm appended (advance_machine m held (given_of brought sizes k))
  unfolding ask_advance_step advance_machine
  add_kept q =
      let e = work_asked m (and_then_left _ _ q) in
      let q1 = and_then_right _ _ q in
      let asked : ask_added (memory brought sizes k) ≡ 0 =
      sym (given_number brought sizes k) ∙ and_then_left _ _ q1 in
      let given = asked_entries brought sizes k (added_asked (memory brought sizes k) asked).0 in
      let bodies = (bodies_found l m e).pending_is in
      let may : MayAdvance store_limits m.ready (total l.lens m.ready.entries.pending) (count k (total sizes k)) =
      advance_asked store_limits m.ready (total l.lens m.ready.entries.pending) (count k (total sizes k))
      ((λ i. ask_advance store_limits m.ready (sym bodies i) (sym (given_count brought sizes k asked) i)) ∙ and_then_right _ _ q1)
      in
      let long = length-take-le k sizes given.there in
      let many = length-take-le (total sizes k) brought given.fit in
      let n : ℕ = m.ready.entries.pending in
      let bytes-is : clipped l.bytes held.pending (take (total sizes k) brought) ≡ splice l.bytes (total l.lens n) (take (total sizes k) brought) =
      ap (λ (at : ℕ). clipped l.bytes at (take (total sizes k) brought)) bodies
      ∙ clipped_fits l.bytes (total l.lens n) (take (total sizes k) brought) (omega (arith, may.bytes_fit, many, t.bytes_lent))
      in
      let lens-is : clipped l.lens n (take k sizes) ≡ splice l.lens n (take k sizes) =
      clipped_fits l.lens n (take k sizes) (omega (arith, may.entries_fit, long, t.lens_lent))
      in
      record {
        sync = f.sync;
        kind =
            work_kind appended m (advance_next m.ready (n + (count_in (given_of brought sizes k)).entries)) e
            (subst
            (λ (x : ReadyLent × ℕ). ReadyForm x.0 (advance_next m.ready (n + x.1)))
            (λ i. (record { bytes = sym bytes-is i; lens = sym lens-is i; rbytes = l.rbytes; rlens = l.rlens }, (sym (given_count brought sizes k asked) i).entries))
            (advance_form (ready_lent l) m.ready (work_form g l m e f) brought sizes k given
            (omega (arith, may.entries_fit, t.lens_lent))
            (omega (arith, may.bytes_fit, t.bytes_lent))));
      }

  pub replay_kept : ask_replay_step m l.rbytes l.rlens brought sizes k ≡ 0 → MachineForm l (replay_machine m (count_of (memory brought sizes k)))
  unfolding ask_replay_step ask_replay_given is_next replay_machine
  replay_kept q =
      let e = work_asked m (and_then_left _ _ q) in
      let test = ask_yes 6 _ (omega arith) (and_then_right _ _ (and_then_right _ _ q)) in
      let few = leb-true k (replay_left m.ready.entries) (also_left _ _ test) in
      let lens = same_is _ _ (also_left _ _ (also_right _ _ test)) in
      record {
        sync = f.sync;
        kind =
            work_kind l m (replay_next m.ready (taken_then m.ready.entries (count_of (memory brought sizes k)))) e
            (replay_form (ready_lent l) m.ready (work_form g l m e f) k (total sizes k) few (ap sum lens));
      }
