-- Every step keeps the lengths of lent memory, and marks stay 0 or 1. So what record and question ask of lent memory alone holds again.
use Prim.Native.Nat.{ℕ, ◌+◌, ◌-◌, ◌*◌, ◌/◌, ◌≤◌}
use Rattle.std.specs.Prelude.{Bool, true, ◌≡◌, refl, length, take, drop, replicate}
use Rattle.std.specs.declared.option.Option as code
use Rattle.std.proofs.Common.{sym, ◌∙◌, ap, subst, arith, length-append, length-take, length-drop, length-take-le}
use mathlib.Core.List.{List, ◌++◌}
use Rattle.std.proofs.lemmas.List.{length-replicate}
use Rattle.laws.specs.Choice.{and_then_left, and_then_right, also_both, unless, unless_done, unless_kept, split_eq, split_bool}
use Rattle.laws.specs.Fold.{every, every_append, every_take, every_drop, every_replicate}
use Rattle.laws.specs.Cut.{flat, lengths, length_flat, length_lengths}
use Rattle.laws.specs.Splice.{splice, length_splice, length_clipped}
use Rattle.laws.specs.Around.{splice_around, length_splice_around}
use Rattle.layout.specs.declared.Geometry.{Geometry}
use Rattle.interval.specs.declared.JournalInterval.{JournalInterval}
use Rattle.interval.specs.Facts.{interval_facts}
use Rattle.journal.specs.Memory.{is_mark, update_marks, copy_blocks, ask_journal}
use Rattle.journal.specs.Asked.{Marks, journal_marks}
use Rattle.range.specs.Form.{block_size, length_width, most_entry_length, used, blocks_for, all_entries}
use Rattle.range.specs.Memory.{range_from}
use Rattle.laws.specs.LowFirst.{length_low_first, length_each_low}
use Rattle.range.specs.Ranges.{all_entries_count, all_entries_bytes}
use Rattle.unpacker.specs.Unpack.{Room, unpack_asked}
use Rattle.writer.specs.Ring.{put_ok, put_range, puts_facts, puts_start, put_no, put_yes}
use Rattle.crash.specs.Picture.{crashed_blocks, crashed_marks}
use Rattle.crash.specs.Laws.Memory.{length_crashed_blocks, length_crashed_marks, crashed_marks_each}
use Rattle.ready.specs.declared.Bodies.{Bodies}
use Rattle.machine.specs.Questions.{bodies_of}
use Rattle.machine.specs.Working.{left_of, sent_of, sent_start, ask_advance_step, given_of}
use Rattle.machine.specs.Loading.{loaded_bytes, ask_loaded}
use Rattle.requests.specs.Laws.Receive.{recv_write_journal_asked}
use Rattle.store.specs.declared.Store.{Store}
use Rattle.store.specs.Lent.{Lent, machine_lent, ask_store, with_pieces, with_journal}
use Rattle.store.specs.Steps.{ask_both, ask_write_journal, ask_journal_read, written_interval, read_pieces, written_lent, finished_lent, added_lent}
use Rattle.calls.specs.declared.calls.Step.{Step}
use Rattle.calls.specs.declared.calls.Step.TheVariants as step
use Rattle.calls.specs.Given.{Given}
use Rattle.calls.specs.Step.{step_lent_with, ask_picture, ask_step, stepped_lent}
use Rattle.refine.specs.Disk.View as disk
use Rattle.refine.specs.Machine.MachineView.{MachineLent}

-- the same lengths, and marks again where there were marks
pub record Alike (l l' : Lent) : Type 0 where
  pub bytes : length l'.bytes ≡ length l.bytes
  pub lens : length l'.lens ≡ length l.lens
  pub pieces : length l'.pieces ≡ length l.pieces
  pub rbytes : length l'.rbytes ≡ length l.rbytes
  pub rlens : length l'.rlens ≡ length l.rlens
  pub blocks : length l'.blocks ≡ length l.blocks
  pub marks : length l'.marks ≡ length l.marks
  pub each : every is_mark l.marks ≡ true → every is_mark l'.marks ≡ true

pub alike_same : (l : Lent) → Alike l l
alike_same l = record { bytes = refl; lens = refl; pieces = refl; rbytes = refl; rlens = refl; blocks = refl; marks = refl; each = λ e. e }

-- so it is as right as it was
pub machine_lent_kept : (g : Geometry) (l l' : Lent) → Alike l l' → MachineLent g (machine_lent l) → MachineLent g (machine_lent l')
machine_lent_kept g l l' a m =
    record {
      geometry = m.geometry;
      bytes_lent = a.bytes ∙ m.bytes_lent;
      lens_lent = a.lens ∙ m.lens_lent;
      pieces_lent = a.pieces ∙ m.pieces_lent;
      rbytes_lent = a.rbytes ∙ m.rbytes_lent;
      rlens_lent = a.rlens ∙ m.rlens_lent;
    }

pub disk_lent_kept : (g : Geometry) (l l' : Lent) → Alike l l' → disk.Lent g l.blocks l.marks → disk.Lent g l'.blocks l'.marks
disk_lent_kept g l l' a d =
    record {
      blocks_right = record { geometry = d.blocks_right.geometry; size = a.blocks ∙ d.blocks_right.size };
      marks_right = record { geometry = d.marks_right.geometry; size = a.marks ∙ d.marks_right.size; each = a.each d.marks_right.each };
    }

-- one number decides
unless_long : (q : ℕ) (old new : List ℕ) → (q ≡ 0 → length new ≡ length old) → length (unless q old new) ≡ length old
unless_long q old new f = split_eq q 0 (λ h. ap length (unless_done q old new h) ∙ f h) (λ h. ap length (unless_kept q old new h))

unless_marks : (q : ℕ) (old new : List ℕ) → (q ≡ 0 → every is_mark old ≡ true → every is_mark new ≡ true) → every is_mark old ≡ true → every is_mark (unless q old new) ≡ true
unless_marks q old new f e = split_eq q 0 (λ h. ap (every is_mark) (unless_done q old new h) ∙ f h e) (λ h. ap (every is_mark) (unless_kept q old new h) ∙ e)

-- what is left of a memory moves to its front
pub moved_long : (xs : List ℕ) (n k : ℕ) → length (splice xs 0 (take n (drop k xs))) ≡ length xs
moved_long xs n k = length_splice xs 0 (take n (drop k xs)) (simp (length-take, length-drop) (omega arith))

-- a range in a memory of blocks
range_long : (bytes lens : List ℕ) (n t : ℕ) → n ≤ length lens → t ≤ length bytes → length (range_from length_width bytes lens n t) ≡ blocks_for (used length_width n t) * block_size
range_long bytes lens n t h k =
    simp (length-append, length_low_first, length_each_low, length-take-le n lens h, length-take-le t bytes k, length-replicate {A = ℕ}) (omega arith)

put_long : (bytes lens : List ℕ) (n t : ℕ) (journal : List ℕ) (start : ℕ) → length (put_range bytes lens n t journal start) ≡ length journal
put_long bytes lens n t journal start =
    split_bool (put_ok (length bytes) (length lens) n t (length journal / block_size) start)
    (λ e.
    let p = puts_facts bytes lens n t journal start (blocks_for (used length_width n t)) e refl in
    ap length (sym (put_yes bytes lens n t journal start (splice_around journal (start * block_size) (range_from length_width bytes lens n t)) e refl))
    ∙ length_splice_around journal (start * block_size) (range_from length_width bytes lens n t) (puts_start bytes lens n t journal start e)
    (omega (arith, p.room, range_long bytes lens n t p.there p.fit)))
    (λ e. ap length (sym (put_no bytes lens n t journal start e)))

-- marks that were written
every_splice : (xs : List ℕ) (at : ℕ) (ys : List ℕ) → every is_mark xs ≡ true → every is_mark ys ≡ true → every is_mark (splice xs at ys) ≡ true
unfolding splice
every_splice xs at ys e f =
    every_append is_mark (take at xs ++ ys) (drop (at + length ys) xs)
    ∙ also_both _ _
    (every_append is_mark (take at xs) ys ∙ also_both _ _ (every_take is_mark at xs e) f)
    (every_drop is_mark (at + length ys) xs e)

update_each : (marks : List ℕ) (v : JournalInterval) → every is_mark marks ≡ true → every is_mark (update_marks marks v) ≡ true
unfolding update_marks splice_around is_mark
update_each marks v e =
    let ones : List ℕ = take (length marks) (replicate v.len 1) in
    let f : every is_mark ones ≡ true = every_take is_mark (length marks) (replicate v.len 1) (every_replicate is_mark v.len 1 refl) in
    every_splice (splice marks v.start (take (length marks - v.start) ones)) 0 (drop (length marks - v.start) ones)
    (every_splice marks v.start (take (length marks - v.start) ones) e (every_take is_mark (length marks - v.start) ones f))
    (every_drop is_mark (length marks - v.start) ones f)

update_long : (marks : List ℕ) (v : JournalInterval) → v.start ≤ length marks → length (update_marks marks v) ≡ length marks
unfolding update_marks
update_long marks v h =
    length_splice_around marks v.start (take (length marks) (replicate v.len 1)) h (simp (length-take, length-replicate {A = ℕ}) (omega arith))

-- the entries of what was loaded
module _ (xs bytes lens : List ℕ) (r : Room xs bytes lens) where
  unpacked_bytes_long : length (splice bytes 0 (flat (all_entries xs))) ≡ length bytes
  unpacked_bytes_long =
      length_splice bytes 0 (flat (all_entries xs)) (omega (arith, length_flat (all_entries xs), all_entries_bytes length_width most_entry_length xs r.parse, r.for_bytes))

  unpacked_lens_long : length (splice lens 0 (lengths (all_entries xs))) ≡ length lens
  unpacked_lens_long =
      length_splice lens 0 (lengths (all_entries xs)) (omega (arith, length_lengths (all_entries xs), all_entries_count length_width most_entry_length xs r.parse, r.for_lens))

module _ (g : Geometry) (l : Lent) (v : Given) (s : Store) (m : Marks g l.marks) where
  written_alike : (id1 : ℕ) (id2 : code.Option ℕ) (b : Bodies) → Alike l (written_lent g l s (ask_write_journal g s id1 id2 b) b)
  unfolding ask_write_journal ask_both
  written_alike id1 id2 b =
      let q : ℕ = ask_write_journal g s id1 id2 b in
      record {
        bytes = unless_long q l.bytes _ (λ h. moved_long l.bytes (left_of s.machine b).bytes (sent_of s.machine b).bytes);
        lens = unless_long q l.lens _ (λ h. moved_long l.lens (left_of s.machine b).entries (sent_of s.machine b).entries);
        pieces = refl;
        rbytes = refl;
        rlens = refl;
        blocks = unless_long q l.blocks _ (λ h. put_long l.bytes l.lens (sent_of s.machine b).entries (sent_of s.machine b).bytes l.blocks (sent_start g s.machine));
        marks =
            unless_long q l.marks _
            (λ h.
            let a = recv_write_journal_asked g s.disk.journalWrites id1 id2 (written_interval g s b) (and_then_right _ _ h) in
            update_long l.marks (written_interval g s b) (omega (arith, (interval_facts g (written_interval g s b) a.valid).start_in, m.size)));
        each = unless_marks q l.marks _ (λ h e. update_each l.marks (written_interval g s b) e);
      }

  finished_alike : Alike l (finished_lent l s (ask_loaded g s.machine l.pieces l.rbytes l.rlens))
  unfolding ask_loaded
  finished_alike =
      let q : ℕ = ask_loaded g s.machine l.pieces l.rbytes l.rlens in
      let xs : List ℕ = loaded_bytes s.machine l.pieces in
      record {
        bytes = refl;
        lens = refl;
        pieces = refl;
        rbytes = unless_long q l.rbytes _ (λ h. unpacked_bytes_long xs l.rbytes l.rlens (unpack_asked xs l.rbytes l.rlens (and_then_right _ _ h)));
        rlens = unless_long q l.rlens _ (λ h. unpacked_lens_long xs l.rbytes l.rlens (unpack_asked xs l.rbytes l.rlens (and_then_right _ _ h)));
        blocks = refl;
        marks = refl;
        each = λ e. e;
      }

  added_alike : (k q : ℕ) (b : Bodies) → Alike l (added_lent l s v.brought v.sizes k q b)
  added_alike k q b =
      record {
        bytes = unless_long q l.bytes _ (λ h. length_clipped l.bytes _ _);
        lens = unless_long q l.lens _ (λ h. length_clipped l.lens _ _);
        pieces = refl;
        rbytes = refl;
        rlens = refl;
        blocks = refl;
        marks = refl;
        each = λ e. e;
      }

  paged_alike : (id : ℕ) (whole : Bool) → Alike l (with_pieces l (unless (ask_journal_read s id whole l.marks) l.pieces (read_pieces g s id whole l.blocks l.pieces)))
  unfolding copy_blocks
  paged_alike id whole =
      record {
        bytes = refl;
        lens = refl;
        pieces = unless_long (ask_journal_read s id whole l.marks) l.pieces _ (λ h. length_clipped l.pieces _ _);
        rbytes = refl;
        rlens = refl;
        blocks = refl;
        marks = refl;
        each = λ e. e;
      }

  crashed_alike : ask_journal g v.picture v.pictured ≡ 0
      → Alike l (with_journal l (crashed_blocks s.disk.journalWrites v.picture l.blocks) (crashed_marks s.disk.journalWrites v.pictured l.marks))
  crashed_alike q =
      record {
        bytes = refl;
        lens = refl;
        pieces = refl;
        rbytes = refl;
        rlens = refl;
        blocks = length_crashed_blocks s.disk.journalWrites v.picture l.blocks;
        marks = length_crashed_marks s.disk.journalWrites v.pictured l.marks;
        each = crashed_marks_each s.disk.journalWrites v.pictured l.marks (journal_marks g v.picture v.pictured q).each;
      }

  lent_alike : (x : Step) (b : Bodies) → ask_picture g v.picture v.pictured x ≡ 0 → Alike l (step_lent_with g l v s x b)
  unfolding step_lent_with ask_picture
  lent_alike (step.WriteBackJournalReq id1 id2) b q = written_alike id1 id2 b
  lent_alike (step.WriteBackJournalResp id) b q = alike_same l
  lent_alike (step.AdvanceLog id) b q = alike_same l
  lent_alike (step.AdvanceLocation id) b q = alike_same l
  lent_alike (step.WriteBackSuperblockResp id) b q = alike_same l
  lent_alike (step.PageInJournalReq which id) b q = alike_same l
  lent_alike (step.PageInJournalResp id whole) b q = paged_alike id whole
  lent_alike (step.PageInSuperblockReq which id) b q = alike_same l
  lent_alike (step.PageInSuperblockResp which id whole) b q = alike_same l
  lent_alike step.FinishLoadingSuperblockPhase b q = alike_same l
  lent_alike step.FinishLoadingOtherPhase b q = finished_alike
  lent_alike step.Freeze b q = alike_same l
  lent_alike (step.ReceiveFrozenLoc loc) b q = alike_same l
  lent_alike (step.Advance entries) b q = added_alike entries (ask_advance_step s.machine b (given_of v.brought v.sizes entries)) b
  lent_alike (step.Replay entries) b q = alike_same l
  lent_alike (step.PushSyncReq id) b q = alike_same l
  lent_alike (step.PopSyncReq id) b q = alike_same l
  lent_alike step.NoOp b q = alike_same l
  lent_alike (step.AskAgain which) b q = alike_same l
  lent_alike (step.Land which) b q = alike_same l
  lent_alike step.Crash b q = crashed_alike q
  lent_alike step.CrashInPlace b q = alike_same l

-- the whole step, taken or refused
pub alike_step : (g : Geometry) (l : Lent) (v : Given) (s : Store) (x : Step) → Alike l (stepped_lent g l v s x)
unfolding stepped_lent ask_step ask_store
alike_step g l v s x =
    let q : ℕ = ask_step g l v s x in
    split_eq q 0
    (λ h.
    subst (Alike l) (sym (unless_done q l (step_lent_with g l v s x (bodies_of l.lens s.machine)) h))
    (lent_alike g l v s (journal_marks g l.blocks l.marks (and_then_left _ _ (and_then_right _ _ h))) x (bodies_of l.lens s.machine) (and_then_left _ _ h)))
    (λ h. subst (Alike l) (sym (unless_kept q l (step_lent_with g l v s x (bodies_of l.lens s.machine)) h)) (alike_same l))
