-- Lent memory after a step that has answered, and after a journal write. The code's proofs cite them.
use Rattle.std.specs.declared.option.Option as code
use Rattle.std.specs.Prelude.{ℕ, ◌≡◌, List, take, drop, Ok, Err}
use Rattle.std.proofs.Math.Path.{sym, ap}
use Rattle.std.proofs.Common.{◌∙◌}
use Rattle.laws.specs.Choice.{unless, unless_kept, unless_done}
use Rattle.laws.specs.Splice.{splice}
use Rattle.refusal.specs.declared.Refusal.{Refusal}
use Rattle.layout.specs.declared.Geometry.{Geometry}
use Rattle.interval.specs.declared.JournalInterval.{JournalInterval}
use Rattle.superblock.specs.declared.DiskOp.{DiskOp}
use Rattle.journal.specs.Memory.{update_marks}
use Rattle.range.specs.declared.Count.{Count}
use Rattle.writer.specs.Ring.{put_range}
use Rattle.ready.specs.declared.Bodies.{Bodies}
use Rattle.machine.specs.Working.{sent_of, left_of, moved_bytes, moved_lens}
use Rattle.store.specs.declared.Store.{Store}
use Rattle.store.specs.Store.{StoreStepped}
use Rattle.store.specs.Store.{answered}
use Rattle.store.specs.Steps.{both, ask_write_journal, write_journal, written_interval, written_blocks, written_marks, interval_of}
use Rattle.store.specs.Laws.Answers as answers

-- lent memory after a step that has answered
module _ (q : ℕ) (op : DiskOp) (next s : Store) (r : StoreStepped) (e : r ≡ answered q op next s) where
  pub answer_no : (n : Refusal) → r.answer ≡ Err n → q ≡ 0 → ⊥
  answer_no n h = answers.refused_asked q op next s n (sym (ap (λ (x : StoreStepped). x.answer) e) ∙ h)

  pub answer_yes : (o : DiskOp) → r.answer ≡ Ok o → (q ≡ 0) × (o ≡ op)
  answer_yes o h = answers.next_asked q op next s o (sym (ap (λ (x : StoreStepped). x.answer) e) ∙ h)

  pub answer_kept : (n : Refusal) (old new : List ℕ) → r.answer ≡ Err n → old ≡ unless q old new
  answer_kept n old new h = sym (unless_kept q old new (answer_no n h))

  pub answer_changed : (o : DiskOp) (x old new : List ℕ) → r.answer ≡ Ok o → x ≡ new → x ≡ unless q old new
  answer_changed o x old new h p = p ∙ sym (unless_done q old new (answer_yes o h).0)

-- a journal write
module _ (g : Geometry) (s : Store) (id1 : ℕ) (id2 : code.Option ℕ) (b : Bodies) (r : StoreStepped) (e : r ≡ write_journal g s id1 id2 b) (bytes lens blocks marks : List ℕ) where
  abbrev Written : List ℕ → List ℕ → List ℕ → List ℕ → Type 0
  Written x y z w =
      (r ≡ write_journal g s id1 id2 b)
      × ((x ≡ unless (ask_write_journal g s id1 id2 b) bytes (moved_bytes s.machine b bytes))
      × ((y ≡ unless (ask_write_journal g s id1 id2 b) lens (moved_lens s.machine b lens))
      × ((z ≡ unless (ask_write_journal g s id1 id2 b) blocks (written_blocks g s b bytes lens blocks))
      × (w ≡ unless (ask_write_journal g s id1 id2 b) marks (written_marks g s b marks)))))

  pub write_refused : (n : Refusal) → r.answer ≡ Err n → Written bytes lens blocks marks
  unfolding both ask_write_journal
  write_refused n t =
      (e, (answer_kept _ _ _ s r e n bytes _ t, (answer_kept _ _ _ s r e n lens _ t, (answer_kept _ _ _ s r e n blocks _ t, answer_kept _ _ _ s r e n marks _ t))))

  pub write_taken : (o : DiskOp) (gone rest : Count) (v : JournalInterval) (x y z w : List ℕ) → r.answer ≡ Ok o → gone ≡ sent_of s.machine b → rest ≡ left_of s.machine b
      → v ≡ interval_of o
      → z ≡ put_range bytes lens gone.entries gone.bytes blocks v.start
      → w ≡ update_marks marks v
      → x ≡ splice bytes 0 (take rest.bytes (drop gone.bytes bytes))
      → y ≡ splice lens 0 (take rest.entries (drop gone.entries lens))
      → Written x y z w
  unfolding both ask_write_journal
  write_taken o gone rest v x y z w t hg hr hv hz hw hx hy =
      let k : v ≡ written_interval g s b = hv ∙ ap interval_of (answer_yes _ _ _ s r e o t).1 in (
        e,
        (
          answer_changed _ _ _ s r e o x bytes _ t (hx ∙ (λ i. splice bytes 0 (take (hr i).bytes (drop (hg i).bytes bytes)))),
          (
            answer_changed _ _ _ s r e o y lens _ t (hy ∙ (λ i. splice lens 0 (take (hr i).entries (drop (hg i).entries lens)))),
            (
              answer_changed _ _ _ s r e o z blocks _ t (hz ∙ (λ i. put_range bytes lens (hg i).entries (hg i).bytes blocks (k i).start)),
              answer_changed _ _ _ s r e o w marks _ t (hw ∙ ap (update_marks marks) k),
            ),
          ),
        ),
      )
