-- Replay against 000. What is taken is counted in entries and bytes; the entries that the step brings are exactly the next ones of the view.
use Rattle.std.specs.Prelude.{ℕ, ◌+◌, ◌-◌, ◌≤◌, ◌≡◌, refl, List, ◌++◌}
use Rattle.std.proofs.Math.Path.{sym, ap}
use Rattle.std.proofs.Common.{◌∙◌, length-drop, take-append-drop, drop-drop, take_at}
use native.Mathlib.Omega.{arith}
use Rattle.std.proofs.Math.ListN.{length, take, drop, length-append}
use Rattle.std.proofs.Math.Seq.{drop_at}
use Rattle.laws.specs.Fold.{sum}
use Rattle.laws.specs.Cut.{lengths}
use Rattle.laws.specs.Sets.{Map}
use Rattle.range.specs.Memory.{view, total, total_split, length_view, lengths_view, view_take, view_drop}
use Rattle.range.specs.declared.Count.{Count}
use Rattle.ready.specs.declared.Ready.{Ready}
use Rattle.ready.specs.State.{count}
use Rattle.ready.specs.EntrySteps.{replay_next}
use Rattle.codec.specs.Codec.{JournalEntry}
use Rattle.source.specs.JournalDisk.{DiskOp, NoDiskOp}
use Rattle.source.specs.JournalCache.{SyncReqStatus, ReadyVariables, to_replay_journal, ReplayClauses}
use Rattle.refine.specs.Machine.ReadyView.{ReadyLent, replay_of, ready_of}
use Rattle.refine.specs.Machine.ReadyForm.{Given, ReplayForm, length_replay}

module _ (l : ReadyLent) (sync : Map SyncReqStatus) (r : Ready) (q : ReplayForm l r.entries) (bodies sizes : List ℕ) (k : ℕ) (given : Given bodies sizes k) where
  abbrev taken : Count
  taken = r.entries.taken

  abbrev left : ℕ
  left = r.entries.replay - taken.entries

  abbrev rbytes : List ℕ
  rbytes = drop taken.bytes l.rbytes

  abbrev rlens : List ℕ
  rlens = drop taken.entries l.rlens

  abbrev es : List JournalEntry
  es = view bodies sizes k

  -- with the k given ones taken too
  abbrev taken' : Count
  taken' = count (taken.entries + k) (taken.bytes + total sizes k)

  -- their bytes are those of the next k
  next_total : k ≤ left → es ≡ take k (replay_of l r.entries) → total sizes k ≡ total rlens k
  next_total h e =
      let whole : k + (left - k) ≡ left = omega arith in
      let split = total_split rlens left k (left - k) whole in
      let fit : total rlens k ≤ length rbytes = omega (arith, q.fit, split, length-drop taken.bytes l.rbytes) in
      ap sum
      (sym (lengths_view bodies sizes k given.fit)
      ∙ ap lengths (e ∙ view_take rbytes rlens left k h)
      ∙ lengths_view rbytes rlens k fit)

  -- what is left then
  left_is : k ≤ left → es ≡ take k (replay_of l r.entries) → replay_of l (replay_next r taken').entries ≡ drop k (replay_of l r.entries)
  unfolding replay_next
  left_is h e =
      let fewer : r.entries.replay - (taken.entries + k) ≡ left - k = omega arith in
      (λ i. view (bytes_left i) (sym (drop-drop k taken.entries l.rlens) i) (fewer i)) ∙ sym (view_drop rbytes rlens left k h)
    where
      bytes_left : drop (taken.bytes + total sizes k) l.rbytes ≡ drop (total rlens k) rbytes
      bytes_left =
          ap (λ (t : ℕ). drop (taken.bytes + t) l.rbytes) (next_total h e) ∙ sym (drop-drop (total rlens k) taken.bytes l.rbytes)

  pub replay_sound : k ≤ left → es ≡ take k (replay_of l r.entries) → ReplayClauses (ready_of l sync r) (ready_of l sync (replay_next r taken')) NoDiskOp es
  unfolding replay_next
  replay_sound h e =
      record {
        op = refl;
        next = refl;
        prefix = sym (take-append-drop k (replay_of l r.entries)) ∙ (λ i. sym e i ++ sym (left_is h e) i);
      }

  pub replay_complete : (s' : ReadyVariables) (dop : DiskOp) → ReplayClauses (ready_of l sync r) s' dop es
      → (k ≤ left) × (es ≡ take k (replay_of l r.entries)) × (ready_of l sync (replay_next r taken') ≡ s') × (dop ≡ NoDiskOp)
  unfolding replay_next
  replay_complete s' dop h =
      let long = length_view bodies sizes k given.there in
      let few : k ≤ left = omega (arith, ap length h.prefix, length-append es s'.replay_journal, length_replay l r.entries q, long) in
      let next : es ≡ take k (replay_of l r.entries) = sym (take_at es s'.replay_journal k long) ∙ ap (take k) (sym h.prefix) in
      let rest : replay_of l (replay_next r taken').entries ≡ s'.replay_journal =
      left_is few next ∙ ap (drop k) h.prefix ∙ drop_at es s'.replay_journal k long in
      (few, next, (λ i. to_replay_journal (rest i) (ready_of l sync r)) ∙ sym h.next, h.op)
