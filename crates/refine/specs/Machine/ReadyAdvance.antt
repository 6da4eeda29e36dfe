-- Advance against 000. The entries that it brings lie in memory that the caller lends: k of them, with their bytes and lengths.
use Rattle.std.specs.Prelude.{ℕ, ◌+◌, ◌≤◌, ◌≡◌, refl, List, ◌++◌, length, take, drop}
use Rattle.std.proofs.Common.{sym, ◌∙◌, ap, arith, length-append}
use Rattle.std.proofs.lemmas.List.{take-append-le, drop-append-le}
use Rattle.laws.specs.Fold.{sum, sum_append}
use Rattle.laws.specs.Cut.{lengths, lengths_append}
use Rattle.laws.specs.Splice.{splice}
use Rattle.laws.specs.Sets.{Map}
use Rattle.range.specs.Memory.{view, total, length_view, lengths_view, view_take, view_add}
use Rattle.memory.specs.declared.Limits.{Limits}
use Rattle.ready.specs.declared.Ready.{Ready}
use Rattle.ready.specs.State.{count}
use Rattle.ready.specs.EntrySteps.{ask_advance, advance_next}
use Rattle.ready.specs.Laws.Asked.{advance_asked, asks_advance}
use Rattle.codec.specs.Codec.{JournalEntry}
use Rattle.source.specs.JournalDisk.{DiskOp, NoDiskOp}
use Rattle.source.specs.JournalCache as M
use Rattle.source.specs.JournalCache.{SyncReqStatus, to_in_memory_journal_frozen, to_in_memory_journal, AdvanceClauses}
use Rattle.refine.specs.Machine.ReadyView.{ReadyLent, frozen_of, memory_of, ready_of}
use Rattle.refine.specs.Machine.ReadyForm.{Given, PendingForm, ReplayForm, pending_few_is, pending_small_is, all_replayed, replayed_all}

-- pending memory with k entries behind the n that take `held` bytes
abbrev pub appended_lent : ReadyLent → (n held : ℕ) (bodies sizes : List ℕ) (k : ℕ) → ReadyLent
appended_lent l n held bodies sizes k =
    record {
      bytes = splice l.bytes held (take (total sizes k) bodies);
      lens = splice l.lens n (take k sizes);
      rbytes = l.rbytes;
      rlens = l.rlens;
    }

module _ (l : ReadyLent) (sync : Map SyncReqStatus) (r : Ready) (p : PendingForm l r.entries) (bodies sizes : List ℕ) (k : ℕ) (given : Given bodies sizes k) where
  abbrev n : ℕ
  n = r.entries.pending

  abbrev held : ℕ
  held = total l.lens n

  abbrev es : List JournalEntry
  es = view bodies sizes k

  abbrev l' : ReadyLent
  l' = appended_lent l n held bodies sizes k

  appended_view : view l'.bytes l'.lens (n + k) ≡ view l.bytes l.lens n ++ es
  appended_view =
      view_add l.bytes l.lens bodies sizes n k held (total sizes k) (n + k) p.there given.there refl refl p.fit given.fit refl

  old_long : r.entries.frozen ≤ length (view l.bytes l.lens n)
  old_long = omega (arith, p.frozen_within, length_view l.bytes l.lens n p.there)

  appended_frozen : view l'.bytes l'.lens r.entries.frozen ≡ frozen_of l r.entries
  appended_frozen =
      sym (view_take l'.bytes l'.lens (n + k) r.entries.frozen (omega (arith, p.frozen_within)))
      ∙ ap (take r.entries.frozen) appended_view
      ∙ take-append-le r.entries.frozen (view l.bytes l.lens n) es old_long
      ∙ view_take l.bytes l.lens n r.entries.frozen p.frozen_within

  appended_memory : drop r.entries.frozen (view l'.bytes l'.lens (n + k)) ≡ memory_of l r.entries ++ es
  appended_memory =
      ap (drop r.entries.frozen) appended_view ∙ drop-append-le r.entries.frozen (view l.bytes l.lens n) es old_long

  advance_next_is : ready_of l' sync (advance_next r (n + k)) ≡ to_in_memory_journal (memory_of l r.entries ++ es) (ready_of l sync r)
  unfolding advance_next
  advance_next_is = λ i. to_in_memory_journal_frozen (appended_frozen i) (to_in_memory_journal (appended_memory i) (ready_of l sync r))

  pub advance_sound : (limits : Limits) → ReplayForm l r.entries → ask_advance limits r held (count k (total sizes k)) ≡ 0
      → AdvanceClauses (ready_of l sync r) (M.Variables.Ready (ready_of l' sync (advance_next r (n + k)))) NoDiskOp es
  advance_sound limits q e =
      record {
        op = refl;
        replayed = all_replayed l r.entries q (advance_asked limits r held (count k (total sizes k)) e).all_replayed;
        next = ap M.Variables.Ready advance_next_is;
      }

  -- the counts of the next state are within the limits
  pub advance_complete : (limits : Limits) → ReplayForm l r.entries → (s' : M.Variables) (dop : DiskOp) → AdvanceClauses (ready_of l sync r) s' dop es
      → length (frozen_of l r.entries) + length (memory_of l r.entries ++ es) ≤ limits.entries
      → sum (lengths (frozen_of l r.entries)) + sum (lengths (memory_of l r.entries ++ es)) ≤ limits.bytes
      → (ask_advance limits r held (count k (total sizes k)) ≡ 0) × (M.Variables.Ready (ready_of l' sync (advance_next r (n + k))) ≡ s') × (dop ≡ NoDiskOp)
  advance_complete limits q s' dop h few small = (
    asks_advance limits r held (count k (total sizes k))
        (record {
          all_replayed = replayed_all l r.entries q h.replayed;
          entries_fit = omega (arith, few, pending_few_is l r.entries p, length-append (memory_of l r.entries) es, length_view bodies sizes k given.there);
          bytes_fit =
              omega (
                arith,
                small,
                pending_small_is l r.entries p,
                ap sum (lengths_append (memory_of l r.entries) es),
                sum_append (lengths (memory_of l r.entries)) (lengths es),
                ap sum (lengths_view bodies sizes k given.fit),
              );
        }),
    ap M.Variables.Ready advance_next_is ∙ sym h.next,
    h.op,
  )
