-- Freeze and ReceiveFrozenLoc against 000.
use Rattle.std.specs.Prelude.{◌≤◌, ◌≡◌, refl}
use Rattle.std.proofs.Math.Bool.{true}
use Rattle.std.proofs.Math.Path.{sym}
use Rattle.std.proofs.Common.{◌∙◌}
use Rattle.std.proofs.Math.Option.{none}
use mathlib.Core.List.{[], ◌++◌}
use native.Mathlib.Omega.{arith}
use Rattle.std.proofs.Math.ListN.{length, drop, drop_of_length-le}
use Rattle.laws.specs.Sets.{Map}
use Rattle.layout.specs.declared.Geometry.{Geometry}
use Rattle.layout.specs.declared.Location.{Location}
use Rattle.range.specs.Memory.{view, length_view}
use Rattle.ready.specs.declared.Ready.{Ready}
use Rattle.ready.specs.FreezeSteps.{ask_freeze, freeze_next, ask_receive_frozen_loc, receive_frozen_loc_next}
use Rattle.ready.specs.Laws.Asked.{freeze_asked, asks_freeze, receive_asked, asks_receive}
use Rattle.source.specs.JournalDisk.{DiskOp, NoDiskOp}
use Rattle.source.specs.JournalCache as M
use Rattle.source.specs.JournalCache.{SyncReqStatus, sync_reqs3to2, to_frozen_loc, to_in_memory_journal_frozen, to_in_memory_journal, to_frozen_journal_position, to_sync_reqs, to_is_frozen, FreezeClauses, ReceiveFrozenLocClauses}
use Rattle.refine.specs.Machine.ReadyView.{ReadyLent, ready_of}
use Rattle.refine.specs.Machine.ReadyCases.{none_seen, seen_none, other_seen_is, seen_other, none_flight, flight_none}
use Rattle.refine.specs.Machine.ReadyForm.{PendingForm, ReplayForm, pending_is, all_replayed, replayed_all}

module _ (l : ReadyLent) (sync : Map SyncReqStatus) (r : Ready) where
  -- the view of the next record is 000's next state
  freeze_next_is : PendingForm l r.entries
      → M.Variables.Ready (ready_of l (sync_reqs3to2 sync) (freeze_next r))
      ≡ M.Variables.Ready
      (to_frozen_loc none
      (to_in_memory_journal_frozen ((ready_of l sync r).in_memory_journal_frozen ++ (ready_of l sync r).in_memory_journal)
      (to_in_memory_journal []
      (to_frozen_journal_position r.writtenJournalLen
      (to_sync_reqs (sync_reqs3to2 sync)
      (to_is_frozen true (ready_of l sync r)))))))
  unfolding freeze_next
  freeze_next_is p =
      λ i.
      M.Variables.Ready
      (to_frozen_loc none
      (to_in_memory_journal_frozen (sym (pending_is l r.entries p) i)
      (to_in_memory_journal (none_left i)
      (to_frozen_journal_position r.writtenJournalLen
      (to_sync_reqs (sync_reqs3to2 sync)
      (to_is_frozen true (ready_of l sync r)))))))
    where
      none_left : drop r.entries.pending (view l.bytes l.lens r.entries.pending) ≡ []
      none_left =
          let n = length_view l.bytes l.lens r.entries.pending p.there in
          let h : length (view l.bytes l.lens r.entries.pending) ≤ r.entries.pending = omega arith in
          drop_of_length-le (view l.bytes l.lens r.entries.pending) h

  pub freeze_sound : PendingForm l r.entries → ReplayForm l r.entries → ask_freeze r ≡ 0
      → FreezeClauses (ready_of l sync r) (M.Variables.Ready (ready_of l (sync_reqs3to2 sync) (freeze_next r))) NoDiskOp
  freeze_sound p q e =
      let m = freeze_asked r e in
      record {
        op = refl;
        no_write = none_flight r.commit m.no_commit_is;
        other_loc = other_seen_is r.frozen.frozenLoc r.superblock.indirectionTableLoc m.other_loc;
        replayed = all_replayed l r.entries q m.all_replayed;
        next = freeze_next_is p;
      }

  pub freeze_complete : PendingForm l r.entries → ReplayForm l r.entries → (s' : M.Variables) (dop : DiskOp) → FreezeClauses (ready_of l sync r) s' dop
      → (ask_freeze r ≡ 0) × (M.Variables.Ready (ready_of l (sync_reqs3to2 sync) (freeze_next r)) ≡ s') × (dop ≡ NoDiskOp)
  freeze_complete p q s' dop h = (
    asks_freeze r
        (record {
          no_commit_is = flight_none r.commit h.no_write;
          other_loc = seen_other r.frozen.frozenLoc r.superblock.indirectionTableLoc h.other_loc;
          all_replayed = replayed_all l r.entries q h.replayed;
        }),
    freeze_next_is p ∙ sym h.next,
    h.op,
  )

  pub receive_sound : (g : Geometry) (loc : Location) → ask_receive_frozen_loc g r loc ≡ 0
      → ReceiveFrozenLocClauses g (ready_of l sync r) (M.Variables.Ready (ready_of l sync (receive_frozen_loc_next r loc))) NoDiskOp loc
  unfolding receive_frozen_loc_next
  receive_sound g loc e =
      let m = receive_asked g r loc e in
      record {
        op = refl;
        frozen = m.frozen;
        none_received = none_seen r.frozen.frozenLoc m.none_received;
        loc_valid = m.loc_valid;
        next = refl;
      }

  pub receive_complete : (g : Geometry) (loc : Location) (s' : M.Variables) (dop : DiskOp) → ReceiveFrozenLocClauses g (ready_of l sync r) s' dop loc
      → (ask_receive_frozen_loc g r loc ≡ 0) × (M.Variables.Ready (ready_of l sync (receive_frozen_loc_next r loc)) ≡ s') × (dop ≡ NoDiskOp)
  unfolding receive_frozen_loc_next
  receive_complete g loc s' dop h =
      (asks_receive g r loc (record { loc_valid = h.loc_valid; frozen = h.frozen; none_received = seen_none r.frozen.frozenLoc h.none_received }), sym h.next, h.op)
