-- Question 2 of a machine at work: the test of the record, together with what a look at lent memory finds, says yes exactly where the view
-- meets `Inv` and the limits and the record is in form.
use Rattle.std.specs.Prelude.{◌+◌, ◌-◌, ◌*◌, ◌≤◌, true, ◌≡◌, refl, length, take, drop, Some}
use Rattle.std.proofs.Common.{sym, ◌∙◌, ap, subst, inl, inr, ⊎_elim, arith}
use Rattle.std.proofs.Math.Option.{some, some-injective}
use Rattle.laws.specs.Choice.{ruin}
use Rattle.laws.specs.Fold.{every}
use Rattle.laws.specs.Sets.{Map, keys, AtMost, none_some}
use Rattle.laws.specs.Optional.{option_of, option_same}
use Rattle.layout.specs.declared.Geometry.{Geometry}
use Rattle.layout.specs.Geometry.{num_journal_blocks}
use Rattle.superblock.specs.declared.Superblock.{Superblock}
use Rattle.tables.proofs.Laws.Counts.{count_few, few_count}
use Rattle.tables.proofs.Laws.IdTables.{ids_none}
use Rattle.range.specs.Form.{block_size, ok_length}
use Rattle.range.specs.Memory.{total}
use Rattle.ready.specs.declared.Commit.{Commit}
use Rattle.ready.specs.declared.Commit.TheVariants as commit
use Rattle.ready.specs.declared.Entries.{Entries}
use Rattle.ready.specs.declared.Ready.{Ready}
use Rattle.ready.specs.State.{with_commit}
use Rattle.ready.specs.Inv.{most_writes, ready_ok}
use Rattle.ready.specs.Laws.Facts.{IsNew, InFlight, ReadyFacts, ready_facts, facts_ready}
use Rattle.source.specs.JournalCache as M
use Rattle.source.specs.JournalCache.{SyncReqStatus, CommitAdvanceLog, CommitAdvanceLocation, ReadyVariables, InvReady, InvAdvanceLog, InvAdvanceLocation, InvNewSuperblock}
use Rattle.source.specs.Limits.{Limits}
use Rattle.source.specs.Meets.{MachineMeets}
use Rattle.refine.specs.Disk.View.{Table}
use Rattle.refine.specs.Machine.ReadyView.{ReadyLent, status_of, new_of, replay_of, ready_of}
use Rattle.refine.specs.Machine.ReadyCases.{received_seen, seen_received, commit_new, commit_status_is}
use Rattle.refine.specs.Machine.ReadyForm.{PendingForm, ReadyForm, table_none, each_fit, fit_each, pending_few_is, pending_small_is, none_frozen_is, frozen_none, frozen_fits, memory_fits, fits_pending, length_replay, lengths_replay, replay_small_is}

module _ (g : Geometry) (l : ReadyLent) (sync : Map SyncReqStatus) (r : Ready) (p : PendingForm l r.entries) where
  -- the view with a given commit in flight
  abbrev seen : Commit → ReadyVariables
  seen c = ready_of l sync (with_commit r c)

  log_inv : (c : Commit) → InFlight g r c → status_of c ≡ CommitAdvanceLog → InvAdvanceLog (seen c)
  log_inv commit.CommitNone f e = ruin (cc)
  log_inv (commit.CommitAdvanceLog id new) f e =
      record { new = new; new_is = refl; new_loc = f.0.new_loc; new_start = f.0.new_start; new_len = f.0.new_len }
  log_inv (commit.CommitAdvanceLocation id new) f e = ruin (cc)

  location_inv : (c : Commit) → InFlight g r c → status_of c ≡ CommitAdvanceLocation → InvAdvanceLocation g (seen c)
  location_inv commit.CommitNone f e = ruin (cc)
  location_inv (commit.CommitAdvanceLog id new) f e = ruin (cc)
  location_inv (commit.CommitAdvanceLocation id new) f e =
      record {
        frozen = f.0.frozen;
        received = received_seen r.frozen.frozenLoc f.0.received;
        new = new;
        new_is = refl;
        new_start = f.0.new_start;
        new_len = f.0.new_len;
        new_end = f.0.new_end;
      }

  new_inv : (c : Commit) → InFlight g r c → (new : Superblock) → new_of c ≡ some new → InvNewSuperblock g (seen c) new
  new_inv commit.CommitNone f new e = none_some refl e
  new_inv (commit.CommitAdvanceLog id k) f new e =
      subst (InvNewSuperblock g (seen (commit.CommitAdvanceLog id k))) (some-injective k new e)
      (record {
        all_written = ids_none r.writes f.1.none_outstanding_is;
        new_loc = ⊎_elim (λ h. inl h) (λ h. inr (ap option_of h)) f.1.new_loc;
        commit = inl refl;
        new_wf = f.1.new_wf;
        new_counter = f.1.new_counter;
        none_frozen_is = none_frozen_is l r.entries p f.1.none_frozen_is;
      })
  new_inv (commit.CommitAdvanceLocation id k) f new e =
      subst (InvNewSuperblock g (seen (commit.CommitAdvanceLocation id k))) (some-injective k new e)
      (record {
        all_written = ids_none r.writes f.1.none_outstanding_is;
        new_loc = ⊎_elim (λ h. inl h) (λ h. inr (ap option_of h)) f.1.new_loc;
        commit = inr refl;
        new_wf = f.1.new_wf;
        new_counter = f.1.new_counter;
        none_frozen_is = none_frozen_is l r.entries p f.1.none_frozen_is;
      })

  facts_inv : ReadyFacts g r → InvReady g (ready_of l sync r)
  facts_inv f =
      record {
        write_new = commit_new r.commit;
        write_commit = commit_status_is r.commit;
        written_in = f.extent.written_in;
        len_written = f.extent.len_written;
        if_frozen = λ e. let k = f.if_frozen e in record { position_in = k.position_in; len_written = k.len_written; position_written = k.position_written };
        if_received = λ loc e.
            let k = f.if_received loc (option_same r.frozen.frozenLoc (Some loc) e) in
            record { loc_valid = k.loc_valid; frozen = k.frozen };
        superblock_wf = f.superblock_wf;
        if_advance_log = log_inv r.commit f.in_flight_is;
        if_advance_location = location_inv r.commit f.in_flight_is;
        if_new = new_inv r.commit f.in_flight_is;
        if_some_frozen = λ h.
            let k = f.if_some_frozen (λ z. h (none_frozen_is l r.entries p z)) in
            record { position_is = k.position_is; frozen = k.frozen };
      }

  -- and back: each case of the commit in flight from the clauses of the view
  module _ (t : Table r.writes.count r.writes.ids) where
    is_new_is : (c : Commit) (new : Superblock) → InvNewSuperblock g (seen c) new → IsNew g r new
    is_new_is c new k =
        record {
          none_outstanding_is = table_none r.writes t k.all_written;
          new_loc = ⊎_elim (λ h. inl h) (λ h. inr (option_same r.frozen.frozenLoc (Some new.indirectionTableLoc) h)) k.new_loc;
          new_wf = k.new_wf;
          new_counter = k.new_counter;
          none_frozen_is = frozen_none l r.entries p k.none_frozen_is;
        }

    inv_flight : (c : Commit) → InvReady g (seen c) → InFlight g r c
    inv_flight commit.CommitNone i = tt
    inv_flight (commit.CommitAdvanceLog id new) i =
        let k = i.if_advance_log refl in
        let same : k.new ≡ new = some-injective k.new new (sym k.new_is) in (
          record {
            new_loc = ap (λ (s : Superblock). s.indirectionTableLoc) (sym same) ∙ k.new_loc;
            new_start = ap (λ (s : Superblock). s.journalStart) (sym same) ∙ k.new_start;
            new_len = ap (λ (s : Superblock). s.journalLen) (sym same) ∙ k.new_len;
          },
          is_new_is (commit.CommitAdvanceLog id new) new (i.if_new new refl),
        )
    inv_flight (commit.CommitAdvanceLocation id new) i =
        let k = i.if_advance_location refl in
        let same : k.new ≡ new = some-injective k.new new (sym k.new_is) in (
          record {
            frozen = k.frozen;
            received = seen_received r.frozen.frozenLoc k.received;
            new_start = ap (λ (s : Superblock). s.journalStart) (sym same) ∙ k.new_start;
            new_len = ap (λ (s : Superblock). s.journalLen) (sym same) ∙ k.new_len;
            new_end = subst (λ (s : Superblock). r.frozen.frozenJournalPosition + s.journalLen ≤ r.writtenJournalLen) same k.new_end;
          },
          is_new_is (commit.CommitAdvanceLocation id new) new (i.if_new new refl),
        )

-- what a look at lent memory finds: of pending entries, and of replay entries behind what is taken
pub record PendingHeld (L : Limits) (l : ReadyLent) (e : Entries) : Type 0 where
  pub few : e.pending ≤ L.pending_entries
  pub there : e.pending ≤ length l.lens
  pub each : every (ok_length L.entry_bytes) (take e.pending l.lens) ≡ true
  pub small : total l.lens e.pending ≤ L.pending_bytes
  pub fit : total l.lens e.pending ≤ length l.bytes

pub record ReplayHeld (L : Limits) (l : ReadyLent) (e : Entries) : Type 0 where
  pub there : e.replay ≤ length l.rlens
  pub each : every (ok_length L.entry_bytes) (take (e.replay - e.taken.entries) (drop e.taken.entries l.rlens)) ≡ true
  pub fit : e.taken.bytes + total (drop e.taken.entries l.rlens) (e.replay - e.taken.entries) ≤ length l.rbytes

-- replay memory is N blocks of bytes and as many lengths
pub record ReplaySized (g : Geometry) (l : ReadyLent) : Type 0 where
  pub bytes_lent : length l.rbytes ≡ num_journal_blocks g * block_size
  pub lens_lent : length l.rlens ≡ num_journal_blocks g * block_size

module _ (g : Geometry) (L : Limits) (l : ReadyLent) (sync : Map SyncReqStatus) (r : Ready) (w : L.outstanding_journal_writes ≡ most_writes) where
  pub ready_form : ready_ok g r ≡ true → PendingHeld L l r.entries → ReplayHeld L l r.entries → ReadyForm l r
  ready_form e ph rh =
      let f = ready_facts g r e in
      record {
        which_in = f.extent.which_in;
        pending = record { frozen_within = f.frozen_within; there = ph.there; fit = ph.fit };
        replay = record { taken_within = f.taken_within; there = rh.there; fit = rh.fit };
        writes = record { in_array = f.writes_counted.in_array; differ = f.writes_counted.differ };
      }

  pub ready_meets : ReplaySized g l → AtMost L.sync_reqs (keys sync) → ready_ok g r ≡ true → PendingHeld L l r.entries → ReplayHeld L l r.entries
      → MachineMeets g L (M.Variables.Ready (ready_of l sync r))
  ready_meets z few e ph rh =
      record {
        inv = facts_inv g l sync r form.pending (ready_facts g r e);
        counts =
            record {
              sync_few = few;
              writes_few =
                  count_few most_writes r.writes.count r.writes.ids (ready_facts g r e).writes_counted L.outstanding_journal_writes
                  (omega (arith, w, (ready_facts g r e).writes_counted.few));
              pending_few = omega (arith, ph.few, pending_few_is l r.entries form.pending);
              pending_small = omega (arith, ph.small, pending_small_is l r.entries form.pending);
            };
        shape =
            record {
              frozen_fit = frozen_fits l r.entries form.pending L.entry_bytes ph.each;
              memory_fit = memory_fits l r.entries form.pending L.entry_bytes ph.each;
              replay =
                  record {
                    few = omega (arith, z.lens_lent, rh.there, length_replay l r.entries form.replay);
                    small = omega (arith, z.bytes_lent, rh.fit, replay_small_is l r.entries form.replay);
                    fit = each_fit L.entry_bytes (replay_of l r.entries) _ (lengths_replay l r.entries form.replay) rh.each;
                  };
            };
      }
    where
      form : ReadyForm l r
      form = ready_form e ph rh

  pub meets_ready : MachineMeets g L (M.Variables.Ready (ready_of l sync r)) → ReadyForm l r → ready_ok g r ≡ true
  meets_ready m form =
      facts_ready g r
      (record {
        extent = record { which_in = form.which_in; written_in = m.inv.written_in; len_written = m.inv.len_written };
        if_frozen = λ e.
            let k = m.inv.if_frozen e in
            record { position_in = k.position_in; len_written = k.len_written; position_written = k.position_written };
        if_received = λ loc e.
            let k = m.inv.if_received loc (ap option_of e) in
            record { loc_valid = k.loc_valid; frozen = k.frozen };
        superblock_wf = m.inv.superblock_wf;
        in_flight_is = inv_flight g l sync r form.pending form.writes r.commit m.inv;
        if_some_frozen = λ h.
            let k = m.inv.if_some_frozen (λ z. h (frozen_none l r.entries form.pending z)) in
            record { position_is = k.position_is; frozen = k.frozen };
        frozen_within = form.pending.frozen_within;
        taken_within = form.replay.taken_within;
        writes_counted = record { few = omega (arith, w, writes_few); in_array = form.writes.in_array; differ = form.writes.differ };
      })
    where
      writes_few : r.writes.count ≤ L.outstanding_journal_writes
      writes_few =
          few_count r.writes.count r.writes.count r.writes.ids
          (record { few = omega arith; in_array = form.writes.in_array; differ = form.writes.differ })
          L.outstanding_journal_writes m.counts.writes_few

  pub meets_pending : MachineMeets g L (M.Variables.Ready (ready_of l sync r)) → ReadyForm l r → PendingHeld L l r.entries
  meets_pending m form =
      record {
        few = omega (arith, m.counts.pending_few, pending_few_is l r.entries form.pending);
        there = form.pending.there;
        each = fits_pending l r.entries form.pending L.entry_bytes m.shape.frozen_fit m.shape.memory_fit;
        small = omega (arith, m.counts.pending_small, pending_small_is l r.entries form.pending);
        fit = form.pending.fit;
      }

  pub meets_replay : MachineMeets g L (M.Variables.Ready (ready_of l sync r)) → ReadyForm l r → ReplayHeld L l r.entries
  meets_replay m form =
      record {
        there = form.replay.there;
        each = fit_each L.entry_bytes (replay_of l r.entries) _ (lengths_replay l r.entries form.replay) m.shape.replay.fit;
        fit = form.replay.fit;
      }
