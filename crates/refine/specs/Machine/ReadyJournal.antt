-- WriteBackJournalReq and WriteBackJournalResp against 000, over document 01's range format.
use Rattle.std.specs.Prelude.{ℕ, ◌+◌, ◌-◌, ◌≤◌, Bool, ◌≡◌, take, None, Some}
use Rattle.std.specs.declared.option.Option as code
use Rattle.std.proofs.Math.Bool.{true, false, cond}
use Rattle.std.proofs.Math.Path.{refl, sym, ap}
use Rattle.std.proofs.Common.{◌∙◌, subst, eq-eqb, ne_eqb, eqb-true}
use mathlib.Core.List.{List, [], ◌∷◌}
use Rattle.std.proofs.Math.Option.{Option, none, some}
use native.Mathlib.Omega.{arith}
use Rattle.std.proofs.Math.Dec.{eqb}
use Rattle.std.proofs.Math.ListN.{length, drop}
use Rattle.laws.specs.Choice.{and_then_left, and_then_right, and_then_both}
use Rattle.laws.specs.Sets.{Ids, Map, join, leave, AtMost, few_before, leave_same}
use Rattle.laws.specs.Splice.{splice}
use Rattle.laws.specs.Optional.{optional, option_of, option_of_optional}
use Rattle.layout.specs.declared.Geometry.{Geometry}
use Rattle.layout.specs.Journal.{journal_pos_add}
use Rattle.tables.specs.declared.IdTable.{IdTable}
use Rattle.tables.specs.Rows.{Counted, ask_join}
use Rattle.tables.specs.IdTable.{id_set, SizedIds, joined_id}
use Rattle.tables.proofs.Laws.Counts.{few_count, few_join}
use Rattle.tables.proofs.Laws.IdTables.{ids_joined, ids_joined_ok, ids_left, sized_joined_ids}
use Rattle.range.specs.Form as Form
use Rattle.range.specs.Form.{most_entry_length, length_width, used, blocks_for}
use Rattle.range.specs.Memory.{view, total, total_split, view_none, length_view, view_moved, blocks_at_view}
use Rattle.range.specs.declared.Count.{Count}
use Rattle.ready.specs.declared.Entries.{Entries}
use Rattle.ready.specs.declared.Bodies.{Bodies}
use Rattle.ready.specs.declared.Ready.{Ready}
use Rattle.ready.specs.State.{none_frozen, count, sent, left}
use Rattle.ready.specs.Inv.{most_writes}
use Rattle.ready.specs.JournalSteps.{sent_blocks, ask_second, ask_ids, joined_ids, written_entries, written_frozen, ask_write_back_journal_req, write_back_journal_req_next, write_back_journal_resp_next}
use Rattle.ready.specs.Laws.Asked.{MayWrite, write_asked, asks_write}
use Rattle.codec.specs.Codec.{JournalEntry, JournalRange}
use Rattle.codec.specs.Format.{format, length_encode_blocks, good_facts}
use Rattle.source.specs.JournalDisk.{ReqId, DiskOp, ReqWriteJournalOp, RespWriteJournalOp}
use Rattle.source.specs.JournalCache as M
use Rattle.source.specs.JournalCache.{SyncReqStatus, ReadyVariables, if_none, to_write, join_ids, sync_reqs3to2, to_outstanding_journal_writes, to_written_journal_len, to_frozen_journal_position, to_in_memory_journal, to_in_memory_journal_frozen, to_sync_reqs, WriteBackJournalReqClauses, WriteBackJournalRespClauses}
use Rattle.source.specs.Limits.{Limits, Fitting}
use Rattle.source.specs.Meets.{MachineMeets}
use Rattle.source.specs.Departures.{OneRange}
use Rattle.source.proofs.Laws.Format.{write_good}
use Rattle.refine.specs.Disk.View.{Table}
use Rattle.refine.specs.Disk.Meets.{counted_own}
use Rattle.refine.specs.Machine.ReadyView.{ReadyLent, frozen_of, memory_of, ready_of}
use Rattle.refine.specs.Machine.ReadyCases.{none_flight, flight_none}
use Rattle.refine.specs.Machine.ReadyForm.{PendingForm, ReadyForm, length_frozen}

-- the ids join the set
ids_join : (t : IdTable) (id1 : ℕ) (id2 : code.Option ℕ) → ask_ids t id1 id2 ≡ 0 → id_set (joined_ids t id1 id2) ≡ join_ids (id_set t) id1 (option_of id2)
unfolding ask_ids
ids_join t id1 None q = ids_joined t most_writes id1 (and_then_left _ _ q)
ids_join t id1 (Some id2) q =
    ids_joined (joined_id t id1) most_writes id2 (and_then_right (ask_join most_writes t.count t.ids id1) (ask_second t id1 (Some id2)) q)
    ∙ ap (λ (s : Ids). join s id2) (ids_joined t most_writes id1 (and_then_left _ _ q))

-- and find room where the set then has at most so many
ids_room : (t : IdTable) (id1 : ℕ) (id2 : code.Option ℕ) → SizedIds t → Counted most_writes t.count t.ids → AtMost most_writes (join_ids (id_set t) id1 (option_of id2)) → ask_ids t id1 id2 ≡ 0
unfolding ask_ids
ids_room t id1 None z c m = and_then_both _ _ (few_join most_writes t.count t.ids c most_writes id1 (omega (arith, z.ids_long)) m) refl
ids_room t id1 (Some id2) z c m =
    let q = few_join most_writes t.count t.ids c most_writes id1 (omega (arith, z.ids_long)) (few_before most_writes (join (id_set t) id1) id2 m) in
    and_then_both (ask_join most_writes t.count t.ids id1) (ask_second t id1 (Some id2)) q
    (few_join most_writes (joined_id t id1).count (joined_id t id1).ids (ids_joined_ok t most_writes c id1 q) most_writes id2
    (omega (arith, (sized_joined_ids t z id1).ids_long))
    (subst (λ (s : Ids). AtMost most_writes (join s id2)) (sym (ids_joined t most_writes id1 q)) m))

joined_before : (s : Ids) (id1 : ReqId) (id2 : Option ReqId) → AtMost most_writes (join_ids s id1 id2) → AtMost most_writes s
joined_before s id1 none m = few_before most_writes s id1 m
joined_before s id1 (some id2) m = few_before most_writes s id1 (few_before most_writes (join s id1) id2 m)

-- a choice by whether entries are frozen, in the view and in the record
by_none : {A : Type 0} (es : List JournalEntry) (n : ℕ) (x y : A) → length es ≡ n → if_none es x y ≡ cond (eqb n 0) x y
by_none [] n x y e = ap (λ (b : Bool). cond b x y) (sym (eq-eqb n 0 (sym e)))
by_none (e ∷ es) n x y h = let k : n ≡ 0 → ⊥ = λ z. omega arith in ap (λ (b : Bool). cond b x y) (sym (ne_eqb n 0 k))

-- pending memory after what was sent is gone and what is left has moved to the front
abbrev pub moved_lent : ReadyLent → Count → Count → ReadyLent
moved_lent l gone rest =
    record {
      bytes = splice l.bytes 0 (take rest.bytes (drop gone.bytes l.bytes));
      lens = splice l.lens 0 (take rest.entries (drop gone.entries l.lens));
      rbytes = l.rbytes;
      rlens = l.rlens;
    }

-- the bytes that were looked up are those of the frozen entries and of all pending ones
pub record BodiesFound (l : ReadyLent) (e : Entries) (b : Bodies) : Type 0 where
  pub frozen_is : b.frozen ≡ total l.lens e.frozen
  pub pending_is : b.pending ≡ total l.lens e.pending

-- what is sent and what is left, by whether entries are frozen
abbrev sent_by : Bool → Entries → Bodies → Count
sent_by c e b = cond c (count e.pending b.pending) (count e.frozen b.frozen)

abbrev left_by : Bool → Entries → Bodies → Count
left_by c e b = count (e.pending - (sent_by c e b).entries) (b.pending - (sent_by c e b).bytes)

module _ (l : ReadyLent) (e : Entries) (b : Bodies) (p : PendingForm l e) (found : BodiesFound l e b) where
  -- it lies at the front of pending memory, and its bytes were found
  pub sent_within : (sent e b).entries ≤ e.pending
  unfolding sent
  sent_within = go (eqb e.frozen 0)
    where
      go : (c : Bool) → (sent_by c e b).entries ≤ e.pending
      go true = omega arith
      go false = p.frozen_within

  pub sent_bytes : (sent e b).bytes ≡ total l.lens (sent e b).entries
  unfolding sent
  sent_bytes = go (eqb e.frozen 0)
    where
      go : (c : Bool) → (sent_by c e b).bytes ≡ total l.lens (sent_by c e b).entries
      go true = found.pending_is
      go false = found.frozen_is

  -- 000's `j`
  pub sent_is : if_none (frozen_of l e) (memory_of l e) (frozen_of l e) ≡ view l.bytes l.lens (sent e b).entries
  unfolding sent
  sent_is = by_none (frozen_of l e) e.frozen (memory_of l e) (frozen_of l e) (length_frozen l e p) ∙ go (eqb e.frozen 0) refl
    where
      go : (c : Bool) → eqb e.frozen 0 ≡ c → cond c (memory_of l e) (frozen_of l e) ≡ view l.bytes l.lens (sent_by c e b).entries
      go true h = ap (λ (k : ℕ). drop k (view l.bytes l.lens e.pending)) (eqb-true e.frozen 0 h)
      go false h = refl

  -- its range has as many blocks as the record says
  sent_total : total l.lens (sent e b).entries ≤ length l.bytes
  sent_total =
      let whole : (sent e b).entries + (e.pending - (sent e b).entries) ≡ e.pending = omega (arith, sent_within) in
      omega (arith, p.fit, total_split l.lens e.pending (sent e b).entries (e.pending - (sent e b).entries) whole)

  sent_blocks_is : length (format.encode (if_none (frozen_of l e) (memory_of l e) (frozen_of l e))) ≡ blocks_for (used length_width (sent e b).entries (sent e b).bytes)
  sent_blocks_is =
      length_encode_blocks (if_none (frozen_of l e) (memory_of l e) (frozen_of l e))
      ∙ ap Form.blocks sent_is
      ∙ blocks_at_view length_width most_entry_length l.bytes l.lens (sent e b).entries (omega (arith, sent_within, p.there)) sent_total
      ∙ ap (λ (t : ℕ). blocks_for (used length_width (sent e b).entries t)) (sym sent_bytes)

  -- what is left in memory
  memory_left : view (moved_lent l (sent e b) (left e b)).bytes (moved_lent l (sent e b) (left e b)).lens (written_entries e).pending ≡ if_none (frozen_of l e) [] (memory_of l e)
  unfolding sent left written_entries
  memory_left = go (eqb e.frozen 0) ∙ sym (by_none (frozen_of l e) e.frozen [] (memory_of l e) (length_frozen l e p))
    where
      go : (c : Bool) → view (moved_lent l (sent_by c e b) (left_by c e b)).bytes (moved_lent l (sent_by c e b) (left_by c e b)).lens (cond c 0 (e.pending - e.frozen))
          ≡ cond c [] (memory_of l e)
      go true = view_none _ _
      go false =
          let whole : e.frozen + (e.pending - e.frozen) ≡ e.pending = omega (arith, p.frozen_within) in
          let split = total_split l.lens e.pending e.frozen (e.pending - e.frozen) whole in
          view_moved l.bytes l.lens e.pending e.frozen (e.pending - e.frozen) b.frozen (b.pending - b.frozen) p.there p.fit whole found.frozen_is
          (omega (arith, found.frozen_is, found.pending_is, split))

-- the range that is sent, and the operation
abbrev pub sent_range : ReadyVariables → JournalRange
sent_range s = format.encode (to_write s)

abbrev pub write_op : ReadyVariables → ReqId → code.Option ℕ → ℕ → DiskOp
write_op s id1 id2 start = ReqWriteJournalOp id1 (option_of id2) (record { journal = sent_range s; start = start })

-- sync requests move where entries in memory are sent
abbrev pub written_sync : Entries → Map SyncReqStatus → Map SyncReqStatus
written_sync e sync = cond (none_frozen e) (sync_reqs3to2 sync) sync

module _ (l : ReadyLent) (sync : Map SyncReqStatus) (r : Ready) (b : Bodies) (form : ReadyForm l r) (found : BodiesFound l r.entries b) where
  abbrev s : ReadyVariables
  s = ready_of l sync r

  blocks_sent : length (sent_range s) ≡ sent_blocks r b
  blocks_sent = sent_blocks_is l r.entries b form.pending found

  -- the view of the next record and of moved memory is 000's next state
  write_next : (id1 : ReqId) (id2 : code.Option ℕ) (written : ℕ) → ask_ids r.writes id1 id2 ≡ 0 → written ≡ r.writtenJournalLen + sent_blocks r b
      → M.Variables.Ready (ready_of (moved_lent l (sent r.entries b) (left r.entries b)) (written_sync r.entries sync) (write_back_journal_req_next r id1 id2 written))
      ≡ M.Variables.Ready
      (to_outstanding_journal_writes (join_ids (id_set r.writes) id1 (option_of id2))
      (to_written_journal_len (r.writtenJournalLen + length (sent_range s))
      (to_frozen_journal_position (if_none (frozen_of l r.entries) r.frozen.frozenJournalPosition (r.writtenJournalLen + length (sent_range s)))
      (to_in_memory_journal (if_none (frozen_of l r.entries) [] (memory_of l r.entries))
      (to_in_memory_journal_frozen []
      (to_sync_reqs (if_none (frozen_of l r.entries) (sync_reqs3to2 sync) sync) s))))))
  unfolding write_back_journal_req_next written_frozen written_entries
  write_next id1 id2 written q w =
      λ i.
      M.Variables.Ready
      (to_outstanding_journal_writes (ids_join r.writes id1 id2 q i)
      (to_written_journal_len (len i)
      (to_frozen_journal_position (position i)
      (to_in_memory_journal (memory_left l r.entries b form.pending found i)
      (to_in_memory_journal_frozen (view_none (moved_lent l (sent r.entries b) (left r.entries b)).bytes (moved_lent l (sent r.entries b) (left r.entries b)).lens i)
      (to_sync_reqs (requests i) s))))))
    where
      len : written ≡ r.writtenJournalLen + length (sent_range s)
      len = w ∙ ap (λ (n : ℕ). r.writtenJournalLen + n) (sym blocks_sent)

      none_is : {A : Type 0} (x y : A) → cond (none_frozen r.entries) x y ≡ if_none (frozen_of l r.entries) x y
      none_is x y = sym (by_none (frozen_of l r.entries) r.entries.frozen x y (length_frozen l r.entries form.pending))

      position : cond (none_frozen r.entries) r.frozen.frozenJournalPosition written
          ≡ if_none (frozen_of l r.entries) r.frozen.frozenJournalPosition (r.writtenJournalLen + length (sent_range s))
      position = ap (λ (n : ℕ). cond (none_frozen r.entries) r.frozen.frozenJournalPosition n) len ∙ none_is r.frozen.frozenJournalPosition (r.writtenJournalLen + length (sent_range s))

      requests : cond (none_frozen r.entries) (sync_reqs3to2 sync) sync ≡ if_none (frozen_of l r.entries) (sync_reqs3to2 sync) sync
      requests = none_is (sync_reqs3to2 sync) sync

  -- what is sent is as long as the record counts
  length_sent : length (to_write s) ≡ (sent r.entries b).entries
  length_sent =
      ap length (sent_is l r.entries b form.pending found)
      ∙ length_view l.bytes l.lens (sent r.entries b).entries (omega (arith, sent_within l r.entries b form.pending found, form.pending.there))

  -- where the range goes, and what is written then
  abbrev start : Geometry → ℕ
  start g = journal_pos_add g r.superblock.journalStart r.writtenJournalLen

  abbrev written : ℕ
  written = r.writtenJournalLen + sent_blocks r b

  pub write_sound : (g : Geometry) (L : Limits) → Fitting format L → MachineMeets g L (M.Variables.Ready s) → (id1 : ReqId) (id2 : code.Option ℕ) → ask_write_back_journal_req g r id1 id2 b ≡ 0
      → WriteBackJournalReqClauses g format s
      (M.Variables.Ready (ready_of (moved_lent l (sent r.entries b) (left r.entries b)) (written_sync r.entries sync) (write_back_journal_req_next r id1 id2 written)))
      (write_op s id1 id2 (start g)) (sent_range s)
      × OneRange format (to_write s) (sent_range s)
      × (sent_blocks r b ≡ length (sent_range s))
  write_sound g L fits meets id1 id2 q = (
    record {
      parses = format.parse_encode (to_write s) good;
      fits = omega (arith, blocks_sent, m.fits);
      some_block = format.encode_some (to_write s);
      no_write = none_flight r.commit m.no_commit_is;
      start_in = m.start_in;
      written_in = m.written_in;
      id1 = id1;
      id2 = option_of id2;
      req = record { journal = sent_range s; start = start g };
      op = refl;
      journal_is = refl;
      start_is = refl;
      next = write_next id1 id2 written m.ids_fit refl;
    },
    record { good = good; range_is = refl },
    sym blocks_sent,
  )
    where
      m : MayWrite g r id1 id2 b
      m = write_asked g r id1 id2 b q

      good : format.good (to_write s) ≡ true
      good = write_good g format L fits s meets (omega (arith, length_sent, m.some_pending))

  pub write_complete : (g : Geometry) → SizedIds r.writes → (s' : M.Variables) (dop : DiskOp) (jr : JournalRange) (h : WriteBackJournalReqClauses g format s s' dop jr)
      → OneRange format (to_write s) jr → AtMost most_writes (join_ids (id_set r.writes) h.id1 h.id2)
      → (ask_write_back_journal_req g r h.id1 (optional h.id2) b ≡ 0)
      × (M.Variables.Ready
      (ready_of (moved_lent l (sent r.entries b) (left r.entries b)) (written_sync r.entries sync) (write_back_journal_req_next r h.id1 (optional h.id2) written))
      ≡ s')
      × (dop ≡ write_op s h.id1 (optional h.id2) (start g))
  write_complete g z s' dop jr h one few = (
    asks_write g r h.id1 id2 b
        (record {
          no_commit_is = flight_none r.commit h.no_write;
          some_pending = omega (arith, length_sent, (good_facts (to_write s) one.good).any);
          start_in = h.start_in;
          written_in = h.written_in;
          fits = omega (arith, h.fits, blocks_sent, ap length one.range_is);
          ids_fit = room;
        }),
    write_next h.id1 id2 written room refl ∙ same ∙ sym h.next,
    h.op ∙ (λ i. ReqWriteJournalOp h.id1 (sym (option_of_optional h.id2) i) (record { journal = (h.journal_is ∙ one.range_is) i; start = h.start_is i })),
  )
    where
      id2 : code.Option ℕ
      id2 = optional h.id2

      few2 : AtMost most_writes (join_ids (id_set r.writes) h.id1 (option_of id2))
      few2 = subst (λ (o : Option ReqId). AtMost most_writes (join_ids (id_set r.writes) h.id1 o)) (sym (option_of_optional h.id2)) few

      counted : Counted most_writes r.writes.count r.writes.ids
      counted =
          record {
            few =
                few_count r.writes.count r.writes.count r.writes.ids (counted_own r.writes.count r.writes.ids form.writes) most_writes
                (joined_before (id_set r.writes) h.id1 h.id2 few);
            in_array = form.writes.in_array;
            differ = form.writes.differ;
          }

      room : ask_ids r.writes h.id1 id2 ≡ 0
      room = ids_room r.writes h.id1 id2 z counted few2

      -- the next state's ids and blocks are the predicate's
      same : M.Variables.Ready
          (to_outstanding_journal_writes (join_ids (id_set r.writes) h.id1 (option_of id2))
          (to_written_journal_len (r.writtenJournalLen + length (sent_range s))
          (to_frozen_journal_position (if_none (frozen_of l r.entries) r.frozen.frozenJournalPosition (r.writtenJournalLen + length (sent_range s)))
          (to_in_memory_journal (if_none (frozen_of l r.entries) [] (memory_of l r.entries))
          (to_in_memory_journal_frozen []
          (to_sync_reqs (if_none (frozen_of l r.entries) (sync_reqs3to2 sync) sync) s))))))
          ≡ M.Variables.Ready
          (to_outstanding_journal_writes (join_ids (id_set r.writes) h.id1 h.id2)
          (to_written_journal_len (r.writtenJournalLen + length jr)
          (to_frozen_journal_position (if_none (frozen_of l r.entries) r.frozen.frozenJournalPosition (r.writtenJournalLen + length jr))
          (to_in_memory_journal (if_none (frozen_of l r.entries) [] (memory_of l r.entries))
          (to_in_memory_journal_frozen []
          (to_sync_reqs (if_none (frozen_of l r.entries) (sync_reqs3to2 sync) sync) s))))))
      same =
          λ i.
          M.Variables.Ready
          (to_outstanding_journal_writes (join_ids (id_set r.writes) h.id1 (option_of_optional h.id2 i))
          (to_written_journal_len (r.writtenJournalLen + length (sym one.range_is i))
          (to_frozen_journal_position (if_none (frozen_of l r.entries) r.frozen.frozenJournalPosition (r.writtenJournalLen + length (sym one.range_is i)))
          (to_in_memory_journal (if_none (frozen_of l r.entries) [] (memory_of l r.entries))
          (to_in_memory_journal_frozen []
          (to_sync_reqs (if_none (frozen_of l r.entries) (sync_reqs3to2 sync) sync) s))))))

-- the answer of a journal write: awaited, and awaited by nobody
module _ (l : ReadyLent) (sync : Map SyncReqStatus) (r : Ready) (t : Table r.writes.count r.writes.ids) (id : ReqId) where
  resp_next : M.Variables.Ready (ready_of l sync (write_back_journal_resp_next r id)) ≡ M.Variables.Ready (to_outstanding_journal_writes (leave (id_set r.writes) id) (ready_of l sync r))
  unfolding write_back_journal_resp_next
  resp_next = λ i. M.Variables.Ready (to_outstanding_journal_writes (ids_left r.writes r.writes.count (counted_own r.writes.count r.writes.ids t) id i) (ready_of l sync r))

  pub journal_resp_sound : id_set r.writes id ≡ true
      → WriteBackJournalRespClauses (ready_of l sync r) (M.Variables.Ready (ready_of l sync (write_back_journal_resp_next r id))) (RespWriteJournalOp id)
  journal_resp_sound e = record { id = id; op = refl; waiting = e; next = resp_next }

  pub journal_unawaited : id_set r.writes id ≡ false → M.Variables.Ready (ready_of l sync (write_back_journal_resp_next r id)) ≡ M.Variables.Ready (ready_of l sync r)
  journal_unawaited e = resp_next ∙ (λ i. M.Variables.Ready (to_outstanding_journal_writes (leave_same (id_set r.writes) id e i) (ready_of l sync r)))

pub journal_resp_complete : (l : ReadyLent) (sync : Map SyncReqStatus) (r : Ready) → Table r.writes.count r.writes.ids → (s' : M.Variables) (dop : DiskOp)
    (h : WriteBackJournalRespClauses (ready_of l sync r) s' dop)
    → (id_set r.writes h.id ≡ true) × (M.Variables.Ready (ready_of l sync (write_back_journal_resp_next r h.id)) ≡ s') × (dop ≡ RespWriteJournalOp h.id)
journal_resp_complete l sync r t s' dop h = (h.waiting, resp_next l sync r t h.id ∙ sym h.next, h.op)
