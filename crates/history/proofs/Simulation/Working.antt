-- The relation through the steps of a machine at Ready, but for its commits: add, freeze, a received location, a journal write and its
-- answer.
use Rattle.std.specs.Prelude.{ℕ, ◌+◌, ◌≤◌, ◌<◌, Bool, ◌≡◌, refl, List, [], ◌∷◌, ◌++◌, ◌⊎◌, length}
use Rattle.std.proofs.Common.{sym, ◌∙◌, ap, subst, append-nil, append_assoc, inl, ⊎_elim, arith}
use Rattle.std.proofs.Math.Option.{Option, none, some, some-injective}
use Rattle.laws.specs.Choice.{ruin, split_le}
use Rattle.laws.specs.Fold.{Each, each_append}
use Rattle.layout.specs.declared.Geometry.{Geometry}
use Rattle.layout.specs.declared.Location.{Location}
use Rattle.layout.specs.Journal.{journal_pos_add}
use Rattle.layout.specs.Laws.{ValidIndirectionTableLocation}
use Rattle.interval.specs.declared.JournalInterval.{JournalInterval}
use Rattle.interval.specs.Interval.{interval}
use Rattle.interval.specs.Journal.{JournalBlock, JournalUpdate}
use Rattle.superblock.specs.declared.Superblock.{Superblock}
use Rattle.superblock.specs.Laws.{WFSuperblock}
use Rattle.laws.specs.Sets.{Ids, join, leave, Map, bind, keys, Two, none_some}
use Rattle.laws.specs.Maps.{Values, values_bind, values_unbind, keys_bind, keys_unbind, no_keys_some}
use Rattle.codec.specs.Codec.{JournalEntry, JournalRange, Codec}
use Rattle.source.specs.JournalDisk as D
use Rattle.source.specs.JournalDisk.{ReqId, ReqWriteSuperblockId, ReqWriteJournal, written, written1, written2}
use Rattle.source.specs.JournalCache as M
use Rattle.source.specs.JournalCache.{CommitNone, if_none, to_write, join_ids}
use Rattle.source.specs.Departures.{WriteBackJournalReq⁺}
use Rattle.history.specs.Ledger.{Range, blocks, Kept, Commit, log, location, Request, Ledger, on_draft, added, frozen, received_at, written_of}
use Rattle.history.specs.Ledger as Ledger
use Rattle.codec.specs.Ranges.{Good, codes, codes_one, codes_append, length_codes, blocks_one, blocks_append}
use Rattle.history.proofs.Journal.Holds.{Holds, Apart, behind_apart, wrapped_in, holds_append, holds_written, holds_elsewhere}
use Rattle.history.proofs.Journal.Slots.{slots_wf_is}
use Rattle.history.proofs.Simulation.Relation.{super_of, kept_interval, OnDisk, Standing, Flight, busy, Quiet, Phase, quiet, waits, done, Live, flight_of, Sim}
use Rattle.history.proofs.Simulation.Loading.{by_next, Keeps}

-- no commit is in flight, by the one field or the other
abbrev pub Idle : Flight → Type 0
Idle f = (f.superblock_write ≡ none) ⊎ (f.commit_status ≡ CommitNone)

pub busy_idle : {G : Type 0} (f : Flight) (c : Commit) (id : ReqId) (new : Superblock) → f ≡ busy c id new → Idle f → G
busy_idle f c id new e = ⊎_elim (λ q. none_some q (ap (λ (x : Flight). x.superblock_write) e)) (λ q. kind c (sym q ∙ ap (λ (x : Flight). x.commit_status) e))
  where
    kind : {G : Type 0} (c : Commit) → CommitNone ≡ (busy c id new).commit_status → G
    kind log q = ruin (cc)
    kind location q = ruin (cc)

module _ {g : Geometry} {C : Codec} {f : Flight} {superblock : Superblock} {which : Bool} {len position : ℕ} {sw : Two (Option ReqWriteSuperblockId)} {writes : Map JournalInterval}
    {j : List (Option JournalBlock)} {request : Option Request} {k : Kept} {before after : List Range} {w : Bool} where
  pub on_quiet : Phase g C f superblock which len position sw writes j request k before after w → Idle f
      → Quiet f sw request × Standing g C superblock which len position j k before after w
  on_quiet (quiet q s) i = (q, s)
  on_quiet (waits a s) i = busy_idle f a.commit a.id a.new a.flight_is i
  on_quiet (done a) i = busy_idle f a.commit a.id a.new a.flight_is i

  -- a journal write in flight goes with no commit
  pub on_writing : (id : ReqId) (v : JournalInterval) → Phase g C f superblock which len position sw writes j request k before after w → writes id ≡ some v
      → Quiet f sw request × Standing g C superblock which len position j k before after w
  on_writing id v (quiet q s) e = (q, s)
  on_writing id v (waits a s) e = no_keys_some writes id v a.none_writing e
  on_writing id v (done a) e = no_keys_some writes id v a.none_writing e

module _ {g : Geometry} {C : Codec} {superblock : Superblock} {which : Bool} {len position : ℕ} {j : List (Option JournalBlock)} {k : Kept} {before after : List Range} {w : Bool} where
  -- the mark moved to the end
  pub standing_marked : Standing g C superblock which len position j k before after w → Standing g C superblock which len len j k (before ++ after) [] w
  standing_marked s =
      record {
        superblock_is = s.superblock_is;
        which_is = s.which_is;
        len_is = s.len_is ∙ ap (blocks C) (sym (append-nil (before ++ after)));
        position_is = s.len_is;
        longer = s.longer;
        len_in = s.len_in;
        holds = subst (λ (rs : List Range). Holds g j k.start (codes C rs)) (sym (append-nil (before ++ after))) s.holds;
        good = subst (Each (Good C)) (sym (append-nil (before ++ after))) s.good;
      }

  -- one range written behind the draft
  pub standing_wrote : (j' : List (Option JournalBlock)) (x : Range) (jr : JournalRange) (position' : ℕ) (before' after' : List Range)
      → Standing g C superblock which len position j k before after w → length j ≡ g.blocks → k.start < g.blocks → jr ≡ C.encode x → Good C x
      → len + length jr ≤ g.blocks → JournalUpdate g j j' (interval (journal_pos_add g k.start len) (length jr)) jr
      → before' ++ after' ≡ before ++ after ++ (x ∷ []) → position' ≡ blocks C before'
      → Standing g C superblock which (len + length jr) position' j' k before' after' w
  standing_wrote j' x jr position' before' after' s hj hs hx gx fits u e hp =
      record {
        superblock_is = s.superblock_is;
        which_is = s.which_is;
        len_is = (λ i. s.len_is i + length (hx i)) ∙ ap (λ (n : ℕ). blocks C rs + n) (sym (blocks_one C x)) ∙ sym (blocks_append C rs (x ∷ [])) ∙ ap (blocks C) (sym e);
        position_is = hp;
        longer = omega (arith, s.longer);
        len_in = fits;
        holds = subst (Holds g j' k.start) (sym blocks_are) joined;
        good = subst (Each (Good C)) (sym e) (each_append (Good C) rs (x ∷ []) s.good (gx, tt));
      }
    where
      rs : List Range
      rs = before ++ after

      long : length (codes C rs) ≡ len
      long = length_codes C rs ∙ sym s.len_is

      blocks_are : codes C (before' ++ after') ≡ codes C rs ++ jr
      blocks_are = ap (codes C) e ∙ codes_append C rs (x ∷ []) ∙ ap (λ (b : JournalRange). codes C rs ++ b) (codes_one C x ∙ sym hx)

      joined : Holds g j' k.start (codes C rs ++ jr)
      joined =
          holds_append g j' u.after_valid k.start (codes C rs) jr hs (omega (arith, long, fits))
          (holds_elsewhere g j hj j' (interval (journal_pos_add g k.start len) (length jr)) jr u k.start (codes C rs) hs (omega (arith, long, fits))
          (behind_apart g k.start (length (codes C rs)) len (length jr) hs (omega (arith, long)) fits) s.holds)
          (subst (λ (n : ℕ). Holds g j' (journal_pos_add g k.start n) jr) (sym long) (holds_written g j hj j' (interval (journal_pos_add g k.start len) (length jr)) jr u))

module _ (g : Geometry) (C : Codec) (p : ℕ) where
  pub sim_add : (es : List JournalEntry) → Keeps g C p (λ m m' dop. M.Advance m m' dop es) (on_draft (added es))
  sim_add es (M.Variables.LoadingSuperblock s) m' d d' l dop z h hd = absurd h
  sim_add es (M.Variables.LoadingOther s) m' d d' l dop z h hd = absurd h
  sim_add es (M.Variables.Ready s) m' d d' l dop z h hd =
      by_next g C p h.next (subst (D.Next g d d') h.op hd).next
      (record {
        slot = z.slot;
        disk = z.disk;
        runs =
            record {
              frozen_is = z.runs.frozen_is;
              memory_is = ap (λ (m : List JournalEntry). m ++ es) z.runs.memory_is;
              received = z.runs.received;
              received_valid = z.runs.received_valid;
              ids = z.runs.ids;
              phase = z.runs.phase;
            };
      })

  pub sim_freeze : Keeps g C p M.Freeze (on_draft frozen)
  sim_freeze (M.Variables.LoadingSuperblock s) m' d d' l dop z h hd = absurd h
  sim_freeze (M.Variables.LoadingOther s) m' d d' l dop z h hd = absurd h
  sim_freeze (M.Variables.Ready s) m' d d' l dop z h hd =
      let q = on_quiet z.runs.phase (inl h.no_write) in
      by_next g C p h.next (subst (D.Next g d d') h.op hd).next
      (record {
        slot = z.slot;
        disk = z.disk;
        runs =
            record {
              frozen_is = λ i. z.runs.frozen_is i ++ z.runs.memory_is i;
              memory_is = refl;
              received = λ x e. none_some refl e;
              received_valid = λ x e. none_some refl e;
              ids = z.runs.ids;
              phase = quiet q.0 (standing_marked q.1);
            };
      })

  pub sim_receive : (loc : Location) → Keeps g C p (λ m m' dop. M.ReceiveFrozenLoc g m m' dop loc) (on_draft (received_at loc))
  sim_receive loc (M.Variables.LoadingSuperblock s) m' d d' l dop z h hd = absurd h
  sim_receive loc (M.Variables.LoadingOther s) m' d d' l dop z h hd = absurd h
  sim_receive loc (M.Variables.Ready s) m' d d' l dop z h hd =
      by_next g C p h.next (subst (D.Next g d d') h.op hd).next
      (record {
        slot = z.slot;
        disk = z.disk;
        runs =
            record {
              frozen_is = z.runs.frozen_is;
              memory_is = z.runs.memory_is;
              received = λ x e. e;
              received_valid = λ x e. subst (ValidIndirectionTableLocation g) (some-injective loc x e) h.loc_valid;
              ids = z.runs.ids;
              phase = z.runs.phase;
            };
      })

  pub sim_write_resp : Keeps g C p M.WriteBackJournalResp (λ l. l)
  sim_write_resp (M.Variables.LoadingSuperblock s) m' d d' l dop z h hd = absurd h
  sim_write_resp (M.Variables.LoadingOther s) m' d d' l dop z h hd = absurd h
  sim_write_resp (M.Variables.Ready s) m' d d' l dop z h hd =
      by_next g C p h.next a.next
      (record {
        slot = z.slot;
        disk =
            record {
              selected = z.disk.selected;
              parity_is = z.disk.parity_is;
              size = z.disk.size;
              holds = z.disk.holds;
              good = z.disk.good;
              clear = values_unbind (λ (v : JournalInterval). Apart g v (kept_interval C l.kept)) d.req_write_journals h.id z.disk.clear;
            };
        runs =
            record {
              frozen_is = z.runs.frozen_is;
              memory_is = z.runs.memory_is;
              received = z.runs.received;
              received_valid = z.runs.received_valid;
              ids = keys_unbind d.req_write_journals h.id ∙ ap (λ (s : Ids). leave s h.id) z.runs.ids;
              phase = quiet q.0 q.1;
            };
      })
    where
      a : D.AckWriteJournal d d' h.id
      a = subst (D.Next g d d') h.op hd

      q : Quiet (flight_of s) d.req_write_superblocks l.request
          × Standing g C s.superblock s.whichSuperblock s.writtenJournalLen s.frozenJournalPosition d.journal l.kept l.draft.before l.draft.after z.slot
      q = on_writing h.id a.ind z.runs.phase a.waiting

  -- a journal write of one range: the writes in flight are then `writes`, whether it passed the ring's end or not
  module _ (s : M.ReadyVariables) (d d' : D.Variables) (l : Ledger) (jr : JournalRange) (id1 : ReqId) (id2 : Option ReqId) (writes : Map JournalInterval)
      (z : Sim g C p (M.Variables.Ready s) d l) (no_write : s.superblock_write ≡ none) (fits : length jr + s.writtenJournalLen ≤ g.blocks)
      (sent : jr ≡ C.encode (to_write s)) (sound : Good C (to_write s))
      (u : JournalUpdate g d.journal d'.journal (interval (journal_pos_add g l.kept.start s.writtenJournalLen) (length jr)) jr)
      (clear : Values (λ (v : JournalInterval). Apart g v (kept_interval C l.kept)) writes)
      (ids : keys writes ≡ join_ids s.outstanding_journal_writes id1 id2) where
    q : Quiet (flight_of s) d.req_write_superblocks l.request
        × Standing g C s.superblock s.whichSuperblock s.writtenJournalLen s.frozenJournalPosition d.journal l.kept l.draft.before l.draft.after z.slot
    q = on_quiet z.runs.phase (inl no_write)

    wf : WFSuperblock g (super_of C l.kept)
    wf = slots_wf_is g d.superblocks z.slot (super_of C l.kept) z.disk.selected

    -- by the frozen entries: the machine's and the ledger's
    abbrev Wrote : List JournalEntry → List JournalEntry → Type 0
    Wrote x y =
        Live g C (flight_of s) s.superblock s.whichSuperblock (s.writtenJournalLen + length jr) (if_none x s.frozenJournalPosition (s.writtenJournalLen + length jr))
        [] (if_none x [] s.in_memory_journal) s.frozenLoc (join_ids s.outstanding_journal_writes id1 id2) d.req_write_superblocks writes d'.journal
        (record { kept = l.kept; draft = written_of y l.draft; request = l.request }) z.slot

    wrote : (x : List JournalEntry) → s.in_memory_journal_frozen ≡ x → l.draft.frozen ≡ x → Wrote x x
    wrote [] e f =
        record {
          frozen_is = refl;
          memory_is = refl;
          received = z.runs.received;
          received_valid = z.runs.received_valid;
          ids = ids;
          phase =
              quiet q.0
              (standing_wrote d'.journal l.draft.memory jr s.frozenJournalPosition l.draft.before (l.draft.after ++ (l.draft.memory ∷ [])) q.1 z.disk.size wf.start_in
              (sent ∙ ap C.encode is) (ap C.good (sym is) ∙ sound) (omega (arith, fits)) u (sym (append_assoc l.draft.before l.draft.after (l.draft.memory ∷ []))) q.1.position_is);
        }
      where
        is : to_write s ≡ l.draft.memory
        is = ap (λ (x : List JournalEntry). if_none x s.in_memory_journal x) e ∙ z.runs.memory_is
    wrote (y ∷ ys) e f =
        record {
          frozen_is = refl;
          memory_is = z.runs.memory_is;
          received = z.runs.received;
          received_valid = z.runs.received_valid;
          ids = ids;
          phase = quiet q.0 (standing_wrote d'.journal (y ∷ ys) jr (s.writtenJournalLen + length jr) before' [] q.1 z.disk.size wf.start_in
              (sent ∙ ap C.encode is) (ap C.good (sym is) ∙ sound) (omega (arith, fits)) u (append-nil before') all);
        }
      where
        before' : List Range
        before' = l.draft.before ++ l.draft.after ++ ((y ∷ ys) ∷ [])

        is : to_write s ≡ y ∷ ys
        is = ap (λ (x : List JournalEntry). if_none x s.in_memory_journal x) e

        all : s.writtenJournalLen + length jr ≡ blocks C before'
        all =
            (λ i. q.1.len_is i + (ap length (sent ∙ ap C.encode is) ∙ sym (blocks_one C (y ∷ ys))) i)
            ∙ sym (blocks_append C (l.draft.before ++ l.draft.after) ((y ∷ ys) ∷ []))

    pub disk_wrote : OnDisk g C p d.superblocks writes d'.journal l.kept z.slot
    disk_wrote =
        record {
          selected = z.disk.selected;
          parity_is = z.disk.parity_is;
          size = u.after_valid;
          holds =
              holds_elsewhere g d.journal z.disk.size d'.journal (interval (journal_pos_add g l.kept.start s.writtenJournalLen) (length jr)) jr u l.kept.start
              (codes C l.kept.ranges) wf.start_in (omega (arith, wf.len_in, length_codes C l.kept.ranges))
              (behind_apart g l.kept.start (length (codes C l.kept.ranges)) s.writtenJournalLen (length jr) wf.start_in
              (omega (arith, q.1.longer, length_codes C l.kept.ranges)) (omega (arith, fits)))
              z.disk.holds;
          good = z.disk.good;
          clear = clear;
        }

    pub live_wrote : Wrote s.in_memory_journal_frozen l.draft.frozen
    live_wrote = subst (Wrote s.in_memory_journal_frozen) z.runs.frozen_is (wrote s.in_memory_journal_frozen refl (sym z.runs.frozen_is))

  pub sim_write : (jr : JournalRange) → Keeps g C p (λ m m' dop. WriteBackJournalReq⁺ g C m m' dop jr) (on_draft Ledger.written)
  sim_write jr (M.Variables.LoadingSuperblock s) m' d d' l dop z h hd = absurd h.source
  sim_write jr (M.Variables.LoadingOther s) m' d d' l dop z h hd = absurd h.source
  sim_write jr (M.Variables.Ready s) m' d d' l dop z h hd =
      split_le (req.start + length jr) g.blocks
      (λ k.
      let t = a.straight k in
      to (bind d.req_write_journals c.id1 (written req)) t.next
      (values_bind Away d.req_write_journals c.id1 (written req) z.disk.clear away)
      (keys_bind d.req_write_journals c.id1 (written req) ∙ (λ i. join_ids (z.runs.ids i) c.id1 (sym t.one_id_is i))))
      (λ k.
      let t = a.wrapped k in
      let parts = wrapped_in g req (kept_interval C l.kept) a.update.interval_valid k away in
      to (bind (bind d.req_write_journals c.id1 (written1 g req)) t.id (written2 g req)) t.next
      (values_bind Away (bind d.req_write_journals c.id1 (written1 g req)) t.id (written2 g req)
      (values_bind Away d.req_write_journals c.id1 (written1 g req) z.disk.clear parts.0) parts.1)
      (keys_bind (bind d.req_write_journals c.id1 (written1 g req)) t.id (written2 g req)
      ∙ ap (λ (s : Ids). join s t.id) (keys_bind d.req_write_journals c.id1 (written1 g req))
      ∙ (λ i. join_ids (z.runs.ids i) c.id1 (sym t.two_ids i))))
    where
      c : M.WriteBackJournalReqClauses g C s m' dop jr
      c = h.source

      -- no commit is in flight, so the machine stands on what is kept
      st : Standing g C s.superblock s.whichSuperblock s.writtenJournalLen s.frozenJournalPosition d.journal l.kept l.draft.before l.draft.after z.slot
      st = (on_quiet z.runs.phase (inl c.no_write)).1

      start : ℕ
      start = journal_pos_add g l.kept.start s.writtenJournalLen

      req : ReqWriteJournal
      req = record { start = start; journal = jr }

      req_is : c.req ≡ req
      req_is = λ i. record { start = (c.start_is ∙ ap (λ (v : Superblock). journal_pos_add g v.journalStart s.writtenJournalLen) st.superblock_is) i; journal = c.journal_is i }

      a : D.RecvWriteJournal g d d' c.id1 c.id2 req
      a = subst (D.RecvWriteJournal g d d' c.id1 c.id2) req_is (subst (D.Next g d d') c.op hd)

      Away : JournalInterval → Type 0
      Away v = Apart g v (kept_interval C l.kept)

      kept_wf : WFSuperblock g (super_of C l.kept)
      kept_wf = slots_wf_is g d.superblocks z.slot (super_of C l.kept) z.disk.selected

      away : Apart g (written req) (kept_interval C l.kept)
      away = behind_apart g l.kept.start (blocks C l.kept.ranges) s.writtenJournalLen (length jr) kept_wf.start_in st.longer (omega (arith, c.fits))

      to : (writes : Map JournalInterval) → d' ≡ D.to_journal d'.journal (D.to_req_write_journals writes d) → Values (λ (v : JournalInterval). Apart g v (kept_interval C l.kept)) writes
          → keys writes ≡ join_ids s.outstanding_journal_writes c.id1 c.id2 → Sim g C p m' d' (on_draft Ledger.written l)
      to writes e clear ids =
          by_next g C p c.next e
          (record {
            slot = z.slot;
            disk = disk_wrote s d d' l jr c.id1 c.id2 writes z c.no_write c.fits h.one_range.range_is h.one_range.good a.update clear ids;
            runs = live_wrote s d d' l jr c.id1 c.id2 writes z c.no_write c.fits h.one_range.range_is h.one_range.good a.update clear ids;
          })
