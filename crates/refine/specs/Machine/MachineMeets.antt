-- Questions 1 and 2 of a whole machine, in every kind: the test says yes exactly where lent memory is right, the record has its form, and the view
-- meets question 2 in the document's words (`MachineMeets`).
use Rattle.std.specs.Prelude.{ℕ, ◌≤◌, Bool, true, ◌≡◌, length}
use Rattle.std.proofs.Common.{sym, ◌∙◌, arith}
use Rattle.std.proofs.Math.Path.{ap}
use Rattle.laws.specs.Choice.{and_then_left, and_then_right, and_then_both, ask_yes, ask_holds, also_left, also_right, also_both}
use Rattle.laws.specs.Fold.{sum, every}
use Rattle.laws.specs.Sets.{Map, AtMost, keys}
use Rattle.layout.specs.declared.Geometry.{Geometry}
use Rattle.layout.specs.Geometry.{num_journal_blocks}
use Rattle.tables.specs.declared.SyncTable.{SyncTable}
use Rattle.tables.specs.Rows.{Counted}
use Rattle.tables.specs.SyncTable.{SizedSyncs, sync_map}
use Rattle.tables.proofs.Laws.Counts.{counted_facts, facts_counted}
use Rattle.tables.proofs.Laws.SyncTables.{syncs_few, few_syncs}
use Rattle.range.specs.Form.{ok_length}
use Rattle.journal.specs.Asked.{blocks_asked, asked_blocks}
use Rattle.lengths.specs.Entries.{part_is}
use Rattle.memory.specs.Given.{memory}
use Rattle.memory.specs.Limits.{store_limits, PendingLent, lent_asked, asked_lent}
use Rattle.memory.specs.PendingLaws.{pending_asked, asked_pending, frozen_asked, asked_frozen}
use Rattle.memory.specs.ReplayLaws.{ReplayLent, replay_lent_asked, asked_replay_lent, replay_asked, asked_replay}
use Rattle.loading.specs.Superblocks.{loading_superblock_ok}
use Rattle.loading.specs.Other.{loading_other_ok}
use Rattle.ready.specs.declared.Entries.{Entries}
use Rattle.ready.specs.Inv.{ready_ok}
use Rattle.source.specs.JournalCache.{SyncReqStatus, Variables}
use Rattle.source.specs.Limits.{limits}
use Rattle.source.specs.Meets.{MachineMeets}
use Rattle.machine.specs.declared.Kind.{Kind}
use Rattle.machine.specs.declared.Kind.TheVariants as kind
use Rattle.machine.specs.declared.Machine.{Machine}
use Rattle.machine.specs.Machine.{most_sync_reqs, by_kind}
use Rattle.machine.specs.Lent.{Lent, ask_lent}
use Rattle.machine.specs.Questions.{sync_ok, kind_ok, machine_ok, ask_entries, ask_held, ask_machine}
use Rattle.refine.specs.Machine.LoadingView.{superblocks_seen, other_seen}
use Rattle.refine.specs.Machine.LoadingSuperblock.{superblock_meets, meets_superblock}
use Rattle.refine.specs.Machine.LoadingOther.{other_meets, meets_other, other_read_or_in, other_piece_size}
use Rattle.refine.specs.Machine.ReadyView.{ready_of}
use Rattle.refine.specs.Machine.ReadyForm.{ReadyForm}
use Rattle.refine.specs.Machine.ReadyMeets.{PendingHeld, ReplayHeld, ready_form, ready_meets, meets_ready, meets_pending, meets_replay}
use Rattle.refine.specs.Machine.MachineView.{ready_lent, state_of, syncs_of, SizedMachine, MachineLent, SyncForm, MachineMet}

-- Question 1

module _ (g : Geometry) (l : Lent) where
  pub lent_met : ask_lent g store_limits l ≡ 0 → MachineLent g l
  unfolding ask_lent
  lent_met e =
      let e1 = and_then_right _ _ e in
      let b = blocks_asked g l.pieces (and_then_left _ _ e) in
      let p = lent_asked store_limits (length l.bytes) (length l.lens) (and_then_left _ _ e1) in
      let r = replay_lent_asked (num_journal_blocks g) (length l.rbytes) (length l.rlens) (and_then_right _ _ e1) in
      record {
        geometry = b.geometry;
        bytes_lent = p.bytes_lent;
        lens_lent = p.lens_lent;
        pieces_lent = b.size;
        rbytes_lent = r.bytes_lent;
        rlens_lent = r.lens_lent;
      }

  pending_lent_is : MachineLent g l → PendingLent store_limits (length l.bytes) (length l.lens)
  pending_lent_is m = record { few = omega arith; small = omega arith; bytes_lent = m.bytes_lent; lens_lent = m.lens_lent }

  replay_lent_is : MachineLent g l → ReplayLent (num_journal_blocks g) (length l.rbytes) (length l.rlens)
  replay_lent_is m =
      record {
        some_block = m.geometry.some_block;
        at_most_blocks = m.geometry.at_most_blocks;
        bytes_lent = m.rbytes_lent;
        lens_lent = m.rlens_lent;
      }

  pub met_lent : MachineLent g l → ask_lent g store_limits l ≡ 0
  unfolding ask_lent
  met_lent m =
      and_then_both _ _ (asked_blocks g l.pieces (record { geometry = m.geometry; size = m.pieces_lent }))
      (and_then_both _ _ (asked_lent store_limits (length l.bytes) (length l.lens) (pending_lent_is m))
      (asked_replay_lent (num_journal_blocks g) (length l.rbytes) (length l.rlens) (replay_lent_is m)))

  -- what pending and replay memory hold
  module _ (e : Entries) where
    pub entries_pending : ask_entries g store_limits l.bytes l.lens l.rbytes l.rlens e ≡ 0 → PendingHeld limits (ready_lent l) e
    unfolding ask_entries
    entries_pending q =
        let p = pending_asked store_limits (memory l.bytes l.lens e.pending) (frozen_asked store_limits (memory l.bytes l.lens e.pending) e.frozen (and_then_left _ _ q)).0 in
        record {
          few = omega (arith, p.lent.lens_lent, p.held.there);
          there = p.held.there;
          each = p.held.each;
          small = p.held.fit;
          fit = omega (arith, p.lent.bytes_lent, p.held.fit);
        }

    pub entries_replay : ask_entries g store_limits l.bytes l.lens l.rbytes l.rlens e ≡ 0 → ReplayHeld limits (ready_lent l) e
    unfolding ask_entries
    entries_replay q =
        let p = (replay_asked (num_journal_blocks g) (memory l.rbytes l.rlens e.replay) e.taken (and_then_right _ _ q)).left in
        let s = part_is e.taken.entries e.replay l.rlens p.held.order in
        record {
          there = p.held.there;
          each = ap (every (ok_length 255)) (sym s) ∙ p.held.each;
          fit = omega (arith, p.behind, p.held.fit, ap sum s);
        }

    pub entries_asked : MachineLent g l → e.frozen ≤ e.pending → e.taken.entries ≤ e.replay → PendingHeld limits (ready_lent l) e → ReplayHeld limits (ready_lent l) e
        → ask_entries g store_limits l.bytes l.lens l.rbytes l.rlens e ≡ 0
    unfolding ask_entries
    entries_asked m f t ph rh =
        let s = part_is e.taken.entries e.replay l.rlens t in
        and_then_both _ _
        (asked_frozen store_limits (memory l.bytes l.lens e.pending) e.frozen
        (asked_pending store_limits (memory l.bytes l.lens e.pending)
        (record { lent = pending_lent_is m; held = record { order = omega arith; there = ph.there; each = ph.each; fit = ph.small } })) f)
        (asked_replay (num_journal_blocks g) (memory l.rbytes l.rlens e.replay) e.taken
        (record {
          lent = replay_lent_is m;
          left =
              record {
                behind = omega (arith, rh.fit);
                held = record { order = t; there = rh.there; each = ap (every (ok_length 255)) s ∙ rh.each; fit = omega (arith, rh.fit, ap sum s) };
              };
        }))

-- The sync requests

module _ (t : SyncTable) (z : SizedSyncs t) where
  pub sync_form : sync_ok t ≡ true → SyncForm t
  unfolding sync_ok
  sync_form e =
      let c = counted_facts most_sync_reqs t.count t.ids (also_left _ _ e) in
      record { in_array = c.in_array; differ = c.differ; states = also_right _ _ e }

  pub sync_few : sync_ok t ≡ true → AtMost 32 (keys (sync_map state_of t))
  unfolding sync_ok
  sync_few e =
      let c = counted_facts most_sync_reqs t.count t.ids (also_left _ _ e) in
      syncs_few t state_of z most_sync_reqs c 32 c.few

  -- a table within the array, which holds as many as may be
  pub form_counted : SyncForm t → Counted t.count t.count t.ids
  form_counted f = record { few = omega arith; in_array = f.in_array; differ = f.differ }

  pub few_sync : SyncForm t → AtMost 32 (keys (sync_map state_of t)) → sync_ok t ≡ true
  unfolding sync_ok
  few_sync f m =
      also_both _ _
      (facts_counted most_sync_reqs t.count t.ids
      (record { few = few_syncs t state_of z t.count (form_counted f) 32 m; in_array = f.in_array; differ = f.differ }))
      f.states

-- Question 2, kind by kind

module _ (g : Geometry) (l : Lent) (m : Machine) where
  abbrev sync : Map SyncReqStatus
  sync = syncs_of m

  -- the view, the test and the form as functions of the kind
  abbrev seen : Kind → Variables
  seen k =
      by_kind k
      (superblocks_seen m.superblocks sync)
      (other_seen g l.pieces m.other sync)
      (Variables.Ready (ready_of (ready_lent l) sync m.ready))

  abbrev ok : Kind → Bool
  ok k = by_kind k (loading_superblock_ok g m.superblocks) (loading_other_ok g m.other) (ready_ok g m.ready)

  abbrev held : Kind → ℕ
  held k = by_kind {A = ℕ} k 0 0 (ask_entries g store_limits l.bytes l.lens l.rbytes l.rlens m.ready.entries)

  abbrev form : Kind → Type 0
  form k = by_kind k (Unit {0}) (m.other.whichSuperblock ≤ 1) (ReadyForm (ready_lent l) m.ready)

  kind_form : (k : Kind) → ok k ≡ true → held k ≡ 0 → form k
  kind_form kind.LoadingSuperblock e q = tt
  kind_form kind.LoadingOther e q = (other_meets g l.pieces m.other sync e).which_in
  kind_form kind.Ready e q =
      ready_form g limits (ready_lent l) sync m.ready (omega arith) e (entries_pending g l m.ready.entries q) (entries_replay g l m.ready.entries q)

  kind_meets : (k : Kind) → MachineLent g l → AtMost 32 (keys sync) → ok k ≡ true → held k ≡ 0 → MachineMeets g limits (seen k)
  kind_meets kind.LoadingSuperblock t few e q =
      let h = superblock_meets m.superblocks sync g e in
      record { inv = h.inv; counts = record { sync_few = few }; shape = record { reads_differ = h.reads_differ } }
  kind_meets kind.LoadingOther t few e q =
      let h = other_meets g l.pieces m.other sync e in
      record {
        inv = h.inv;
        counts = record { sync_few = few };
        shape =
            record {
              reads_differ = h.reads_differ;
              read_or_in = other_read_or_in g l.pieces m.other sync;
              piece_size = other_piece_size g l.pieces m.other sync h.inv.superblock_wf t.pieces_lent;
            };
      }
  kind_meets kind.Ready t few e q =
      ready_meets g limits (ready_lent l) sync m.ready (omega arith)
      (record { bytes_lent = t.rbytes_lent; lens_lent = t.rlens_lent })
      few e (entries_pending g l m.ready.entries q) (entries_replay g l m.ready.entries q)

  -- and back
  meets_few : (k : Kind) → MachineMeets g limits (seen k) → AtMost 32 (keys sync)
  meets_few kind.LoadingSuperblock h = h.counts.sync_few
  meets_few kind.LoadingOther h = h.counts.sync_few
  meets_few kind.Ready h = h.counts.sync_few

  meets_ok : (k : Kind) → form k → MachineMeets g limits (seen k) → ok k ≡ true
  meets_ok kind.LoadingSuperblock f h =
      meets_superblock m.superblocks sync g (record { inv = h.inv; reads_differ = h.shape.reads_differ })
  meets_ok kind.LoadingOther f h =
      meets_other g l.pieces m.other sync (record { inv = h.inv; reads_differ = h.shape.reads_differ; which_in = f })
  meets_ok kind.Ready f h = meets_ready g limits (ready_lent l) sync m.ready (omega arith) h f

  meets_held : (k : Kind) → MachineLent g l → form k → MachineMeets g limits (seen k) → held k ≡ 0
  meets_held kind.LoadingSuperblock t f h = omega arith
  meets_held kind.LoadingOther t f h = omega arith
  meets_held kind.Ready t f h =
      entries_asked g l m.ready.entries t f.pending.frozen_within f.replay.taken_within
      (meets_pending g limits (ready_lent l) sync m.ready (omega arith) h f)
      (meets_replay g limits (ready_lent l) sync m.ready (omega arith) h f)

-- Questions 1 and 2, both ways

-- the parts of a yes
pub machine_lent_is : (g : Geometry) (l : Lent) (m : Machine) → ask_machine g l m ≡ 0 → MachineLent g l
unfolding ask_machine
machine_lent_is g l m e = lent_met g l (and_then_left _ _ e)

-- the record of its kind
abbrev pub KindOk : Geometry → Machine → Type 0
KindOk g m = by_kind m.kind (loading_superblock_ok g m.superblocks) (loading_other_ok g m.other) (ready_ok g m.ready) ≡ true

pub machine_kind_ok : (g : Geometry) (l : Lent) (m : Machine) → ask_machine g l m ≡ 0 → KindOk g m
unfolding ask_machine machine_ok kind_ok
machine_kind_ok g l m e = also_right _ _ (ask_yes 2 _ (omega arith) (and_then_left _ _ (and_then_right _ _ e)))

pub machine_met : (g : Geometry) (l : Lent) (m : Machine) → SizedMachine m → ask_machine g l m ≡ 0 → MachineMet g l m
unfolding ask_machine machine_ok kind_ok ask_held
machine_met g l m z e =
    let e1 = and_then_right _ _ e in
    let o = ask_yes 2 _ (omega arith) (and_then_left _ _ e1) in
    let s : sync_ok m.sync ≡ true = also_left _ _ o in
    let k : ok g l m m.kind ≡ true = also_right _ _ o in
    let h : held g l m m.kind ≡ 0 = and_then_right _ _ e1 in
    let t = lent_met g l (and_then_left _ _ e) in
    record {
      lent = t;
      form = record { sync = sync_form m.sync z.syncs s; kind = kind_form g l m m.kind k h };
      meets = kind_meets g l m m.kind t (sync_few m.sync z.syncs s) k h;
    }

pub met_machine : (g : Geometry) (l : Lent) (m : Machine) → SizedMachine m → MachineMet g l m → ask_machine g l m ≡ 0
unfolding ask_machine machine_ok kind_ok ask_held
met_machine g l m z h =
    and_then_both _ _ (met_lent g l h.lent)
    (and_then_both _ _
    (ask_holds 2 _
    (also_both _ _
    (few_sync m.sync z.syncs h.form.sync (meets_few g l m m.kind h.meets))
    (meets_ok g l m m.kind h.form.kind h.meets)))
    (meets_held g l m m.kind h.lent h.form.kind h.meets))
