-- The questions of a machine and of its steps have the numbers of refusals, so a no's number is its question's. Assumes nothing.
use Rattle.std.specs.declared.option.Option as code
use Rattle.std.specs.Prelude.{ℕ, ◌≤◌, List, eqb, Bool, true, false, cond, Result, Ok, Err}
use Rattle.std.proofs.Common.{rules, arith}
use Rattle.laws.specs.Choice.{and_then}
use Rattle.refusal.specs.declared.Refusal.{Refusal}
use Rattle.refusal.specs.Refusal.{number_of, small_ask, small_then}
use Rattle.layout.specs.declared.Geometry.{Geometry}
use Rattle.layout.specs.declared.Location.{Location}
use Rattle.interval.specs.Interval.{interval}
use Rattle.superblock.specs.declared.JournalRead.{JournalRead}
use Rattle.journal.specs.Memory.{ask_size}
use Rattle.journal.specs.Bounds.{small_blocks, small_size}
use Rattle.tables.specs.declared.SyncTable.{SyncTable}
use Rattle.tables.specs.Bounds as tables
use Rattle.unpacker.specs.Unpack.{ask_unpack}
use Rattle.range.specs.declared.Count.{Count}
use Rattle.memory.specs.declared.Limits.{Limits}
use Rattle.memory.specs.Bounds.{small_pending_lent, small_replay_lent, small_given, small_frozen, small_replay}
use Rattle.loading.specs.declared.Paged.{Paged}
use Rattle.loading.specs.Bounds as loading
use Rattle.ready.specs.declared.Bodies.{Bodies}
use Rattle.ready.specs.declared.Entries.{Entries}
use Rattle.ready.specs.Bounds as ready
use Rattle.machine.specs.declared.Kind.{Kind}
use Rattle.machine.specs.declared.Kind.TheVariants as kind
use Rattle.machine.specs.declared.Machine.{Machine}
use Rattle.machine.specs.Machine.{by_kind, ask_loading_superblock, ask_loading_other, ask_ready}
use Rattle.machine.specs.Lent.{Lent, ask_lent}
use Rattle.machine.specs.Questions.{ask_entries, ask_held, ask_machine}
use Rattle.machine.specs.Loading.{ask_page_in_journal_req_step, ask_piece, ask_page_in_superblock_req_step, ask_page_in_superblock_resp_step, ask_finish_loading_superblock_phase_step, ask_finish_loading_other_phase_step, ask_loaded, ask_ask_again_step}
use Rattle.machine.specs.Working.{ask_write_back_journal_req_step, ask_advance_log_step, ask_advance_location_step, ask_write_back_superblock_resp_step, ask_freeze_step, ask_receive_frozen_loc_step, ask_advance_step, ask_replay_given, ask_replay_step}
use Rattle.machine.specs.Sync.{ask_push_sync_req, ask_pop_sync_req}
use Rattle.machine.specs.Whole.{ask_machine_out, ask_write, ask_paged, ask_finish, ask_add}

-- one of three, by kind
small_by_kind : (k : Kind) (a b c : ℕ) → a ≤ 13 → b ≤ 13 → c ≤ 13 → by_kind {A = ℕ} k a b c ≤ 13
small_by_kind kind.LoadingSuperblock a b c ha hb hc = ha
small_by_kind kind.LoadingOther a b c ha hb hc = hb
small_by_kind kind.Ready a b c ha hb hc = hc

-- question 3
pub small_loading_superblock : (m : Machine) → ask_loading_superblock m ≤ 13
small_loading_superblock m = small_by_kind m.kind 0 3 3 (omega arith) (omega arith) (omega arith)

pub small_loading_other : (m : Machine) → ask_loading_other m ≤ 13
small_loading_other m = small_by_kind m.kind 3 0 3 (omega arith) (omega arith) (omega arith)

pub small_ready : (m : Machine) → ask_ready m ≤ 13
small_ready m = small_by_kind m.kind 3 3 0 (omega arith) (omega arith) (omega arith)

-- questions 1 and 2
pub small_lent : (g : Geometry) (limits : Limits) (l : Lent) → ask_lent g limits l ≤ 13
unfolding ask_lent
small_lent g limits l = search (rules, small_then, small_blocks, small_pending_lent, small_replay_lent)

pub small_entries : (g : Geometry) (limits : Limits) (bytes lens rbytes rlens : List ℕ) (e : Entries) → ask_entries g limits bytes lens rbytes rlens e ≤ 13
unfolding ask_entries
small_entries g limits bytes lens rbytes rlens e = search (rules, small_then, small_frozen, small_replay)

pub small_held : (g : Geometry) (bytes lens rbytes rlens : List ℕ) (m : Machine) → ask_held g bytes lens rbytes rlens m ≤ 13
unfolding ask_held
small_held g bytes lens rbytes rlens m = small_by_kind m.kind 0 0 _ (omega arith) (omega arith) (small_entries _ _ _ _ _ _ _)

pub small_machine : (g : Geometry) (l : Lent) (m : Machine) → ask_machine g l m ≤ 13
unfolding ask_machine
small_machine g l m = search (rules, small_then, small_ask, small_lent, small_held)

-- of a number that an answer has
pub small_number : {A : Type 0} (r : Result A Refusal) → number_of r ≤ 13
small_number (Ok a) = omega arith
small_number (Err e) = grind arith

-- of the steps of a machine that loads, in the order of 000's
pub small_page_in_journal_req : (g : Geometry) (m : Machine) (which : ℕ) → ask_page_in_journal_req_step g m which ≤ 13
unfolding ask_page_in_journal_req_step
small_page_in_journal_req g m which = small_then _ _ (small_loading_other m) (loading.small_page_in_journal_req _ _ _)

pub small_piece : (p : Paged) (new : List ℕ) → ask_piece p new ≤ 13
unfolding ask_piece
small_piece p new = go (eqb p.len 0)
  where
    go : (b : Bool) → cond {A = ℕ} b 0 (ask_size (interval p.place p.len) new) ≤ 13
    go true = omega arith
    go false = small_size _ _

pub small_page_in_superblock_req : (m : Machine) (which id : ℕ) → ask_page_in_superblock_req_step m which id ≤ 13
unfolding ask_page_in_superblock_req_step
small_page_in_superblock_req m which id = small_then _ _ (small_loading_superblock m) (loading.small_page_in_superblock_req _ _ _)

pub small_page_in_superblock_resp : (which : ℕ) → ask_page_in_superblock_resp_step which ≤ 13
small_page_in_superblock_resp which = loading.small_which which

pub small_finish_loading_superblock_phase : (m : Machine) → ask_finish_loading_superblock_phase_step m ≤ 13
unfolding ask_finish_loading_superblock_phase_step
small_finish_loading_superblock_phase m = small_then _ _ (small_loading_superblock m) (loading.small_finish_loading_superblock_phase _)

pub small_finish_loading_other_phase : (g : Geometry) (m : Machine) → ask_finish_loading_other_phase_step g m ≤ 13
unfolding ask_finish_loading_other_phase_step
small_finish_loading_other_phase g m = small_then _ _ (small_loading_other m) (loading.small_finish_loading_other_phase _ _)

pub small_unpack : (xs bytes lens : List ℕ) → ask_unpack xs bytes lens ≤ 13
unfolding ask_unpack
small_unpack xs bytes lens = search (rules, small_then, small_ask)

pub small_loaded : (g : Geometry) (m : Machine) (pieces rbytes rlens : List ℕ) → ask_loaded g m pieces rbytes rlens ≤ 13
unfolding ask_loaded
small_loaded g m pieces rbytes rlens = small_then _ _ (small_finish_loading_other_phase g m) (small_unpack _ _ _)

pub small_ask_again : (m : Machine) (which : ℕ) → ask_ask_again_step m which ≤ 13
unfolding ask_ask_again_step
small_ask_again m which = small_then _ _ (small_loading_superblock m) (loading.small_ask_again _ _)

-- of the steps of a machine at work
pub small_write_back_journal_req : (g : Geometry) (m : Machine) (id1 : ℕ) (id2 : code.Option ℕ) (b : Bodies) → ask_write_back_journal_req_step g m id1 id2 b ≤ 13
unfolding ask_write_back_journal_req_step
small_write_back_journal_req g m id1 id2 b = small_then _ _ (small_ready m) (ready.small_write_back_journal_req _ _ _ _ _)

pub small_advance_log : (g : Geometry) (m : Machine) → ask_advance_log_step g m ≤ 13
unfolding ask_advance_log_step
small_advance_log g m = small_then _ _ (small_ready m) (ready.small_advance_log _ _)

pub small_advance_location : (g : Geometry) (m : Machine) → ask_advance_location_step g m ≤ 13
unfolding ask_advance_location_step
small_advance_location g m = small_then _ _ (small_ready m) (ready.small_advance_location _ _)

pub small_write_back_superblock_resp : (which : ℕ) → ask_write_back_superblock_resp_step which ≤ 13
small_write_back_superblock_resp which = loading.small_which which

pub small_freeze : (m : Machine) → ask_freeze_step m ≤ 13
unfolding ask_freeze_step
small_freeze m = small_then _ _ (small_ready m) (ready.small_freeze _)

pub small_receive_frozen_loc : (g : Geometry) (m : Machine) (loc : Location) → ask_receive_frozen_loc_step g m loc ≤ 13
unfolding ask_receive_frozen_loc_step
small_receive_frozen_loc g m loc = small_then _ _ (small_ready m) (ready.small_receive_frozen_loc _ _ _)

pub small_advance : (m : Machine) (b : Bodies) (given : Result Count Refusal) → ask_advance_step m b given ≤ 13
unfolding ask_advance_step
small_advance m b given = small_then _ _ (small_ready m) (small_then _ _ (small_number given) (ready.small_advance _ _ _ _))

pub small_replay_given : (e : Entries) (rbytes rlens brought sizes : List ℕ) (k : ℕ) → ask_replay_given e rbytes rlens brought sizes k ≤ 13
unfolding ask_replay_given
small_replay_given e rbytes rlens brought sizes k = search (rules, small_then, small_ask, small_given)

pub small_replay_step : (m : Machine) (rbytes rlens brought sizes : List ℕ) (k : ℕ) → ask_replay_step m rbytes rlens brought sizes k ≤ 13
unfolding ask_replay_step
small_replay_step m rbytes rlens brought sizes k = small_then _ _ (small_ready m) (small_replay_given _ _ _ _ _ _)

-- of sync requests
pub small_push_sync_req : (t : SyncTable) (id : ℕ) → ask_push_sync_req t id ≤ 13
unfolding ask_push_sync_req
small_push_sync_req t id = tables.small_add _ _ _ _

pub small_pop_sync_req : (t : SyncTable) (id : ℕ) → ask_pop_sync_req t id ≤ 13
unfolding ask_pop_sync_req
small_pop_sync_req t id = search (rules, small_then, small_ask)

-- of whole steps: questions 1 and 2, then the step's own
module _ (g : Geometry) (l : Lent) (m : Machine) where
  pub small_whole : (q : ℕ) → q ≤ 13 → and_then (ask_machine g l m) q ≤ 13
  small_whole q h = small_then _ q (small_machine g l m) h

  pub small_machine_out : (out : List ℕ) → ask_machine_out g l m out ≤ 13
  unfolding ask_machine_out
  small_machine_out out = small_then _ _ (small_blocks g out) (small_machine g l m)

  pub small_write : (id1 : ℕ) (id2 : code.Option ℕ) (out : List ℕ) → ask_write g l m id1 id2 out ≤ 13
  unfolding ask_write
  small_write id1 id2 out = small_then _ _ (small_machine_out out) (small_write_back_journal_req g m id1 id2 _)

  pub small_paged : (id : ℕ) (r : JournalRead) (new : List ℕ) → ask_paged g l m id r new ≤ 13
  unfolding ask_paged
  small_paged id r new = small_whole _ (small_piece _ _)

  pub small_finish : ask_finish g l m ≤ 13
  unfolding ask_finish
  small_finish = small_whole _ (small_loaded _ _ _ _ _)

  pub small_add : (brought sizes : List ℕ) (k : ℕ) → ask_add g l m brought sizes k ≤ 13
  unfolding ask_add
  small_add brought sizes k = small_whole _ (small_advance _ _ _)
