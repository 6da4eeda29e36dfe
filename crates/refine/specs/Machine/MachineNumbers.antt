-- A no of a step of the machine has the number of what the step asks, questions 1 and 2 first: of every step, whatever is handed, in the order of
-- 000's Step; then of asking again. Assumes nothing.
use Rattle.std.specs.declared.option.Option as code
use Rattle.std.specs.Prelude.{ℕ, ◌≡◌, ◌≤◌, List, Err}
use Rattle.laws.specs.Choice.{and_then}
use Rattle.refusal.specs.declared.Refusal.{Refusal}
use Rattle.refusal.specs.Refusal.{number}
use Rattle.layout.specs.declared.Geometry.{Geometry}
use Rattle.layout.specs.declared.Location.{Location}
use Rattle.superblock.specs.declared.Superblock.{Superblock}
use Rattle.superblock.specs.declared.JournalRead.{JournalRead}
use Rattle.superblock.specs.declared.DiskOp.{DiskOp}
use Rattle.machine.specs.declared.Machine.{Machine}
use Rattle.machine.specs.Machine.{answered}
use Rattle.machine.specs.Lent.{Lent}
use Rattle.machine.specs.Questions.{ask_machine}
use Rattle.machine.specs.Loading.{ask_page_in_journal_req_step, ask_page_in_superblock_req_step, ask_page_in_superblock_resp_step, ask_finish_loading_superblock_phase_step, ask_ask_again_step}
use Rattle.machine.specs.Working.{ask_advance_log_step, ask_advance_location_step, ask_write_back_superblock_resp_step, ask_freeze_step, ask_receive_frozen_loc_step, ask_replay_step}
use Rattle.machine.specs.Sync.{ask_push_sync_req, ask_pop_sync_req}
use Rattle.machine.specs.Whole.{ask_write, write_back_journal_req, write_back_journal_resp, advance_log, advance_location, write_back_superblock_resp, page_in_journal_req, ask_paged, page_in_journal_resp, page_in_superblock_req, page_in_superblock_resp, finish_loading_superblock_phase, ask_finish, finish_loading_other_phase, freeze, receive_frozen_loc, ask_add, advance, replay, push_sync_req, pop_sync_req, no_op, ask_again}
use Rattle.machine.specs.Bounds.{small_machine, small_whole, small_write, small_advance_log, small_advance_location, small_write_back_superblock_resp, small_page_in_journal_req, small_paged, small_page_in_superblock_req, small_page_in_superblock_resp, small_finish_loading_superblock_phase, small_finish, small_freeze, small_receive_frozen_loc, small_add, small_replay_step, small_push_sync_req, small_pop_sync_req, small_ask_again}
use Rattle.refine.specs.Machine.MachineCalls.{refused_keeps}

module _ (g : Geometry) (l : Lent) (m : Machine) (n : Refusal) where
  told : (q : ℕ) (op : DiskOp) (next : Machine) → q ≤ 13 → (answered q op next m).answer ≡ Err n → q ≡ number n
  told q op next small e = (refused_keeps q n op next m e).number_is small

  pub write_back_journal_req_number : (id1 : ℕ) (id2 : code.Option ℕ) (out : List ℕ) → (write_back_journal_req g l m id1 id2 out).answer ≡ Err n → ask_write g l m id1 id2 out ≡ number n
  write_back_journal_req_number id1 id2 out e = told _ _ _ (small_write g l m id1 id2 out) e

  pub write_back_journal_resp_number : (id : ℕ) → (write_back_journal_resp g l m id).answer ≡ Err n → ask_machine g l m ≡ number n
  write_back_journal_resp_number id e = told _ _ _ (small_machine g l m) e

  pub advance_log_number : (id : ℕ) → (advance_log g l m id).answer ≡ Err n → and_then (ask_machine g l m) (ask_advance_log_step g m) ≡ number n
  advance_log_number id e = told _ _ _ (small_whole g l m _ (small_advance_log g m)) e

  pub advance_location_number : (id : ℕ) → (advance_location g l m id).answer ≡ Err n → and_then (ask_machine g l m) (ask_advance_location_step g m) ≡ number n
  advance_location_number id e = told _ _ _ (small_whole g l m _ (small_advance_location g m)) e

  pub write_back_superblock_resp_number : (which id : ℕ) → (write_back_superblock_resp g l m which id).answer ≡ Err n → and_then (ask_machine g l m) (ask_write_back_superblock_resp_step which) ≡ number n
  write_back_superblock_resp_number which id e = told _ _ _ (small_whole g l m _ (small_write_back_superblock_resp which)) e

  pub page_in_journal_req_number : (which id : ℕ) → (page_in_journal_req g l m which id).answer ≡ Err n → and_then (ask_machine g l m) (ask_page_in_journal_req_step g m which) ≡ number n
  page_in_journal_req_number which id e = told _ _ _ (small_whole g l m _ (small_page_in_journal_req g m which)) e

  pub page_in_journal_resp_number : (id : ℕ) (r : JournalRead) (new : List ℕ) → (page_in_journal_resp g l m id r new).answer ≡ Err n → ask_paged g l m id r new ≡ number n
  page_in_journal_resp_number id r new e = told _ _ _ (small_paged g l m id r new) e

  pub page_in_superblock_req_number : (which id : ℕ) → (page_in_superblock_req g l m which id).answer ≡ Err n → and_then (ask_machine g l m) (ask_page_in_superblock_req_step m which id) ≡ number n
  page_in_superblock_req_number which id e = told _ _ _ (small_whole g l m _ (small_page_in_superblock_req m which id)) e

  pub page_in_superblock_resp_number : (which id : ℕ) (r : code.Option Superblock) → (page_in_superblock_resp g l m which id r).answer ≡ Err n → and_then (ask_machine g l m) (ask_page_in_superblock_resp_step which) ≡ number n
  page_in_superblock_resp_number which id r e = told _ _ _ (small_whole g l m _ (small_page_in_superblock_resp which)) e

  pub finish_loading_superblock_phase_number : (finish_loading_superblock_phase g l m).answer ≡ Err n → and_then (ask_machine g l m) (ask_finish_loading_superblock_phase_step m) ≡ number n
  finish_loading_superblock_phase_number e = told _ _ _ (small_whole g l m _ (small_finish_loading_superblock_phase m)) e

  pub finish_loading_other_phase_number : (finish_loading_other_phase g l m).answer ≡ Err n → ask_finish g l m ≡ number n
  finish_loading_other_phase_number e = told _ _ _ (small_finish g l m) e

  pub freeze_number : (freeze g l m).answer ≡ Err n → and_then (ask_machine g l m) (ask_freeze_step m) ≡ number n
  freeze_number e = told _ _ _ (small_whole g l m _ (small_freeze m)) e

  pub receive_frozen_loc_number : (loc : Location) → (receive_frozen_loc g l m loc).answer ≡ Err n → and_then (ask_machine g l m) (ask_receive_frozen_loc_step g m loc) ≡ number n
  receive_frozen_loc_number loc e = told _ _ _ (small_whole g l m _ (small_receive_frozen_loc g m loc)) e

  pub advance_number : (brought sizes : List ℕ) (k : ℕ) → (advance g l m brought sizes k).answer ≡ Err n → ask_add g l m brought sizes k ≡ number n
  advance_number brought sizes k e = told _ _ _ (small_add g l m brought sizes k) e

  pub replay_number : (brought sizes : List ℕ) (k : ℕ) → (replay g l m brought sizes k).answer ≡ Err n → and_then (ask_machine g l m) (ask_replay_step m l.rbytes l.rlens brought sizes k) ≡ number n
  replay_number brought sizes k e = told _ _ _ (small_whole g l m _ (small_replay_step _ _ _ _ _ _)) e

  pub push_sync_req_number : (id : ℕ) → (push_sync_req g l m id).answer ≡ Err n → and_then (ask_machine g l m) (ask_push_sync_req m.sync id) ≡ number n
  push_sync_req_number id e = told _ _ _ (small_whole g l m _ (small_push_sync_req _ _)) e

  pub pop_sync_req_number : (id : ℕ) → (pop_sync_req g l m id).answer ≡ Err n → and_then (ask_machine g l m) (ask_pop_sync_req m.sync id) ≡ number n
  pop_sync_req_number id e = told _ _ _ (small_whole g l m _ (small_pop_sync_req _ _)) e

  pub no_op_number : (no_op g l m).answer ≡ Err n → ask_machine g l m ≡ number n
  no_op_number e = told _ _ _ (small_machine g l m) e

  pub ask_again_number : (which : ℕ) → (ask_again g l m which).answer ≡ Err n → and_then (ask_machine g l m) (ask_ask_again_step m which) ≡ number n
  ask_again_number which e = told _ _ _ (small_whole g l m _ (small_ask_again m which)) e
