-- The questions of a machine that loads have the numbers of refusals, so a no's number is its question's. Assumes nothing.
use Rattle.std.specs.Prelude.{ℕ, ◌≤◌}
use Rattle.std.proofs.Common.{rules, arith}
use Rattle.refusal.specs.Refusal.{small_ask, small_then}
use Rattle.layout.specs.declared.Geometry.{Geometry}
use Rattle.loading.specs.declared.LoadingSuperblock.{LoadingSuperblock}
use Rattle.loading.specs.declared.LoadingOther.{LoadingOther}
use Rattle.loading.specs.Which.{ask_which}
use Rattle.loading.specs.Superblocks.{ask_page_in_superblock_req, ask_finish_loading_superblock_phase, ask_ask_again}
use Rattle.loading.specs.Other.{ask_page_in_journal_req, ask_finish_loading_other_phase}

pub small_which : (which : ℕ) → ask_which which ≤ 13
unfolding ask_which
small_which which = search (rules, small_ask)

pub small_page_in_superblock_req : (s : LoadingSuperblock) (which id : ℕ) → ask_page_in_superblock_req s which id ≤ 13
unfolding ask_page_in_superblock_req
small_page_in_superblock_req s which id = search (rules, small_then, small_ask, small_which)

pub small_finish_loading_superblock_phase : (s : LoadingSuperblock) → ask_finish_loading_superblock_phase s ≤ 13
unfolding ask_finish_loading_superblock_phase
small_finish_loading_superblock_phase s = search (rules, small_ask)

pub small_ask_again : (s : LoadingSuperblock) (which : ℕ) → ask_ask_again s which ≤ 13
unfolding ask_ask_again
small_ask_again s which = search (rules, small_then, small_ask, small_which)

pub small_page_in_journal_req : (g : Geometry) (s : LoadingOther) (which : ℕ) → ask_page_in_journal_req g s which ≤ 13
unfolding ask_page_in_journal_req
small_page_in_journal_req g s which = search (rules, small_then, small_ask, small_which)

pub small_finish_loading_other_phase : (g : Geometry) (s : LoadingOther) → ask_finish_loading_other_phase g s ≤ 13
unfolding ask_finish_loading_other_phase
small_finish_loading_other_phase g s = search (rules, small_ask)
