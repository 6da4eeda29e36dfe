-- An allowed step keeps the relation: each call's step by its own lemma. Question 2 is used once, for the read that a journal answer answers.
use Rattle.std.specs.Prelude.{ℕ}
use Rattle.std.proofs.Common.{◌∙◌, ap}
use Rattle.layout.specs.declared.Geometry.{Geometry}
use Rattle.interval.specs.declared.JournalInterval.{JournalInterval}
use Rattle.laws.specs.Sets.{Map}
use Rattle.codec.specs.Codec.{Codec}
use Rattle.source.specs.JournalDisk as D
use Rattle.source.specs.JournalCache as M
use Rattle.source.specs.JournalSystem as Y
use Rattle.source.specs.Limits.{Limits}
use Rattle.source.specs.Meets.{SystemMeets}
use Rattle.source.specs.Departures.{Event, Allowed}
use Rattle.source.proofs.Laws.Awaited.{awaited_read_is}
use Rattle.history.specs.Ledger.{Call, log, location, Ledger, asked, tell}
use Rattle.history.specs.Statement.{Tied, tied_write, tied_written, unawaited_written, tied_log, tied_location, tied_committed, unawaited_committed, tied_page, tied_paged, tied_damaged, unawaited_paged, unawaited_damaged, tied_read, tied_superblock, tied_corrupt, unawaited_superblock, unawaited_corrupt, tied_finish_superblocks, tied_finish_other, tied_freeze, tied_receive, tied_add, tied_replay, tied_push, tied_pop, tied_no_op, tied_again, tied_land, tied_crash, Takes}
use Rattle.history.proofs.Simulation.Relation.{ReadsStand, Sim}
use Rattle.history.proofs.Simulation.Loading.{sim_superblock_req, sim_superblock_resp, sim_finish_superblocks, sim_journal_req, sim_journal_resp, sim_finish_other, sim_push, sim_pop, sim_replay}
use Rattle.history.proofs.Simulation.Working.{sim_add, sim_freeze, sim_receive, sim_write, sim_write_resp}
use Rattle.history.proofs.Simulation.Commits.{sim_commit_log, sim_commit_location, sim_synced}
use Rattle.history.proofs.Simulation.Landing.{sim_land}
use Rattle.history.proofs.Simulation.Answering.{sim_commit_resp, sim_no_op, sim_damaged, sim_ask_again, sim_crash}

-- by question 2, an awaited journal read stands at the disk under its own interval
pub reads_stand : (g : Geometry) (L : Limits) (m : M.Variables) (d : D.Variables) → SystemMeets g L (record { machine = m; disk = d }) → ReadsStand g m d
reads_stand g L (M.Variables.Ready s) d h = tt
reads_stand g L (M.Variables.LoadingOther s) d h = λ which id v e q. ap (λ (r : Map JournalInterval). r id) h.joined.journal_reads_is ∙ awaited_read_is g s h.machine.shape which id v e q
reads_stand g L (M.Variables.LoadingSuperblock s) d h = tt

module _ (g : Geometry) (C : Codec) (L : Limits) (p : ℕ) (s t : Y.Variables) (l : Ledger) (z : Sim g C p s.machine s.disk l) where
  tied_sim : (x : Call) (e : Event) → Tied x e → Allowed g C L s t e → Sim g C p t.machine t.disk (tell g C x l)
  unfolding tell
  tied_sim x e (tied_write {jr = jr}) a = sim_write g C p jr s.machine t.machine s.disk t.disk l _ z a.step.machine a.step.disk
  tied_sim x e tied_written a = sim_write_resp g C p s.machine t.machine s.disk t.disk l _ z a.step.machine a.step.disk
  tied_sim x e unawaited_written a = sim_no_op g C p s.machine t.machine s.disk t.disk l _ z a.step.machine.source a.step.disk
  tied_sim x e tied_log a = sim_synced g C p _ (asked log) (sim_commit_log g C p) s.machine t.machine s.disk t.disk l _ z a.step.machine a.step.disk
  tied_sim x e tied_location a = sim_synced g C p _ (asked location) (sim_commit_location g C p) s.machine t.machine s.disk t.disk l _ z a.step.machine a.step.disk
  tied_sim x e tied_committed a = sim_commit_resp g C p s.machine t.machine s.disk t.disk l _ z a.step.machine a.step.disk
  tied_sim x e unawaited_committed a = sim_no_op g C p s.machine t.machine s.disk t.disk l _ z a.step.machine.source a.step.disk
  tied_sim x e (tied_page {which = which}) a = sim_journal_req g C p which s.machine t.machine s.disk t.disk l _ z a.step.machine a.step.disk
  tied_sim x e tied_paged a =
      sim_journal_resp g C p a.step.machine.0 s.machine t.machine s.disk t.disk l _ z (reads_stand g L s.machine s.disk a.meets) a.step.machine.1 a.step.disk
  tied_sim x e tied_damaged a = sim_damaged g C p s.machine t.machine s.disk t.disk l _ z a.step.machine a.step.disk
  tied_sim x e unawaited_paged a = sim_no_op g C p s.machine t.machine s.disk t.disk l _ z a.step.machine.source a.step.disk
  tied_sim x e unawaited_damaged a = sim_no_op g C p s.machine t.machine s.disk t.disk l _ z a.step.machine.source a.step.disk
  tied_sim x e (tied_read {which = which}) a = sim_superblock_req g C p which s.machine t.machine s.disk t.disk l _ z a.step.machine.source a.step.disk
  tied_sim x e (tied_superblock {which = which}) a = sim_superblock_resp g C p which s.machine t.machine s.disk t.disk l _ z a.step.machine a.step.disk
  tied_sim x e (tied_corrupt {which = which}) a = sim_superblock_resp g C p which s.machine t.machine s.disk t.disk l _ z a.step.machine a.step.disk
  tied_sim x e unawaited_superblock a = sim_no_op g C p s.machine t.machine s.disk t.disk l _ z a.step.machine.source a.step.disk
  tied_sim x e unawaited_corrupt a = sim_no_op g C p s.machine t.machine s.disk t.disk l _ z a.step.machine.source a.step.disk
  tied_sim x e tied_finish_superblocks a = sim_finish_superblocks g C p s.machine t.machine s.disk t.disk l _ z a.step.machine a.step.disk
  tied_sim x e tied_finish_other a =
      sim_finish_other g C p s.machine t.machine s.disk t.disk l _ z a.step.machine a.step.disk
  tied_sim x e tied_freeze a = sim_freeze g C p s.machine t.machine s.disk t.disk l _ z a.step.machine a.step.disk
  tied_sim x e (tied_receive {loc = loc}) a = sim_receive g C p loc s.machine t.machine s.disk t.disk l _ z a.step.machine a.step.disk
  tied_sim x e (tied_add {es = es}) a = sim_add g C p es s.machine t.machine s.disk t.disk l _ z a.step.machine.source a.step.disk
  tied_sim x e (tied_replay {es = es}) a = sim_replay g C p es s.machine t.machine s.disk t.disk l _ z a.step.machine a.step.disk
  tied_sim x e (tied_push {id = id}) a = sim_push g C p id s.machine t.machine s.disk t.disk l _ z a.step.machine a.step.disk
  tied_sim x e (tied_pop {id = id}) a = sim_pop g C p id s.machine t.machine s.disk t.disk l _ z a.step.machine a.step.disk
  tied_sim x e tied_no_op a = sim_no_op g C p s.machine t.machine s.disk t.disk l _ z a.step.machine.source a.step.disk
  tied_sim x e (tied_again {which = which}) a = sim_ask_again g C p which s.machine t.machine s.disk t.disk l _ z a.step.machine a.step.disk
  tied_sim x e (tied_land {which = which}) a = sim_land g C p which s.machine t.machine s.disk t.disk l z a.step.machine a.step.disk
  tied_sim x e tied_crash a = sim_crash g C p s.machine t.machine s.disk t.disk l z a.step.machine a.step.disk.source

  -- an accepted call keeps the relation, with what the ledger makes of the call
  pub sim_step : (x : Call) → Takes g C L s t x → Sim g C p t.machine t.disk (tell g C x l)
  sim_step x h = tied_sim x h.event h.tied h.allowed
