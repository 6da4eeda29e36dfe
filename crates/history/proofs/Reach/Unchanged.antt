-- Request S-3 changes no history. In every state that calls lead to from `Init`, question 2 says with the source's overlap what it says now: so the
-- same calls are taken, to the same states, whatever the range format and the limits. The ledger is a function of calls and answers.
use Rattle.std.specs.Prelude.{ℕ, Bool, true, false, List, [], ◌∷◌, ◌↔◌}
use Rattle.layout.specs.declared.Geometry.{Geometry}
use Rattle.layout.specs.declared.Location.{Location}
use Rattle.codec.specs.Codec.{Codec}
use Rattle.source.specs.JournalSystem as Y
use Rattle.source.specs.JournalSystem.{superblock_of_disk}
use Rattle.source.specs.Limits.{Limits}
use Rattle.source.proofs.Laws.Overlap.{before_meets}
use Rattle.history.specs.Ledger.{Call, Ledger, begin, tell, heard, books}
use Rattle.history.specs.Statement.{Takes, Goes, Trace}
use Rattle.history.specs.Before.{TakesBefore, TraceBefore}
use Rattle.history.proofs.Simulation.Relation.{Sim}
use Rattle.history.proofs.Simulation.Steps.{sim_step}
use Rattle.history.proofs.Whole.Lists.{goes_by, run_by}
use Rattle.history.proofs.Whole.First.{first_parity, init_sim}
use Rattle.history.proofs.Reach.Neat.{Neat, neat_before}
use Rattle.history.proofs.Reach.Reachable.{neat_tied, neat_init}

-- Whatever was taken before is taken now, in every state
module _ (g : Geometry) (C : Codec) (L : Limits) where
  takes_now : (s t : Y.Variables) (x : Call) → TakesBefore g C L s t x → Takes g C L s t x
  takes_now s t x h = record { event = h.event; tied = h.tied; allowed = record { meets = before_meets g L s h.meets; step = h.step } }

  goes_now : (s t : Y.Variables) (x : Call) (b : Bool) → Goes (TakesBefore g C L) s x b t → Goes (Takes g C L) s x b t
  goes_now s t x true h = takes_now s t x h
  goes_now s t x false h = h

  trace_now : (s t : Y.Variables) (xs : List Call) (bs : List Bool) → TraceBefore g C L s xs bs t → Trace g C L s xs bs t
  trace_now s t [] [] h = h
  trace_now s t [] (b ∷ bs) h = absurd h
  trace_now s t (x ∷ xs) [] h = absurd h
  trace_now s t (x ∷ xs) (b ∷ bs) h = (h.0, goes_now s h.0 x b h.1, trace_now h.0 t xs bs h.2)

-- and in a state that was reached, the other way round: it stands as its ledger says, and its writes in flight lie neatly
module _ (g : Geometry) (C : Codec) (L : Limits) (p : ℕ) where
  abbrev Stands : Y.Variables → Ledger → Type 0
  Stands s l = Sim g C p s.machine s.disk l × Neat g C s.machine s.disk l.kept

  stands_step : (s t : Y.Variables) (l : Ledger) → Stands s l → (x : Call) → Takes g C L s t x → Stands t (tell g C x l)
  stands_step s t l k x h = (sim_step g C L p s t l k.0 x h, neat_tied g C L p s t l k.0 k.1 x h.event h.tied h.allowed)

  takes_before : (s t : Y.Variables) (l : Ledger) (x : Call) → Stands s l → Takes g C L s t x → TakesBefore g C L s t x
  takes_before s t l x k h =
      let m = h.allowed.meets in
      record {
        event = h.event;
        tied = h.tied;
        meets = neat_before g C p L s.machine s.disk l k.0 k.1 (record { machine = m.machine; disk = m.disk });
        step = h.allowed.step;
      }

  goes_before : (s t : Y.Variables) (l : Ledger) (x : Call) (b : Bool) → Stands s l → Goes (Takes g C L) s x b t → Goes (TakesBefore g C L) s x b t
  goes_before s t l x true k h = takes_before s t l x k h
  goes_before s t l x false k h = h

  trace_before : (s t : Y.Variables) (l : Ledger) (xs : List Call) (bs : List Bool) → Stands s l → Trace g C L s xs bs t → TraceBefore g C L s xs bs t
  trace_before s t l [] [] k h = h
  trace_before s t l [] (b ∷ bs) k h = absurd h
  trace_before s t l (x ∷ xs) [] k h = absurd h
  trace_before s t l (x ∷ xs) (b ∷ bs) k h =
      (h.0, goes_before s h.0 l x b k h.1, trace_before h.0 t (heard g C b x l) xs bs (goes_by g C (Takes g C L) Stands stands_step s h.0 l x b k h.1) h.2)

module _ (g : Geometry) (C : Codec) (L : Limits) (first : Y.Variables) (loc : Location) (i : Y.Init g first loc) (calls : List Call) (answers : List Bool) (end : Y.Variables) where
  abbrev parity : ℕ
  parity = first_parity g C first loc i

  abbrev opening : Ledger
  opening = begin (superblock_of_disk g first.disk i.wf)

  first_stands : Stands g C L parity first opening
  first_stands = (
    init_sim g C first loc i,
    neat_init g C 0 first.machine first.disk _ i.machine i.disk.no_superblock_reads i.disk.no_journal_reads i.disk.no_journal_writes,
  )

  -- from `Init`, a list of calls with its answers leads to a state exactly where it did before
  pub histories_unchanged : TraceBefore g C L first calls answers end ↔ Trace g C L first calls answers end
  histories_unchanged = (trace_now g C L first end calls answers, trace_before g C L parity first end opening calls answers first_stands)

  -- and each call is then allowed exactly where it was, to the same states: so none that was taken is refused, and none refused is taken
  pub calls_unchanged : Trace g C L first calls answers end → (t : Y.Variables) (x : Call) → TakesBefore g C L end t x ↔ Takes g C L end t x
  calls_unchanged h t x = (takes_now g C L end t x, takes_before g C L parity end t (books g C opening calls answers) x (run_by g C (Takes g C L) (Stands g C L parity) (stands_step g C L parity) first end opening calls answers first_stands h))
