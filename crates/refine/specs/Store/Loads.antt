-- A store of the code at rest, whatever led to it: where its disk holds what some ledger keeps, the code makes a load of it to Ready, every call taken.
use Rattle.std.specs.Prelude.{ℕ, Bool, true, false, ◌≡◌, List, [], ◌∷◌, map}
use Rattle.std.proofs.Math.Path.{refl}
use Rattle.std.proofs.Common.{sym, ◌∙◌, ap, subst, subst₂, arith}
use Rattle.std.proofs.Math.Option.{Option}
use Rattle.laws.specs.Choice.{false_true}
use Rattle.laws.specs.Cut.{lengths}
use Rattle.laws.specs.Fold.{sum}
use Rattle.laws.specs.Sets.{AtMost, none_few, Two, at}
use Rattle.layout.specs.declared.Geometry.{Geometry}
use Rattle.superblock.specs.declared.Superblock.{Superblock}
use Rattle.codec.specs.Codec.{Sized}
use Rattle.codec.specs.Format.{format}
use Rattle.journal.specs.Cells.{length_cells}
use Rattle.journal.specs.Blocks.{cell_size}
use Rattle.source.specs.JournalCache as M
use Rattle.source.specs.JournalSystem as Y
use Rattle.source.specs.Limits.{limits}
use Rattle.history.specs.Ledger as ledger
use Rattle.history.specs.Ledger.{Call, Ledger, shown}
use Rattle.history.specs.Statement.{Ran, OnlyLoads, loads, ready_by}
use Rattle.history.proofs.Simulation.Relation.{super_of, Sim}
use Rattle.history.proofs.Loads.Comes.{load_calls, taken, Comes, here, by, comes_loads}
use Rattle.history.proofs.Loads.Superblocks.{resting, limits_room}
use Rattle.history.proofs.Loads.Loads.{comes_up}
use Rattle.refine.specs.Store.Done.{StoreForm}
use Rattle.refine.specs.Store.Within.{Brings}
use Rattle.refine.specs.Store.History.{State, Made, state_seen, code_store}
use Rattle.refine.specs.Store.Follows.{Lived, AllBring, done, ◌and◌, Fits, Followed, follow}

-- a load brings no entries
loads_bring : (x : Call) → loads x ≡ true → Brings x
unfolding loads
loads_bring (ledger.write_journal id1 id2) e = tt
loads_bring (ledger.journal_written id) e = tt
loads_bring (ledger.commit_log id) e = tt
loads_bring (ledger.commit_location id) e = tt
loads_bring (ledger.superblock_written id) e = tt
loads_bring (ledger.read_journal which id) e = tt
loads_bring (ledger.journal_read id whole) e = tt
loads_bring (ledger.read_superblock which id) e = tt
loads_bring (ledger.superblock_read which id whole) e = tt
loads_bring ledger.finish_superblocks e = tt
loads_bring ledger.finish_other e = tt
loads_bring ledger.freeze e = tt
loads_bring (ledger.receive loc) e = tt
loads_bring (ledger.add es) e = false_true e
loads_bring (ledger.replay es) e = false_true e
loads_bring (ledger.push_sync id) e = tt
loads_bring (ledger.pop_sync id) e = tt
loads_bring ledger.no_op e = tt
loads_bring (ledger.ask_again which) e = tt
loads_bring (ledger.land which) e = tt
loads_bring ledger.crash e = tt
loads_bring ledger.nonsense e = tt

-- as many answers as calls
taken_map : {X : Type 0} (f : X → Call) (xs : List X) → taken (map f xs) ≡ map (λ x. true) xs
taken_map f [] = refl
taken_map f (x ∷ xs) = ap (λ (bs : List Bool). true ∷ bs) (taken_map f xs)

module _ (g : Geometry) where
  comes_lived : {s t : Y.Variables} {xs : List Call} → Comes g format limits s xs t → Lived g s xs (taken xs) t
  comes_lived here = refl
  comes_lived (by {u = u} h e r) = (u, h, comes_lived r)

  comes_bring : {s t : Y.Variables} {xs : List Call} → Comes g format limits s xs t → AllBring xs
  comes_bring here = done
  comes_bring (by {x = x} h e r) = loads_bring x e and comes_bring r

  pub state_sized : (s : State) → StoreForm g s.lent s.store → Sized (state_seen g s).disk.journal
  state_sized s f = cell_size g.blocks s.lent.blocks s.lent.marks f.disk_lent.blocks_right.size

  -- a machine that came up, over a disk at rest, is within the limits
  up_fits : (v : ledger.Shown) (w : Bool) (slots : Two (Option Superblock)) (s : State) → StoreForm g s.lent s.store
      → Fits g (record { machine = M.Variables.Ready (ready_by v w); disk = resting slots (state_seen g s).disk.journal })
  unfolding lengths sum
  up_fits v w slots s f =
      record {
        machine = record { sync_few = none_few _; writes_few = none_few _; pending_few = omega arith; pending_small = omega (arith, nothing) };
        disk = record { superblock_reads_few = few; journal_reads_few = none_few _; journal_writes_few = none_few _ };
        size = length_cells g.blocks s.lent.blocks s.lent.marks;
        block_size = state_sized s f;
      }
    where
      nothing : sum (lengths {A = ℕ} []) ≡ 0
      nothing = refl

      few : (which : Bool) → AtMost limits.superblockReads (at (resting slots (state_seen g s).disk.journal).req_read_superblocks which)
      few true = none_few _
      few false = none_few _

  -- reads answered whole and the two finishing steps, every call taken, to a machine that is seen as `ready`
  pub record Load (s : State) : Type 0 where
    pub calls : List Made
    pub end : State
    pub ready : M.ReadyVariables
    pub ran : Ran (code_store g) s calls (map (λ x. true) calls) end
    pub only_loads : OnlyLoads (map (code_store g).call calls) (map (λ x. true) calls)
    pub is_ready : (state_seen g end).machine ≡ M.Variables.Ready ready

  pub rest_loads : (p : ℕ) (l : Ledger) (t : State) (slots : Two (Option Superblock)) → StoreForm g t.lent t.store
      → state_seen g t ≡ record { machine = M.Variables.LoadingSuperblock M.initial; disk = resting slots (state_seen g t).disk.journal }
      → Sim g format p (M.Variables.LoadingSuperblock M.initial) (resting slots (state_seen g t).disk.journal) l → Load t
  rest_loads p l t slots form rests z =
      let xs : List Call = load_calls g (super_of format l.kept) in
      let end : Y.Variables = record { machine = M.Variables.Ready (ready_by (shown format l) z.slot); disk = resting slots (state_seen g t).disk.journal } in
      let c = comes_up g format limits limits_room p slots (state_seen g t).disk.journal l z (state_sized t form) in
      let f : Followed g t xs (taken xs) end =
      follow g t xs (taken xs) end form (subst (λ (y : Y.Variables). Lived g y xs (taken xs) end) (sym rests) (comes_lived c)) (up_fits (shown format l) z.slot slots t form) (comes_bring c)
      in
      let all : taken xs ≡ map (λ x. true) f.calls = ap taken (sym f.heard) ∙ taken_map (code_store g).call f.calls in
      record {
        calls = f.calls;
        end = f.end;
        ready = ready_by (shown format l) z.slot;
        ran = subst (λ (bs : List Bool). Ran (code_store g) t f.calls bs f.end) all f.ran;
        only_loads = subst₂ OnlyLoads (sym f.heard) all (comes_loads c);
        is_ready = ap (λ (y : Y.Variables). y.machine) f.ends;
      }
