-- The first disk: it meets the relation with the ledger that begins from its selected superblock, and of it the ledger reads the two slots
-- alone.
use Rattle.std.specs.Prelude.{ℕ, Bool, true, false, ◌≡◌, List, ◌∷◌, ◌++◌}
use Rattle.std.proofs.Math.Path.{refl, sym, subst}
use Rattle.std.proofs.Common.{◌∙◌, ap}
use Rattle.std.proofs.Math.Option.{Option, some}
use Rattle.laws.specs.Choice.{ruin}
use Rattle.layout.specs.declared.Geometry.{Geometry}
use Rattle.layout.specs.declared.Location.{Location}
use Rattle.superblock.specs.declared.Superblock.{Superblock}
use Rattle.superblock.specs.Superblock.{select_superblock}
use Rattle.superblock.specs.Laws.{WFSuperblock}
use Rattle.laws.specs.Sets.{Two, both, at, same_value}
use Rattle.laws.specs.Maps.{no_keys_some}
use Rattle.codec.specs.Codec.{Codec}
use Rattle.source.specs.JournalCache as M
use Rattle.source.specs.JournalCache.{selected_second, SuperblockUnfinished, SuperblockSuccess}
use Rattle.source.specs.JournalSystem as Y
use Rattle.source.specs.JournalSystem.{superblock_of_disk, superblock_of_disk_wf}
use Rattle.history.specs.Ledger.{Call, crash, begin, books}
use Rattle.codec.specs.Ranges.{codes_none, blocks_none}
use Rattle.history.specs.Statement.{ledger_of}
use Rattle.history.proofs.Journal.Holds.{Holds, holds_none}
use Rattle.history.proofs.Journal.Slots.{parity, picked, picked_is}
use Rattle.history.proofs.Simulation.Relation.{Sim}

-- of the first disk its two slots alone count: neither the machine, nor what proves that they are well formed
pub ledger_alone : (g : Geometry) (C : Codec) (first first' : Y.Variables) (loc loc' : Location) (i : Y.Init g first loc) (i' : Y.Init g first' loc') → first.disk.superblocks ≡ first'.disk.superblocks
    → (calls : List Call) (answers : List Bool) (loading : List Call) (loaded : List Bool)
    → ledger_of g C first loc i calls answers loading loaded ≡ ledger_of g C first' loc' i' calls answers loading loaded
ledger_alone g C first first' loc loc' i i' e calls answers loading loaded =
    λ n. books g C (begin (select_superblock (one n) (two n))) (calls ++ crash ∷ loading) (answers ++ true ∷ loaded)
  where
    one : i.wf.first.value ≡ i'.wf.first.value
    one = same_value (ap (λ (t : Two (Option Superblock)). at t false) (sym e) ∙ i.wf.first.holds) i'.wf.first.holds

    two : i.wf.second.value ≡ i'.wf.second.value
    two = same_value (ap (λ (t : Two (Option Superblock)). at t true) (sym e) ∙ i.wf.second.holds) i'.wf.second.holds

-- the first disk and its ledger
module _ (g : Geometry) (C : Codec) (first : Y.Variables) (loc : Location) (i : Y.Init g first loc) where
  values : Two Superblock
  values = record { first = i.wf.first.value; second = i.wf.second.value }

  start_super : superblock_of_disk g first.disk i.wf ≡ at values (picked values)
  unfolding values
  start_super = picked_is values

  start_wf : WFSuperblock g (superblock_of_disk g first.disk i.wf)
  start_wf = superblock_of_disk_wf g first.disk i.wf

  -- the parity of counter and slot
  abbrev pub first_parity : ℕ
  first_parity = parity (superblock_of_disk g first.disk i.wf).counter (selected_second i.wf.first.value i.wf.second.value)

  pub init_sim : Sim g C first_parity first.machine first.disk (begin (superblock_of_disk g first.disk i.wf))
  unfolding values
  init_sim =
      subst (λ (m : M.Variables). Sim g C first_parity m first.disk (begin (superblock_of_disk g first.disk i.wf))) (sym i.machine)
      (record {
        slot = picked values;
        disk =
            record {
              selected =
                  record {
                    values = values;
                    holds = holds;
                    wf = wf;
                    picks = refl;
                    is = sym start_super ∙ (λ n. record { counter = sb.counter; journalStart = sb.journalStart; journalLen = (i.len_is ∙ sym (blocks_none C)) n; indirectionTableLoc = sb.indirectionTableLoc });
                  };
              parity_is = refl;
              size = i.disk.size;
              holds = subst (Holds g first.disk.journal sb.journalStart) (sym (codes_none C)) (holds_none g first.disk.journal i.disk.size sb.journalStart start_wf.start_in);
              good = tt;
              clear = λ id v e. no_keys_some first.disk.req_write_journals id v i.disk.no_journal_writes e;
            };
        runs = (
          record { writes_are = i.disk.no_superblock_writes; none_writing = i.disk.no_journal_writes; ledger_is = refl },
          λ which v e. ruin (unread which v e),
        );
      })
    where
      sb : Superblock
      sb = superblock_of_disk g first.disk i.wf

      holds : (b : Bool) → at first.disk.superblocks b ≡ some (at values b)
      holds true = i.wf.second.holds
      holds false = i.wf.first.holds

      wf : (b : Bool) → WFSuperblock g (at values b)
      wf true = i.wf.second.wf
      wf false = i.wf.first.wf

      unread : (which : Bool) (v : Superblock) → at (both SuperblockUnfinished) which ≡ SuperblockSuccess v → ◌≡◌ {A = ℕ} 0 1
      unread true v e = cc
      unread false v e = cc
