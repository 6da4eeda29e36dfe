-- A load's last call, from any state that meets question 2: where every piece that is there is in, and they parse, the machine is at Ready with what
-- they parse to.
use Rattle.std.specs.Prelude.{Bool, true, false, ◌≡◌, refl, List}
use Rattle.std.proofs.Math.Option.{some}
use Rattle.layout.specs.declared.Geometry.{Geometry}
use Rattle.interval.specs.declared.JournalInterval.{JournalInterval}
use Rattle.superblock.specs.Laws.{WFSuperblock}
use Rattle.laws.specs.Sets.{at}
use Rattle.codec.specs.Codec.{JournalEntry, JournalRange, Codec}
use Rattle.source.specs.JournalDisk as D
use Rattle.source.specs.JournalDisk.{NoDiskOp}
use Rattle.source.specs.JournalCache as M
use Rattle.source.specs.JournalCache.{FinishLoadingOtherPhaseStep, journal_interval_of_superblock, loaded}
use Rattle.source.specs.Limits.{Limits}
use Rattle.source.specs.Meets.{SystemMeets}
use Rattle.source.proofs.Laws.Loaded.{loaded_state, loaded_clauses}
use Rattle.source.specs.Departures.{Source, MachineStep}
use Rattle.history.specs.Ledger.{finish_other}
use Rattle.history.specs.Statement.{tied_finish_other, Takes}

-- a piece that is there is in
abbrev pub PieceIn : Geometry → M.LoadingOtherVariables → Bool → Type 0
PieceIn g s which = (u : JournalInterval) → journal_interval_of_superblock g which s.superblock ≡ some u → (jr : JournalRange) × (at s.journal_pieces which ≡ some jr)

abbrev pub finish_takes : (g : Geometry) (C : Codec) (L : Limits) (s : M.LoadingOtherVariables) (d : D.Variables) (es : List JournalEntry)
    → SystemMeets g L (record { machine = M.Variables.LoadingOther s; disk = d }) → PieceIn g s false → PieceIn g s true → C.parse_journal_range (loaded g s) ≡ some es
    → Takes g C L (record { machine = M.Variables.LoadingOther s; disk = d }) (record { machine = M.Variables.Ready (loaded_state s es); disk = d }) finish_other
finish_takes g C L s d es meets front back parses =
    let wf : WFSuperblock g s.superblock = meets.machine.inv.superblock_wf in
    record {
      event = MachineStep NoDiskOp (Source FinishLoadingOtherPhaseStep);
      tied = tied_finish_other;
      allowed =
          record {
            meets = meets;
            step =
                record {
                  machine =
                      record {
                        source = loaded_clauses g C s es (record { start_in = wf.start_in; len_in = wf.len_in; front_in_is = front; back_in_is = back; parses = parses });
                        position_is = refl;
                      };
                  disk = record { next = refl };
                };
          };
    }
