-- A crash, with a picture and in place: the disk's half is 001's, the machine is 000's Init.
use Rattle.std.specs.Prelude.{◌≡◌}
use Rattle.std.proofs.Common.{subst}
use Rattle.layout.specs.declared.Geometry.{Geometry}
use Rattle.codec.specs.Format.{format}
use Rattle.journal.specs.Memory.{ask_journal}
use Rattle.journal.specs.Cells.{cells}
use Rattle.source.specs.JournalDisk as D
use Rattle.source.specs.Limits.{limits}
use Rattle.source.specs.Departures.{DiskCrash⁺, CrashStep}
use Rattle.history.specs.Statement.{Takes, tied_crash}
use Rattle.crash.specs.Picture.{crashed_blocks, crashed_marks}
use Rattle.crash.specs.Whole.{crashed_disk}
use Rattle.crash.specs.Laws.Memory.{own_blocks, own_marks}
use Rattle.store.specs.declared.Store.{Store}
use Rattle.store.specs.Lent.{Lent, machine_lent, ask_store, with_journal}
use Rattle.store.specs.Steps.{crashed}
use Rattle.calls.specs.declared.calls.Step.TheVariants as step
use Rattle.calls.specs.Given.{Given}
use Rattle.refine.specs.Disk.View.{disk_of}
use Rattle.refine.specs.Disk.Picture.{journal_lent}
use Rattle.refine.specs.Disk.Crash.{crash_clauses}
use Rattle.refine.specs.Machine.MachineInitial.{initial_seen}
use Rattle.refine.specs.Store.Seen.{seen, SizedStore, store_met, met_system, call_of}

module _ (g : Geometry) (l : Lent) (v : Given) (s : Store) (z : SizedStore s) (e : ask_store g l s ≡ 0) where
  pub crash_takes : ask_journal g v.picture v.pictured ≡ 0
      → Takes g format limits (seen g l s)
      (seen g (with_journal l (crashed_blocks s.disk.journalWrites v.picture l.blocks) (crashed_marks s.disk.journalWrites v.pictured l.marks)) (crashed s))
      (call_of v step.Crash)
  crash_takes q =
      let m = store_met g l s z e in
      record {
        event = CrashStep (cells g v.picture v.pictured);
        tied = tied_crash;
        allowed =
            record {
              meets = met_system g l s z m;
              step =
                  record {
                    machine = initial_seen g (machine_lent l);
                    disk = crash_clauses g s.disk v.picture v.pictured l.blocks l.marks z.disk m.disk (journal_lent g v.picture v.pictured q);
                  };
            };
      }

  pub crash_in_place_takes : Takes g format limits (seen g l s) (seen g l (crashed s)) (call_of v step.CrashInPlace)
  crash_in_place_takes =
      let m = store_met g l s z e in
      let clauses = crash_clauses g s.disk l.blocks l.marks l.blocks l.marks z.disk m.disk m.disk.lent in
      record {
        event = CrashStep (cells g l.blocks l.marks);
        tied = tied_crash;
        allowed =
            record {
              meets = met_system g l s z m;
              step =
                  record {
                    machine = initial_seen g (machine_lent l);
                    disk =
                        subst (λ (x : D.Variables). DiskCrash⁺ g (disk_of g l.blocks l.marks s.disk) x (cells g l.blocks l.marks))
                        (λ i. disk_of g (own_blocks s.disk.journalWrites l.blocks i) (own_marks s.disk.journalWrites l.marks i) (crashed_disk s.disk))
                        clauses;
                  };
            };
      }
