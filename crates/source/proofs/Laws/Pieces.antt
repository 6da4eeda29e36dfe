-- The pieces of a superblock's interval: each is contiguous.
use Rattle.std.specs.Prelude.{Bool, true, false, ◌≡◌}
use Rattle.std.proofs.Common.{subst}
use Rattle.std.proofs.Math.Option.{some}
use Rattle.layout.specs.declared.Geometry.{Geometry}
use Rattle.interval.specs.declared.JournalInterval.{JournalInterval}
use Rattle.interval.specs.Interval.{interval}
use Rattle.interval.specs.Facts.{ValidJournalInterval, ContiguousJournalInterval}
use Rattle.interval.proofs.Laws.{Contiguous?, parts_fit}
use Rattle.superblock.specs.declared.Superblock.{Superblock}
use Rattle.superblock.specs.Laws.{WFSuperblock}
use Rattle.source.specs.JournalCache.{journal_interval_of_superblock}

module _ (g : Geometry) (v : Superblock) (wf : WFSuperblock g v) where
  pub spanned_valid : ValidJournalInterval g (interval v.journalStart v.journalLen)
  spanned_valid = record { start_in = wf.start_in; len_in = wf.len_in }

  pub piece_contiguous : (which : Bool) (u : JournalInterval) → journal_interval_of_superblock g which v ≡ some u → ContiguousJournalInterval g u
  piece_contiguous false u e = subst (Contiguous? g) e (parts_fit g (interval v.journalStart v.journalLen) spanned_valid).front_contiguous
  piece_contiguous true u e = subst (Contiguous? g) e (parts_fit g (interval v.journalStart v.journalLen) spanned_valid).back_contiguous
