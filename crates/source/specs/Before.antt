-- Question 2 of a system as it was before request S-3: with source 002's own overlap, in which an empty interval strictly inside another overlaps
-- it. All else is as in Meets. A state that met it meets question 2 now (Laws/Overlap).
use Rattle.layout.specs.declared.Geometry.{Geometry}
use Rattle.interval.specs.Overlap.{source_interval_overlap, source_cyclic_interval_overlap}
use Rattle.source.specs.JournalSystem as Y
use Rattle.source.specs.Limits.{Limits}
use Rattle.source.specs.Meets.{MachineMeets, DiskMeets, JoinedBy}

pub record MeetsBefore (g : Geometry) (L : Limits) (s : Y.Variables) : Type 0 where
  pub machine : MachineMeets g L s.machine
  pub disk : DiskMeets g L s.disk
  pub joined : JoinedBy source_interval_overlap source_cyclic_interval_overlap g s
