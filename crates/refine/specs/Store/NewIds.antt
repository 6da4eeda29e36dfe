-- An id under which nothing waits at the disk is new to the disk as it is seen.
use Rattle.std.specs.Prelude.{ℕ, Bool, ◌≡◌, List, take}
use Rattle.std.proofs.Math.Bool.{true, false}
use Rattle.std.proofs.Common.{sym, ◌∙◌}
use Rattle.std.proofs.Math.Path.{ap}
use Rattle.laws.specs.Choice.{neither_left, neither_right, true_false}
use Rattle.laws.specs.Sets.{Ids, keys, is_key, ids_of, at}
use Rattle.laws.specs.Maps.{none_if}
use Rattle.layout.specs.declared.Geometry.{Geometry}
use Rattle.tables.specs.declared.IntervalTable.{IntervalTable}
use Rattle.tables.specs.IntervalTable.{interval_rows, interval_map, SizedIntervals}
use Rattle.tables.proofs.Laws.RowTables.{rows_keys}
use Rattle.tables.proofs.Laws.IntervalTables.{level_intervals}
use Rattle.history.specs.Driver.{New}
use Rattle.disk.specs.declared.Disk.{Disk}
use Rattle.driver.specs.Ids.{holds, least_new, least_is_new}
use Rattle.refine.specs.Disk.View.{disk_of, SizedDisk}

-- the ids of a table of intervals are its map's keys
table_keys : (t : IntervalTable) → SizedIntervals t → keys (interval_map t) ≡ ids_of (take t.count t.ids)
table_keys t z = rows_keys (interval_rows t) (level_intervals t z)

module _ (g : Geometry) (blocks marks : List ℕ) (d : Disk) (z : SizedDisk d) where
  new_id : (id : ℕ) → holds d id ≡ false → New (disk_of g blocks marks d) id
  unfolding holds
  new_id id e =
      let reads = neither_left _ _ (neither_left _ _ (neither_left _ _ e)) in
      record {
        superblocks = two (neither_left _ _ reads) (neither_right _ _ reads);
        journal =
            none_if ((disk_of g blocks marks d).req_read_journals id)
            (λ v q.
            true_false
            (sym (ap is_key q) ∙ ap (λ (s : Ids). s id) (table_keys d.journalReads z.journal_reads_is) ∙ neither_right _ _ (neither_left _ _ (neither_left _ _ e))));
      }
    where
      two : ids_of (take d.superblockReads.first.count d.superblockReads.first.ids) id ≡ false
          → ids_of (take d.superblockReads.second.count d.superblockReads.second.ids) id ≡ false
          → (which : Bool) → at (disk_of g blocks marks d).req_read_superblocks which id ≡ false
      two p q false = p
      two p q true = q

  -- the least is
  pub least_new_is : New (disk_of g blocks marks d) (least_new d)
  least_new_is = new_id (least_new d) (least_is_new d z.reads1 z.reads2 z.journal_reads_is z.journal_writes_is)
