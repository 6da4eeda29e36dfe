-- The crash against 001's Crash with a picture (`DiskCrash⁺`): the blocks that a row in use covers are those that 001 counts as touched, and
-- the crash is sound, complete and refused as the operations are.
use Rattle.std.specs.Prelude.{ℕ, ◌<◌, true, false, ◌≡◌, refl, List, length, get_or, Ok, Err}
use Rattle.std.proofs.Common.{sym, ◌∙◌, ap, subst, inl, ⊎_elim, arith}
use Rattle.std.proofs.Math.Option.{Option, none}
use Rattle.laws.specs.Choice.{not_so, split_bool, true_false, unless_done, unless_kept}
use Rattle.laws.specs.Maps.{Values}
use Rattle.laws.specs.Sets.{both}
use Rattle.refusal.specs.declared.Refusal.{Refusal}
use Rattle.layout.specs.declared.Geometry.{Geometry}
use Rattle.interval.specs.declared.JournalInterval.{JournalInterval}
use Rattle.interval.specs.Interval.{interval}
use Rattle.interval.specs.Facts.{ContiguousJournalInterval}
use Rattle.interval.specs.Journal.{JournalBlock}
use Rattle.journal.specs.Asked.{journal_blocks, journal_marks, asked_journal}
use Rattle.journal.specs.Cells.{cells, length_cells, cell_at_is}
use Rattle.tables.specs.declared.IntervalTable.{IntervalTable}
use Rattle.tables.specs.IntervalTable.{interval_rows, interval_map, SizedIntervals}
use Rattle.tables.proofs.Laws.IdTables.{ids_empty}
use Rattle.tables.proofs.Laws.IntervalTables.{intervals_empty, level_intervals}
use Rattle.tables.proofs.Laws.RowTables.{rows_place, rows_at}
use Rattle.source.specs.JournalDisk as D
use Rattle.source.specs.JournalDisk.{JournalUntouched}
use Rattle.source.specs.Departures.{DiskCrash⁺}
use Rattle.source.specs.Limits.{limits}
use Rattle.source.specs.Within.{Crashed, DiskAllowed, Picture}
use Rattle.source.proofs.Laws.Unique.{disk_crash_one}
use Rattle.disk.specs.declared.Disk.{Disk}
use Rattle.disk.specs.Disk.{DiskStepped}
use Rattle.disk.specs.Laws.Answers.{done_asked, asked_done, refused_asked, refused_same}
use Rattle.crash.specs.Picture.{in_row, covered, crashed_blocks, crashed_marks}
use Rattle.crash.specs.Whole.{crashed_disk, ask_crash, crash, crash_blocks, crash_marks}
use Rattle.crash.specs.Laws.Rows.{row_facts, facts_row, covered_in, covered_some}
use Rattle.crash.specs.Laws.Memory.{cell_taken, cell_kept}
use Rattle.crash.specs.Laws.Whole.{crash_disk, crash_picture, asks_crash, own_crash_blocks, own_crash_marks}
use Rattle.refine.specs.Disk.View.{disk_of, SizedDisk, Table, DiskTables, Lent}
use Rattle.refine.specs.Disk.Meets.{Met, disk_met, met_disk, counted_own}
use Rattle.refine.specs.Disk.Picture.{picture_bytes, picture_marks, picture_lent, picture_cells}

-- a block is covered exactly where 001 says that it is not untouched
module _ (g : Geometry) (t : IntervalTable) (l : SizedIntervals t) (i : ℕ) where
  pub covered_touched : Table t.count t.ids → covered t i ≡ true → JournalUntouched g i (interval_map t) → ⊥
  covered_touched k e u =
      let r = covered_some i t (interval 0 0) e in
      u (get_or t.ids r.0 0) (get_or t.intervals r.0 (interval 0 0))
      (rows_at (interval_rows t) (level_intervals t l) t.count (counted_own t.count t.ids k) (interval 0 0) r.0 r.1)
      (inl (row_facts (get_or t.intervals r.0 (interval 0 0)) i r.2))

  pub free_untouched : Values (ContiguousJournalInterval g) (interval_map t) → covered t i ≡ false → JournalUntouched g i (interval_map t)
  free_untouched f e id v q r =
      let p = rows_place (interval_rows t) (level_intervals t l) (interval 0 0) id v q in
      let n = (f id v q).end_in in
      let row : in_row v i ≡ true = ⊎_elim (λ h. facts_row v i h.0 h.1) (λ h. absurd (let m = h.1 in omega arith)) r in
      let c : covered t i ≡ true =
      covered_in i t (interval 0 0) p.0 p.1 (omega (arith, p.2, l.ids_long, l.intervals_long)) (ap (λ (x : JournalInterval). in_row x i) p.4 ∙ row)
      in
      true_false (sym c ∙ e)

-- a block after the crash: the picture's, or as it was
module _ (g : Geometry) (t : IntervalTable) (picture pictured blocks marks : List ℕ) (l : Lent g blocks marks) (p : Lent g picture pictured) (i : ℕ) (h : i < g.blocks) where
  block_taken : covered t i ≡ true → get_or (cells g (crashed_blocks t picture blocks) (crashed_marks t pictured marks)) i none ≡ get_or (cells g picture pictured) i none
  block_taken c =
      cell_at_is g.blocks (crashed_blocks t picture blocks) (crashed_marks t pictured marks) i h
      ∙ cell_taken t picture pictured blocks marks g.blocks p.blocks_right.size l.blocks_right.size i h p.marks_right.size l.marks_right.size c
      ∙ sym (cell_at_is g.blocks picture pictured i h)

  block_kept : covered t i ≡ false → get_or (cells g blocks marks) i none ≡ get_or (cells g (crashed_blocks t picture blocks) (crashed_marks t pictured marks)) i none
  block_kept c =
      cell_at_is g.blocks blocks marks i h
      ∙ sym (cell_kept t picture pictured blocks marks g.blocks p.blocks_right.size l.blocks_right.size i h p.marks_right.size l.marks_right.size c)
      ∙ sym (cell_at_is g.blocks (crashed_blocks t picture blocks) (crashed_marks t pictured marks) i h)

module _ (g : Geometry) (d : Disk) (picture pictured blocks marks : List ℕ) where
  -- the view of what a crash leaves
  abbrev pub crashed_view : D.Variables
  crashed_view = disk_of g (crashed_blocks d.journalWrites picture blocks) (crashed_marks d.journalWrites pictured marks) (crashed_disk d)

  -- the source's clauses; and no other state meets them
  pub crash_clauses : (z : SizedDisk d) → Met g blocks marks d z → Lent g picture pictured → DiskCrash⁺ g (disk_of g blocks marks d) crashed_view (cells g picture pictured)
  crash_clauses z m p =
      record {
        source =
            record {
              no_superblock_reads = λ j. both (ids_empty j);
              no_journal_reads = intervals_empty;
              no_superblock_writes = refl;
              no_journal_writes = intervals_empty;
              superblocks_kept = refl;
              journal_kept =
                  record {
                    size = length_cells g.blocks (crashed_blocks d.journalWrites picture blocks) (crashed_marks d.journalWrites pictured marks) ∙ sym (length_cells g.blocks blocks marks);
                    kept = λ i l u.
                        block_kept g d.journalWrites picture pictured blocks marks m.lent p i (in_ring i l)
                        (not_so (covered d.journalWrites i) (λ c. covered_touched g d.journalWrites z.journal_writes_is i m.tables.journal_writes_is c u));
                  };
            };
        from_picture = λ i l n.
            split_bool (covered d.journalWrites i)
            (λ c. block_taken g d.journalWrites picture pictured blocks marks m.lent p i (in_ring i l) c)
            (λ c. absurd (n (free_untouched g d.journalWrites z.journal_writes_is i m.meets.shape.writes_contiguous c)));
      }
    where
      in_ring : (i : ℕ) → i < length (cells g blocks marks) → i < g.blocks
      in_ring i l = omega (arith, l, length_cells g.blocks blocks marks)

  pub crash_one : (z : SizedDisk d) → Met g blocks marks d z → Lent g picture pictured → (s' : D.Variables) → DiskCrash⁺ g (disk_of g blocks marks d) s' (cells g picture pictured) → s' ≡ crashed_view
  crash_one z m p s' k = disk_crash_one g (disk_of g blocks marks d) s' crashed_view (cells g picture pictured) k (crash_clauses z m p)

  -- a yes in the document's words, and back
  asked_met : (z : SizedDisk d) → ask_crash g d picture pictured blocks marks ≡ 0 → Met g blocks marks d z
  asked_met z e = disk_met g blocks marks d z (crash_disk g d picture pictured blocks marks e)

  asked_lent : ask_crash g d picture pictured blocks marks ≡ 0 → Lent g picture pictured
  asked_lent e =
      let j = crash_picture g d picture pictured blocks marks e in
      record { blocks_right = journal_blocks g picture pictured j; marks_right = journal_marks g picture pictured j }

  met_asked : (z : SizedDisk d) → Met g blocks marks d z → Lent g picture pictured → ask_crash g d picture pictured blocks marks ≡ 0
  met_asked z m p =
      asks_crash g d picture pictured blocks marks (met_disk g blocks marks d z m) (asked_journal g picture pictured p.blocks_right p.marks_right)

  -- the disk and lent memory after a crash that is done
  abbrev pub crash_view : D.Variables
  crash_view = disk_of g (crash_blocks g d picture pictured blocks marks) (crash_marks g d picture pictured blocks marks) (crash g d picture pictured blocks marks).disk

  done_view : ask_crash g d picture pictured blocks marks ≡ 0 → crash_view ≡ crashed_view
  done_view e =
      let q : ℕ = ask_crash g d picture pictured blocks marks in
      λ i.
      disk_of g (unless_done q blocks (crashed_blocks d.journalWrites picture blocks) e i) (unless_done q marks (crashed_marks d.journalWrites pictured marks) e i)
      (asked_done q (crashed_disk d) d e i).disk

  pub crash_sound : SizedDisk d → (crash g d picture pictured blocks marks).answer ≡ Ok record {}
      → DiskAllowed g limits (disk_of g blocks marks d) crash_view (Crashed (cells g picture pictured))
  crash_sound z e =
      let e0 = done_asked (ask_crash g d picture pictured blocks marks) (crashed_disk d) d e in
      let m = asked_met z e0 in
      record {
        meets = m.meets;
        step = subst (λ (x : D.Variables). DiskCrash⁺ g (disk_of g blocks marks d) x (cells g picture pictured)) (sym (done_view e0)) (crash_clauses z m (asked_lent e0));
      }

  -- with a lent picture: the source's crash is done, and leads where the source's does
  pub crash_lent_complete : SizedDisk d → DiskTables d → Lent g blocks marks → Lent g picture pictured → (s' : D.Variables)
      → DiskAllowed g limits (disk_of g blocks marks d) s' (Crashed (cells g picture pictured))
      → ((crash g d picture pictured blocks marks).answer ≡ Ok record {}) × (crash_view ≡ s')
  crash_lent_complete z t l p s' a =
      let m : Met g blocks marks d z = record { lent = l; tables = t; meets = a.meets } in
      let e0 : ask_crash g d picture pictured blocks marks ≡ 0 = met_asked z m p in (
        ap (λ (x : DiskStepped). x.answer) (asked_done (ask_crash g d picture pictured blocks marks) (crashed_disk d) d e0),
        done_view e0 ∙ sym (crash_one z m p s' a.step),
      )

  pub crash_refused : (n : Refusal) → (crash g d picture pictured blocks marks).answer ≡ Err n
      → ((crash g d picture pictured blocks marks).disk ≡ d) × (crash_blocks g d picture pictured blocks marks ≡ blocks) × (crash_marks g d picture pictured blocks marks ≡ marks)
  crash_refused n e =
      let q : ℕ = ask_crash g d picture pictured blocks marks in
      let h = refused_asked q (crashed_disk d) d n e in (
        refused_same q (crashed_disk d) d n e,
        unless_kept q blocks (crashed_blocks d.journalWrites picture blocks) h,
        unless_kept q marks (crashed_marks d.journalWrites pictured marks) h,
      )

module _ (g : Geometry) (d : Disk) (blocks marks : List ℕ) where
  -- any picture that is within the limits: some lent blocks and marks show it, and the crash with them is done
  pub crash_complete : SizedDisk d → DiskTables d → Lent g blocks marks → (picture : List (Option JournalBlock)) (s' : D.Variables)
      → DiskAllowed g limits (disk_of g blocks marks d) s' (Crashed picture) → Picture g picture
      → ((crash g d (picture_bytes picture) (picture_marks picture) blocks marks).answer ≡ Ok record {})
      × (crash_view g d (picture_bytes picture) (picture_marks picture) blocks marks ≡ s')
      × (cells g (picture_bytes picture) (picture_marks picture) ≡ picture)
  crash_complete z t l picture s' a h =
      let shown = picture_cells g picture h in
      let done =
      crash_lent_complete g d (picture_bytes picture) (picture_marks picture) blocks marks z t l (picture_lent g picture h l.blocks_right.geometry) s'
      (subst (λ (x : List (Option JournalBlock)). DiskAllowed g limits (disk_of g blocks marks d) s' (Crashed x)) (sym shown) a)
      in
      (done.0, done.1, shown)

  -- the crash in place, whose picture is the disk's own content: the same of a lent memory that stays as it is
  pub crash_in_place_sound : SizedDisk d → (crash g d blocks marks blocks marks).answer ≡ Ok record {}
      → DiskAllowed g limits (disk_of g blocks marks d) (disk_of g blocks marks (crash g d blocks marks blocks marks).disk) (Crashed (cells g blocks marks))
  crash_in_place_sound z e =
      subst (λ (x : D.Variables). DiskAllowed g limits (disk_of g blocks marks d) x (Crashed (cells g blocks marks)))
      (λ i. disk_of g (own_crash_blocks g d blocks marks i) (own_crash_marks g d blocks marks i) (crash g d blocks marks blocks marks).disk)
      (crash_sound g d blocks marks blocks marks z e)

  pub crash_in_place_complete : SizedDisk d → DiskTables d → Lent g blocks marks → (s' : D.Variables)
      → DiskAllowed g limits (disk_of g blocks marks d) s' (Crashed (cells g blocks marks))
      → ((crash g d blocks marks blocks marks).answer ≡ Ok record {}) × (disk_of g blocks marks (crash g d blocks marks blocks marks).disk ≡ s')
  crash_in_place_complete z t l s' a =
      let done = crash_lent_complete g d blocks marks blocks marks z t l l s' a in (
        done.0,
        sym (λ i. disk_of g (own_crash_blocks g d blocks marks i) (own_crash_marks g d blocks marks i) (crash g d blocks marks blocks marks).disk) ∙ done.1,
      )
