-- WriteBackJournalReq: the range of the entries that are sent goes from pending memory into the ring of blocks, going round once at most, and the disk
-- receives it as the machine sends it.
use Prim.Native.Nat.{ℕ, ◌*◌, ◌≤◌}
use Rattle.std.specs.Prelude.{◌≡◌, List, length, Ok}
use Rattle.std.specs.declared.option.Option as code
use Rattle.std.proofs.Math.Path.{sym}
use Rattle.std.proofs.Common.{◌∙◌, ap, subst, arith}
use Rattle.laws.specs.Choice.{and_then, and_then_left, and_then_right, unless_done}
use Rattle.laws.specs.Around.{clipped_around_fits}
use Rattle.laws.specs.Optional.{option_of}
use Rattle.layout.specs.declared.Geometry.{Geometry}
use Rattle.interval.specs.declared.JournalInterval.{JournalInterval}
use Rattle.interval.specs.Facts.{interval_facts}
use Rattle.superblock.specs.declared.DiskOp.{DiskOp}
use Rattle.journal.specs.Memory.{update_bytes}
use Rattle.journal.specs.Cells.{blocks_in}
use Rattle.range.specs.Form.{length_width, blocks, encode}
use Rattle.range.specs.Blocks.{length_encode_at}
use Rattle.range.specs.Memory.{view}
use Rattle.codec.specs.Codec.{JournalEntry, JournalRange}
use Rattle.codec.specs.Format.{format}
use Rattle.writer.specs.Ring.{put_view}
use Rattle.source.specs.JournalDisk as D
use Rattle.source.specs.JournalCache.{WriteBackJournalReqStep}
use Rattle.source.specs.Limits.{limits}
use Rattle.source.specs.Departures.{Source}
use Rattle.history.specs.Statement.{Takes, tied_write}
use Rattle.ready.specs.declared.Bodies.{Bodies}
use Rattle.ready.specs.Laws.Asked.{MayWrite, write_asked}
use Rattle.machine.specs.declared.Kind.TheVariants as kind
use Rattle.machine.specs.Questions.{bodies_of}
use Rattle.machine.specs.Working.{sent_of, sent_range, moved_bytes, moved_lens, ask_write_back_journal_req_step, write_back_journal_req_machine}
use Rattle.requests.specs.Receive.{ask_recv_write_journal}
use Rattle.disk.specs.Next.{recv_write_journal_next}
use Rattle.requests.specs.Laws.Receive.{recv_write_journal_asked}
use Rattle.disk.specs.Laws.Memory.{asks_new_blocks}
use Rattle.store.specs.declared.Store.{Store}
use Rattle.store.specs.Store.{store}
use Rattle.store.specs.Lent.{Lent, machine_lent, ask_store, with_pending, with_journal}
use Rattle.store.specs.Steps.{ask_both, both, write_op, ask_write_journal, write_journal, written_interval, written_blocks, written_marks, written_lent}
use Rattle.calls.specs.declared.calls.Step.TheVariants as step
use Rattle.calls.specs.Given.{Given}
use Rattle.refine.specs.Disk.View.{disk_of}
use Rattle.refine.specs.Disk.JournalWrites as disk
use Rattle.refine.specs.Machine.MachineRange.{sent_fits, sent_total, sent_count, range_front, encoded_blocks}
use Rattle.refine.specs.Machine.MachineWork.{work_asked}
use Rattle.refine.specs.Machine.MachineWriting as machine
use Rattle.refine.specs.Store.Seen.{seen, SizedStore, StoreMet, store_met, call_of}
use Rattle.refine.specs.Store.Taken.{answered_takes, machine_takes}

module _ (g : Geometry) (l : Lent) (v : Given) (s : Store) (id1 : ℕ) (id2 : code.Option ℕ) where
  abbrev b : Bodies
  b = bodies_of l.lens s.machine

  -- what is sent: entries, their blocks, and where they go
  abbrev pub es : List JournalEntry
  es = view l.bytes l.lens (sent_of s.machine b).entries

  abbrev pub at : JournalInterval
  at = written_interval g s b

  -- the range, as it would stand at the front of a memory of blocks
  abbrev pub range : JournalRange
  range = blocks_in at.len (sent_range s.machine b l.bytes l.lens l.blocks 0)

  -- lent memory after it
  abbrev pub after : Lent
  after =
      with_journal (with_pending l (moved_bytes s.machine b l.bytes) (moved_lens s.machine b l.lens))
      (written_blocks g s b l.bytes l.lens l.blocks) (written_marks g s b l.marks)

  abbrev pub next : Store
  next = store (write_back_journal_req_machine s.machine id1 id2 b) (recv_write_journal_next g s.disk id1 id2 at)

  pub lent_written : (q : ℕ) → q ≡ 0 → written_lent g l s q b ≡ after
  lent_written q e =
      λ i.
      with_journal (with_pending l (unless_done q l.bytes after.bytes e i) (unless_done q l.lens after.lens e i))
      (unless_done q l.blocks after.blocks e i) (unless_done q l.marks after.marks e i)

  module _ (z : SizedStore s) (met : StoreMet g l s z) (a : ask_write_back_journal_req_step g s.machine id1 id2 b ≡ 0) where
    ready : s.machine.kind ≡ kind.Ready
    unfolding ask_write_back_journal_req_step
    ready = work_asked s.machine (and_then_left _ _ a)

    may : MayWrite g s.machine.ready id1 id2 b
    unfolding ask_write_back_journal_req_step
    may = write_asked g s.machine.ready id1 id2 b (and_then_right _ _ a)

    count : at.len ≡ blocks es
    count = sent_count g (machine_lent l) s.machine ready met.machine.form met.machine.meets may.some_pending

    holds : blocks es ≤ g.blocks
    holds = omega (arith, count, may.fits)

    pub long : length (encode es) ≡ at.len * 4096
    long = length_encode_at length_width es ∙ ap (λ (n : ℕ). n * 4096) (sym count)

    -- the range is the blocks of the encoded entries
    pub range_is : blocks_in at.len (encode es) ≡ range
    range_is =
        ap (λ (n : ℕ). blocks_in n (encode es)) count
        ∙ encoded_blocks es
        ∙ sym
        (range_front l.bytes l.lens (sent_of s.machine b).entries (sent_of s.machine b).bytes l.blocks g.blocks
        (sent_fits g (machine_lent l) s.machine ready met.machine.form met.machine.meets may.some_pending)
        (sent_total g (machine_lent l) s.machine ready met.machine.form met.machine.meets)
        met.disk.lent.blocks_right.size holds)
        ∙ ap (λ (n : ℕ). blocks_in n (sent_range s.machine b l.bytes l.lens l.blocks 0)) (sym count)

    module _ (d : ask_recv_write_journal g s.disk.journalWrites id1 id2 at ≡ 0) where
      -- and goes into the ring as the disk writes its bytes
      ring_is : update_bytes l.blocks at (encode es) ≡ written_blocks g s b l.bytes l.lens l.blocks
      unfolding update_bytes
      ring_is =
          let size = met.disk.lent.blocks_right.size in
          let f = interval_facts g at (recv_write_journal_asked g s.disk.journalWrites id1 id2 at d).valid in
          clipped_around_fits l.blocks (at.start * 4096) (encode es) (omega (arith, long, count, holds, size))
          ∙ sym
          (put_view l.bytes l.lens (sent_of s.machine b).entries (sent_of s.machine b).bytes l.blocks at.start
          (sent_fits g (machine_lent l) s.machine ready met.machine.form met.machine.meets may.some_pending)
          (sent_total g (machine_lent l) s.machine ready met.machine.form met.machine.meets)
          (omega (arith, f.start_in, size)) (omega (arith, holds, size)))

      pub received : D.RecvWriteJournal g (seen g l s).disk (seen g after next).disk id1 (option_of id2) (record { start = at.start; journal = range })
      received =
          subst
          (λ (x : List ℕ × JournalRange).
          D.RecvWriteJournal g (seen g l s).disk (disk_of g x.0 after.marks next.disk) id1 (option_of id2) (record { start = at.start; journal = x.1 }))
          (λ i. (ring_is i, range_is i))
          (disk.write_clauses g s.disk id1 id2 at (encode es) l.blocks l.marks z.disk met.disk
          (asks_new_blocks g s.disk.journalWrites id1 id2 at (encode es) long d))

  pub write_takes : (z : SizedStore s) → ask_store g l s ≡ 0 → (o : DiskOp) → (write_journal g s id1 id2 b).answer ≡ Ok o
      → Takes g format limits (seen g l s) (seen g (written_lent g l s (ask_write_journal g s id1 id2 b) b) (write_journal g s id1 id2 b).store) (call_of v (step.WriteBackJournalReq id1 id2))
  unfolding both ask_both ask_write_journal
  write_takes z e o y =
      let met = store_met g l s z e in
      let q : ℕ = ask_write_back_journal_req_step g s.machine id1 id2 b in
      let r : ℕ = ask_recv_write_journal g s.disk.journalWrites id1 id2 at in
      answered_takes g l s (and_then q r) (write_op g s id1 id2 b) next (written_lent g l s (and_then q r) b) after (call_of v (step.WriteBackJournalReq id1 id2)) o y
      (lent_written (and_then q r))
      (λ h.
      let a = and_then_left q r h in
      let d = and_then_right q r h in
      machine_takes g l s z met (seen g after next) (call_of v (step.WriteBackJournalReq id1 id2))
      (D.ReqWriteJournalOp id1 (option_of id2) (record { start = at.start; journal = range })) (Source (WriteBackJournalReqStep range)) tied_write
      (machine.write_clauses g (machine_lent l) s.machine id1 id2 met.machine l.blocks met.disk.lent.blocks_right.size a)
      (received z met a d))
