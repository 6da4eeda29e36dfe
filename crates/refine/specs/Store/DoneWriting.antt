-- WriteBackJournalReq of the source is taken: its range is the one that the machine sends, and the disk receives it where the source's does.
use Prim.Native.Nat.{ℕ}
use Rattle.std.specs.Prelude.{◌≡◌, []}
use Rattle.std.specs.declared.option.Option as code
use Rattle.std.proofs.Math.Path.{refl, ap, subst}
use Rattle.std.proofs.Common.{sym, ◌∙◌}
use Rattle.laws.specs.Choice.{and_then, and_then_both}
use Rattle.laws.specs.Optional.{option_of}
use Rattle.layout.specs.declared.Geometry.{Geometry}
use Rattle.interval.specs.declared.JournalInterval.{JournalInterval}
use Rattle.range.specs.Form.{encode}
use Rattle.codec.specs.Codec.{JournalRange}
use Rattle.codec.specs.Format.{format}
use Rattle.ready.specs.declared.Bodies.{Bodies}
use Rattle.source.specs.JournalDisk as D
use Rattle.source.specs.JournalCache.{WriteBackJournalReqStep}
use Rattle.source.specs.JournalSystem as Y
use Rattle.source.specs.Limits.{limits, DiskCounts}
use Rattle.source.specs.Departures.{Source, MachineStep, Allowed}
use Rattle.source.specs.Within.{Within}
use Rattle.source.proofs.Laws.Unique.{recv_write_journal_one}
use Rattle.history.specs.Ledger as ledger
use Rattle.history.specs.Statement.{Tied, tied_write}
use Rattle.machine.specs.Questions.{bodies_of}
use Rattle.machine.specs.Working.{ask_write_back_journal_req_step}
use Rattle.requests.specs.Receive.{ask_recv_write_journal}
use Rattle.disk.specs.Laws.Memory.{new_blocks_rows}
use Rattle.store.specs.declared.Store.{Store}
use Rattle.store.specs.Lent.{Lent, machine_lent}
use Rattle.store.specs.Steps.{ask_both, both, write_op, ask_write_journal, written_interval}
use Rattle.calls.specs.declared.calls.Step.TheVariants as step
use Rattle.calls.specs.Given.{Given, given}
use Rattle.calls.specs.Step.{step_answer_with, step_lent_with, ask_picture}
use Rattle.refine.specs.Disk.JournalWrites as disk
use Rattle.refine.specs.Machine.MachineWriting as machine
use Rattle.refine.specs.Store.Seen.{seen, SizedStore, StoreMet}
use Rattle.refine.specs.Store.Writing.{es, range, after, next, lent_written, long, range_is, received}
use Rattle.refine.specs.Store.Done.{StoreForm, form_met, Done}
use Rattle.refine.specs.Store.DoneBy.{done_asked}

module _ (g : Geometry) (l : Lent) (s : Store) where
  -- a write brings nothing beside it
  abbrev nothing : Given
  nothing = given [] [] [] []

  abbrev b : Bodies
  b = bodies_of l.lens s.machine

  abbrev at : JournalInterval
  at = written_interval g s b

  -- the write as the source has it
  abbrev asked : ℕ → code.Option ℕ → JournalRange → D.DiskOp
  asked id1 id2 jr = D.ReqWriteJournalOp id1 (option_of id2) (record { start = at.start; journal = jr })

  -- the disk's half
  module _ (z : SizedStore s) (met : StoreMet g l s z) (id1 : ℕ) (id2 : code.Option ℕ) (a : ask_write_back_journal_req_step g s.machine id1 id2 b ≡ 0) (d' : D.Variables)
      (h : D.Next g (seen g l s).disk d' (asked id1 id2 (range g l nothing s id1 id2))) where
    received_asked : DiskCounts limits d' → ask_recv_write_journal g s.disk.journalWrites id1 id2 at ≡ 0
    received_asked few =
        new_blocks_rows g s.disk.journalWrites id1 id2 at (encode (es g l nothing s id1 id2))
        (disk.clauses_write g s.disk id1 id2 at (encode (es g l nothing s id1 id2)) l.blocks l.marks z.disk met.disk.tables (long g l nothing s id1 id2 z met a) d'
        (subst (λ (x : JournalRange). D.RecvWriteJournal g (seen g l s).disk d' id1 (option_of id2) (record { start = at.start; journal = x }))
        (sym (range_is g l nothing s id1 id2 z met a)) h)
        few.journal_writes_few)

    disk_after : ask_recv_write_journal g s.disk.journalWrites id1 id2 at ≡ 0 → (seen g (after g l nothing s id1 id2) (next g l nothing s id1 id2)).disk ≡ d'
    disk_after d =
        recv_write_journal_one g (seen g l s).disk (seen g (after g l nothing s id1 id2) (next g l nothing s id1 id2)).disk d' id1 (option_of id2)
        (record { start = at.start; journal = range g l nothing s id1 id2 }) (received g l nothing s id1 id2 z met a d) h

  pub write_done : (z : SizedStore s) → StoreForm g l s → (t : Y.Variables) (dop : D.DiskOp) (jr : JournalRange)
      → Allowed g format limits (seen g l s) t (MachineStep dop (Source (WriteBackJournalReqStep jr))) → Within g limits t (MachineStep dop (Source (WriteBackJournalReqStep jr)))
      → Done g l s t (MachineStep dop (Source (WriteBackJournalReqStep jr)))
  unfolding ask_picture step_answer_with step_lent_with both ask_both ask_write_journal
  write_done z f t dop jr y w =
      let met = form_met g l s z f y.meets in
      let c =
      machine.clauses_write g (machine_lent l) s.machine z.machine f.machine y.meets.machine l.blocks f.disk_lent.blocks_right.size t.machine dop jr y.step.machine
      w.machine in
      let id1 : ℕ = c.0 in
      let id2 : (code.Option ℕ) = c.1 in
      let a : ask_write_back_journal_req_step g s.machine id1 id2 b ≡ 0 = c.2 in
      let same : dop ≡ asked id1 id2 (range g l nothing s id1 id2) = c.4 ∙ ap (asked id1 id2) c.5 in
      let h : D.Next g (seen g l s).disk t.disk (asked id1 id2 (range g l nothing s id1 id2)) = subst (D.Next g (seen g l s).disk t.disk) same y.step.disk in
      let d = received_asked z met id1 id2 a t.disk h w.disk in
      let q : ℕ = ask_write_back_journal_req_step g s.machine id1 id2 b in
      let r : ℕ = ask_recv_write_journal g s.disk.journalWrites id1 id2 at in
      let yes : and_then q r ≡ 0 = and_then_both q r a d in
      let machine : (seen g (after g l nothing s id1 id2) (next g l nothing s id1 id2)).machine ≡ t.machine = c.3 in
      let disk : (seen g (after g l nothing s id1 id2) (next g l nothing s id1 id2)).disk ≡ t.disk = disk_after z met id1 id2 a t.disk h d in
      done_asked g l s z f y.meets t (MachineStep dop (Source (WriteBackJournalReqStep jr))) (step.WriteBackJournalReq id1 id2) nothing (write_op g s id1 id2 b)
      (next g l nothing s id1 id2) (after g l nothing s id1 id2)
      (subst (λ (o : D.DiskOp). Tied (ledger.write_journal id1 (option_of id2)) (MachineStep o (Source (WriteBackJournalReqStep jr)))) (sym same) tied_write)
      refl (and_then q r) yes refl (lent_written g l nothing s id1 id2 (and_then q r) yes)
      (λ i. record { machine = machine i; disk = disk i })
