-- A disk's shape is kept by every operation, by a landing, and by a crash with a picture of N blocks of their size.
use Rattle.std.specs.Prelude.{◌+◌, ◌≡◌, List, length}
use Rattle.std.proofs.Common.{sym, ◌∙◌, subst, arith}
use Rattle.std.proofs.Math.Option.{Option, none}
use mathlib.Core.HLevel.{dec→stable}
use Rattle.std.proofs.Math.Decide.{ℕ_discrete}
use Rattle.std.proofs.Math.ListN.{get_or-eq_default}
use Rattle.laws.specs.Choice.{split_le}
use Rattle.laws.specs.Sets.{Map, bind, none_some}
use Rattle.laws.specs.Maps.{Values, values_bind, values_unbind, no_keys_some}
use Rattle.layout.specs.declared.Geometry.{Geometry}
use Rattle.layout.specs.Geometry.{num_journal_blocks}
use Rattle.interval.specs.declared.JournalInterval.{JournalInterval}
use Rattle.interval.specs.Facts.{ContiguousJournalInterval}
use Rattle.interval.specs.Journal.{JournalBlock}
use Rattle.codec.specs.Codec.{block_size, Sized, SizedBlocks}
use Rattle.codec.specs.Sizes.{sized_update}
use Rattle.source.specs.JournalDisk as D
use Rattle.source.specs.JournalDisk.{ReqId, ReqWriteJournal, DiskOp, ReqReadSuperblockOp, ReqReadJournalOp, ReqWriteSuperblockOp, ReqWriteJournalOp, RespReadSuperblockOp, RespReadJournalOp, RespWriteSuperblockOp, RespWriteJournalOp, NoDiskOp, JournalUntouched, written, written1, written2}
use Rattle.source.specs.Meets.{DiskShape}
use Rattle.source.specs.Departures.{DiskCrash⁺}
use Rattle.source.specs.Within.{WholeBlocks, Picture, DiskEvent, Operation, Internal, Crashed, DiskStep⁺, DiskArguments}

module _ (g : Geometry) (d d' : D.Variables) (h : DiskShape g d) where
  -- by the fields that the shape looks at
  by_disk : {x : D.Variables} → d' ≡ x → DiskShape g x → DiskShape g d'
  by_disk e k = subst (DiskShape g) (sym e) k

  -- a journal write in flight is in one contiguous piece or in two
  write_shape : (id1 : ReqId) (id2 : Option ReqId) (req : ReqWriteJournal) → SizedBlocks (length req.journal) req.journal → D.RecvWriteJournal g d d' id1 id2 req → DiskShape g d'
  write_shape id1 id2 req b k =
      split_le (req.start + length req.journal) (num_journal_blocks g)
      (λ l.
      to (bind d.req_write_journals id1 (written req)) (k.straight l).next
      (values_bind (ContiguousJournalInterval g) d.req_write_journals id1 (written req) h.writes_contiguous (record { valid = k.update.interval_valid; end_in = l })))
      (λ l.
      let w = k.wrapped l in
      let v = k.update.interval_valid in
      to (bind (bind d.req_write_journals id1 (written1 g req)) w.id (written2 g req)) w.next
      (values_bind (ContiguousJournalInterval g) (bind d.req_write_journals id1 (written1 g req)) w.id (written2 g req)
      (values_bind (ContiguousJournalInterval g) d.req_write_journals id1 (written1 g req) h.writes_contiguous
      (record { valid = record { start_in = v.start_in; len_in = omega arith }; end_in = omega (arith, v.start_in) }))
      (record { valid = record { start_in = omega (arith, v.start_in); len_in = omega (arith, v.len_in) }; end_in = omega (arith, v.len_in) })))
    where
      to : (writes : Map JournalInterval) → d' ≡ D.to_journal d'.journal (D.to_req_write_journals writes d) → Values (ContiguousJournalInterval g) writes → DiskShape g d'
      to writes e c =
          by_disk e
          (record {
            reads_contiguous = h.reads_contiguous;
            writes_contiguous = c;
            size = k.update.after_valid;
            block_size = sized_update g d.journal d'.journal (written req) req.journal k.update h.block_size b;
          })

  operation_shape : (dop : DiskOp) → WholeBlocks dop → D.Next g d d' dop → DiskShape g d'
  operation_shape (ReqReadSuperblockOp id which) b k = by_disk k.next (record { reads_contiguous = h.reads_contiguous; writes_contiguous = h.writes_contiguous; size = h.size; block_size = h.block_size })
  operation_shape (ReqReadJournalOp id v) b k =
      by_disk k.next
      (record {
        reads_contiguous = values_bind (ContiguousJournalInterval g) d.req_read_journals id v h.reads_contiguous k.contiguous;
        writes_contiguous = h.writes_contiguous;
        size = h.size;
        block_size = h.block_size;
      })
  operation_shape (ReqWriteSuperblockOp id which req) b k = by_disk k.next (record { reads_contiguous = h.reads_contiguous; writes_contiguous = h.writes_contiguous; size = h.size; block_size = h.block_size })
  operation_shape (ReqWriteJournalOp id1 id2 req) b k = write_shape id1 id2 req b k
  operation_shape (RespReadSuperblockOp id which superblock) b k =
      by_disk k.next (record { reads_contiguous = h.reads_contiguous; writes_contiguous = h.writes_contiguous; size = h.size; block_size = h.block_size })
  operation_shape (RespReadJournalOp id journal) b k =
      by_disk k.next
      (record {
        reads_contiguous = values_unbind (ContiguousJournalInterval g) d.req_read_journals id h.reads_contiguous;
        writes_contiguous = h.writes_contiguous;
        size = h.size;
        block_size = h.block_size;
      })
  operation_shape (RespWriteSuperblockOp id which) b k = by_disk k.next (record { reads_contiguous = h.reads_contiguous; writes_contiguous = h.writes_contiguous; size = h.size; block_size = h.block_size })
  operation_shape (RespWriteJournalOp id) b k =
      by_disk k.next
      (record {
        reads_contiguous = h.reads_contiguous;
        writes_contiguous = values_unbind (ContiguousJournalInterval g) d.req_write_journals id h.writes_contiguous;
        size = h.size;
        block_size = h.block_size;
      })
  operation_shape NoDiskOp b k = by_disk k.next h

  landing_shape : (step : D.InternalStep) → D.NextInternalStep d d' step → DiskShape g d'
  landing_shape (D.InternalStep.ProcessWriteSuperblockStep which) k =
      by_disk k.next (record { reads_contiguous = h.reads_contiguous; writes_contiguous = h.writes_contiguous; size = h.size; block_size = h.block_size })

  -- a block that a crash leaves is the old one or the picture's
  crash_sized : (picture : List (Option JournalBlock)) → Sized picture → DiskCrash⁺ g d d' picture → Sized d'.journal
  crash_sized picture p k i b e =
      split_le (length d.journal) i
      (λ l. none_some (get_or-eq_default d'.journal none (omega (arith, l, k.source.journal_kept.size))) e)
      (λ l.
      dec→stable (ℕ_discrete (length b) block_size)
      (λ n.
      let touched : JournalUntouched g i d.req_write_journals → ⊥ = λ u. n (h.block_size i b (k.source.journal_kept.kept i l u ∙ e)) in
      n (p i b (sym (k.from_picture i l touched) ∙ e))))

  crash_shape : (picture : List (Option JournalBlock)) → Picture g picture → DiskCrash⁺ g d d' picture → DiskShape g d'
  crash_shape picture p k =
      record {
        reads_contiguous = λ id v e. no_keys_some d'.req_read_journals id v k.source.no_journal_reads e;
        writes_contiguous = λ id v e. no_keys_some d'.req_write_journals id v k.source.no_journal_writes e;
        size = k.source.journal_kept.size ∙ h.size;
        block_size = crash_sized picture p.block_size k;
      }

  -- every step of the disk
  pub disk_shape : (event : DiskEvent) → DiskArguments g event → DiskStep⁺ g d d' event → DiskShape g d'
  disk_shape (Operation dop) a k = operation_shape dop a k
  disk_shape (Internal step) a k = landing_shape step k
  disk_shape (Crashed picture) a k = crash_shape picture a k
