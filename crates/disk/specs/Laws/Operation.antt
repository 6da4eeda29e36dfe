-- What an operation says of a journal read, whole or damaged, and what it touches of lent blocks.
use Rattle.std.specs.declared.option.Option as code
use Rattle.std.specs.Prelude.{ℕ, true, false, ◌≡◌, List, ◌⊎◌}
use Rattle.std.proofs.Math.Path.{refl}
use Rattle.std.proofs.Common.{◌∙◌, ap, inl, inr, ⊎_elim}
use Rattle.laws.specs.Choice.{unless, unless_same, ruin}
use Rattle.layout.specs.declared.Geometry.{Geometry}
use Rattle.interval.specs.declared.JournalInterval.{JournalInterval}
use Rattle.superblock.specs.declared.DiskOp.{DiskOp}
use Rattle.superblock.specs.declared.DiskOp.TheVariants as op
use Rattle.superblock.specs.declared.JournalRead.{JournalRead}
use Rattle.superblock.specs.declared.JournalRead.TheVariants as read
use Rattle.disk.specs.declared.Disk.{Disk}
use Rattle.disk.specs.declared.Touched.{Touched}
use Rattle.disk.specs.declared.Touched.TheVariants as touched
use Rattle.disk.specs.Disk.{DiskStepped, answered}
use Rattle.disk.specs.Operation.{is_whole, touched_by, ask_operation, ask_decision, operation_next, operation_blocks, operation_marks, operation_out}

pub whole_is : is_whole read.Whole ≡ true
unfolding is_whole
whole_is = refl

pub damaged_is : is_whole read.Damaged ≡ false
unfolding is_whole
damaged_is = refl

-- what is touched tells the operation
abbrev touching : Touched → DiskOp
touching (touched.Written id1 id2 v) = op.ReqWriteJournal id1 id2 v.start v.len
touching (touched.Read id journal) = op.RespReadJournal id journal
touching touched.Nothing = op.NoDiskOp

told : (o : DiskOp) → (o ≡ touching (touched_by o)) ⊎ (touched_by o ≡ touched.Nothing)
unfolding touched_by
told (op.ReqReadSuperblock id which) = inr refl
told (op.ReqReadJournal id v) = inr refl
told (op.ReqWriteSuperblock id which superblock) = inr refl
told (op.ReqWriteJournal id1 id2 start count) = inl refl
told (op.RespReadSuperblock id which superblock) = inr refl
told (op.RespReadJournal id journal) = inl refl
told (op.RespWriteSuperblock id which) = inr refl
told (op.RespWriteJournal id) = inr refl
told op.NoDiskOp = inr refl

module _ (o : DiskOp) where
  pub written_is : (id1 : ℕ) (id2 : code.Option ℕ) (v : JournalInterval) → touched_by o ≡ touched.Written id1 id2 v → o ≡ op.ReqWriteJournal id1 id2 v.start v.len
  written_is id1 id2 v h = ⊎_elim (λ e. e ∙ ap touching h) (λ n. ruin (cc)) (told o)

  pub read_is : (id : ℕ) (journal : JournalRead) → touched_by o ≡ touched.Read id journal → o ≡ op.RespReadJournal id journal
  read_is id journal h = ⊎_elim (λ e. e ∙ ap touching h) (λ n. ruin (cc)) (told o)

-- one that touches nothing is decided by value
kept : (q : ℕ) (old new : List ℕ) → old ≡ new → old ≡ unless q old new
kept q old new p = unless_same q old ∙ ap (unless q old) p

module _ (g : Geometry) (d : Disk) (new blocks marks out : List ℕ) where
  untouched : (o : DiskOp) → touched_by o ≡ touched.Nothing
      → (ask_decision g d o ≡ ask_operation g d o new marks)
      × (blocks ≡ operation_blocks o new blocks)
      × (marks ≡ operation_marks o marks)
      × (out ≡ operation_out d o blocks out)
  unfolding touched_by
  untouched (op.ReqReadSuperblock id which) h = (refl, refl, refl, refl)
  untouched (op.ReqReadJournal id v) h = (refl, refl, refl, refl)
  untouched (op.ReqWriteSuperblock id which superblock) h = (refl, refl, refl, refl)
  untouched (op.ReqWriteJournal id1 id2 start count) h = ruin (cc)
  untouched (op.RespReadSuperblock id which superblock) h = (refl, refl, refl, refl)
  untouched (op.RespReadJournal id journal) h = ruin (cc)
  untouched (op.RespWriteSuperblock id which) h = (refl, refl, refl, refl)
  untouched (op.RespWriteJournal id) h = (refl, refl, refl, refl)
  untouched op.NoDiskOp h = (refl, refl, refl, refl)

  pub decided : (o : DiskOp) → touched_by o ≡ touched.Nothing → (x : DiskStepped) → x ≡ answered (ask_decision g d o) (operation_next g d o) d
      → (x ≡ answered (ask_operation g d o new marks) (operation_next g d o) d)
      × ((blocks ≡ unless (ask_operation g d o new marks) blocks (operation_blocks o new blocks))
      × ((marks ≡ unless (ask_operation g d o new marks) marks (operation_marks o marks))
      × (out ≡ unless (ask_operation g d o new marks) out (operation_out d o blocks out))))
  decided o h x e =
      let q = ask_operation g d o new marks in
      let u = untouched o h in
      let a = ap (λ (n : ℕ). answered n (operation_next g d o) d) u.0 in
      (e ∙ a, (kept q _ _ u.1, (kept q _ _ u.2, kept q _ _ u.3)))
