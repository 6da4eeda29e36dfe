-- What the disk of a joined store answers, its machine awaits: a NoOp there takes no answer. And a superblock write's answer is of the slot whose
-- write has its id.
use Rattle.std.specs.Prelude.{Bool, true, false, cond, not, ◌≡◌, refl, ◌⊎◌, None, Some}
use Rattle.std.specs.declared.option.Option as code
use Rattle.std.proofs.Common.{sym, ◌∙◌, ap, inl, inr, ⊎_elim, eq-eqb}
use Rattle.std.proofs.Math.Option.{Option, none, some}
use Rattle.laws.specs.Choice.{split_eq, false_true}
use Rattle.laws.specs.Sets.{Ids, empty_ids, Map, no_keys, is_key, Two, both, at, put, at_both, join_there, bind_there, same_value, none_some}
use Rattle.layout.specs.declared.Geometry.{Geometry}
use Rattle.interval.specs.declared.JournalInterval.{JournalInterval}
use Rattle.superblock.specs.declared.Superblock.{Superblock}
use Rattle.codec.specs.Codec.{JournalRange}
use Rattle.source.specs.JournalDisk as D
use Rattle.source.specs.JournalDisk.{ReqId, ReqWriteSuperblockId, RespReadSuperblockOp, RespReadJournalOp, RespWriteSuperblockOp, RespWriteJournalOp}
use Rattle.source.specs.JournalCache as M
use Rattle.source.specs.JournalSystem as Y
use Rattle.source.specs.Meets.{one_id, bind_read, new_write, awaited_superblock_reads, awaited_journal_reads, awaited_superblock_writes, awaited_journal_writes, Joined}
use Rattle.source.specs.Departures.{Awaited}
use Rattle.requests.specs.declared.SuperblockWrite.{SuperblockWrite}
use Rattle.requests.specs.Slots.{SuperblockWrites, is_write, slot_of}
use Rattle.requests.specs.Laws.Pairs.{which_of}
use Rattle.refine.specs.Disk.View.{write_in}

-- one read, one of two in a map, and one write, as they are awaited
one_read : (o : Option ReqId) (id : ReqId) → one_id o id ≡ true → o ≡ some id
one_read none id e = false_true e
one_read (some k) id e =
    split_eq k id (λ h. ap (λ (n : ReqId). some n) h) (λ h. false_true (sym (join_there empty_ids k id h) ∙ e))

one_bound : (o : Option ReqId) (u : Option JournalInterval) (m : Map JournalInterval) (id : ReqId) (v : JournalInterval) → bind_read o u m id ≡ some v
    → (o ≡ some id) ⊎ (m id ≡ some v)
one_bound none u m id v e = inr e
one_bound (some k) none m id v e = inr e
one_bound (some k) (some x) m id v e = split_eq k id (λ h. inl (ap (λ (n : ReqId). some n) h)) (λ h. inr (sym (bind_there m k id x h) ∙ e))

one_write : (o : Option ReqId) (new : Option Superblock) (w : ReqWriteSuperblockId) → new_write o new ≡ some w → o ≡ some w.id
one_write none new w e = none_some refl e
one_write (some k) none w e = none_some refl e
one_write (some k) (some x) w e = ap (λ (n : ReqWriteSuperblockId). some n.id) (same_value refl e)

at_one : (b which : Bool) (x : Option ReqWriteSuperblockId) (w : ReqWriteSuperblockId) → at (put (both none) b x) which ≡ some w → x ≡ some w
at_one false false x w e = e
at_one true true x w e = e
at_one false true x w e = none_some refl e
at_one true false x w e = none_some refl e

-- by the machine's kind
superblock_read_awaited : (m : M.Variables) (which : Bool) (id : ReqId) (o : Option Superblock) → at (awaited_superblock_reads m) which id ≡ true
    → Awaited m (RespReadSuperblockOp id which o)
superblock_read_awaited (M.Variables.Ready s) which id o e = false_true (sym (ap (λ (x : Ids). x id) (at_both empty_ids which)) ∙ e)
superblock_read_awaited (M.Variables.LoadingOther s) which id o e = false_true (sym (ap (λ (x : Ids). x id) (at_both empty_ids which)) ∙ e)
superblock_read_awaited (M.Variables.LoadingSuperblock s) false id o e = one_read (at s.outstanding_superblock_reads false) id e
superblock_read_awaited (M.Variables.LoadingSuperblock s) true id o e = one_read (at s.outstanding_superblock_reads true) id e

journal_read_awaited : (g : Geometry) (m : M.Variables) (id : ReqId) (v : JournalInterval) (o : Option JournalRange) → awaited_journal_reads g m id ≡ some v
    → Awaited m (RespReadJournalOp id o)
journal_read_awaited g (M.Variables.Ready s) id v o e = none_some refl e
journal_read_awaited g (M.Variables.LoadingSuperblock s) id v o e = none_some refl e
journal_read_awaited g (M.Variables.LoadingOther s) id v o e =
    ⊎_elim
    (λ h. (false, h))
    (λ k.
    ⊎_elim
    (λ h. (true, h))
    (λ h. none_some refl h)
    (one_bound (at s.journalReads true) (M.journal_interval_of_superblock g true s.superblock) no_keys id v k))
    (one_bound (at s.journalReads false) (M.journal_interval_of_superblock g false s.superblock)
    (bind_read (at s.journalReads true) (M.journal_interval_of_superblock g true s.superblock) no_keys) id v e)

superblock_write_awaited : (m : M.Variables) (which : Bool) (id : ReqId) (w : ReqWriteSuperblockId) → at (awaited_superblock_writes m) which ≡ some w → id ≡ w.id
    → Awaited m (RespWriteSuperblockOp id which)
superblock_write_awaited (M.Variables.Ready s) which id w e h =
    one_write s.superblock_write s.new_superblock w (at_one (not s.whichSuperblock) which (new_write s.superblock_write s.new_superblock) w e)
    ∙ ap (λ (n : ReqId). some n) (sym h)
superblock_write_awaited (M.Variables.LoadingOther s) which id w e h = none_some (at_both none which) e
superblock_write_awaited (M.Variables.LoadingSuperblock s) which id w e h = none_some (at_both none which) e

journal_write_awaited : (m : M.Variables) (id : ReqId) → awaited_journal_writes m id ≡ true → Awaited m (RespWriteJournalOp id)
journal_write_awaited (M.Variables.Ready s) id e = e
journal_write_awaited (M.Variables.LoadingOther s) id e = false_true e
journal_write_awaited (M.Variables.LoadingSuperblock s) id e = false_true e

-- no machine awaits two superblock writes
one_only : (m : M.Variables) (w : ReqWriteSuperblockId) → at (awaited_superblock_writes m) false ≡ some w → at (awaited_superblock_writes m) true ≡ none
one_only (M.Variables.Ready s) w e = go (not s.whichSuperblock) (new_write s.superblock_write s.new_superblock) e
  where
    go : (b : Bool) (x : Option ReqWriteSuperblockId) → at (put (both none) b x) false ≡ some w → at (put (both none) b x) true ≡ none
    go false x e = refl
    go true x e = none_some refl e
one_only (M.Variables.LoadingOther s) w e = refl
one_only (M.Variables.LoadingSuperblock s) w e = refl

-- of a joined store
module _ (g : Geometry) (s : Y.Variables) (j : Joined g s) (d : D.Variables) (id : ReqId) where
  pub read_superblock_awaited : (which : Bool) (o : Option Superblock) → D.AckReadSuperblock s.disk d id which o → Awaited s.machine (RespReadSuperblockOp id which o)
  read_superblock_awaited which o a =
      superblock_read_awaited s.machine which id o (sym (ap (λ (x : Two Ids). at x which id) j.superblock_reads_is) ∙ a.waiting)

  pub read_journal_awaited : (o : Option JournalRange) → D.AckReadJournal g s.disk d id o → Awaited s.machine (RespReadJournalOp id o)
  read_journal_awaited o a =
      journal_read_awaited g s.machine id a.ind o (sym (ap (λ (x : Map JournalInterval). x id) j.journal_reads_is) ∙ a.waiting)

  pub write_superblock_awaited : (which : Bool) → D.AckWriteSuperblock s.disk d id which → Awaited s.machine (RespWriteSuperblockOp id which)
  write_superblock_awaited which a =
      superblock_write_awaited s.machine which id a.write
      (sym (ap (λ (x : Two (Option ReqWriteSuperblockId)). at x which) j.superblock_writes) ∙ a.waiting) a.id_is

  pub write_journal_awaited : D.AckWriteJournal s.disk d id → Awaited s.machine (RespWriteJournalOp id)
  write_journal_awaited a =
      journal_write_awaited s.machine id (sym (ap (λ (x : Ids). x id) j.journal_writes_is) ∙ ap is_key a.waiting)

  pub other_idle : D.AckWriteSuperblock s.disk d id false → at s.disk.req_write_superblocks true ≡ none
  other_idle a =
      let p = ap (λ (x : Two (Option ReqWriteSuperblockId)). at x false) j.superblock_writes in
      ap (λ (x : Two (Option ReqWriteSuperblockId)). at x true) j.superblock_writes ∙ one_only s.machine a.write (sym p ∙ a.waiting)

-- the slot that a call finds by the id
write_has : (x : code.Option SuperblockWrite) (w : ReqWriteSuperblockId) (id : ReqId) → write_in x ≡ some w → id ≡ w.id → is_write x id ≡ true
unfolding is_write
write_has (Some k) w id e h = eq-eqb k.id id (ap (λ (n : ReqWriteSuperblockId). n.id) (same_value refl e) ∙ sym h)
write_has None w id e h = none_some refl e

write_lacks : (x : code.Option SuperblockWrite) (id : ReqId) → write_in x ≡ none → is_write x id ≡ false
unfolding is_write
write_lacks (Some k) id e = none_some e refl
write_lacks None id e = refl

pub slot_found : (w : SuperblockWrites) (which : Bool) (id : ReqId) (x : ReqWriteSuperblockId) → at (record { first = write_in w.first; second = write_in w.second }) which ≡ some x → id ≡ x.id
    → (which ≡ false → write_in w.second ≡ none) → slot_of w id ≡ which_of which
unfolding slot_of
slot_found w true id x e h n = ap (λ (b : Bool). cond b 1 0) (write_has w.second x id e h)
slot_found w false id x e h n = ap (λ (b : Bool). cond b 1 0) (write_lacks w.second id (n refl))
