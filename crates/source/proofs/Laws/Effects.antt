-- What four steps come to, a fact each: a commit request puts its write where question 2 looks for it, in the slot that the machine does not
-- stand on; a journal write begins where what was written ends; and what is replayed is what the pieces that were read parse to.
use Rattle.std.specs.Prelude.{not, ◌≡◌, []}
use Rattle.std.proofs.Common.{sym, ◌∙◌, ap, subst}
use Rattle.std.proofs.Math.Option.{Option, none, some}
use Rattle.layout.specs.declared.Geometry.{Geometry}
use Rattle.layout.specs.Laws.{pos_add_wrap}
use Rattle.interval.specs.Interval.{interval, next_start_point}
use Rattle.interval.proofs.Laws.{next_start_wrap}
use Rattle.superblock.specs.declared.Superblock.{Superblock}
use Rattle.laws.specs.Sets.{Two, both, put, put_put}
use Rattle.codec.specs.Codec.{JournalRange, JournalRangeParses, Codec}
use Rattle.source.specs.JournalDisk as D
use Rattle.source.specs.JournalDisk.{ReqId, ReqWriteSuperblockId, ReqWriteSuperblock, DiskOp}
use Rattle.source.specs.JournalCache as M
use Rattle.source.specs.JournalCache.{Ready, LoadingOther, LoadingSuperblock, loaded}
use Rattle.source.specs.JournalSystem.{on_ready}
use Rattle.source.specs.Meets.{new_write, awaited_superblock_writes}

-- nothing is awaited before the request, and after it the one write
asked_awaited : (s : M.ReadyVariables) (d : D.Variables) (id : ReqId) (req : ReqWriteSuperblock) (new : Superblock) → s.superblock_write ≡ none → req.superblock ≡ new
    → d.req_write_superblocks ≡ awaited_superblock_writes (Ready s)
    → put d.req_write_superblocks (not s.whichSuperblock) (some (record { id = id; req = req })) ≡ put (both none) (not s.whichSuperblock) (new_write (some id) (some new))
asked_awaited s d id req new e q h =
    ap (λ (t : Two (Option ReqWriteSuperblockId)). put t (not s.whichSuperblock) (some (record { id = id; req = req })))
    (h ∙ ap (λ (o : Option ReqId). put (both none) (not s.whichSuperblock) (new_write o s.new_superblock)) e)
    ∙ put_put (both none) (not s.whichSuperblock) none (some (record { id = id; req = req }))
    ∙ (λ i. put (both none) (not s.whichSuperblock) (some (record { id = id; req = record { superblock = q i } })))

module _ (g : Geometry) (d d' : D.Variables) (dop : DiskOp) where
  pub log_awaited : (s s' : M.Variables) → M.Inv g s → M.WriteBackSuperblockReqAdvanceLog g s s' dop → D.Next g d d' dop → d.req_write_superblocks ≡ awaited_superblock_writes s
      → d'.req_write_superblocks ≡ awaited_superblock_writes s'
  log_awaited (Ready s) s' inv h hd e =
      ap (λ (x : D.Variables). x.req_write_superblocks) (subst (D.Next g d d') h.op hd).next
      ∙ (λ i. put d.req_write_superblocks (h.which_is i) (some (record { id = h.id; req = h.req })))
      ∙ asked_awaited s d h.id h.req (M.advanced_log s) (inv.write_commit.1 h.no_commit_is) h.superblock_is e
      ∙ ap awaited_superblock_writes (sym h.next)
  log_awaited (LoadingOther s) s' inv h hd e = absurd h
  log_awaited (LoadingSuperblock s) s' inv h hd e = absurd h

  pub location_awaited : (s s' : M.Variables) → M.Inv g s → M.WriteBackSuperblockReqAdvanceLocation g s s' dop → D.Next g d d' dop → d.req_write_superblocks ≡ awaited_superblock_writes s
      → d'.req_write_superblocks ≡ awaited_superblock_writes s'
  location_awaited (Ready s) s' inv h hd e =
      ap (λ (x : D.Variables). x.req_write_superblocks) (subst (D.Next g d d') h.op hd).next
      ∙ (λ i. put d.req_write_superblocks (h.which_is i) (some (record { id = h.id; req = h.req })))
      ∙ asked_awaited s d h.id h.req (M.advanced_location g s h.loc) (inv.write_commit.1 h.no_commit_is) h.superblock_is e
      ∙ ap awaited_superblock_writes (sym h.next)
  location_awaited (LoadingOther s) s' inv h hd e = absurd h
  location_awaited (LoadingSuperblock s) s' inv h hd e = absurd h

-- the block after those that were written
pub write_adjacent : (g : Geometry) (C : Codec) (s : M.ReadyVariables) (s' : M.Variables) (dop : DiskOp) (jr : JournalRange) (h : M.WriteBackJournalReq g C (Ready s) s' dop jr)
    → h.req.start ≡ next_start_point g (interval s.superblock.journalStart s.writtenJournalLen)
write_adjacent g C s s' dop jr h =
    h.start_is ∙ pos_add_wrap g s.superblock.journalStart s.writtenJournalLen ∙ sym (next_start_wrap g (interval s.superblock.journalStart s.writtenJournalLen))

-- 004's ephemeral journal after loading
pub loaded_ephemeral : (g : Geometry) (C : Codec) (s : M.LoadingOtherVariables) (s' : M.Variables) (dop : DiskOp) → M.FinishLoadingOtherPhase g C (LoadingOther s) s' dop
    → JournalRangeParses C (loaded g s) (on_ready s' (λ m. m.replay_journal) [])
loaded_ephemeral g C s (Ready s') dop h = h.parses
loaded_ephemeral g C s (LoadingOther s') dop h = absurd h
loaded_ephemeral g C s (LoadingSuperblock s') dop h = absurd h
