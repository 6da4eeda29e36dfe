-- Journal writes: the questions and the effect of WriteBackJournalReq and WriteBackJournalResp.
use Rattle.std.specs.Prelude.{None, Some, Result}
use Rattle.std.specs.declared.option.Option as code
use Rattle.std.specs.Prelude.{ℕ, ◌+◌, ◌-◌, Bool, cond, leb, ltb, eqb, take}
use Rattle.laws.specs.Choice.{also, and_then, ask}
use Rattle.layout.specs.declared.Geometry.{Geometry}
use Rattle.layout.specs.Geometry.{num_journal_blocks}
use Rattle.layout.specs.Journal.{journal_pos_add}
use Rattle.tables.specs.declared.IdTable.{IdTable}
use Rattle.tables.specs.Rows.{place_of, ask_join}
use Rattle.tables.specs.IdTable.{joined_id, removed_id}
use Rattle.range.specs.Form.{length_width, used, blocks_for}
use Rattle.ready.specs.declared.Frozen.{Frozen}
use Rattle.ready.specs.declared.Entries.{Entries}
use Rattle.ready.specs.declared.Bodies.{Bodies}
use Rattle.ready.specs.declared.Ready.{Ready}
use Rattle.ready.specs.declared.JournalWrite.{JournalWrite}
use Rattle.refusal.specs.declared.Refusal.{Refusal}
use Rattle.refusal.specs.Refusal.{ok_unless}
use Rattle.ready.specs.State.{no_commit, none_frozen, sent, frozen_at, counts, with_writes}
use Rattle.ready.specs.Inv.{most_writes}

-- the fewest blocks that hold the range of what is sent
abbrev pub sent_blocks : Ready → Bodies → ℕ
sent_blocks r b = blocks_for (used length_width (sent r.entries b).entries (sent r.entries b).bytes)

-- question 6
unfoldable pub may_write : Geometry → Ready → ℕ → Bool
may_write g r entries =
    also (also (also (no_commit r.commit)
    (ltb 0 entries))
    (ltb r.superblock.journalStart (num_journal_blocks g)))
    (leb r.writtenJournalLen (num_journal_blocks g))

-- question 8: of the ids that are new to the set, and of the blocks
abbrev pub ask_second : IdTable → ℕ → code.Option ℕ → ℕ
ask_second writes id1 None = 0
ask_second writes id1 (Some id2) = ask_join most_writes (joined_id writes id1).count (joined_id writes id1).ids id2

unfoldable pub ask_ids : IdTable → ℕ → code.Option ℕ → ℕ
ask_ids writes id1 id2 =
    and_then (ask_join most_writes writes.count writes.ids id1)
    (ask_second writes id1 id2)

unfoldable pub ask_room : Geometry → Ready → ℕ → code.Option ℕ → ℕ → ℕ
ask_room g r id1 id2 blocks =
    and_then (ask 8 (leb (blocks + r.writtenJournalLen) (num_journal_blocks g)))
    (ask_ids r.writes id1 id2)

unfoldable pub ask_write_back_journal_req : Geometry → Ready → ℕ → code.Option ℕ → Bodies → ℕ
ask_write_back_journal_req g r id1 id2 b =
    and_then (ask 6 (may_write g r (sent r.entries b).entries))
    (ask_room g r id1 id2 (sent_blocks r b))

-- the range that is sent: its first block, its blocks, and what is written then
abbrev pub journal_write : Geometry → Ready → Bodies → JournalWrite
journal_write g r b =
    record {
      start = journal_pos_add g r.superblock.journalStart r.writtenJournalLen;
      blocks = sent_blocks r b;
      written = r.writtenJournalLen + sent_blocks r b;
    }

unfoldable pub write_back_journal_req : Geometry → Ready → ℕ → code.Option ℕ → Bodies → Result JournalWrite Refusal
write_back_journal_req g r id1 id2 b = ok_unless (ask_write_back_journal_req g r id1 id2 b) (journal_write g r b)

-- outstanding_journal_writes + (if id2.Some? then {id1, id2.value} else {id1})
abbrev pub joined_ids : IdTable → ℕ → code.Option ℕ → IdTable
joined_ids writes id1 None = joined_id writes id1
joined_ids writes id1 (Some id2) = joined_id (joined_id writes id1) id2

-- inMemoryJournal' and inMemoryJournalFrozen', frozenJournalPosition'
unfoldable pub written_entries : Entries → Entries
written_entries e = counts (cond (none_frozen e) 0 (e.pending - e.frozen)) 0 e.replay e.taken

unfoldable pub written_frozen : Bool → ℕ → Frozen → Frozen
written_frozen none written f = frozen_at f.isFrozen (cond none f.frozenJournalPosition written) f.frozenLoc

unfoldable pub write_back_journal_req_next : Ready → ℕ → code.Option ℕ → ℕ → Ready
write_back_journal_req_next r id1 id2 written =
    record {
      superblock = r.superblock;
      whichSuperblock = r.whichSuperblock;
      writtenJournalLen = written;
      frozen = written_frozen (none_frozen r.entries) written r.frozen;
      commit = r.commit;
      entries = written_entries r.entries;
      writes = joined_ids r.writes id1 id2;
    }

-- outstanding_journal_writes - {id}
unfoldable pub write_back_journal_resp_next : Ready → ℕ → Ready
write_back_journal_resp_next r id = with_writes r (removed_id r.writes (place_of id (take r.writes.count r.writes.ids)))
