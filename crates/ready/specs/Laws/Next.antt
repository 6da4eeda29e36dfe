-- A next record from its parts, as the code finds them.
use Rattle.std.specs.declared.option.Option as code
use Rattle.std.specs.Prelude.{ℕ, Bool, ◌≡◌}
use Rattle.std.proofs.Common.{◌∙◌, ap}
use Rattle.tables.specs.declared.IdTable.{IdTable}
use Rattle.ready.specs.declared.Frozen.{Frozen}
use Rattle.ready.specs.declared.Entries.{Entries}
use Rattle.ready.specs.declared.Ready.{Ready}
use Rattle.ready.specs.State.{none_frozen}
use Rattle.ready.specs.JournalSteps.{joined_ids, written_entries, written_frozen, write_back_journal_req_next}

pub written_is : (r : Ready) (id1 : ℕ) (id2 : code.Option ℕ) (written : ℕ) (b : Bool) (f : Frozen) (e : Entries) (w : IdTable) → b ≡ none_frozen r.entries
    → f ≡ written_frozen b written r.frozen → e ≡ written_entries r.entries → w ≡ joined_ids r.writes id1 id2
    → record { superblock = r.superblock; whichSuperblock = r.whichSuperblock; writtenJournalLen = written; frozen = f; commit = r.commit; entries = e; writes = w }
    ≡ write_back_journal_req_next r id1 id2 written
unfolding write_back_journal_req_next
written_is r id1 id2 written b f e w hb hf he hw =
    λ i.
    record {
      superblock = r.superblock;
      whichSuperblock = r.whichSuperblock;
      writtenJournalLen = written;
      frozen = (hf ∙ ap (λ (none : Bool). written_frozen none written r.frozen) hb) i;
      commit = r.commit;
      entries = he i;
      writes = hw i;
    }
