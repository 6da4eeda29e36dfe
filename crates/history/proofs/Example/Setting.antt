-- The setting of the example: a ring of four blocks and tables of up to 4,096 bytes; both slots at counter 0, start 0, len 0, and no block
-- readable; two lots of entries, of one block and of two; and machine and disk of the day as functions of what changes.
use Rattle.std.specs.Prelude.{ℕ, zero, suc, ◌+◌, ◌≤◌, Bool, true, ◌≡◌, refl, List, [], ◌∷◌, length, replicate}
use Rattle.std.proofs.Common.{sym, ◌∙◌, ap, subst, inl, inr, arith}
use Rattle.std.proofs.Math.Option.{Option, none, some}
use Rattle.laws.specs.Choice.{also}
use Rattle.laws.specs.Fold.{sum, every}
use Rattle.laws.specs.Bytes.{is_zero}
use Rattle.laws.specs.Cut.{lengths}
use Rattle.laws.specs.Sets.{Ids, empty_ids, join, Map, no_keys, bind, keys, AtMost, none_few, listed_few, ids_of, Two, both, none_some, at_both}
use Rattle.laws.specs.Maps.{keys_one, keys_bind, one_few}
use Rattle.layout.specs.declared.Geometry.{Geometry}
use Rattle.layout.specs.declared.Location.{Location}
use Rattle.layout.specs.Geometry.{ValidGeometry}
use Rattle.layout.specs.Laws.{ValidIndirectionTableLocation}
use Rattle.interval.specs.declared.JournalInterval.{JournalInterval}
use Rattle.interval.specs.Journal.{JournalBlock}
use Rattle.superblock.specs.declared.Superblock.{Superblock}
use Rattle.superblock.specs.Superblock.{increment_superblock_counter, increments1, select_superblock_index, select_superblock}
use Rattle.superblock.specs.Laws.{WFSuperblock}
use Rattle.range.specs.Blank.{blank, none_blank}
use Rattle.codec.specs.Codec.{JournalEntry, Sized, EntriesFit}
use Rattle.codec.specs.Format.{encode_blocks, length_encode_blocks}
use Rattle.source.specs.JournalDisk as D
use Rattle.source.specs.JournalDisk.{ReqWriteSuperblockId}
use Rattle.source.specs.JournalCache as M
use Rattle.source.specs.JournalSystem as Y
use Rattle.source.specs.JournalSystem.{superblock_of_disk}
use Rattle.source.specs.Limits.{limits, MachineCounts, DiskCounts}
use Rattle.history.proofs.Simulation.Relation.{Flight}
use Rattle.history.proofs.Loads.Superblocks.{resting}

abbrev pub g : Geometry
g = record { blocks = 4; table = 4096 }

pub g_valid : ValidGeometry g
g_valid = record { some_block = omega arith; at_most_blocks = omega arith; some_table = omega arith; most_table = omega arith }

abbrev pub table1 : Location
table1 = record { addr = 24576; len = 4096 }

abbrev pub table2 : Location
table2 = record { addr = 28672; len = 4096 }

abbrev pub sb0 : Superblock
sb0 = record { counter = 0; journalStart = 0; journalLen = 0; indirectionTableLoc = table1 }

abbrev pub slots0 : Two (Option Superblock)
slots0 = both (some sb0)

-- no block is readable
abbrev pub j0 : List (Option JournalBlock)
j0 = none ∷ none ∷ none ∷ none ∷ []

pub table1_valid : ValidIndirectionTableLocation g table1
table1_valid = record { addr_valid = inl refl; len_from = omega arith; len_to = omega arith }

pub table2_valid : ValidIndirectionTableLocation g table2
table2_valid = record { addr_valid = inr refl; len_from = omega arith; len_to = omega arith }

sized_none : (n : ℕ) → Sized (replicate n none)
sized_none zero i b e = none_some refl e
sized_none (suc n) zero b e = none_some refl e
sized_none (suc n) (suc i) b e = sized_none n i b e

pub j0_sized : Sized j0
j0_sized = sized_none 4

abbrev pub first : Y.Variables
first = record { machine = M.Variables.LoadingSuperblock M.initial; disk = resting slots0 j0 }

pub sb0_wf : WFSuperblock g sb0
sb0_wf = record { start_in = omega arith; len_in = omega arith; table_valid = table1_valid }

pub init : Y.Init g first table1
unfolding select_superblock select_superblock_index increments1 increment_superblock_counter
init =
    record {
      machine = refl;
      disk = record { no_superblock_reads = refl; no_journal_reads = refl; no_superblock_writes = refl; no_journal_writes = refl; size = refl };
      wf = record { first = record { value = sb0; holds = refl; wf = sb0_wf }; second = record { value = sb0; holds = refl; wf = sb0_wf } };
      some1 = (sb0, refl);
      some2 = (sb0, refl);
      start_is = refl;
      len_is = refl;
      loc_is = refl;
    }

pub init_super : superblock_of_disk g first.disk init.wf ≡ sb0
unfolding init select_superblock select_superblock_index increments1 increment_superblock_counter
init_super = refl

-- one entry of one byte, and sixteen of 255: one block and two
unfoldable pub small : List JournalEntry
small = (65 ∷ []) ∷ []

unfoldable pub large : List JournalEntry
large = replicate 16 (replicate 255 66)

pub one_block : length (encode_blocks small) ≡ 1
unfolding small sum lengths
one_block = length_encode_blocks small

pub two_blocks : length (encode_blocks large) ≡ 2
unfolding large sum lengths
two_blocks = length_encode_blocks large

-- they are few, and each fits
pub small_few : length small ≤ 16
unfolding small
small_few = omega arith

pub small_fit : EntriesFit 255 small
unfolding small
small_fit = (record { some_byte = omega arith; most_bytes = omega arith }, tt)

-- and none is of zeros only
pub small_none_blank : none_blank small ≡ true
unfolding small none_blank blank is_zero every also
small_none_blank = refl

pub large_none_blank : none_blank large ≡ true
unfolding large none_blank blank is_zero every also
large_none_blank = refl

pub large_few : length large ≤ 16
unfolding large
large_few = omega arith

pub large_fit : EntriesFit 255 large
unfolding large
large_fit = long 16
  where
    long : (n : ℕ) → EntriesFit 255 (replicate n (replicate 255 66))
    long zero = tt
    long (suc n) = (record { some_byte = omega arith; most_bytes = omega arith }, long n)

-- what is pending, frozen and in memory, is within the limits
pub record Pending (frozen memory : List JournalEntry) : Type 0 where
  pub few : length frozen + length memory ≤ 1024
  pub bytes : sum (lengths frozen) + sum (lengths memory) ≤ 65536

pub none_pending : Pending [] []
unfolding sum lengths
none_pending = record { few = omega arith; bytes = omega arith }

pub small_pending : Pending [] small
unfolding small sum lengths
small_pending = record { few = omega arith; bytes = omega arith }

pub large_pending : Pending [] large
unfolding large sum lengths
large_pending = record { few = omega arith; bytes = omega arith }

pub large_frozen : Pending large []
unfolding large sum lengths
large_frozen = record { few = omega arith; bytes = omega arith }

pub both_pending : Pending large small
unfolding small large sum lengths
both_pending = record { few = omega arith; bytes = omega arith }

-- a machine of this day at Ready: nothing to replay
abbrev pub day_at : Map M.SyncReqStatus → Superblock → Bool → ℕ → ℕ → Bool → Option Location → List JournalEntry → List JournalEntry → Ids → Flight → M.ReadyVariables
day_at requests sb which len position isFrozen loc frozen memory ids f =
    record {
      frozenLoc = loc;
      isFrozen = isFrozen;
      frozenJournalPosition = position;
      superblock_write = f.superblock_write;
      in_memory_journal_frozen = frozen;
      in_memory_journal = memory;
      outstanding_journal_writes = ids;
      writtenJournalLen = len;
      replay_journal = [];
      superblock = sb;
      whichSuperblock = which;
      commit_status = f.commit_status;
      new_superblock = f.new_superblock;
      sync_reqs = requests;
    }

-- the disk of this day: nothing is read
abbrev pub day_disk : Two (Option ReqWriteSuperblockId) → Map JournalInterval → Two (Option Superblock) → List (Option JournalBlock) → D.Variables
day_disk sw writes slots j =
    record { req_read_superblocks = both empty_ids; req_read_journals = no_keys; req_write_superblocks = sw; req_write_journals = writes; superblocks = slots; journal = j }

-- the counts of both
pub counts : {s : M.ReadyVariables} → AtMost 32 (keys s.sync_reqs) → AtMost 16 s.outstanding_journal_writes → Pending s.in_memory_journal_frozen s.in_memory_journal → MachineCounts limits (M.Variables.Ready s)
counts sync few p = record { sync_few = sync; writes_few = few; pending_few = p.few; pending_small = p.bytes }

pub writing : {sw : Two (Option ReqWriteSuperblockId)} {writes : Map JournalInterval} {slots : Two (Option Superblock)} {j : List (Option JournalBlock)} → AtMost 16 (keys writes)
    → DiskCounts limits (day_disk sw writes slots j)
writing few =
    record {
      superblock_reads_few = λ which. subst (AtMost 8) (sym (at_both empty_ids which)) (none_few 8);
      journal_reads_few = none_few 8;
      journal_writes_few = few;
    }

-- one write in flight, and two
pub one_id_is : (k : ℕ) → AtMost 16 (join empty_ids k)
one_id_is k = one_few 16 k (omega arith)

pub one_write : (k : ℕ) (v : JournalInterval) → AtMost 16 (keys (bind no_keys k v))
one_write k v = subst (AtMost 16) (sym (keys_one k v)) (one_id_is k)

pub two_ids : (k i : ℕ) → AtMost 16 (join (join empty_ids k) i)
unfolding ids_of
two_ids k i = listed_few 16 (i ∷ k ∷ []) (omega arith)

pub two_writes : (k i : ℕ) (v u : JournalInterval) → AtMost 16 (keys (bind (bind no_keys k v) i u))
two_writes k i v u = subst (AtMost 16) (sym (keys_bind (bind no_keys k v) i u ∙ ap (λ (s : Ids). join s i) (keys_one k v))) (two_ids k i)
