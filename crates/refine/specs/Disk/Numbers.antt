-- A no of an operation of the disk, of a landing, of a step over all operations and of a crash has the number of what it asks, questions 1 and 2
-- first, whatever is handed. Assumes nothing.
use Rattle.std.specs.declared.option.Option as code
use Rattle.std.specs.Prelude.{ℕ, ◌≡◌, Bool, List, Err}
use Rattle.laws.specs.Choice.{and_then}
use Rattle.refusal.specs.declared.Refusal.{Refusal}
use Rattle.refusal.specs.Refusal.{number, small_then}
use Rattle.layout.specs.declared.Geometry.{Geometry}
use Rattle.interval.specs.declared.JournalInterval.{JournalInterval}
use Rattle.superblock.specs.declared.Superblock.{Superblock}
use Rattle.superblock.specs.declared.DiskOp.{DiskOp}
use Rattle.requests.specs.Receive.{ask_recv_read_superblock, ask_recv_read_journal, ask_recv_write_superblock}
use Rattle.requests.specs.Acknowledge.{ask_ack_read_superblock, ask_ack_write_superblock, ask_ack_write_journal}
use Rattle.requests.specs.Landing.{ask_land}
use Rattle.requests.specs.Bounds.{small_recv_read_superblock, small_recv_read_journal, small_recv_write_superblock, small_ack_read_superblock, small_ack_write_superblock, small_ack_write_journal, small_land}
use Rattle.disk.specs.declared.Disk.{Disk}
use Rattle.disk.specs.Questions.{ask_disk}
use Rattle.disk.specs.Whole.{recv_read_superblock, recv_read_journal, recv_write_superblock, ask_write_journal, recv_write_journal, ack_read_superblock, ask_read_journal, ack_read_journal, ack_write_superblock, ack_write_journal, land, ask_step, step}
use Rattle.disk.specs.Bounds.{no_number, small_disk, small_write_journal, small_read_journal, small_step}
use Rattle.crash.specs.Whole.{ask_crash, crash}
use Rattle.crash.specs.Bounds.{small_crash}

module _ (g : Geometry) (d : Disk) (n : Refusal) where
  pub recv_read_superblock_number : (which id : ℕ) (blocks marks : List ℕ) → (recv_read_superblock g d which id blocks marks).answer ≡ Err n → and_then (ask_disk g d blocks marks) (ask_recv_read_superblock d.superblockReads which id) ≡ number n
  recv_read_superblock_number which id blocks marks e = no_number _ _ _ d n (small_then _ _ (small_disk _ _ _ _) (small_recv_read_superblock _ _ _)) e

  pub recv_read_journal_number : (id : ℕ) (v : JournalInterval) (blocks marks : List ℕ) → (recv_read_journal g d id v blocks marks).answer ≡ Err n → and_then (ask_disk g d blocks marks) (ask_recv_read_journal g d.journalReads id v) ≡ number n
  recv_read_journal_number id v blocks marks e = no_number _ _ _ d n (small_then _ _ (small_disk _ _ _ _) (small_recv_read_journal _ _ _ _)) e

  pub recv_write_superblock_number : (which id : ℕ) (superblock : Superblock) (blocks marks : List ℕ) → (recv_write_superblock g d which id superblock blocks marks).answer ≡ Err n → and_then (ask_disk g d blocks marks) (ask_recv_write_superblock d.superblockWrites which id) ≡ number n
  recv_write_superblock_number which id superblock blocks marks e = no_number _ _ _ d n (small_then _ _ (small_disk _ _ _ _) (small_recv_write_superblock _ _ _)) e

  pub recv_write_journal_number : (id1 : ℕ) (id2 : code.Option ℕ) (start : ℕ) (new blocks marks : List ℕ) → (recv_write_journal g d id1 id2 start new blocks marks).answer ≡ Err n → ask_write_journal g d id1 id2 start new blocks marks ≡ number n
  recv_write_journal_number id1 id2 start new blocks marks e = no_number _ _ _ d n (small_write_journal _ _ _ _ _ _ _ _) e

  pub ack_read_superblock_number : (which id : ℕ) (whole : Bool) (blocks marks : List ℕ) → (ack_read_superblock g d which id whole blocks marks).answer ≡ Err n → and_then (ask_disk g d blocks marks) (ask_ack_read_superblock d.slots d.superblockReads which id whole) ≡ number n
  ack_read_superblock_number which id whole blocks marks e = no_number _ _ _ d n (small_then _ _ (small_disk _ _ _ _) (small_ack_read_superblock _ _ _ _ _)) e

  pub ack_read_journal_number : (id : ℕ) (whole : Bool) (blocks marks out : List ℕ) → (ack_read_journal g d id whole blocks marks out).answer ≡ Err n → ask_read_journal g d id whole blocks marks out ≡ number n
  ack_read_journal_number id whole blocks marks out e = no_number _ _ _ d n (small_read_journal _ _ _ _ _ _ _) e

  pub ack_write_superblock_number : (which id : ℕ) (blocks marks : List ℕ) → (ack_write_superblock g d which id blocks marks).answer ≡ Err n → and_then (ask_disk g d blocks marks) (ask_ack_write_superblock d.slots d.superblockWrites which id) ≡ number n
  ack_write_superblock_number which id blocks marks e = no_number _ _ _ d n (small_then _ _ (small_disk _ _ _ _) (small_ack_write_superblock _ _ _ _)) e

  pub ack_write_journal_number : (id : ℕ) (blocks marks : List ℕ) → (ack_write_journal g d id blocks marks).answer ≡ Err n → and_then (ask_disk g d blocks marks) (ask_ack_write_journal d.journalWrites id) ≡ number n
  ack_write_journal_number id blocks marks e = no_number _ _ _ d n (small_then _ _ (small_disk _ _ _ _) (small_ack_write_journal _ _)) e

  pub land_number : (which : ℕ) (blocks marks : List ℕ) → (land g d which blocks marks).answer ≡ Err n → and_then (ask_disk g d blocks marks) (ask_land d.superblockWrites which) ≡ number n
  land_number which blocks marks e = no_number _ _ _ d n (small_then _ _ (small_disk _ _ _ _) (small_land _ _)) e

  pub step_number : (o : DiskOp) (new blocks marks out : List ℕ) → (step g d o new blocks marks out).answer ≡ Err n → ask_step g d o new blocks marks out ≡ number n
  step_number o new blocks marks out e = no_number _ _ _ d n (small_step _ _ _ _ _ _ _) e

  pub crash_number : (picture pictured blocks marks : List ℕ) → (crash g d picture pictured blocks marks).answer ≡ Err n → ask_crash g d picture pictured blocks marks ≡ number n
  crash_number picture pictured blocks marks e = no_number _ _ _ d n (small_crash _ _ _ _ _ _) e
