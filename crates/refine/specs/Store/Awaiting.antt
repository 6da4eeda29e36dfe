-- The piece that awaits a journal read has as many blocks as the interval under which the disk holds it: the joined test says that both are
-- one.
use Rattle.std.specs.Prelude.{ℕ, true, ◌≡◌, refl, List}
use Rattle.std.proofs.Common.{sym, ◌∙◌, ap}
use Rattle.std.proofs.Math.Option.{Option, none, some}
use Rattle.laws.specs.Sets.{Map, no_keys, bind, none_some, same_value, bind_here, bind_there}
use Rattle.layout.specs.declared.Geometry.{Geometry}
use Rattle.interval.specs.declared.JournalInterval.{JournalInterval}
use Rattle.interval.proofs.Laws.{len_of}
use Rattle.superblock.specs.Superblock.{journal_front_interval_of_superblock, journal_back_interval_of_superblock}
use Rattle.superblock.specs.declared.JournalRead.TheVariants as read
use Rattle.source.specs.JournalDisk.{ReqId}
use Rattle.source.specs.JournalCache.{SyncReqStatus}
use Rattle.source.specs.Meets.{bind_read, awaited_journal_reads}
use Rattle.loading.specs.declared.Piece.TheVariants as piece
use Rattle.loading.specs.declared.LoadingOther.{LoadingOther}
use Rattle.loading.specs.declared.Paged.{Paged}
use Rattle.loading.specs.Other.{loading_other_ok, place_of}
use Rattle.loading.specs.Laws.Other.{There, loading_other_facts, front_blocks_is, back_blocks_is, Awaiting, front, back, nobody, awaiting, front_place, back_place}
use Rattle.machine.specs.declared.Machine.{Machine}
use Rattle.machine.specs.Lent.{Lent}
use Rattle.machine.specs.Questions.{ask_machine}
use Rattle.machine.specs.Loading.{paged_in}
use Rattle.refine.specs.Machine.LoadingView.{awaited_read, other_seen}
use Rattle.refine.specs.Machine.LoadingSeen.{awaited_is, reading_read}
use Rattle.refine.specs.Machine.MachineView.{syncs_of, machine_of}
use Rattle.refine.specs.Machine.MachineMeets.{KindOk, machine_kind_ok}
use Rattle.refine.specs.Machine.MachineKinds.{by_kind_is}

-- a read in the table: its own interval, and what stands behind another's
read_len : (o : Option ReqId) (u : Option JournalInterval) (m : Map JournalInterval) (id : ReqId) (v : JournalInterval) → o ≡ some id → There u → bind_read o u m id ≡ some v
    → len_of u ≡ v.len
read_len none u m id v e t q = none_some refl e
read_len (some k) none m id v e t q = none_some refl t.1
read_len (some k) (some x) m id v e t q =
    let k-is : k ≡ id = same_value {o = some k} refl e in
    ap (λ (w : JournalInterval). w.len) (same_value (bind_here m id x) (sym (λ i. bind m (k-is i) x id) ∙ q))

read_past : (o : Option ReqId) (u : Option JournalInterval) (m : Map JournalInterval) (id : ReqId) → (o ≡ some id → ⊥) → bind_read o u m id ≡ m id
read_past none u m id f = refl
read_past (some k) none m id f = refl
read_past (some k) (some x) m id f = bind_there m k id x (λ e. f (ap (λ (n : ReqId). some n) e))

-- the place of the piece that awaits it
module _ (g : Geometry) (pieces : List ℕ) (s : LoadingOther) (y : Map SyncReqStatus) (id : ReqId) (v : JournalInterval) where
  place_len : loading_other_ok g s ≡ true → awaited_journal_reads g (other_seen g pieces s y) id ≡ some v → (place_of g s id).len ≡ v.len
  place_len k q = go (awaiting s id)
    where
      past_front : (s.front ≡ piece.Reading id → ⊥) → bind_read (awaited_read s.back) (journal_back_interval_of_superblock g s.superblock) no_keys id ≡ some v
      past_front n =
          sym (read_past (awaited_read s.front) (journal_front_interval_of_superblock g s.superblock)
          (bind_read (awaited_read s.back) (journal_back_interval_of_superblock g s.superblock) no_keys) id (λ e. n (awaited_is s.front id e)))
          ∙ q

      go : Awaiting s id → (place_of g s id).len ≡ v.len
      go (front e) =
          ap (λ (p : Paged). p.len) (front_place s id e g)
          ∙ front_blocks_is g s.superblock
          ∙ read_len (awaited_read s.front) (journal_front_interval_of_superblock g s.superblock)
          (bind_read (awaited_read s.back) (journal_back_interval_of_superblock g s.superblock) no_keys) id v (ap awaited_read e)
          ((loading_other_facts g s k).front_there (reading_read s.front id e)) q
      go (back n e) =
          ap (λ (p : Paged). p.len) (back_place s id n e g)
          ∙ back_blocks_is g s.superblock
          ∙ read_len (awaited_read s.back) (journal_back_interval_of_superblock g s.superblock) no_keys id v (ap awaited_read e)
          ((loading_other_facts g s k).back_there (reading_read s.back id e)) (past_front n)
      go (nobody n m) =
          none_some (read_past (awaited_read s.back) (journal_back_interval_of_superblock g s.superblock) no_keys id (λ e. m (awaited_is s.back id e))) (past_front n)

-- in any kind of machine: no other awaits a journal read
pub paged_len : (g : Geometry) (l : Lent) (m : Machine) (id : ReqId) (v : JournalInterval) → ask_machine g l m ≡ 0 → awaited_journal_reads g (machine_of g l m) id ≡ some v
    → (paged_in g m id read.Whole).len ≡ v.len
unfolding paged_in
paged_len g l m id v a q =
    by_kind_is (λ m. KindOk g m → awaited_journal_reads g (machine_of g l m) id ≡ some v → (paged_in g m id read.Whole).len ≡ v.len) m
    (λ k q. none_some refl q)
    (λ k q. place_len g l.pieces m.other (syncs_of m) id v k q)
    (λ k q. none_some refl q)
    (machine_kind_ok g l m a) q
