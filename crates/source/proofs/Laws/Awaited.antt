-- What the machine awaits, in the form in which the disk holds it (Meets): an awaited journal read stands there under its own interval; a request
-- and its answer, of a slot and of a piece, change both alike; and a read that is there is awaited.
use Rattle.std.specs.Prelude.{Bool, true, false, cond, not, ◌≡◌, refl, ◌⊎◌, eqb}
use Rattle.std.proofs.Common.{sym, ◌∙◌, ap, inl, inr, ⊎_elim, eq-eqb, eqb-true, ne_eqb}
use Rattle.std.proofs.Math.Option.{Option, none, some}
use Rattle.std.proofs.lemmas.Bool.{eqb-false}
use Rattle.laws.specs.Choice.{ruin, false_true, split_eq}
use Rattle.layout.specs.declared.Geometry.{Geometry}
use Rattle.interval.specs.declared.JournalInterval.{JournalInterval}
use Rattle.superblock.specs.declared.Superblock.{Superblock}
use Rattle.laws.specs.Sets.{Ids, empty_ids, join, leave, Map, no_keys, bind, unbind, Two, at, put, none_some, same_value, at_both, bind_here, bind_there}
use Rattle.laws.specs.Maps.{join_leave, bind_unbind, bind_comm, unbind_bind_there, unbind_bind}
use Rattle.codec.specs.Codec.{JournalRange}
use Rattle.source.specs.JournalDisk.{ReqId, RespReadSuperblockOp, RespReadJournalOp}
use Rattle.source.specs.JournalCache as M
use Rattle.source.specs.JournalCache.{LoadingOther, LoadingOtherVariables, journal_interval_of_superblock, unless_is}
use Rattle.source.specs.Meets.{LoadingOtherShape, one_id, bind_read, awaited_superblock_reads, awaited_journal_reads}
use Rattle.source.specs.Departures.{Awaited}

-- asking for a piece clears the other's read where it has the same id
pub unless_same : (id : ReqId) → unless_is (some id) id ≡ none
unless_same id = ap (λ (b : Bool). cond b none (some id)) (eq-eqb id id refl)

pub unless_not : (o : Option ReqId) (k : ReqId) → unless_is o k ≡ some k → ⊥
unless_not none k e = none_some refl e
unless_not (some i) k e = go (eqb i k) refl e
  where
    go : (b : Bool) → eqb i k ≡ b → cond b none (some i) ≡ some k → ⊥
    go true q r = none_some refl r
    go false q r = eqb-false i k q (same_value refl r)

pub unless_some : (o : Option ReqId) (k id : ReqId) → unless_is o k ≡ some id → o ≡ some id
unless_some none k id e = e
unless_some (some i) k id e = go (eqb i k) e
  where
    go : (b : Bool) → cond b none (some i) ≡ some id → some i ≡ some id
    go true q = ruin (cc)
    go false q = q

unless_other : (o : Option ReqId) (id : ReqId) → (o ≡ some id → ⊥) → unless_is o id ≡ o
unless_other none id f = refl
unless_other (some k) id f = ap (λ (b : Bool). cond b none (some k)) (ne_eqb k id (λ e. f (ap (λ (n : ReqId). some n) e)))

-- a piece's read in the table, and one behind another's
front_read : (o : Option ReqId) (u : Option JournalInterval) (m : Map JournalInterval) (id : ReqId) (v : JournalInterval) → o ≡ some id → u ≡ some v → bind_read o u m id ≡ some v
front_read none u m id v e q = none_some refl e
front_read (some k) none m id v e q = none_some refl q
front_read (some k) (some x) m id v e q =
    (λ i. bind m (same_value {o = some k} refl e i) (same_value {o = some x} refl q i) id) ∙ bind_here m id v

back_read : (o : Option ReqId) (u : Option JournalInterval) (m : Map JournalInterval) (id : ReqId) (v : JournalInterval) → (o ≡ some id → ⊥) → m id ≡ some v → bind_read o u m id ≡ some v
back_read none u m id v f q = q
back_read (some k) none m id v f q = q
back_read (some k) (some x) m id v f q = bind_there m k id x (λ e. f (ap (λ (n : ReqId). some n) e)) ∙ q

pub awaited_read_is : (g : Geometry) (s : LoadingOtherVariables) → LoadingOtherShape g s → (which : Bool) (id : ReqId) (v : JournalInterval) → at s.journalReads which ≡ some id
    → journal_interval_of_superblock g which s.superblock ≡ some v → awaited_journal_reads g (LoadingOther s) id ≡ some v
awaited_read_is g s h false id v e q =
    front_read (at s.journalReads false) (journal_interval_of_superblock g false s.superblock)
    (bind_read (at s.journalReads true) (journal_interval_of_superblock g true s.superblock) no_keys) id v e q
awaited_read_is g s h true id v e q =
    back_read (at s.journalReads false) (journal_interval_of_superblock g false s.superblock)
    (bind_read (at s.journalReads true) (journal_interval_of_superblock g true s.superblock) no_keys) id v (λ f. h.reads_differ id f e)
    (front_read (at s.journalReads true) (journal_interval_of_superblock g true s.superblock) no_keys id v e q)

-- a request for a piece and its answer, beside the other's read
module _ (id : ReqId) (v : JournalInterval) where
  asked_second : (o : Option ReqId) (u : Option JournalInterval) → (o ≡ some id → ⊥) → bind (bind_read o u no_keys) id v ≡ bind_read o u (bind no_keys id v)
  asked_second none u f = refl
  asked_second (some k) none f = refl
  asked_second (some k) (some x) f = bind_comm no_keys k id x v (λ e. f (ap (λ (n : ReqId). some n) e))

  answered_second : (o : Option ReqId) (u : Option JournalInterval) → (o ≡ some id → ⊥) → unbind (bind_read o u (bind no_keys id v)) id ≡ bind_read o u no_keys
  answered_second none u f = bind_unbind id v
  answered_second (some k) none f = bind_unbind id v
  answered_second (some k) (some x) f =
      unbind_bind_there (bind no_keys id v) k id x (λ e. f (ap (λ (n : ReqId). some n) e)) ∙ ap (λ (m : Map JournalInterval). bind m k x) (bind_unbind id v)

  not_there : (o : Option ReqId) (u : Option JournalInterval) → (o ≡ some id → ⊥) → bind_read o u no_keys id ≡ none
  not_there none u f = refl
  not_there (some k) none f = refl
  not_there (some k) (some x) f = bind_there no_keys k id x (λ e. f (ap (λ (n : ReqId). some n) e))

-- both pieces' reads, by their ids and intervals
abbrev pub awaited_pages : Two (Option ReqId) → (Bool → Option JournalInterval) → Map JournalInterval
awaited_pages reads interval = bind_read (at reads false) (interval false) (bind_read (at reads true) (interval true) no_keys)

module _ (reads : Two (Option ReqId)) (interval : Bool → Option JournalInterval) (id : ReqId) (v : JournalInterval) where
  pub page_asked : (which : Bool) → at reads which ≡ none → interval which ≡ some v → (at reads (not which) ≡ some id → ⊥)
      → bind (awaited_pages reads interval) id v ≡ awaited_pages (put (put reads which (some id)) (not which) (unless_is (at reads (not which)) id)) interval
  page_asked false e q f =
      (λ i. bind (bind_read (e i) (interval false) (bind_read (at reads true) (interval true) no_keys)) id v)
      ∙ (λ i. bind_read (some id) (sym q i) (bind_read (sym (unless_other (at reads true) id f) i) (interval true) no_keys))
  page_asked true e q f =
      (λ i. bind (bind_read (at reads false) (interval false) (bind_read (e i) (interval true) no_keys)) id v)
      ∙ asked_second id v (at reads false) (interval false) f
      ∙ (λ i. bind_read (sym (unless_other (at reads false) id f) i) (interval false) (bind_read (some id) (sym q i) no_keys))

  pub page_answered : (which : Bool) → at reads which ≡ some id → interval which ≡ some v → (at reads (not which) ≡ some id → ⊥)
      → unbind (awaited_pages reads interval) id ≡ awaited_pages (put reads which none) interval
  page_answered false e q f =
      (λ i. unbind (bind_read (e i) (q i) (bind_read (at reads true) (interval true) no_keys)) id)
      ∙ unbind_bind (bind_read (at reads true) (interval true) no_keys) id v (not_there id v (at reads true) (interval true) f)
  page_answered true e q f =
      (λ i. unbind (bind_read (at reads false) (interval false) (bind_read (e i) (q i) no_keys)) id)
      ∙ answered_second id v (at reads false) (interval false) f

-- a request and its answer, of a slot
abbrev pub awaited_slots : Two (Option ReqId) → Two Ids
awaited_slots reads = record { first = one_id (at reads false); second = one_id (at reads true) }

module _ (reads : Two (Option ReqId)) (t : Two Ids) (e : t ≡ awaited_slots reads) (id : ReqId) where
  pub slot_asked : (which : Bool) → at reads which ≡ none → put t which (join (at t which) id) ≡ awaited_slots (put reads which (some id))
  slot_asked false q = λ i. record { first = join ((ap (λ (x : Two Ids). x.first) e ∙ ap one_id q) i) id; second = (e i).second }
  slot_asked true q = λ i. record { first = (e i).first; second = join ((ap (λ (x : Two Ids). x.second) e ∙ ap one_id q) i) id }

  pub slot_answered : (which : Bool) → at reads which ≡ some id → put t which (leave (at t which) id) ≡ awaited_slots (put reads which none)
  slot_answered false q = λ i. record { first = (ap (λ (x : Two Ids). leave x.first id) e ∙ ap (λ (o : Option ReqId). leave (one_id o) id) q ∙ join_leave id) i; second = (e i).second }
  slot_answered true q = λ i. record { first = (e i).first; second = (ap (λ (x : Two Ids). leave x.second id) e ∙ ap (λ (o : Option ReqId). leave (one_id o) id) q ∙ join_leave id) i }

-- a read that is there is awaited
one_is : (o : Option ReqId) (id : ReqId) → one_id o id ≡ true → o ≡ some id
one_is none id e = false_true e
one_is (some k) id e = go (eqb k id) refl e
  where
    go : (b : Bool) → eqb k id ≡ b → cond b true false ≡ true → some k ≡ some id
    go true q r = ap (λ (n : ReqId). some n) (eqb-true k id q)
    go false q r = false_true r

pub slot_waits : (m : M.Variables) (t : Two Ids) → t ≡ awaited_superblock_reads m → (id : ReqId) (which : Bool) (o : Option Superblock) → at t which id ≡ true → Awaited m (RespReadSuperblockOp id which o)
slot_waits (M.Variables.Ready s) t e id which o q = false_true (sym (ap (λ (x : Two Ids). at x which id) e ∙ ap (λ (x : Ids). x id) (at_both empty_ids which)) ∙ q)
slot_waits (M.Variables.LoadingOther s) t e id which o q = false_true (sym (ap (λ (x : Two Ids). at x which id) e ∙ ap (λ (x : Ids). x id) (at_both empty_ids which)) ∙ q)
slot_waits (M.Variables.LoadingSuperblock s) t e id which o q = go which (sym (ap (λ (x : Two Ids). at x which id) e) ∙ q)
  where
    go : (which : Bool) → at (awaited_slots s.outstanding_superblock_reads) which id ≡ true → at s.outstanding_superblock_reads which ≡ some id
    go false r = one_is (at s.outstanding_superblock_reads false) id r
    go true r = one_is (at s.outstanding_superblock_reads true) id r

read_is : (o : Option ReqId) (u : Option JournalInterval) (m : Map JournalInterval) (id : ReqId) (v : JournalInterval) → bind_read o u m id ≡ some v → (o ≡ some id) ⊎ (m id ≡ some v)
read_is none u m id v e = inr e
read_is (some k) none m id v e = inr e
read_is (some k) (some x) m id v e = split_eq k id (λ n. inl (ap (λ (j : ReqId). some j) n)) (λ n. inr (sym (bind_there m k id x n) ∙ e))

pub page_waits : (g : Geometry) (m : M.Variables) (t : Map JournalInterval) → t ≡ awaited_journal_reads g m → (id : ReqId) (v : JournalInterval) (o : Option JournalRange) → t id ≡ some v → Awaited m (RespReadJournalOp id o)
page_waits g (M.Variables.Ready s) t e id v o q = none_some (ap (λ (x : Map JournalInterval). x id) e) q
page_waits g (M.Variables.LoadingSuperblock s) t e id v o q = none_some (ap (λ (x : Map JournalInterval). x id) e) q
page_waits g (M.Variables.LoadingOther s) t e id v o q =
    ⊎_elim
    (λ p. (false, p))
    (λ p. ⊎_elim (λ r. (true, r)) (λ r. none_some refl r) (read_is (at s.journalReads true) (M.journal_interval_of_superblock g true s.superblock) no_keys id v p))
    (read_is (at s.journalReads false) (M.journal_interval_of_superblock g false s.superblock)
    (bind_read (at s.journalReads true) (M.journal_interval_of_superblock g true s.superblock) no_keys) id v (sym (ap (λ (x : Map JournalInterval). x id) e) ∙ q))
