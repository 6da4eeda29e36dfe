-- Question 2's test as facts: part by part, and both ways.
use Rattle.std.specs.Prelude.{None, Some}
use Rattle.std.specs.declared.option.Option as code
use Rattle.std.specs.Prelude.{ℕ, ◌+◌, ◌-◌, ◌≤◌, Bool, true, false, not, ◌≡◌, refl, ◌⊎◌, eqb}
use Rattle.std.proofs.Common.{sym}
use Rattle.std.proofs.Math.Logic.{inl, inr, ⊎_elim}
use borrow.Author.Tests.{leb-true, le-leb, eqb-true, eq-eqb, eqb-false}
use Rattle.laws.specs.Choice.{either, also_left, also_right, also_both, either_left, either_right, either_cases, false_true, ruin, split_bool}
use Rattle.layout.specs.declared.Geometry.{Geometry}
use Rattle.layout.specs.declared.Location.{Location}
use Rattle.layout.specs.Journal.{journal_pos_add}
use Rattle.layout.specs.Laws.{ValidIndirectionTableLocation, table_location_facts, facts_table_location, same_location_is, location_same}
use Rattle.superblock.specs.declared.Superblock.{Superblock}
use Rattle.superblock.specs.Superblock.{increment_superblock_counter}
use Rattle.superblock.specs.Laws.{WFSuperblock, superblock_facts, facts_superblock}
use Rattle.tables.specs.Rows.{Counted}
use Rattle.tables.proofs.Laws.Counts.{counted_facts, facts_counted}
use Rattle.ready.specs.declared.Frozen.{Frozen}
use Rattle.ready.specs.declared.Commit.{Commit}
use Rattle.ready.specs.declared.Commit.TheVariants.{CommitNone, CommitAdvanceLog, CommitAdvanceLocation}
use Rattle.ready.specs.declared.Entries.{Entries}
use Rattle.ready.specs.declared.Ready.{Ready}
use Rattle.ready.specs.State.{is_received, is_location}
use Rattle.ready.specs.Inv.{most_writes, extent_ok, frozen_ok, location_ok, received_ok, advance_log_ok, advance_location_ok, new_location_ok, new_ok, in_flight_ok, commit_ok, some_frozen_ok, inv_ok, entries_ok, ready_ok}

-- a ==> b
if_then : (a b : Bool) → either (not a) b ≡ true → a ≡ true → b ≡ true
unfolding either
if_then true b e h = e
if_then false b e h = false_true h

then_if : (a b : Bool) → (a ≡ true → b ≡ true) → either (not a) b ≡ true
unfolding either
then_if true b f = f refl
then_if false b f = refl

pub record Extent (g : Geometry) (which written len : ℕ) : Type 0 where
  pub which_in : which ≤ 1
  pub written_in : written ≤ g.blocks
  pub len_written : len ≤ written

extent_facts : (g : Geometry) (which written len : ℕ) → extent_ok g which written len ≡ true → Extent g which written len
unfolding extent_ok
extent_facts g which written len e =
    let e1 = also_left _ _ e in
    record {
      which_in = leb-true which 1 (also_left _ _ e1);
      written_in = leb-true written g.blocks (also_right _ _ e1);
      len_written = leb-true len written (also_right _ _ e);
    }

facts_extent : (g : Geometry) (which written len : ℕ) → Extent g which written len → extent_ok g which written len ≡ true
unfolding extent_ok
facts_extent g which written len f =
    also_both _ _ (also_both _ _ (le-leb which 1 f.which_in) (le-leb written g.blocks f.written_in)) (le-leb len written f.len_written)

-- of a freeze
pub record PositionIn (g : Geometry) (written len position : ℕ) : Type 0 where
  pub position_in : position ≤ g.blocks
  pub len_written : len ≤ written
  pub position_written : position ≤ written

frozen_facts : (g : Geometry) (written len : ℕ) (f : Frozen) → frozen_ok g written len f ≡ true → f.isFrozen ≡ true → PositionIn g written len f.frozenJournalPosition
unfolding frozen_ok
frozen_facts g written len f e h =
    let b = if_then f.isFrozen _ e h in
    let b1 = also_left _ _ b in
    record {
      position_in = leb-true f.frozenJournalPosition g.blocks (also_left _ _ b1);
      len_written = leb-true len written (also_right _ _ b1);
      position_written = leb-true f.frozenJournalPosition written (also_right _ _ b);
    }

facts_frozen : (g : Geometry) (written len : ℕ) (f : Frozen) → (f.isFrozen ≡ true → PositionIn g written len f.frozenJournalPosition) → frozen_ok g written len f ≡ true
unfolding frozen_ok
facts_frozen g written len f k =
    then_if f.isFrozen _
    (λ h.
    let p = k h in
    also_both _ _
    (also_both _ _ (le-leb f.frozenJournalPosition g.blocks p.position_in) (le-leb len written p.len_written))
    (le-leb f.frozenJournalPosition written p.position_written))

-- of a received location
pub record LocationIn (g : Geometry) (isFrozen : Bool) (loc : Location) : Type 0 where
  pub loc_valid : ValidIndirectionTableLocation g loc
  pub frozen : isFrozen ≡ true

received_facts : (g : Geometry) (f : Frozen) → received_ok g f ≡ true → (loc : Location) → f.frozenLoc ≡ Some loc → LocationIn g f.isFrozen loc
unfolding received_ok
received_facts g f = go f.frozenLoc
  where
    go : (m : code.Option Location) → location_ok g f.isFrozen m ≡ true → (loc : Location) → m ≡ Some loc → LocationIn g f.isFrozen loc
    go None e loc h = ruin (cc)
    go (Some received) e loc h =
        let same : received ≡ loc = cc in
        rw (sym same) (record { loc_valid = table_location_facts g received (also_left _ _ e); frozen = also_right _ _ e })

facts_received : (g : Geometry) (f : Frozen) → ((loc : Location) → f.frozenLoc ≡ Some loc → LocationIn g f.isFrozen loc) → received_ok g f ≡ true
unfolding received_ok
facts_received g f = go f.frozenLoc
  where
    go : (m : code.Option Location) → ((loc : Location) → m ≡ Some loc → LocationIn g f.isFrozen loc) → location_ok g f.isFrozen m ≡ true
    go None k = refl
    go (Some loc) k = let l = k loc refl in also_both _ _ (facts_table_location g loc l.loc_valid) l.frozen

-- of a log commit
pub record AdvancesLog (written : ℕ) (superblock new : Superblock) : Type 0 where
  pub new_loc : new.indirectionTableLoc ≡ superblock.indirectionTableLoc
  pub new_start : new.journalStart ≡ superblock.journalStart
  pub new_len : new.journalLen ≡ written

log_facts : (written : ℕ) (superblock new : Superblock) → advance_log_ok written superblock new ≡ true → AdvancesLog written superblock new
unfolding advance_log_ok
log_facts written superblock new e =
    let e1 = also_left _ _ e in
    record {
      new_loc = same_location_is new.indirectionTableLoc superblock.indirectionTableLoc (also_left _ _ e1);
      new_start = eqb-true new.journalStart superblock.journalStart (also_right _ _ e1);
      new_len = eqb-true new.journalLen written (also_right _ _ e);
    }

facts_log : (written : ℕ) (superblock new : Superblock) → AdvancesLog written superblock new → advance_log_ok written superblock new ≡ true
unfolding advance_log_ok
facts_log written superblock new f =
    also_both _ _
    (also_both _ _ (location_same new.indirectionTableLoc superblock.indirectionTableLoc f.new_loc) (eq-eqb new.journalStart superblock.journalStart f.new_start))
    (eq-eqb new.journalLen written f.new_len)

-- of a location commit
pub record AdvancesLocation (g : Geometry) (written : ℕ) (f : Frozen) (superblock new : Superblock) : Type 0 where
  pub frozen : f.isFrozen ≡ true
  pub received : is_received f.frozenLoc ≡ true
  pub new_start : new.journalStart ≡ journal_pos_add g superblock.journalStart f.frozenJournalPosition
  pub new_len : new.journalLen ≡ written - f.frozenJournalPosition
  pub new_end : f.frozenJournalPosition + new.journalLen ≤ written

module _ (g : Geometry) (written : ℕ) (f : Frozen) (superblock new : Superblock) where
  location_facts : advance_location_ok g written f superblock new ≡ true → AdvancesLocation g written f superblock new
  unfolding advance_location_ok
  location_facts e =
      let e1 = also_left _ _ e in
      let e2 = also_left _ _ e1 in
      let e3 = also_left _ _ e2 in
      record {
        frozen = also_left _ _ e3;
        received = also_right _ _ e3;
        new_start = eqb-true new.journalStart (journal_pos_add g superblock.journalStart f.frozenJournalPosition) (also_right _ _ e2);
        new_len = eqb-true new.journalLen (written - f.frozenJournalPosition) (also_right _ _ e1);
        new_end = leb-true (f.frozenJournalPosition + new.journalLen) written (also_right _ _ e);
      }

  facts_location : AdvancesLocation g written f superblock new → advance_location_ok g written f superblock new ≡ true
  unfolding advance_location_ok
  facts_location a =
      also_both _ _
      (also_both _ _
      (also_both _ _ (also_both _ _ a.frozen a.received)
      (eq-eqb new.journalStart (journal_pos_add g superblock.journalStart f.frozenJournalPosition) a.new_start))
      (eq-eqb new.journalLen (written - f.frozenJournalPosition) a.new_len))
      (le-leb (f.frozenJournalPosition + new.journalLen) written a.new_end)

-- the received location is this one
pub received_is : (m : code.Option Location) (loc : Location) → is_location m loc ≡ true → m ≡ Some loc
received_is None loc e = false_true e
received_is (Some received) loc e = λ i. Some (same_location_is received loc e i)

pub is_received_is : (m : code.Option Location) (loc : Location) → m ≡ Some loc → is_location m loc ≡ true
is_received_is None loc e = ruin (cc)
is_received_is (Some received) loc e = location_same received loc (cc)

-- of either commit's new superblock
pub record IsNew (g : Geometry) (r : Ready) (new : Superblock) : Type 0 where
  pub none_outstanding_is : r.writes.count ≡ 0
  pub new_loc : (new.indirectionTableLoc ≡ r.superblock.indirectionTableLoc) ⊎ (r.frozen.frozenLoc ≡ Some new.indirectionTableLoc)
  pub new_wf : WFSuperblock g new
  pub new_counter : new.counter ≡ increment_superblock_counter r.superblock.counter
  pub none_frozen_is : r.entries.frozen ≡ 0

module _ (g : Geometry) (r : Ready) (new : Superblock) where
  new_facts : new_ok g r new ≡ true → IsNew g r new
  unfolding new_ok new_location_ok
  new_facts e =
      let e1 = also_left _ _ e in
      let e2 = also_left _ _ e1 in
      let e3 = also_left _ _ e2 in
      record {
        none_outstanding_is = eqb-true r.writes.count 0 (also_left _ _ e3);
        new_loc =
            ⊎_elim
            (λ h. inl (same_location_is new.indirectionTableLoc r.superblock.indirectionTableLoc h))
            (λ h. inr (received_is r.frozen.frozenLoc new.indirectionTableLoc h))
            (either_cases _ _ (also_right _ _ e3));
        new_wf = superblock_facts g new (also_right _ _ e2);
        new_counter = eqb-true new.counter (increment_superblock_counter r.superblock.counter) (also_right _ _ e1);
        none_frozen_is = eqb-true r.entries.frozen 0 (also_right _ _ e);
      }

  facts_new : IsNew g r new → new_ok g r new ≡ true
  unfolding new_ok new_location_ok
  facts_new n =
      also_both _ _
      (also_both _ _
      (also_both _ _
      (also_both _ _ (eq-eqb r.writes.count 0 n.none_outstanding_is)
      (⊎_elim
      (λ h. either_left _ _ (location_same new.indirectionTableLoc r.superblock.indirectionTableLoc h))
      (λ h. either_right _ _ (is_received_is r.frozen.frozenLoc new.indirectionTableLoc h))
      n.new_loc))
      (facts_superblock g new n.new_wf))
      (eq-eqb new.counter (increment_superblock_counter r.superblock.counter) n.new_counter))
      (eq-eqb r.entries.frozen 0 n.none_frozen_is)

-- of the commit in flight, by its case
abbrev pub InFlight : Geometry → Ready → Commit → Type 0
InFlight g r CommitNone = Unit {0}
InFlight g r (CommitAdvanceLog id new) = AdvancesLog r.writtenJournalLen r.superblock new × IsNew g r new
InFlight g r (CommitAdvanceLocation id new) = AdvancesLocation g r.writtenJournalLen r.frozen r.superblock new × IsNew g r new

in_flight_facts : (g : Geometry) (r : Ready) (c : Commit) → in_flight_ok g r c ≡ true → InFlight g r c
in_flight_facts g r CommitNone e = tt
in_flight_facts g r (CommitAdvanceLog id new) e = (log_facts r.writtenJournalLen r.superblock new (also_left _ _ e), new_facts g r new (also_right _ _ e))
in_flight_facts g r (CommitAdvanceLocation id new) e =
    (location_facts g r.writtenJournalLen r.frozen r.superblock new (also_left _ _ e), new_facts g r new (also_right _ _ e))

facts_in_flight : (g : Geometry) (r : Ready) (c : Commit) → InFlight g r c → in_flight_ok g r c ≡ true
facts_in_flight g r CommitNone f = refl
facts_in_flight g r (CommitAdvanceLog id new) f = also_both _ _ (facts_log r.writtenJournalLen r.superblock new f.0) (facts_new g r new f.1)
facts_in_flight g r (CommitAdvanceLocation id new) f =
    also_both _ _ (facts_location g r.writtenJournalLen r.frozen r.superblock new f.0) (facts_new g r new f.1)

-- of frozen entries
pub record SomeFrozen (written position : ℕ) (isFrozen : Bool) : Type 0 where
  pub position_is : position ≡ written
  pub frozen : isFrozen ≡ true

some_frozen_facts : (written position : ℕ) (isFrozen : Bool) (e : Entries) → some_frozen_ok written position isFrozen e ≡ true → (e.frozen ≡ 0 → ⊥) → SomeFrozen written position isFrozen
unfolding some_frozen_ok
some_frozen_facts written position isFrozen e t h =
    ⊎_elim
    (λ z. absurd (h (eqb-true e.frozen 0 z)))
    (λ b. record { position_is = eqb-true position written (also_left _ _ b); frozen = also_right _ _ b })
    (either_cases _ _ t)

facts_some_frozen : (written position : ℕ) (isFrozen : Bool) (e : Entries) → ((e.frozen ≡ 0 → ⊥) → SomeFrozen written position isFrozen) → some_frozen_ok written position isFrozen e ≡ true
unfolding some_frozen_ok
facts_some_frozen written position isFrozen e k =
    split_bool (eqb e.frozen 0)
    (λ z. either_left _ _ z)
    (λ n. let s = k (eqb-false e.frozen 0 n) in either_right _ _ (also_both _ _ (eq-eqb position written s.position_is) s.frozen))

-- the whole
pub record ReadyFacts (g : Geometry) (r : Ready) : Type 0 where
  pub extent : Extent g r.whichSuperblock r.writtenJournalLen r.superblock.journalLen
  pub if_frozen : r.frozen.isFrozen ≡ true → PositionIn g r.writtenJournalLen r.superblock.journalLen r.frozen.frozenJournalPosition
  pub if_received : (loc : Location) → r.frozen.frozenLoc ≡ Some loc → LocationIn g r.frozen.isFrozen loc
  pub superblock_wf : WFSuperblock g r.superblock
  pub in_flight_is : InFlight g r r.commit
  pub if_some_frozen : (r.entries.frozen ≡ 0 → ⊥) → SomeFrozen r.writtenJournalLen r.frozen.frozenJournalPosition r.frozen.isFrozen
  pub frozen_within : r.entries.frozen ≤ r.entries.pending
  pub taken_within : r.entries.taken.entries ≤ r.entries.replay
  pub writes_counted : Counted most_writes r.writes.count r.writes.ids

module _ (g : Geometry) (r : Ready) where
  pub ready_facts : ready_ok g r ≡ true → ReadyFacts g r
  unfolding ready_ok inv_ok entries_ok commit_ok
  ready_facts e =
      let e1 = also_left _ _ e in
      let b = also_right _ _ e1 in
      let a = also_left _ _ e1 in
      let a1 = also_left _ _ a in
      let a2 = also_left _ _ a1 in
      let a3 = also_left _ _ a2 in
      let a4 = also_left _ _ a3 in
      record {
        extent = extent_facts g r.whichSuperblock r.writtenJournalLen r.superblock.journalLen (also_left _ _ a4);
        if_frozen = frozen_facts g r.writtenJournalLen r.superblock.journalLen r.frozen (also_right _ _ a4);
        if_received = received_facts g r.frozen (also_right _ _ a3);
        superblock_wf = superblock_facts g r.superblock (also_right _ _ a2);
        in_flight_is = in_flight_facts g r r.commit (also_right _ _ a1);
        if_some_frozen = some_frozen_facts r.writtenJournalLen r.frozen.frozenJournalPosition r.frozen.isFrozen r.entries (also_right _ _ a);
        frozen_within = leb-true r.entries.frozen r.entries.pending (also_left _ _ b);
        taken_within = leb-true r.entries.taken.entries r.entries.replay (also_right _ _ b);
        writes_counted = counted_facts most_writes r.writes.count r.writes.ids (also_right _ _ e);
      }

  pub facts_ready : ReadyFacts g r → ready_ok g r ≡ true
  unfolding ready_ok inv_ok entries_ok commit_ok
  facts_ready f =
      also_both _ _
      (also_both _ _
      (also_both _ _
      (also_both _ _
      (also_both _ _
      (also_both _ _
      (also_both _ _ (facts_extent g r.whichSuperblock r.writtenJournalLen r.superblock.journalLen f.extent)
      (facts_frozen g r.writtenJournalLen r.superblock.journalLen r.frozen f.if_frozen))
      (facts_received g r.frozen f.if_received))
      (facts_superblock g r.superblock f.superblock_wf))
      (facts_in_flight g r r.commit f.in_flight_is))
      (facts_some_frozen r.writtenJournalLen r.frozen.frozenJournalPosition r.frozen.isFrozen r.entries f.if_some_frozen))
      (also_both _ _ (le-leb r.entries.frozen r.entries.pending f.frozen_within) (le-leb r.entries.taken.entries r.entries.replay f.taken_within)))
      (facts_counted most_writes r.writes.count r.writes.ids f.writes_counted)
