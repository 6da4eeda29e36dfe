-- What is awaited as sets and maps, and that each test says yes exactly where the disk holds that.
use Rattle.std.specs.Prelude.{None, Some}
use Rattle.std.specs.declared.option.Option as code
use Rattle.std.specs.Prelude.{ℕ, true, ◌≡◌, refl, take}
use Rattle.std.proofs.Math.Path.{sym, subst}
use Rattle.std.proofs.Common.{◌∙◌, ap, eqb-true, eq-eqb}
use Rattle.std.proofs.Math.Option.{Option, none, some}
use Rattle.laws.specs.Choice.{also_left, also_right, also_both, true_false, false_true, split_eq}
use Rattle.laws.specs.Maps.{keys_bind}
use Rattle.laws.specs.Sets.{Ids, join, Map, no_keys, bind, is_key, keys, ids_of, Two, each_of, bind_here, bind_there, same_value, none_some}
use Rattle.interval.specs.declared.JournalInterval.{JournalInterval}
use Rattle.superblock.specs.Laws.{same_superblock_is, superblock_same}
use Rattle.tables.specs.declared.IdTable.{IdTable}
use Rattle.tables.specs.declared.IntervalTable.{IntervalTable}
use Rattle.tables.specs.IdTable.{id_set, added_id}
use Rattle.laws.specs.Optional.{optional}
use Rattle.tables.specs.IntervalTable.{interval_map, SizedIntervals}
use Rattle.tables.proofs.Laws.Places.{same_sets, sets_same}
use Rattle.tables.proofs.Laws.IntervalTables.{same_facts, facts_same}
use Rattle.requests.specs.Slots.{SuperblockReads, SuperblockWrites, writing}
use Rattle.requests.specs.declared.SuperblockWrite.{SuperblockWrite}
use Rattle.requests.specs.Laws.Pairs.{slot_pair}
use Rattle.joined.specs.declared.AwaitedRead.{AwaitedRead}
use Rattle.joined.specs.Awaited.{reading}
use Rattle.joined.specs.declared.AwaitedReads.{AwaitedReads}
use Rattle.joined.specs.Held.{same_tables, same_reads, same_interval, read_is, read_held, read_ids, same_journal_reads, same_write, same_writes}

-- superblock reads
module _ (a b : IdTable) where
  tables_facts : same_tables a b ≡ true → id_set b ≡ id_set a
  unfolding same_tables
  tables_facts e = sym (same_sets (take a.count a.ids) (take b.count b.ids) e)

  facts_tables : id_set b ≡ id_set a → same_tables a b ≡ true
  unfolding same_tables
  facts_tables e = sets_same (take a.count a.ids) (take b.count b.ids) (sym e)

module _ (awaited held : SuperblockReads) where
  pub reads_facts : same_reads awaited held ≡ true → each_of id_set (slot_pair held) ≡ each_of id_set (slot_pair awaited)
  unfolding same_reads
  reads_facts e =
      λ i.
      record {
        first = tables_facts awaited.first held.first (also_left _ _ e) i;
        second = tables_facts awaited.second held.second (also_right _ _ e) i;
      }

  pub facts_reads : each_of id_set (slot_pair held) ≡ each_of id_set (slot_pair awaited) → same_reads awaited held ≡ true
  unfolding same_reads
  facts_reads e =
      also_both _ _
      (facts_tables awaited.first held.first (ap (λ (t : Two Ids). t.first) e))
      (facts_tables awaited.second held.second (ap (λ (t : Two Ids). t.second) e))

-- journal reads: the map that they make
abbrev pub read_bound : code.Option AwaitedRead → Map JournalInterval → Map JournalInterval
read_bound (Some r) m = bind m r.id r.interval
read_bound None m = m

abbrev pub awaited_map : AwaitedReads → Map JournalInterval
awaited_map r = read_bound r.front (read_bound r.back no_keys)

-- the two reads are not under one id
abbrev pub ReadsDiffer : AwaitedReads → Type 0
ReadsDiffer r = (id : ℕ) (v w : JournalInterval) → r.front ≡ reading id v → r.back ≡ reading id w → ⊥

-- two maps of the same keys are equal where the one has each value of the other
same_maps : {A : Type 0} (m n : Map A) → keys m ≡ keys n → ((i : ℕ) (a : A) → n i ≡ some a → m i ≡ some a) → m ≡ n
same_maps {A} m n e f = λ j i. go (m i) (n i) (ap (λ (s : Ids). s i) e) (f i) j
  where
    go : (o p : Option A) → is_key o ≡ is_key p → ((a : A) → p ≡ some a → o ≡ some a) → o ≡ p
    go none none k h = refl
    go (some a) none k h = true_false k
    go o (some b) k h = h b refl

-- a value of a map with one more is the new one, or one of the map's
by_bind : {A G : Type 0} (n : Map A) (k : ℕ) (a : A) (i : ℕ) (v : A) → bind n k a i ≡ some v → (k ≡ i → a ≡ v → G) → (n i ≡ some v → G) → G
by_bind n k a i v e f h =
    split_eq k i
    (λ q. f q (same_value (bind_here n k a) (ap (bind n k a) q ∙ e)))
    (λ o. h (sym (bind_there n k i a o) ∙ e))

-- its ids
awaited_ids : (r : AwaitedReads) → keys (awaited_map r) ≡ id_set (read_ids r)
unfolding read_ids added_id ids_of
awaited_ids r = go r.front r.back
  where
    go : (front back : code.Option AwaitedRead) → keys (read_bound front (read_bound back no_keys)) ≡ id_set (read_ids (record { front = front; back = back }))
    go None None = refl
    go None (Some b) = keys_bind no_keys b.id b.interval
    go (Some a) None = keys_bind no_keys a.id a.interval
    go (Some a) (Some b) =
        keys_bind (bind no_keys b.id b.interval) a.id a.interval ∙ ap (λ (s : Ids). join s a.id) (keys_bind no_keys b.id b.interval)

-- a read in a map
abbrev ReadIn : Map JournalInterval → code.Option AwaitedRead → Type 0
ReadIn m (Some r) = m r.id ≡ some r.interval
ReadIn m None = Unit {0}

interval_facts : (v w : JournalInterval) → same_interval v w ≡ true → w ≡ v
unfolding same_interval
interval_facts v w e =
    λ i.
    record {
      start = sym (eqb-true v.start w.start (also_left _ _ e)) i;
      len = sym (eqb-true v.len w.len (also_right _ _ e)) i;
    }

facts_interval : (v : JournalInterval) → same_interval v v ≡ true
unfolding same_interval
facts_interval v = also_both _ _ (eq-eqb v.start v.start refl) (eq-eqb v.len v.len refl)

held_in : (t : IntervalTable) (r : code.Option AwaitedRead) → read_held t r ≡ true → ReadIn (interval_map t) r
held_in t None e = tt
held_in t (Some r) e = go (interval_map t r.id) e
  where
    go : (o : Option JournalInterval) → read_is (optional o) r.interval ≡ true → o ≡ some r.interval
    go none q = false_true q
    go (some w) q = ap some (interval_facts r.interval w q)

in_held : (t : IntervalTable) (r : code.Option AwaitedRead) → ReadIn (interval_map t) r → read_held t r ≡ true
in_held t None e = refl
in_held t (Some r) e = ap (λ (o : Option JournalInterval). read_is (optional o) r.interval) e ∙ facts_interval r.interval

-- each value that is awaited, is there
back_there : (m : Map JournalInterval) (back : code.Option AwaitedRead) → ReadIn m back → (i : ℕ) (v : JournalInterval) → read_bound back no_keys i ≡ some v → m i ≡ some v
back_there m None b i v e = none_some refl e
back_there m (Some r) b i v e = by_bind no_keys r.id r.interval i v e (λ q p. ap m (sym q) ∙ b ∙ ap some p) (λ n. none_some refl n)

both_there : (m : Map JournalInterval) (front back : code.Option AwaitedRead) → ReadIn m front → ReadIn m back → (i : ℕ) (v : JournalInterval)
    → read_bound front (read_bound back no_keys) i ≡ some v → m i ≡ some v
both_there m None back f b i v e = back_there m back b i v e
both_there m (Some r) back f b i v e =
    by_bind (read_bound back no_keys) r.id r.interval i v e (λ q p. ap m (sym q) ∙ f ∙ ap some p) (back_there m back b i v)

-- of the map's own, the front's is there, and where the two differ the back's
front_in_is : (front : code.Option AwaitedRead) (m : Map JournalInterval) → ReadIn (read_bound front m) front
front_in_is None m = tt
front_in_is (Some r) m = bind_here m r.id r.interval

back_in_is : (front back : code.Option AwaitedRead) → ReadsDiffer (record { front = front; back = back }) → ReadIn (read_bound front (read_bound back no_keys)) back
back_in_is front None d = tt
back_in_is None (Some b) d = bind_here no_keys b.id b.interval
back_in_is (Some a) (Some b) d =
    bind_there (bind no_keys b.id b.interval) a.id b.id a.interval (λ q. d b.id a.interval b.interval (ap (λ (n : ℕ). reading n a.interval) q) refl)
    ∙ bind_here no_keys b.id b.interval

module _ (r : AwaitedReads) (t : IntervalTable) (l : SizedIntervals t) where
  pub journal_reads_facts : same_journal_reads r t ≡ true → interval_map t ≡ awaited_map r
  unfolding same_journal_reads
  journal_reads_facts e =
      let e1 = also_right _ _ e in
      same_maps (interval_map t) (awaited_map r)
      (same_facts t l (read_ids r) (also_left _ _ e) ∙ sym (awaited_ids r))
      (both_there (interval_map t) r.front r.back
      (held_in t r.front (also_left _ _ e1))
      (held_in t r.back (also_right _ _ e1)))

  pub facts_journal_reads : ReadsDiffer r → interval_map t ≡ awaited_map r → same_journal_reads r t ≡ true
  unfolding same_journal_reads
  facts_journal_reads d e =
      also_both _ _ (facts_same t l (read_ids r) (ap keys e ∙ awaited_ids r))
      (also_both _ _
      (in_held t r.front (moved r.front (front_in_is r.front (read_bound r.back no_keys))))
      (in_held t r.back (moved r.back (back_in_is r.front r.back d))))
    where
      moved : (x : code.Option AwaitedRead) → ReadIn (awaited_map r) x → ReadIn (interval_map t) x
      moved x = subst (λ (m : Map JournalInterval). ReadIn m x) (sym e)

-- superblock writes
write_facts : (a b : code.Option SuperblockWrite) → same_write a b ≡ true → b ≡ a
write_facts None None e = refl
write_facts None (Some b) e = false_true e
write_facts (Some a) None e = false_true e
write_facts (Some a) (Some b) e =
    λ i.
    writing (sym (eqb-true a.id b.id (also_left _ _ e)) i) (sym (same_superblock_is a.superblock b.superblock (also_right _ _ e)) i)

facts_write : (a : code.Option SuperblockWrite) → same_write a a ≡ true
facts_write None = refl
facts_write (Some a) = also_both _ _ (eq-eqb a.id a.id refl) (superblock_same a.superblock a.superblock refl)

module _ (awaited held : SuperblockWrites) where
  pub writes_facts : same_writes awaited held ≡ true → held ≡ awaited
  unfolding same_writes
  writes_facts e =
      λ i.
      record {
        first = write_facts awaited.first held.first (also_left _ _ e) i;
        second = write_facts awaited.second held.second (also_right _ _ e) i;
      }

  pub facts_writes : held ≡ awaited → same_writes awaited held ≡ true
  unfolding same_writes
  facts_writes e =
      also_both _ _
      (ap (λ (w : SuperblockWrites). same_write awaited.first w.first) e ∙ facts_write awaited.first)
      (ap (λ (w : SuperblockWrites). same_write awaited.second w.second) e ∙ facts_write awaited.second)
