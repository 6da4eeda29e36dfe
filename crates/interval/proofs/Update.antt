-- Laws of journal updates, for every N: an update writes its blocks around the ring, its interval then shows them, and an interval that
-- shares no block with it shows what it showed before.
use Prim.Native.Nat.{ℕ, ◌+◌, ◌≤◌, ◌<◌}
use Rattle.std.proofs.Math.Bool.{cond}
use Rattle.std.specs.Prelude.{◌≡◌, ltb, get_or}
use Rattle.std.proofs.Math.Path.{sym, ap}
use Rattle.std.proofs.Common.{◌∙◌, arith, lt-ltb, le-ltb, ext_get_or}
use mathlib.Core.List.{List, [], map}
use Rattle.std.proofs.Math.Option.{Option, none, some}
use Rattle.std.proofs.Math.ListN.{length}
use Rattle.std.proofs.lemmas.List.{length-map}
use Rattle.laws.specs.Choice.{split_le}
use Rattle.laws.specs.Part.{get_d_map_in}
use Rattle.laws.specs.Ring.{wrap, off, wrap_in, off_wrap}
use Rattle.laws.specs.Around.{around, splice_around, length_splice_around, get_d_splice_around, around_here, around_elsewhere}
use Rattle.layout.specs.declared.Geometry.{Geometry}
use Rattle.interval.specs.declared.JournalInterval.{JournalInterval}
use Rattle.interval.specs.Facts.{ValidJournalInterval, InCyclicRange}
use Rattle.interval.specs.Journal.{JournalBlock, ValidJournal, cyclic_splice_value, JournalUpdate, cyclic_slice}
use Rattle.interval.proofs.Laws.{splice_value_off, off_in_range, slice_around}

-- the journal after an update, computed
unfoldable pub updated : List (Option JournalBlock) → JournalInterval → List JournalBlock → List (Option JournalBlock)
updated journal v new = splice_around journal v.start (map some new)

-- two intervals share block i
pub record Shares (g : Geometry) (a b : JournalInterval) : Type 0 where
  pub block : ℕ
  pub block_in : block < g.blocks
  pub first : InCyclicRange g block a
  pub second : InCyclicRange g block b

module _ (g : Geometry) (journal : List (Option JournalBlock)) (v : JournalInterval) (new : List JournalBlock)
    (hj : ValidJournal g journal) (f : ValidJournalInterval g v) (hn : v.len ≡ length new) where
  long : length (map {B = Option JournalBlock} some new) ≡ v.len
  long = length-map new some ∙ sym hn

  -- block i of the computed one is the source's value
  pub updated_at : (i : ℕ) → i < length journal → get_or (updated journal v new) i none ≡ cyclic_splice_value g journal v new i
  unfolding updated
  updated_at i h =
      get_d_splice_around journal v.start (map some new) i none (omega arith) (omega (arith, long)) h
      ∙ (λ j. cond (ltb (off (hj j) v.start i) (long j)) (get_or (map some new) (off (hj j) v.start i) none) (get_or journal i none))
      ∙ inner
      ∙ sym (splice_value_off g v f i (omega arith) journal new)
    where
      o : ℕ
      o = off g.blocks v.start i

      inner : cond (ltb o v.len) (get_or (map some new) o none) (get_or journal i none) ≡ cond (ltb o v.len) (some (get_or new o [])) (get_or journal i none)
      inner =
          split_le v.len o
          (λ l. simp (le-ltb o v.len l))
          (λ l. simp (lt-ltb o v.len l) (get_d_map_in some new o [] none (omega (arith, l, hn))))

  pub length_updated : length (updated journal v new) ≡ g.blocks
  unfolding updated
  length_updated = length_splice_around journal v.start (map some new) (omega arith) (omega (arith, long)) ∙ hj

  -- it is an update, and every update is it
  pub updated_is : JournalUpdate g journal (updated journal v new) v new
  updated_is = record { before_valid = hj; after_valid = length_updated; interval_valid = f; len_is = hn; each = updated_at }

  pub update_updated : (journal' : List (Option JournalBlock)) → JournalUpdate g journal journal' v new → journal' ≡ updated journal v new
  update_updated journal' u =
      ext_get_or none journal' (updated journal v new) (u.after_valid ∙ sym length_updated)
      (λ i h. let k : i < length journal = omega (arith, u.after_valid, hj) in u.each i k ∙ sym (updated_at i k))

  -- its interval shows what was written
  pub slice_updated : cyclic_slice g (updated journal v new) v ≡ map some new
  unfolding updated
  slice_updated =
      slice_around g (updated journal v new) length_updated v f
      ∙ ap (λ (n : ℕ). around' n) (sym long)
      ∙ around_here journal v.start (map some new) (omega arith) (omega (arith, long))
    where
      around' : ℕ → List (Option JournalBlock)
      around' n = around (splice_around journal v.start (map some new)) v.start n

  -- an interval that shares no block with it shows what it showed
  pub slice_elsewhere : (b : JournalInterval) → ValidJournalInterval g b → (Shares g v b → ⊥) → cyclic_slice g (updated journal v new) b ≡ cyclic_slice g journal b
  unfolding updated
  slice_elsewhere b fb apart =
      slice_around g (updated journal v new) length_updated b fb
      ∙ around_elsewhere journal v.start (map some new) b.start b.len (omega arith) (omega (arith, long)) (omega arith) (omega arith) away
      ∙ sym (slice_around g journal hj b fb)
    where
      away : (t : ℕ) → t < b.len → length (map {B = Option JournalBlock} some new) ≤ off (length journal) v.start (wrap (length journal) (b.start + t))
      away t h =
          rw (long, hj)
          (split_le v.len (off g.blocks v.start i)
          (λ l. l)
          (λ l.
          absurd
          (apart
          (record {
            block = i;
            block_in = i_in;
            first = off_in_range g v f i i_in l;
            second = off_in_range g b fb i i_in (rw (off_wrap g.blocks b.start t fb.start_in (omega (arith, h, fb.len_in))) h);
          }))))
        where
          i : ℕ
          i = wrap g.blocks (b.start + t)

          i_in : i < g.blocks
          i_in = wrap_in g.blocks (b.start + t) (omega (arith, h, fb.start_in, fb.len_in))
