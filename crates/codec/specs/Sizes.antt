-- Blocks of their size: n of them are n times 4,096 bytes, what is read of a journal of such blocks is such blocks, and a write of such blocks
-- leaves such a journal.
use Rattle.std.specs.Prelude.{ℕ, zero, suc, ◌+◌, ◌*◌, ◌<◌, cond, ◌≡◌, refl, List, [], ◌∷◌, ltb, length, get_or, replicate}
use Rattle.std.proofs.Common.{sym, ◌∙◌, ap, subst, arith}
use Rattle.std.proofs.Math.Option.{Option, none, some, some-injective}
use Rattle.std.proofs.lemmas.List.{length-replicate, get_or-replicate, length-map}
use Rattle.std.proofs.Math.ListN.{get_or-eq_default}
use Rattle.laws.specs.Choice.{by_ltb, split_le}
use Rattle.laws.specs.Fold.{sum, sum_replicate}
use Rattle.laws.specs.Cut.{flat, lengths, length_lengths, length_flat}
use Rattle.laws.specs.Sets.{none_some}
use Rattle.laws.specs.Ring.{wrap, off}
use Rattle.layout.specs.declared.Geometry.{Geometry}
use Rattle.interval.specs.declared.JournalInterval.{JournalInterval}
use Rattle.interval.specs.Facts.{ValidJournalInterval}
use Rattle.interval.specs.Journal.{JournalBlock, cyclic_slice, JournalUpdate}
use Rattle.interval.proofs.Laws.{splice_value_off, length_slice, slice_at}
use Rattle.range.specs.Form.{block_size}
use Rattle.codec.specs.Codec.{JournalRange, SizedBlocks, Sized, Disk-HasJournalRange, disk_journal_range}
use Rattle.codec.specs.Ranges.{whole, full_whole}

-- no block, how many blocks, how many bytes, and each block
pub sized_none : SizedBlocks 0 []
unfolding lengths
sized_none = refl

module _ (n : ℕ) (jr : JournalRange) (h : SizedBlocks n jr) where
  pub sized_count : length jr ≡ n
  sized_count = sym (length_lengths jr) ∙ ap length h ∙ length-replicate n block_size

  pub sized_bytes : length (flat jr) ≡ n * block_size
  sized_bytes = length_flat jr ∙ ap sum h ∙ sum_replicate n block_size

at_lengths : (jr : JournalRange) (k : ℕ) → k < length jr → get_or (lengths jr) k 0 ≡ length (get_or jr k [])
unfolding lengths
at_lengths [] k h = absurd (omega arith)
at_lengths (b ∷ jr) zero h = refl
at_lengths (b ∷ jr) (suc k) h = at_lengths jr k (omega arith)

sized_at : (n : ℕ) (jr : JournalRange) → SizedBlocks n jr → (k : ℕ) → k < n → length (get_or jr k []) ≡ block_size
sized_at n jr h k l = sym (at_lengths jr k (omega (arith, l, sized_count n jr h))) ∙ ap (λ (ns : List ℕ). get_or ns k 0) h ∙ get_or-replicate n k block_size 0 l

-- blocks that are all readable
sized_whole : (jr : JournalRange) → Sized (whole jr) → SizedBlocks (length jr) jr
unfolding lengths
sized_whole [] f = refl
sized_whole (b ∷ jr) f = λ i. f 0 b refl i ∷ sized_whole jr (λ k x e. f (suc k) x e) i

-- an interval of a journal, where its blocks are all readable
module _ (g : Geometry) (journal : List (Option JournalBlock)) (size : length journal ≡ g.blocks) (sized : Sized journal) (v : JournalInterval) (f : ValidJournalInterval g v) where
  sized_slice : Sized (cyclic_slice g journal v)
  sized_slice i b e =
      split_le v.len i
      (λ l. none_some (get_or-eq_default (cyclic_slice g journal v) none (omega (arith, l, length_slice g journal size v f))) e)
      (λ l. sized (wrap g.blocks (v.start + i)) b (sym (slice_at g journal size v f i none l) ∙ e))

  pub sized_held : (jr : JournalRange) → whole jr ≡ cyclic_slice g journal v → SizedBlocks v.len jr
  sized_held jr e =
      sized_whole jr (subst Sized (sym e) sized_slice)
      ∙ ap (λ (n : ℕ). replicate n block_size) (sym (length-map jr some) ∙ ap length e ∙ length_slice g journal size v f)

pub sized_range : (g : Geometry) (journal : List (Option JournalBlock)) (v : JournalInterval) → Sized journal → ValidJournalInterval g v → Disk-HasJournalRange g journal v
    → SizedBlocks v.len (disk_journal_range g journal v)
sized_range g journal v sized f h = sized_held g journal h.size sized v f (disk_journal_range g journal v) (full_whole (cyclic_slice g journal v) h.full)

-- a write
pub sized_update : (g : Geometry) (journal journal' : List (Option JournalBlock)) (v : JournalInterval) (new : JournalRange) → JournalUpdate g journal journal' v new
    → Sized journal → SizedBlocks (length new) new → Sized journal'
sized_update g journal journal' v new u sized h i b e =
    split_le g.blocks i
    (λ l. none_some (get_or-eq_default journal' none (omega (arith, l, u.after_valid))) e)
    (λ l. go (sym (u.each i (omega (arith, l, u.before_valid)) ∙ splice_value_off g v u.interval_valid i l journal new) ∙ e))
  where
    go : cond (ltb (off g.blocks v.start i) v.len) (some (get_or new (off g.blocks v.start i) [])) (get_or journal i none) ≡ some b → length b ≡ block_size
    go =
        by_ltb (λ (o : Option JournalBlock). o ≡ some b → length b ≡ block_size) (off g.blocks v.start i) v.len _ _
        (λ l q. ap length (some-injective b _ (sym q)) ∙ sized_at (length new) new h (off g.blocks v.start i) (omega (arith, l, u.len_is)))
        (λ l q. sized i b q)
