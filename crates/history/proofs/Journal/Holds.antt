-- What the journal holds from a place on, going round, for every N: through a write elsewhere, a write behind it, a start moved on, and a
-- crash. By the laws of slices and updates of crate interval; no overlap and no block index by hand.
use Rattle.std.specs.Prelude.{ℕ, ◌+◌, ◌-◌, ◌%◌, ◌≤◌, ◌<◌, ◌≡◌, List, [], ◌++◌, length, drop}
use Rattle.std.proofs.Common.{sym, ◌∙◌, ap, inl, inr, ⊎_elim, arith, length-append, drop_at, ext_get_or}
use Rattle.std.proofs.lemmas.List.{map-append, length-map}
use Rattle.std.proofs.Math.Option.{Option, none, some}
use Rattle.laws.specs.Ring.{wrap, off, wrap_in, wrap_mod, wrap_add, wrap_off, off_wrap}
use Rattle.layout.specs.declared.Geometry.{Geometry}
use Rattle.layout.specs.Journal.{journal_pos_add}
use Rattle.layout.specs.Laws.{pos_add_wrap}
use Rattle.interval.specs.declared.JournalInterval.{JournalInterval}
use Rattle.interval.specs.Interval.{interval}
use Rattle.interval.specs.Facts.{ValidJournalInterval, InCyclicRange}
use Rattle.interval.specs.Journal.{JournalBlock, JournalUpdate, cyclic_slice}
use Rattle.interval.proofs.Laws.{next_start_wrap, in_range_off, off_in_range, length_slice, slice_at, slice_none, adjacent_slices, slice_moved}
use Rattle.interval.proofs.Update.{Shares, update_updated, slice_updated, slice_elsewhere}
use Rattle.laws.specs.Sets.{Map}
use Rattle.codec.specs.Codec.{JournalRange}
use Rattle.source.specs.JournalDisk.{ReqId, ReqWriteJournal, havocJournal, written, written1, written2}
use Rattle.codec.specs.Ranges.{whole}

-- a position moved on, modulo N
pub pos_add_mod : (g : Geometry) (start k : ℕ) → start < g.blocks → k ≤ g.blocks → journal_pos_add g start k ≡ (start + k) % g.blocks
pos_add_mod g start k h l = pos_add_wrap g start k ∙ wrap_mod g.blocks (start + k) (omega arith)

pub pos_add_in : (g : Geometry) (start k : ℕ) → start < g.blocks → k ≤ g.blocks → journal_pos_add g start k < g.blocks
pos_add_in g start k h l = rw (pos_add_wrap g start k) (wrap_in g.blocks (start + k) (omega arith))

-- the blocks bs, from start on
abbrev pub Holds : Geometry → List (Option JournalBlock) → ℕ → JournalRange → Type 0
Holds g j start bs = cyclic_slice g j (interval start (length bs)) ≡ whole bs

-- two intervals without a common block
abbrev pub Apart : Geometry → JournalInterval → JournalInterval → Type 0
Apart g a b = Shares g a b → ⊥

valid : (g : Geometry) (start len : ℕ) → start < g.blocks → len ≤ g.blocks → ValidJournalInterval g (interval start len)
valid g start len h l = record { start_in = h; len_in = l }

-- a block behind w blocks, in an interval of b: seen from the start its offset is from w on, up to w + b
pub behind_off : (g : Geometry) (start w b i : ℕ) → start < g.blocks → w + b ≤ g.blocks → i < g.blocks → InCyclicRange g i (interval (journal_pos_add g start w) b)
    → (w ≤ off g.blocks start i) × (off g.blocks start i < w + b)
behind_off g start w b i h k l r = (omega (arith, is, short), omega (arith, is, short))
  where
    N : ℕ
    N = g.blocks

    place : ℕ
    place = journal_pos_add g start w

    place_in : place < N
    place_in = pos_add_in g start w h (omega (arith, k))

    t : ℕ
    t = off N place i

    short : t < b
    short = in_range_off g (interval place b) (valid g place b place_in (omega (arith, k))) i l r

    is : off N start i ≡ w + t
    is =
        ap (off N start) (sym (wrap_off N place i place_in l) ∙ ap (λ (n : ℕ). wrap N (n + t)) (pos_add_wrap g start w) ∙ wrap_add N start w t h (omega (arith, k, short)))
        ∙ off_wrap N start (w + t) h (omega (arith, k, short))

-- so it is none of the first a blocks, for a up to w
pub behind_apart : (g : Geometry) (start a w b : ℕ) → start < g.blocks → a ≤ w → w + b ≤ g.blocks
    → Apart g (interval (journal_pos_add g start w) b) (interval start a)
behind_apart g start a w b h l k s =
    let far = (behind_off g start w b s.block h k s.block_in s.first).0 in
    let near = in_range_off g (interval start a) (valid g start a h (omega arith)) s.block s.block_in s.second in
    omega arith

-- a write's pieces are parts of it
pub wrapped_in : (g : Geometry) (req : ReqWriteJournal) (b : JournalInterval) → ValidJournalInterval g (written req)
    → g.blocks < req.start + length req.journal → Apart g (written req) b → Apart g (written1 g req) b × Apart g (written2 g req) b
wrapped_in g req b f k apart = (
  λ s. apart (record { block = s.block; block_in = s.block_in; first = front s s.first; second = s.second }),
  λ s. apart (record { block = s.block; block_in = s.block_in; first = back s s.first; second = s.second }),
)
  where
    front : (s : Shares g (written1 g req) b) → InCyclicRange g s.block (written1 g req) → InCyclicRange g s.block (written req)
    front s = ⊎_elim (λ h. inl (omega (arith, k))) (λ h. absurd (omega arith))

    back : (s : Shares g (written2 g req) b) → InCyclicRange g s.block (written2 g req) → InCyclicRange g s.block (written req)
    back s = ⊎_elim (λ h. inr (omega arith)) (λ h. absurd (omega arith))

module _ (g : Geometry) (j : List (Option JournalBlock)) (hj : length j ≡ g.blocks) where
  pub holds_none : (start : ℕ) → start < g.blocks → Holds g j start []
  holds_none start h = slice_none g j hj start h

  -- some blocks, and more behind them
  pub holds_append : (start : ℕ) (a b : JournalRange) → start < g.blocks → length a + length b ≤ g.blocks
      → Holds g j start a → Holds g j (journal_pos_add g start (length a)) b → Holds g j start (a ++ b)
  holds_append start a b h l p q =
      ap (λ (n : ℕ). cyclic_slice g j (interval start n)) (length-append a b)
      ∙ adjacent_slices g j hj (interval start (length a)) (interval (journal_pos_add g start (length a)) (length b)) (valid g start (length a) h (omega arith))
      (next_start_wrap g (interval start (length a)) ∙ sym (pos_add_wrap g start (length a))) l
      ∙ (λ i. p i ++ q i)
      ∙ sym (map-append some a b)

  -- the blocks behind the first ones
  pub holds_moved : (start : ℕ) (a b : JournalRange) → start < g.blocks → length a + length b ≤ g.blocks
      → Holds g j start (a ++ b) → Holds g j (journal_pos_add g start (length a)) b
  holds_moved start a b h l p =
      ap (λ (n : ℕ). cyclic_slice g j (interval (journal_pos_add g start (length a)) n)) rest
      ∙ slice_moved g j hj (interval start (length (a ++ b))) (length a) (valid g start (length (a ++ b)) h (omega (arith, length-append a b, l))) (omega (arith, length-append a b))
      ∙ ap (drop (length a)) (p ∙ map-append some a b)
      ∙ drop_at (whole a) (whole b) (length a) (length-map a some)
    where
      rest : length b ≡ length (a ++ b) - length a
      rest = omega (arith, length-append a b)

  module _ (j' : List (Option JournalBlock)) (v : JournalInterval) (new : JournalRange) (u : JournalUpdate g j j' v new) where
    -- a write, where it stands
    pub holds_written : cyclic_slice g j' v ≡ whole new
    holds_written =
        ap (λ (x : List (Option JournalBlock)). cyclic_slice g x v) (update_updated g j v new hj u.interval_valid u.len_is j' u)
        ∙ slice_updated g j v new hj u.interval_valid u.len_is

    -- and elsewhere
    pub holds_elsewhere : (start : ℕ) (bs : JournalRange) → start < g.blocks → length bs ≤ g.blocks → Apart g v (interval start (length bs))
        → Holds g j start bs → Holds g j' start bs
    holds_elsewhere start bs h l apart p =
        ap (λ (x : List (Option JournalBlock)). cyclic_slice g x (interval start (length bs))) (update_updated g j v new hj u.interval_valid u.len_is j' u)
        ∙ slice_elsewhere g j v new hj u.interval_valid u.len_is (interval start (length bs)) (valid g start (length bs) h l) apart
        ∙ p

  -- a crash leaves what no write in flight covers
  pub holds_crashed : (j' : List (Option JournalBlock)) (writes : Map JournalInterval) → havocJournal g j j' writes → (start : ℕ) (bs : JournalRange)
      → start < g.blocks → length bs ≤ g.blocks → ((id : ReqId) (v : JournalInterval) → writes id ≡ some v → Apart g v (interval start (length bs)))
      → Holds g j start bs → Holds g j' start bs
  holds_crashed j' writes u start bs h l apart p = same ∙ p
    where
      v : JournalInterval
      v = interval start (length bs)

      f : ValidJournalInterval g v
      f = valid g start (length bs) h l

      hj' : length j' ≡ g.blocks
      hj' = u.size ∙ hj

      same : cyclic_slice g j' v ≡ cyclic_slice g j v
      same =
          ext_get_or none (cyclic_slice g j' v) (cyclic_slice g j v) (length_slice g j' hj' v f ∙ sym (length_slice g j hj v f))
          (λ t k.
          let m : t < length bs = omega (arith, k, length_slice g j' hj' v f) in
          let i_in : wrap g.blocks (start + t) < g.blocks = wrap_in g.blocks (start + t) (omega arith) in
          slice_at g j' hj' v f t none m
          ∙ sym
          (u.kept (wrap g.blocks (start + t)) (omega (arith, hj))
          (λ id w e r.
          apart id w e
          (record {
            block = wrap g.blocks (start + t);
            block_in = i_in;
            first = r;
            second = off_in_range g v f (wrap g.blocks (start + t)) i_in (rw (off_wrap g.blocks start t h (omega arith)) m);
          })))
          ∙ sym (slice_at g j hj v f t none m))
