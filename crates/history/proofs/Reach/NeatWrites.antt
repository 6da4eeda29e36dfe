-- A journal write keeps the writes in flight neat: its pieces lie behind all that was written, so they overlap none of the others nor what is
-- kept; and an empty kept interval is strictly inside none of them, so that they are clear of it in the source too.
use Rattle.std.specs.Prelude.{ℕ, ◌+◌, ◌-◌, ◌≤◌, ◌<◌, true, ◌≡◌}
use Rattle.std.proofs.Common.{sym, ◌∙◌, ap, subst, inl, inr, ⊎_elim, arith}
use Rattle.std.proofs.Math.Option.{some}
use Rattle.laws.specs.Choice.{split_le, split_eq}
use Rattle.laws.specs.Ring.{by_wrap}
use Rattle.layout.specs.declared.Geometry.{Geometry}
use Rattle.layout.specs.Journal.{journal_pos_add}
use Rattle.layout.specs.Laws.{pos_add_wrap}
use Rattle.interval.specs.declared.JournalInterval.{JournalInterval}
use Rattle.interval.specs.Interval.{interval}
use Rattle.interval.specs.Facts.{ValidJournalInterval, ContiguousJournalInterval, InCyclicRange}
use Rattle.interval.specs.Overlap.{source_cyclic_interval_overlap, journal_interval_overlap}
use Rattle.interval.proofs.Meets.{source_empty_clear, meets_facts, cyclic_same, plain_symmetric, plain_iff, apart_clear}
use Rattle.laws.specs.Sets.{Map, bind, unbind, none_some, same_value, bind_here, bind_there, unbind_here, unbind_there}
use Rattle.laws.specs.Maps.{Values, values_bind}
use Rattle.source.specs.JournalDisk.{ReqId}
use Rattle.history.proofs.Journal.Holds.{pos_add_in, behind_off, behind_apart}
use Rattle.history.proofs.Reach.Neat.{Piece}

-- no two writes in flight overlap
abbrev pub Lone : Map JournalInterval → Type 0
Lone m = (id1 id2 : ReqId) (v1 v2 : JournalInterval) → m id1 ≡ some v1 → m id2 ≡ some v2 → journal_interval_overlap v1 v2 ≡ true → id1 ≡ id2

pub lone_bind : (m : Map JournalInterval) (k : ReqId) (a : JournalInterval) → Lone m → ((id : ReqId) (v : JournalInterval) → m id ≡ some v → journal_interval_overlap a v ≡ true → ⊥) → Lone (bind m k a)
lone_bind m k a f h id1 id2 v1 v2 p q o =
    split_eq k id1
    (λ e1.
    split_eq k id2
    (λ e2. sym e1 ∙ e2)
    (λ n2. absurd (h id2 v2 (sym (bind_there m k id2 a n2) ∙ q) (ap (λ (v : JournalInterval). journal_interval_overlap v v2) (here id1 v1 e1 p) ∙ o))))
    (λ n1.
    split_eq k id2
    (λ e2.
    absurd
    (h id1 v1 (sym (bind_there m k id1 a n1) ∙ p)
    (ap (λ (v : JournalInterval). journal_interval_overlap v v1) (here id2 v2 e2 q) ∙ plain_symmetric v2 v1 ∙ o)))
    (λ n2. f id1 id2 v1 v2 (sym (bind_there m k id1 a n1) ∙ p) (sym (bind_there m k id2 a n2) ∙ q) o))
  where
    here : (id : ReqId) (v : JournalInterval) → k ≡ id → bind m k a id ≡ some v → a ≡ v
    here id v e q = same_value (bind_here m k a) (ap (bind m k a) e ∙ q)

pub lone_unbind : (m : Map JournalInterval) (k : ReqId) → Lone m → Lone (unbind m k)
lone_unbind m k f id1 id2 v1 v2 p q o = f id1 id2 v1 v2 (still id1 v1 p) (still id2 v2 q) o
  where
    still : (id : ReqId) (v : JournalInterval) → unbind m k id ≡ some v → m id ≡ some v
    still id v e = split_eq k id (λ n. none_some (sym (ap (unbind m k) n) ∙ unbind_here m k) e) (λ n. sym (unbind_there m k id n) ∙ e)

-- more was written
pub piece_longer : (g : Geometry) (kept : JournalInterval) (w n : ℕ) (v : JournalInterval) → w ≤ n → Piece g kept w v → Piece g kept n v
piece_longer g kept w n v h p =
    record { contiguous = p.contiguous; some_block = p.some_block; inside = λ i l r. omega (arith, h, p.inside i l r); clear = p.clear }

-- an interval of b blocks behind the w that were written, w at least what is kept
module _ (g : Geometry) (start len w b : ℕ) (h : start < g.blocks) (longer : len ≤ w) (fits : w + b ≤ g.blocks) where
  kept_valid : ValidJournalInterval g (interval start len)
  kept_valid = record { start_in = h; len_in = omega (arith, longer, fits) }

  -- a part of it
  pub piece_new : (v : JournalInterval) → ContiguousJournalInterval g v → 0 < v.len → ((i : ℕ) → InCyclicRange g i v → InCyclicRange g i (interval (journal_pos_add g start w) b))
      → (v.start < start → start < v.start + v.len → ⊥) → Piece g (interval start len) (w + b) v
  piece_new v c n part around =
      record {
        contiguous = c;
        some_block = n;
        inside = λ i l r. (behind_off g start w b i h fits l (part i r)).1;
        clear =
            split_le len 0
            (λ z. ap (λ (x : ℕ). source_cyclic_interval_overlap g v (interval start x)) (zero z) ∙ source_empty_clear g v start c h around)
            (λ z.
            sym (cyclic_same g v (interval start len) n z)
            ∙ apart_clear g v (interval start len) c.valid kept_valid
            (λ s. behind_apart g start len w b h longer fits (record { block = s.block; block_in = s.block_in; first = part s.block s.first; second = s.second })));
      }
    where
      zero : len ≤ 0 → len ≡ 0
      zero z = omega arith

  -- it overlaps nothing that lies within what was written
  pub piece_apart : (v x : JournalInterval) → ContiguousJournalInterval g v → 0 < v.len → ((i : ℕ) → InCyclicRange g i v → InCyclicRange g i (interval (journal_pos_add g start w) b))
      → Piece g (interval start len) w x → journal_interval_overlap v x ≡ true → ⊥
  piece_apart v x c n part p o =
      let s = (plain_iff g v x c p.contiguous).0 o in
      let far = (behind_off g start w b s.block h fits s.block_in (part s.block s.first)).0 in
      let near = p.inside s.block s.block_in s.second in
      omega arith

  -- whole, where it does not pass the end
  pub straight_around : journal_pos_add g start w + b ≤ g.blocks → journal_pos_add g start w < start → start < journal_pos_add g start w + b → ⊥
  straight_around =
      subst (λ (q : ℕ). q + b ≤ g.blocks → q < start → start < q + b → ⊥) (sym (pos_add_wrap g start w))
      (by_wrap (λ (q : ℕ). q + b ≤ g.blocks → q < start → start < q + b → ⊥) g.blocks (start + w)
      (λ m x y z. omega (arith, fits, z))
      (λ m x y z. omega (arith, y)))

  -- and in two pieces, where it does
  pub front_around : g.blocks < journal_pos_add g start w + b → journal_pos_add g start w < start → ⊥
  front_around =
      subst (λ (q : ℕ). g.blocks < q + b → q < start → ⊥) (sym (pos_add_wrap g start w))
      (by_wrap (λ (q : ℕ). g.blocks < q + b → q < start → ⊥) g.blocks (start + w)
      (λ m x y. omega (arith, fits, x, h))
      (λ m x y. omega (arith, y)))

  pub back_around : g.blocks < journal_pos_add g start w + b → start < b - (g.blocks - journal_pos_add g start w) → ⊥
  back_around =
      subst (λ (q : ℕ). g.blocks < q + b → start < b - (g.blocks - q) → ⊥) (sym (pos_add_wrap g start w))
      (by_wrap (λ (q : ℕ). g.blocks < q + b → start < b - (g.blocks - q) → ⊥) g.blocks (start + w)
      (λ m x y. omega (arith, fits, x, h))
      (λ m x y. omega (arith, fits, y, m)))

  -- the writes in flight after it
  module _ (writes : Map JournalInterval) (pieces : Values (Piece g (interval start len) w) writes) (lone : Lone writes) (some_block : 0 < b) where
    place : ℕ
    place = journal_pos_add g start w

    place_in : journal_pos_add g start w < g.blocks
    place_in = pos_add_in g start w h (omega (arith, fits))

    older : Values (Piece g (interval start len) (w + b)) writes
    older id v e = piece_longer g (interval start len) w (w + b) v (omega arith) (pieces id v e)

    module _ (straight : journal_pos_add g start w + b ≤ g.blocks) (id1 : ReqId) where
      whole_contiguous : ContiguousJournalInterval g (interval (journal_pos_add g start w) b)
      whole_contiguous = record { valid = record { start_in = place_in; len_in = omega (arith, fits) }; end_in = straight }

      pub straight_pieces : Values (Piece g (interval start len) (w + b)) (bind writes id1 (interval (journal_pos_add g start w) b))
      straight_pieces =
          values_bind (Piece g (interval start len) (w + b)) writes id1 (interval (journal_pos_add g start w) b) older
          (piece_new (interval (journal_pos_add g start w) b) whole_contiguous some_block (λ i r. r) (straight_around straight))

      pub straight_lone : Lone (bind writes id1 (interval (journal_pos_add g start w) b))
      straight_lone =
          lone_bind writes id1 (interval (journal_pos_add g start w) b) lone
          (λ id v e o. piece_apart (interval (journal_pos_add g start w) b) v whole_contiguous some_block (λ i r. r) (pieces id v e) o)

    module _ (wrapped : g.blocks < journal_pos_add g start w + b) (id1 id2 : ReqId) where
      abbrev front : JournalInterval
      front = interval (journal_pos_add g start w) (g.blocks - journal_pos_add g start w)

      abbrev back : JournalInterval
      back = interval 0 (b - (g.blocks - journal_pos_add g start w))

      front_contiguous : ContiguousJournalInterval g front
      front_contiguous = record { valid = record { start_in = place_in; len_in = omega arith }; end_in = omega (arith, place_in) }

      back_contiguous : ContiguousJournalInterval g back
      back_contiguous = record { valid = record { start_in = omega (arith, place_in); len_in = omega (arith, fits) }; end_in = omega (arith, fits) }

      front_part : (i : ℕ) → InCyclicRange g i front → InCyclicRange g i (interval (journal_pos_add g start w) b)
      front_part i = ⊎_elim (λ r. inl (omega (arith, wrapped))) (λ r. absurd (omega (arith, place_in)))

      back_part : (i : ℕ) → InCyclicRange g i back → InCyclicRange g i (interval (journal_pos_add g start w) b)
      back_part i = ⊎_elim (λ r. inr (omega (arith, place_in))) (λ r. absurd (omega (arith, fits)))

      front_piece : Piece g (interval start len) (w + b) front
      front_piece = piece_new front front_contiguous (omega (arith, place_in)) front_part (λ x y. front_around wrapped x)

      back_piece : Piece g (interval start len) (w + b) back
      back_piece = piece_new back back_contiguous (omega (arith, wrapped, place_in)) back_part (λ x y. back_around wrapped (omega (arith, y)))

      pub wrapped_pieces : Values (Piece g (interval start len) (w + b)) (bind (bind writes id1 front) id2 back)
      wrapped_pieces =
          values_bind (Piece g (interval start len) (w + b)) (bind writes id1 front) id2 back
          (values_bind (Piece g (interval start len) (w + b)) writes id1 front older front_piece) back_piece

      pub wrapped_lone : Lone (bind (bind writes id1 front) id2 back)
      wrapped_lone =
          lone_bind (bind writes id1 front) id2 back
          (lone_bind writes id1 front lone (λ id v e o. piece_apart front v front_contiguous (omega (arith, place_in)) front_part (pieces id v e) o))
          (values_bind (λ (v : JournalInterval). journal_interval_overlap back v ≡ true → ⊥) writes id1 front
          (λ id v e o. piece_apart back v back_contiguous (omega (arith, wrapped, place_in)) back_part (pieces id v e) o)
          (λ o. let f = meets_facts back front o in omega (arith, fits)))
