-- Laws of source 002's definitions, for every N. `InCyclicRange`, `cyclic_slice` and `cyclic_splice_value` are tied to the form that proofs use,
-- a place's offset from the start going round (Rattle.laws.specs.Ring); then what the source states as `ensures`, and what intervals,
-- slices and updates have to do with one another.
use Rattle.std.specs.Prelude.{ℕ, ◌+◌, ◌-◌, ◌*◌, ◌/◌, ◌≤◌, ◌<◌, true, ◌≡◌, ltb, length, get_or}
use Rattle.std.proofs.Math.Bool.{cond}
use Rattle.std.proofs.Math.Path.{sym, ap}
use Rattle.std.proofs.Common.{◌∙◌, subst, subst₂, inl, inr, ⊎_elim, ext_get_or}
use mathlib.Core.List.{List, [], ◌++◌, append-nil}
use Rattle.std.proofs.Math.Option.{Option, none, some}
use native.Mathlib.Omega.{arith}
use borrow.Author.Tests.{lt-ltb, le-ltb, le-leb, lt-leb, eq-eqb, ne_eqb, leb-true}
use Rattle.std.proofs.Math.ListN.{take, drop}
use Rattle.laws.specs.Part.{tab, length_tab, get_d_tab}
use Rattle.laws.specs.Choice.{also_false, false_also, true_also, by_leb, by_ltb, split_le, also_left, also_right, either_cases}
use Rattle.laws.specs.Ring.{wrap, off, by_off, wrap_below, wrap_past, wrap_in, wrap_add}
use Rattle.laws.specs.Around.{around, length_around, get_d_around, around_straight, around_past, around_append, around_drop, around_none}
use Rattle.layout.specs.declared.Geometry.{Geometry}
use Rattle.layout.specs.declared.Location.{Location}
use Rattle.layout.specs.Journal.{journal_pos_add, journal_range_location}
use Rattle.layout.specs.Laws.{ValidJournalLocation, pos_add_wrap}
use Rattle.interval.specs.declared.JournalInterval.{JournalInterval}
use Rattle.interval.specs.Interval.{interval, journal_front_interval, journal_back_interval, next_start_point, concat_intervals, journal_interval_of_location, subinterval}
use Rattle.interval.specs.Facts.{ValidJournalInterval, ContiguousJournalInterval, InCyclicRange}
use Rattle.interval.specs.Journal.{JournalBlock, cyclic_splice_value, cyclic_slice}

-- the point after an interval is the ring's
pub next_start_wrap : (g : Geometry) (v : JournalInterval) → next_start_point g v ≡ wrap g.blocks (v.start + v.len)
unfolding next_start_point
next_start_wrap g v =
    by_ltb (λ (p : ℕ). p ≡ wrap g.blocks (v.start + v.len)) (v.start + v.len) g.blocks (v.start + v.len) (v.start + v.len - g.blocks)
    (λ h. sym (wrap_below g.blocks (v.start + v.len) h))
    (λ h. sym (wrap_past g.blocks (v.start + v.len) h))

pub next_start_in : (g : Geometry) (v : JournalInterval) → ValidJournalInterval g v → next_start_point g v < g.blocks
next_start_in g v f = rw (next_start_wrap g v) (wrap_in g.blocks (v.start + v.len) (omega arith))

-- a block lies in the interval exactly where its offset from the start is below the len
module _ (g : Geometry) (v : JournalInterval) (f : ValidJournalInterval g v) (i : ℕ) (h : i < g.blocks) where
  pub in_range_off : InCyclicRange g i v → off g.blocks v.start i < v.len
  in_range_off r =
      by_off (λ (o : ℕ). o < v.len) g.blocks v.start i
      (λ l. ⊎_elim (λ p. omega arith) (λ p. omega arith) r)
      (λ l. ⊎_elim (λ p. omega arith) (λ p. omega arith) r)

  pub off_in_range : off g.blocks v.start i < v.len → InCyclicRange g i v
  off_in_range =
      by_off (λ (o : ℕ). o < v.len → InCyclicRange g i v) g.blocks v.start i
      (λ l k. inl (omega arith))
      (λ l k. inr (omega arith))

  -- block i after the blocks of the interval were written anew
  pub splice_value_off : (journal : List (Option JournalBlock)) (new : List JournalBlock)
      → cyclic_splice_value g journal v new i
      ≡ cond (ltb (off g.blocks v.start i) v.len) (some (get_or new (off g.blocks v.start i) [])) (get_or journal i none)
  unfolding cyclic_splice_value
  splice_value_off journal new =
      by_off
      (λ (o : ℕ). cyclic_splice_value g journal v new i ≡ cond (ltb o v.len) (some (get_or new o [])) (get_or journal i none))
      g.blocks v.start i
      (λ l.
      by_ltb (λ (y : Option JournalBlock). cyclic_splice_value g journal v new i ≡ y) (i - v.start) v.len (some (get_or new (i - v.start) [])) (get_or journal i none)
      (λ k.
      let p : i < v.start + v.len = omega arith in
      simp (le-leb v.start i l, lt-ltb i (v.start + v.len) p, true_also))
      (λ k.
      let p : v.start + v.len ≤ i = omega arith in
      let q : v.start + v.len ≤ i + g.blocks = omega arith in
      simp (le-ltb i (v.start + v.len) p, le-ltb (i + g.blocks) (v.start + v.len) q, also_false)))
      (λ l.
      by_ltb (λ (y : Option JournalBlock). cyclic_splice_value g journal v new i ≡ y) (i + g.blocks - v.start) v.len (some (get_or new (i + g.blocks - v.start) [])) (get_or journal i none)
      (λ k.
      let p : v.start ≤ i + g.blocks = omega arith in
      let q : i + g.blocks < v.start + v.len = omega arith in
      simp (lt-leb v.start i l, false_also, le-leb v.start (i + g.blocks) p, lt-ltb (i + g.blocks) (v.start + v.len) q, true_also))
      (λ k.
      let q : v.start + v.len ≤ i + g.blocks = omega arith in
      simp (lt-leb v.start i l, false_also, le-ltb (i + g.blocks) (v.start + v.len) q, also_false)))

-- the start moved on by k within the len: still an interval, with the same point after it, and within the old one
pub moved_valid : (g : Geometry) (v : JournalInterval) (k : ℕ) → ValidJournalInterval g v → k ≤ v.len
    → ValidJournalInterval g (interval (journal_pos_add g v.start k) (v.len - k))
moved_valid g v k f h =
    record { start_in = rw (pos_add_wrap g v.start k) (wrap_in g.blocks (v.start + k) (omega arith)); len_in = omega arith }

pub moved_next : (g : Geometry) (v : JournalInterval) (k : ℕ) → ValidJournalInterval g v → k ≤ v.len
    → next_start_point g (interval (journal_pos_add g v.start k) (v.len - k)) ≡ next_start_point g v
moved_next g v k f h =
    let e : k + (v.len - k) ≡ v.len = omega arith in
    next_start_wrap g (interval (journal_pos_add g v.start k) (v.len - k))
    ∙ ap (λ (p : ℕ). wrap g.blocks (p + (v.len - k))) (pos_add_wrap g v.start k)
    ∙ wrap_add g.blocks v.start k (v.len - k) f.start_in (omega arith)
    ∙ ap (λ (n : ℕ). wrap g.blocks (v.start + n)) e
    ∙ sym (next_start_wrap g v)

-- front and back: none of an empty interval; all of it in front where it does not pass the end; else up to the end, and the rest
pub record FrontBack (g : Geometry) (start len : ℕ) (front back : Option JournalInterval) : Type 0 where
  pub front_is : journal_front_interval g start len ≡ front
  pub back_is : journal_back_interval g start len ≡ back

module _ (g : Geometry) (start len : ℕ) where
  pub parts_none : len ≡ 0 → FrontBack g start len none none
  unfolding journal_front_interval journal_back_interval
  parts_none h = record { front_is = simp (eq-eqb len 0 h); back_is = simp (eq-eqb len 0 h) }

  pub parts_straight : 0 < len → len ≤ g.blocks - start → FrontBack g start len (some (interval start len)) none
  unfolding journal_front_interval journal_back_interval
  parts_straight h k =
      let n : len ≡ 0 → ⊥ = λ e. omega arith in
      record {
        front_is = simp (ne_eqb len 0 n, le-leb len (g.blocks - start) k);
        back_is = simp (ne_eqb len 0 n, le-leb len (g.blocks - start) k);
      }

  pub parts_wrapped : g.blocks - start < len
      → FrontBack g start len (some (interval start (g.blocks - start))) (some (interval 0 (len - (g.blocks - start))))
  unfolding journal_front_interval journal_back_interval
  parts_wrapped k =
      let n : len ≡ 0 → ⊥ = λ e. omega arith in
      record {
        front_is = simp (ne_eqb len 0 n, lt-leb len (g.blocks - start) k);
        back_is = simp (ne_eqb len 0 n, lt-leb len (g.blocks - start) k);
      }

  -- one of the three is the case
  pub parts_cases {κ} : {P : Type κ} → (len ≡ 0 → P) → (0 < len → len ≤ g.blocks - start → P) → (g.blocks - start < len → P) → P
  parts_cases f h k = split_le len 0 (λ l. f (omega arith)) (λ l. split_le len (g.blocks - start) (λ m. h l m) k)

-- each part is contiguous, and their lens make up the len
abbrev pub len_of : Option JournalInterval → ℕ
len_of none = 0
len_of (some v) = v.len

abbrev pub Contiguous? : Geometry → Option JournalInterval → Type 0
Contiguous? g none = Unit {0}
Contiguous? g (some v) = ContiguousJournalInterval g v

pub record PartsFit (g : Geometry) (len : ℕ) (front back : Option JournalInterval) : Type 0 where
  pub front_contiguous : Contiguous? g front
  pub back_contiguous : Contiguous? g back
  pub lens_add : len_of front + len_of back ≡ len

pub parts_fit : (g : Geometry) (v : JournalInterval) → ValidJournalInterval g v
    → PartsFit g v.len (journal_front_interval g v.start v.len) (journal_back_interval g v.start v.len)
parts_fit g v f =
    parts_cases g v.start v.len
    (λ h. to (parts_none g v.start v.len h) (record { front_contiguous = tt; back_contiguous = tt; lens_add = omega arith }))
    (λ h k.
    to (parts_straight g v.start v.len h k)
    (record { front_contiguous = record { valid = f; end_in = omega arith }; back_contiguous = tt; lens_add = omega arith }))
    (λ k.
    to (parts_wrapped g v.start v.len k)
    (record {
      front_contiguous = record { valid = record { start_in = f.start_in; len_in = omega arith }; end_in = omega arith };
      back_contiguous = record { valid = record { start_in = omega arith; len_in = omega arith }; end_in = omega arith };
      lens_add = omega arith;
    }))
  where
    to : {a b : Option JournalInterval} → FrontBack g v.start v.len a b → PartsFit g v.len a b
        → PartsFit g v.len (journal_front_interval g v.start v.len) (journal_back_interval g v.start v.len)
    to p q = subst₂ (PartsFit g v.len) (sym p.front_is) (sym p.back_is) q

-- the slice of an interval that may be none
abbrev pub slice_of {ℓ} : {A : Type ℓ} → Geometry → List A → Option JournalInterval → List A
slice_of g s none = []
slice_of g s (some v) = cyclic_slice g s v

-- a slice is what lies around the ring from the start on
module _ {ℓ} {A : Type ℓ} (g : Geometry) (s : List A) (hs : length s ≡ g.blocks) where
  pub slice_around : (v : JournalInterval) → ValidJournalInterval g v → cyclic_slice g s v ≡ around s v.start v.len
  unfolding cyclic_slice
  slice_around v f =
      by_leb (λ (l : List A). l ≡ around s v.start v.len) (v.start + v.len) g.blocks
      (take v.len (drop v.start s)) (drop v.start s ++ take (v.start + v.len - g.blocks) s)
      (λ h. sym (around_straight s v.start v.len (omega arith)))
      (λ h.
      ap (λ (n : ℕ). drop v.start s ++ take (v.start + v.len - n) s) (sym hs)
      ∙ sym (around_past s v.start v.len (omega arith) (omega arith) (omega arith)))

  pub length_slice : (v : JournalInterval) → ValidJournalInterval g v → length (cyclic_slice g s v) ≡ v.len
  length_slice v f = ap length (slice_around v f) ∙ length_around s v.start v.len (omega arith) (omega arith)

  -- block t of a slice
  pub slice_at : (v : JournalInterval) → ValidJournalInterval g v → (t : ℕ) (x : A) → t < v.len
      → get_or (cyclic_slice g s v) t x ≡ get_or s (wrap g.blocks (v.start + t)) x
  slice_at v f t x h =
      ap (λ (l : List A). get_or l t x) (slice_around v f)
      ∙ get_d_around s v.start v.len t x (omega arith) (omega arith) h
      ∙ ap (λ (n : ℕ). get_or s (wrap n (v.start + t)) x) hs

  pub slice_none : (start : ℕ) → start < g.blocks → cyclic_slice g s (interval start 0) ≡ []
  slice_none start h =
      slice_around (interval start 0) (record { start_in = h; len_in = omega arith }) ∙ around_none s start

  -- adjacent intervals concatenate
  pub adjacent_slices : (a b : JournalInterval) → ValidJournalInterval g a → next_start_point g a ≡ b.start → a.len + b.len ≤ g.blocks
      → cyclic_slice g s (concat_intervals a b) ≡ cyclic_slice g s a ++ cyclic_slice g s b
  adjacent_slices a b f e k =
      slice_around (concat_intervals a b) (record { start_in = f.start_in; len_in = k })
      ∙ around_append s a.start a.len b.len (omega arith) (omega arith)
      ∙ ap (λ (p : ℕ). around s a.start a.len ++ around s p b.len) next
      ∙ sym (λ i. slice_around a f i ++ slice_around b fb i)
    where
      next : wrap (length s) (a.start + a.len) ≡ b.start
      next = ap (λ (n : ℕ). wrap n (a.start + a.len)) hs ∙ sym (next_start_wrap g a) ∙ e

      fb : ValidJournalInterval g b
      fb = record { start_in = subst (λ (p : ℕ). p < g.blocks) e (next_start_in g a f); len_in = omega (arith, k) }

  -- moving the start on by k within the len
  pub slice_moved : (v : JournalInterval) (k : ℕ) → ValidJournalInterval g v → k ≤ v.len
      → cyclic_slice g s (interval (journal_pos_add g v.start k) (v.len - k)) ≡ drop k (cyclic_slice g s v)
  slice_moved v k f h =
      slice_around (interval (journal_pos_add g v.start k) (v.len - k)) (moved_valid g v k f h)
      ∙ ap (λ (p : ℕ). around s p (v.len - k)) (pos_add_wrap g v.start k ∙ ap (λ (n : ℕ). wrap n (v.start + k)) (sym hs))
      ∙ sym (around_drop s v.start v.len k (omega arith) (omega arith) h)
      ∙ ap (drop k) (sym (slice_around v f))

  -- front and back make up the interval
  pub front_back_slice : (v : JournalInterval) → ValidJournalInterval g v
      → cyclic_slice g s v ≡ slice_of g s (journal_front_interval g v.start v.len) ++ slice_of g s (journal_back_interval g v.start v.len)
  front_back_slice v f =
      parts_cases g v.start v.len
      (λ h.
      to (parts_none g v.start v.len h)
      (slice_around v f ∙ ap (around s v.start) h ∙ around_none s v.start))
      (λ h k. to (parts_straight g v.start v.len h k) (sym (append-nil (cyclic_slice g s v))))
      (λ k. to (parts_wrapped g v.start v.len k) (wrapped k))
    where
      to : {a b : Option JournalInterval} → FrontBack g v.start v.len a b → cyclic_slice g s v ≡ slice_of g s a ++ slice_of g s b
          → cyclic_slice g s v ≡ slice_of g s (journal_front_interval g v.start v.len) ++ slice_of g s (journal_back_interval g v.start v.len)
      to p q = q ∙ sym (λ i. slice_of g s (p.front_is i) ++ slice_of g s (p.back_is i))

      wrapped : g.blocks - v.start < v.len
          → cyclic_slice g s v ≡ cyclic_slice g s (interval v.start (g.blocks - v.start)) ++ cyclic_slice g s (interval 0 (v.len - (g.blocks - v.start)))
      wrapped k =
          let e : v.len ≡ g.blocks - v.start + (v.len - (g.blocks - v.start)) = omega arith in
          let z : v.start + (g.blocks - v.start) ≡ g.blocks = omega arith in
          let n : g.blocks - g.blocks ≡ 0 = omega arith in
          ap (λ (l : ℕ). cyclic_slice g s (interval v.start l)) e
          ∙ adjacent_slices (interval v.start (g.blocks - v.start)) (interval 0 (v.len - (g.blocks - v.start)))
          (record { start_in = f.start_in; len_in = omega arith })
          (next_start_wrap g (interval v.start (g.blocks - v.start)) ∙ ap (wrap g.blocks) z ∙ wrap_past g.blocks g.blocks (omega arith) ∙ n)
          (omega arith)

-- the slice of a ring whose places a function gives
pub slice_tab {ℓ} : {A : Type ℓ} (g : Geometry) (h : ℕ → A) (v : JournalInterval) → ValidJournalInterval g v
    → cyclic_slice g (tab g.blocks h) v ≡ tab v.len (λ t. h (wrap g.blocks (v.start + t)))
slice_tab {A = A} g h v f =
    ext_get_or (h 0) (cyclic_slice g s v) (tab v.len (λ t. h (wrap g.blocks (v.start + t)))) (ls ∙ sym (length_tab v.len (λ t. h (wrap g.blocks (v.start + t)))))
    (λ t l.
    let k : t < v.len = omega (arith, l, ls) in
    slice_at g s long v f t (h 0) k
    ∙ get_d_tab g.blocks h (wrap g.blocks (v.start + t)) (h 0) (wrap_in g.blocks (v.start + t) (omega (arith, k, f.start_in, f.len_in)))
    ∙ sym (get_d_tab v.len (λ i. h (wrap g.blocks (v.start + i))) t (h 0) k))
  where
    s : List A
    s = tab g.blocks h

    long : length s ≡ g.blocks
    long = length_tab g.blocks h

    ls : length (cyclic_slice g s v) ≡ v.len
    ls = length_slice g s long v f

-- the interval of a journal location is contiguous, and gives the location back
module _ (g : Geometry) (loc : Location) (f : ValidJournalLocation g loc) where
  pub of_location_contiguous : ContiguousJournalInterval g (journal_interval_of_location loc)
  of_location_contiguous = omega arith

  pub of_location_back : journal_range_location g (journal_interval_of_location loc).start (journal_interval_of_location loc).len ≡ loc
  of_location_back =
      let a : 2 * 4096 + (loc.addr - 2 * 4096) / 4096 * 4096 ≡ loc.addr = omega arith in
      let l : loc.len / 4096 * 4096 ≡ loc.len = omega arith in
      λ i. record { addr = a i; len = l i }

-- a block of a subinterval is a block of the interval
pub subinterval_in : (g : Geometry) (a b : JournalInterval) → ValidJournalInterval g a → ValidJournalInterval g b → subinterval g a b ≡ true → (i : ℕ)
    → InCyclicRange g i a → InCyclicRange g i b
unfolding subinterval
subinterval_in g a b fa fb e i =
    ⊎_elim
    (λ h.
    let p = leb-true b.start a.start (also_left _ _ h) in
    let q = leb-true (a.start + a.len) (b.start + b.len) (also_right _ _ h) in
    ⊎_elim (λ r. inl (omega arith)) (λ r. inr (omega arith)))
    (λ h.
    let p = leb-true b.start (a.start + g.blocks) (also_left _ _ h) in
    let q = leb-true (a.start + g.blocks + a.len) (b.start + b.len) (also_right _ _ h) in
    ⊎_elim (λ r. inr (omega arith)) (λ r. absurd (omega arith)))
    (either_cases _ _ e)

-- a block of the interval whose start was moved on is a block of the old one
pub moved_in : (g : Geometry) (v : JournalInterval) (k : ℕ) → ValidJournalInterval g v → k ≤ v.len → (i : ℕ) → i < g.blocks
    → InCyclicRange g i (interval (journal_pos_add g v.start k) (v.len - k)) → InCyclicRange g i v
unfolding journal_pos_add
moved_in g v k f h i l =
    by_leb (λ (p : ℕ). InCyclicRange g i (interval p (v.len - k)) → InCyclicRange g i v) g.blocks (v.start + k) (v.start + k - g.blocks) (v.start + k)
    (λ m. ⊎_elim (λ r. inr (omega arith)) (λ r. absurd (omega arith)))
    (λ m. ⊎_elim (λ r. inl (omega arith)) (λ r. inr (omega arith)))
