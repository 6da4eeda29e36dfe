-- Entries in lent memory: their bytes back to back from the front, their lengths in order, and a count. What the memory stands for
-- depends on the counted part alone; entries written behind it come after the old ones, and moving the rest to the front takes the first
-- ones off. Assumes nothing.
use Prim.Native.Nat.{ℕ, ◌+◌, ◌*◌, ◌-◌, ◌≤◌}
use Rattle.std.specs.Prelude.{true, ◌≡◌, refl, length, take, drop, replicate}
use Rattle.std.proofs.Math.Path.{sym, ap}
use Rattle.std.proofs.Common.{◌∙◌, take-take, take-add}
use mathlib.Core.List.{List, [], ◌++◌, append-nil}
use native.Mathlib.Omega.{arith}
use Rattle.std.proofs.Math.Seq.{length-take-le}
use Rattle.laws.specs.Part.{drop_take, length_part}
use Rattle.laws.specs.Splice.{splice, take_splice, take_splice_through, part_splice}
use Rattle.laws.specs.Fold.{sum, every, sum_append}
use Rattle.laws.specs.Cut.{cut, flat, lengths, length_flat, length_cut, lengths_cut, flat_cut, cut_flat, cut_append, cut_enough, cut_take, cut_drop}
use Rattle.laws.specs.LowFirst.{each_low}
use Rattle.range.specs.Form.{Entry, block_size, most_entries, head_size, used, blocks_for, used_at, blocks_at, encode_at, ok_length, Good}
use Rattle.range.specs.Runs.{head, encode_is}

-- the n entries that bytes and lengths hold
unfoldable pub view : List ℕ → List ℕ → ℕ → List Entry
view bytes lens n = cut (take n lens) bytes

-- the bytes that n entries take
abbrev pub total : List ℕ → ℕ → ℕ
total lens n = sum (take n lens)

-- the bytes that n lengths and t bytes of bodies in memory make, as a range
abbrev pub range_from : ℕ → List ℕ → List ℕ → ℕ → ℕ → List ℕ
range_from w bytes lens n t =
    head (blocks_for (used w n t)) n
    ++ each_low w (take n lens)
    ++ take t bytes
    ++ replicate (blocks_for (used w n t) * block_size - used w n t) 0

-- the bytes after lengths were written behind the counted ones, and the bytes of the first k entries and of the others
pub total_write : (lens ms : List ℕ) (n : ℕ) → n ≤ length lens → total (splice lens n ms) (n + length ms) ≡ total lens n + sum ms
total_write lens ms n h = ap sum (take_splice_through lens n ms h) ∙ sum_append (take n lens) ms

pub total_split : (lens : List ℕ) (n k m : ℕ) → k + m ≡ n → total lens k + total (drop k lens) m ≡ total lens n
total_split lens n k m e =
    sym (sum_append (take k lens) (take m (drop k lens)))
    ∙ ap sum (sym (take-add k m lens))
    ∙ ap (λ (j : ℕ). sum (take j lens)) e

-- the first entries take no more bytes than all
pub total_front : (lens : List ℕ) (k n : ℕ) → k ≤ n → total lens k ≤ total lens n
total_front lens k n h = let e : k + (n - k) ≡ n = omega arith in omega (arith, total_split lens n k (n - k) e)

pub view_none : (bytes lens : List ℕ) → view bytes lens 0 ≡ []
unfolding view cut
view_none bytes lens = refl

module _ (bytes lens : List ℕ) (n : ℕ) where
  pub length_view : n ≤ length lens → length (view bytes lens n) ≡ n
  unfolding view
  length_view h = length_cut (take n lens) bytes ∙ length-take-le n lens h

  pub lengths_view : total lens n ≤ length bytes → lengths (view bytes lens n) ≡ take n lens
  unfolding view
  lengths_view h = lengths_cut (take n lens) bytes h

  pub flat_view : flat (view bytes lens n) ≡ take (total lens n) bytes
  unfolding view
  flat_view = flat_cut (take n lens) bytes

  -- only what is counted is looked at
  pub view_same : (bytes' lens' : List ℕ) → take n lens ≡ take n lens' → take (total lens n) bytes ≡ take (total lens n) bytes'
      → view bytes lens n ≡ view bytes' lens' n
  unfolding view
  view_same bytes' lens' p q =
      sym (cut_enough (take n lens) bytes (total lens n) (omega arith))
      ∙ ap (cut (take n lens)) q
      ∙ cut_enough (take n lens) bytes' (total lens n) (omega arith)
      ∙ ap (λ (ns : List ℕ). cut ns bytes') p

  -- the first k entries, and those after them
  pub view_take : (k : ℕ) → k ≤ n → take k (view bytes lens n) ≡ view bytes lens k
  unfolding view
  view_take k h = cut_take k (take n lens) bytes ∙ ap (λ (ns : List ℕ). cut ns bytes) (take-take k n lens h)

  pub view_drop : (k : ℕ) → k ≤ n → drop k (view bytes lens n) ≡ view (drop (total lens k) bytes) (drop k lens) (n - k)
  unfolding view
  view_drop k h =
      let e : k + (n - k) ≡ n = omega arith in
      cut_drop k (take n lens) bytes
      ∙ (λ i. cut (drop k (take (sym e i) lens)) (drop (sum (take-take k n lens h i)) bytes))
      ∙ ap (λ (ns : List ℕ). cut ns (drop (total lens k) bytes)) (drop_take k (n - k) lens)

  -- entries written behind the counted ones come after them
  pub view_write : (cs ms : List ℕ) → n ≤ length lens → total lens n ≤ length bytes → sum ms ≤ length cs
      → view (splice bytes (total lens n) cs) (splice lens n ms) (n + length ms) ≡ view bytes lens n ++ cut ms cs
  unfolding view
  view_write cs ms h k l =
      ap (λ (ns : List ℕ). cut ns after) (take_splice_through lens n ms h)
      ∙ cut_append (take n lens) ms after
      ∙ (λ i. old i ++ new i)
    where
      after : List ℕ
      after = splice bytes (total lens n) cs

      old : cut (take n lens) after ≡ cut (take n lens) bytes
      old =
          sym (cut_enough (take n lens) after (total lens n) (omega arith))
          ∙ ap (cut (take n lens)) (take_splice bytes (total lens n) cs k)
          ∙ cut_enough (take n lens) bytes (total lens n) (omega arith)

      new : cut ms (drop (total lens n) after) ≡ cut ms cs
      new =
          sym (cut_enough ms (drop (total lens n) after) (length cs) l)
          ∙ ap (cut ms) (part_splice bytes (total lens n) cs k)

  pub view_entries : (es : List Entry) → n ≤ length lens → total lens n ≤ length bytes
      → view (splice bytes (total lens n) (flat es)) (splice lens n (lengths es)) (n + length (lengths es)) ≡ view bytes lens n ++ es
  view_entries es h k =
      view_write (flat es) (lengths es) h k (omega (arith, length_flat es))
      ∙ ap (λ (l : List Entry). view bytes lens n ++ l) (ap (cut (lengths es)) (sym (append-nil (flat es))) ∙ cut_flat es [])

-- the same for a step that has the sums in numbers of its own: k entries of other memory are added at the end
pub view_add : (bytes lens cb cl : List ℕ) (n k t s m : ℕ) → n ≤ length lens → k ≤ length cl → t ≡ total lens n → s ≡ total cl k → t ≤ length bytes
    → s ≤ length cb → m ≡ n + k → view (splice bytes t (take s cb)) (splice lens n (take k cl)) m ≡ view bytes lens n ++ view cb cl k
unfolding view
view_add bytes lens cb cl n k t s m hn hk et es ht hs em =
    (λ i. view (splice bytes (et i) (take s cb)) (splice lens n (take k cl)) (em' i))
    ∙ view_write bytes lens n (take s cb) (take k cl) hn (omega (arith, et, ht)) (omega (arith, es, length-take-le s cb hs))
    ∙ ap (λ (l : List Entry). cut (take n lens) bytes ++ l) (cut_enough (take k cl) cb s (omega (arith, es)))
  where
    em' : m ≡ n + length (take k cl)
    em' = omega (arith, em, length-take-le k cl hk)

-- the first k entries are taken off: the other m and their v bytes move to the front
pub view_moved : (bytes lens : List ℕ) (n k m u v : ℕ) → n ≤ length lens → total lens n ≤ length bytes → k + m ≡ n → u ≡ total lens k → u + v ≡ total lens n
    → view (splice bytes 0 (take v (drop u bytes))) (splice lens 0 (take m (drop k lens))) m ≡ drop k (view bytes lens n)
unfolding view cut sum
view_moved bytes lens n k m u v hn ht em eu ev =
    ap (view (splice bytes 0 (take v (drop u bytes))) (splice lens 0 (take m (drop k lens)))) long
    ∙ view_write bytes lens 0 (take v (drop u bytes)) (take m (drop k lens)) (omega arith) (omega arith) (omega (arith, fits, length_part bytes u v (omega (arith, ev, ht))))
    ∙ cut_enough (take m (drop k lens)) (drop u bytes) v fits
    ∙ (λ i. cut (take (left i) (drop k lens)) (drop (eu i) bytes))
    ∙ sym (view_drop bytes lens n k (omega (arith, em)))
  where
    long : m ≡ 0 + length (take m (drop k lens))
    long = omega (arith, length_part lens k m (omega (arith, em, hn)))

    left : m ≡ n - k
    left = omega (arith, em)

    fits : total (drop k lens) m ≤ v
    fits = omega (arith, total_split lens n k m em, eu, ev)

-- the range of entries in memory: they are good by their lengths, and use what the lengths say
module _ (w most : ℕ) (bytes lens : List ℕ) (n : ℕ) (hn : n ≤ length lens) (ht : total lens n ≤ length bytes) where
  pub good_view : 1 ≤ n → n ≤ most_entries → every (ok_length most) (take n lens) ≡ true → Good most (view bytes lens n)
  good_view a f e =
      record {
        any = rw (length_view bytes lens n hn) a;
        few = rw (length_view bytes lens n hn) f;
        each = rw (lengths_view bytes lens n ht) e;
      }

  pub used_at_view : used_at w (view bytes lens n) ≡ used w n (total lens n)
  used_at_view = λ i. head_size + length_view bytes lens n hn i * w + sum (lengths_view bytes lens n ht i)

  pub blocks_at_view : blocks_at w (view bytes lens n) ≡ blocks_for (used w n (total lens n))
  blocks_at_view = ap blocks_for used_at_view

  -- it is what n and the bytes' count make of the memory
  pub range_from_view : range_from w bytes lens n (total lens n) ≡ encode_at w (view bytes lens n)
  range_from_view =
      (λ i.
      head (sym blocks_at_view i) (sym (length_view bytes lens n hn) i)
      ++ each_low w (sym (lengths_view bytes lens n ht) i)
      ++ sym (flat_view bytes lens n) i
      ++ replicate {A = ℕ} (sym blocks_at_view i * block_size - sym used_at_view i) 0)
      ∙ sym (encode_is w (view bytes lens n))
