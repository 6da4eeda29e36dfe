-- Advance and Replay: what was counted tells the number; what is taken then is a 64-bit number. The code's proofs cite them.
use Rattle.std.specs.Prelude.{ℕ, ◌+◌, ◌≤◌, Bool, true, ◌≡◌, List, take, drop, Ok}
use Rattle.std.proofs.Math.Path.{sym, ap}
use Rattle.std.proofs.Common.{◌∙◌, arith, take_all}
use Rattle.std.proofs.Math.ListN.{length, length-drop}
use Rattle.std.proofs.Math.Seq.{length-take-le}
use borrow.Author.Tests.{leb-true}
use Rattle.laws.specs.Choice.{also_left, also_right, split_le}
use Rattle.laws.specs.Fold.{same_is}
use Rattle.refusal.specs.Refusal.{ok_unless, number_of, unless_ok, yes, yes_value, number_asked, small_ask, small_then}
use Rattle.range.specs.declared.Count.{Count}
use Rattle.memory.specs.Given.{memory, Memory, count_of, ask_given, ask_added, given_asked}
use Rattle.memory.specs.Replay.{is_next}
use Rattle.ready.specs.declared.Entries.{Entries}
use Rattle.ready.specs.State.{replay_left}
use Rattle.machine.specs.Working.{count_in, given_of}

-- the number of entries that were counted, and where nothing was refused the entries
added_small : (e : Memory) → ask_added e ≤ 13
unfolding ask_added ask_given
added_small e = small_then _ _ (small_ask 4 _ (omega arith)) (small_ask 13 _ (omega arith))

pub given_number : (brought sizes : List ℕ) (k : ℕ) → number_of (given_of brought sizes k) ≡ ask_added (memory brought sizes k)
given_number brought sizes k = number_asked (ask_added (memory brought sizes k)) (count_of (memory brought sizes k)) (added_small (memory brought sizes k))

pub given_count : (brought sizes : List ℕ) (k : ℕ) → ask_added (memory brought sizes k) ≡ 0 → count_in (given_of brought sizes k) ≡ count_of (memory brought sizes k)
given_count brought sizes k h = ap count_in (unless_ok (ask_added (memory brought sizes k)) (count_of (memory brought sizes k)) h)

-- as many elements as were taken are there
taken_there : (n : ℕ) (xs : List ℕ) → length (take n xs) ≡ n → n ≤ length xs
taken_there n xs e = split_le n (length xs) (λ h. h) (λ h. let k = ap length (take_all n xs (omega arith)) in absurd (omega arith))

-- Replay: bytes that are the same are there, so no sum wraps
pub replay_sums : (e : Entries) (rbytes rlens brought sizes : List ℕ) (k : ℕ) (new : Count) → Ok new ≡ ok_unless (ask_given (memory brought sizes k)) (count_of (memory brought sizes k))
    → (left : ℕ) → left ≡ replay_left e → (next : Bool) → next ≡ is_next rbytes rlens left e.taken brought sizes new → next ≡ true
    → (most : ℕ) → e.replay ≤ most → e.taken.entries ≤ most → e.taken.bytes ≤ most → length rbytes ≤ most
    → (e.taken.entries + new.entries ≤ most) × (e.taken.bytes + new.bytes ≤ most)
unfolding is_next
replay_sums e rbytes rlens brought sizes k new hn left hl next h t most h1 h2 h3 h4 =
    let n = sym h ∙ t in
    let s = same_is (take new.bytes brought) (take new.bytes (drop e.taken.bytes rbytes)) (also_right _ _ (also_right _ _ n)) in
    let fits : new.bytes ≤ length brought =
    omega (arith, ap (λ (c : Count). c.bytes) (yes_value _ _ _ hn), (given_asked (memory brought sizes k) (yes _ _ _ hn)).held.fit) in
    let few = leb-true new.entries left (also_left _ _ n) in
    let small = taken_there new.bytes (drop e.taken.bytes rbytes) (sym (ap length s) ∙ length-take-le new.bytes brought fits) in (
      omega (arith, few, hl),
      omega (arith, small, length-drop e.taken.bytes rbytes),
    )
