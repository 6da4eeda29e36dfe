-- At most twelve calls are left, and twelve exactly where both slots are corrupt and the superblock that they select has a front and a back piece: its
-- interval goes round the ring's end.
use Rattle.std.specs.Prelude.{ℕ, ◌+◌, ◌≤◌, Bool, true, false, ◌≡◌, refl}
use Rattle.std.proofs.Common.{◌∙◌, ap, subst, arith}
use Rattle.std.proofs.Math.Option.{Option, none, some}
use Rattle.layout.specs.declared.Geometry.{Geometry}
use Rattle.interval.specs.declared.JournalInterval.{JournalInterval}
use Rattle.superblock.specs.declared.Superblock.{Superblock}
use Rattle.superblock.specs.Superblock.{select_superblock}
use Rattle.laws.specs.Sets.{Two, at}
use Rattle.codec.specs.Codec.{JournalRange}
use Rattle.source.specs.JournalDisk.{ReqId}
use Rattle.source.specs.JournalCache as M
use Rattle.source.specs.JournalCache.{SuperblockReadResult, SuperblockSuccess, SuperblockUnfinished, SuperblockCorruption, journal_interval_of_superblock}
use Rattle.history.specs.Driver.{slot_left, piece_left, slots_left, pieces_left, selected_left, left_at, left}

slot_most : (read : Option ReqId) (r : SuperblockReadResult) → slot_left read r ≤ 3
slot_most read (SuperblockSuccess v) = omega arith
slot_most read SuperblockCorruption = omega arith
slot_most none SuperblockUnfinished = omega arith
slot_most (some id) SuperblockUnfinished = omega arith

piece_most : (o : Option JournalInterval) (read : Option ReqId) (piece : Option JournalRange) → piece_left o read piece ≤ 2
piece_most none read piece = omega arith
piece_most (some v) read (some jr) = omega arith
piece_most (some v) none none = omega arith
piece_most (some v) (some id) none = omega arith

selected_most : (g : Geometry) (a b : Option Superblock) (which : Bool) → selected_left g a b which ≤ 2
selected_most g none b which = omega arith
selected_most g (some a) none which = omega arith
selected_most g (some a) (some b) which = piece_most (journal_interval_of_superblock g which (select_superblock a b)) none none

slots_most : (s : M.LoadingSuperblockVariables) (which : Bool) → slots_left s which ≤ 3
slots_most s which = slot_most (at s.outstanding_superblock_reads which) (at s.superblocks which)

pieces_most : (g : Geometry) (s : M.LoadingOtherVariables) (which : Bool) → pieces_left g s which ≤ 2
pieces_most g s which = piece_most (journal_interval_of_superblock g which s.superblock) (at s.journalReads which) (at s.journal_pieces which)

pub left_most : (g : Geometry) (m : M.Variables) (slots : Two (Option Superblock)) → left_at g m slots ≤ 12
left_most g (M.Variables.Ready s) slots = omega arith
left_most g (M.Variables.LoadingOther s) slots =
    let a = pieces_most g s false in
    let b = pieces_most g s true in
    omega (arith, a, b)
left_most g (M.Variables.LoadingSuperblock s) slots =
    let a = slots_most s false in
    let b = slots_most s true in
    let c = selected_most g slots.first slots.second false in
    let d = selected_most g slots.first slots.second true in
    omega (arith, a, b, c, d)

-- Twelve

pub record Longest (g : Geometry) (m : M.Variables) (slots : Two (Option Superblock)) : Type 0 where
  pub loading : M.LoadingSuperblockVariables
  pub first : Superblock
  pub second : Superblock
  pub front : JournalInterval
  pub back : JournalInterval
  pub kind_is : m ≡ M.Variables.LoadingSuperblock loading
  pub corrupt : (which : Bool) → at loading.superblocks which ≡ SuperblockCorruption
  pub holds1 : slots.first ≡ some first
  pub holds2 : slots.second ≡ some second
  pub front_is : journal_interval_of_superblock g false (select_superblock first second) ≡ some front
  pub back_is : journal_interval_of_superblock g true (select_superblock first second) ≡ some back

pub longest_twelve : (g : Geometry) (m : M.Variables) (slots : Two (Option Superblock)) → Longest g m slots → left_at g m slots ≡ 12
longest_twelve g m slots h =
    ap (λ (n : M.Variables). left_at g n slots) h.kind_is
    ∙ (λ i.
    slot_left (at h.loading.outstanding_superblock_reads false) (h.corrupt false i) + slot_left (at h.loading.outstanding_superblock_reads true) (h.corrupt true i) + 1
    + (selected_left g (h.holds1 i) (h.holds2 i) false + selected_left g (h.holds1 i) (h.holds2 i) true + 1))
    ∙ (λ i. 7 + (piece_left (h.front_is i) none none + piece_left (h.back_is i) none none + 1))

corrupt_only : (read : Option ReqId) (r : SuperblockReadResult) → slot_left read r ≡ 3 → r ≡ SuperblockCorruption
corrupt_only read (SuperblockSuccess v) e = absurd (omega (arith, e))
corrupt_only read SuperblockCorruption e = refl
corrupt_only none SuperblockUnfinished e = absurd (omega (arith, e))
corrupt_only (some id) SuperblockUnfinished e = absurd (omega (arith, e))

there_only : (o : Option JournalInterval) → piece_left o none none ≡ 2 → (v : JournalInterval) × (o ≡ some v)
there_only none e = absurd (omega (arith, e))
there_only (some v) e = (v, refl)

pub twelve_longest : (g : Geometry) (m : M.Variables) (slots : Two (Option Superblock)) → left_at g m slots ≡ 12 → Longest g m slots
twelve_longest g (M.Variables.Ready s) slots e = absurd (omega (arith, e))
twelve_longest g (M.Variables.LoadingOther s) slots e =
    let a = pieces_most g s false in
    let b = pieces_most g s true in
    absurd (omega (arith, a, b, e))
twelve_longest g (M.Variables.LoadingSuperblock s) slots e = by slots.first slots.second refl refl
  where
    a : slots_left s false ≤ 3
    a = slots_most s false

    b : slots_left s true ≤ 3
    b = slots_most s true

    c : selected_left g slots.first slots.second false ≤ 2
    c = selected_most g slots.first slots.second false

    d : selected_left g slots.first slots.second true ≤ 2
    d = selected_most g slots.first slots.second true

    corrupt : (which : Bool) → at s.superblocks which ≡ SuperblockCorruption
    corrupt false = corrupt_only (at s.outstanding_superblock_reads false) (at s.superblocks false) (omega (arith, a, b, c, d, e))
    corrupt true = corrupt_only (at s.outstanding_superblock_reads true) (at s.superblocks true) (omega (arith, a, b, c, d, e))

    both_left : (which : Bool) → selected_left g slots.first slots.second which ≡ 2
    both_left false = omega (arith, a, b, c, d, e)
    both_left true = omega (arith, a, b, c, d, e)

    held : (x y : Option Superblock) → slots.first ≡ x → slots.second ≡ y → (which : Bool) → selected_left g x y which ≡ 2
    held x y p q which = subst (λ (n : ℕ). n ≡ 2) (λ i. selected_left g (p i) (q i) which) (both_left which)

    by : (x y : Option Superblock) → slots.first ≡ x → slots.second ≡ y → Longest g (M.Variables.LoadingSuperblock s) slots
    by none y p q = let h = held none y p q false in absurd (omega (arith, h))
    by (some x) none p q = let h = held (some x) none p q false in absurd (omega (arith, h))
    by (some x) (some y) p q =
        let f = there_only (journal_interval_of_superblock g false (select_superblock x y)) (held (some x) (some y) p q false) in
        let r = there_only (journal_interval_of_superblock g true (select_superblock x y)) (held (some x) (some y) p q true) in
        record { loading = s; first = x; second = y; front = f.0; back = r.0; kind_is = refl; corrupt = corrupt; holds1 = p; holds2 = q; front_is = f.1; back_is = r.1 }
