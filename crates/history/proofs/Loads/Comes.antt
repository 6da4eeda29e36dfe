-- A load as a list of calls that are all taken, and the calls of a load: both slots, and each piece that the selected superblock's interval
-- has.
use Rattle.std.specs.Prelude.{Bool, true, false, ◌≡◌, refl, List, [], ◌∷◌, ◌++◌, map}
use Rattle.std.proofs.Math.Option.{Option, none, some}
use Rattle.layout.specs.declared.Geometry.{Geometry}
use Rattle.interval.specs.declared.JournalInterval.{JournalInterval}
use Rattle.superblock.specs.declared.Superblock.{Superblock}
use Rattle.codec.specs.Codec.{Codec}
use Rattle.source.specs.JournalCache.{journal_interval_of_superblock}
use Rattle.source.specs.JournalSystem as Y
use Rattle.source.specs.Limits.{Limits}
use Rattle.history.specs.Ledger.{Call, read_journal, journal_read, read_superblock, superblock_read, finish_superblocks, finish_other}
use Rattle.history.specs.Statement.{Takes, Trace, loads, OnlyLoads}

abbrev pub slot_calls : Bool → List Call
slot_calls which = read_superblock which 1 ∷ superblock_read which 1 true ∷ []

abbrev pub piece_calls : Bool → Option JournalInterval → List Call
piece_calls which none = []
piece_calls which (some v) = read_journal which 1 ∷ journal_read 1 true ∷ []

abbrev pub load_calls : Geometry → Superblock → List Call
load_calls g v =
    slot_calls false
    ++ (slot_calls true
    ++ (finish_superblocks ∷ (piece_calls false (journal_interval_of_superblock g false v) ++ (piece_calls true (journal_interval_of_superblock g true v) ++ (finish_other ∷ [])))))

abbrev pub taken : List Call → List Bool
taken xs = map (λ x. true) xs

-- each of the calls is a load's, and is taken
pub data Comes (g : Geometry) (C : Codec) (L : Limits) : Y.Variables → List Call → Y.Variables → Type 0 where
  here : {s : Y.Variables} → Comes g C L s [] s
  by : {s u t : Y.Variables} {x : Call} {xs : List Call} → Takes g C L s u x → loads x ≡ true → Comes g C L u xs t → Comes g C L s (x ∷ xs) t

module _ {g : Geometry} {C : Codec} {L : Limits} where
  pub comes_then : {s u t : Y.Variables} {xs ys : List Call} → Comes g C L s xs u → Comes g C L u ys t → Comes g C L s (xs ++ ys) t
  comes_then here k = k
  comes_then (by h e r) k = by h e (comes_then r k)

  pub comes_trace : {s t : Y.Variables} {xs : List Call} → Comes g C L s xs t → Trace g C L s xs (taken xs) t
  comes_trace here = refl
  comes_trace (by {u = u} h e r) = (u, h, comes_trace r)

  pub comes_loads : {s t : Y.Variables} {xs : List Call} → Comes g C L s xs t → OnlyLoads xs (taken xs)
  comes_loads here = tt
  comes_loads (by h e r) = (λ q. e, comes_loads r)
