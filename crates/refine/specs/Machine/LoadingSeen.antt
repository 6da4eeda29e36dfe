-- What the view tells of a slot, of a piece and of a pair, and how a read ends there.
use Rattle.std.specs.Prelude.{Bool, true, false, cond, not, ◌≡◌, refl, [], eqb, None, Some}
use Rattle.std.specs.declared.option.Option as code
use Rattle.std.proofs.Common.{ap}
use Rattle.std.proofs.Math.Option.{Option, none, some}
use Rattle.laws.specs.Choice.{ruin}
use Rattle.laws.specs.Sets.{at, none_some}
use Rattle.laws.specs.Optional.{option_of}
use Rattle.layout.specs.declared.Geometry.{Geometry}
use Rattle.interval.specs.declared.JournalInterval.{JournalInterval}
use Rattle.superblock.specs.declared.Superblock.{Superblock}
use Rattle.superblock.specs.Superblock.{journal_front_interval_of_superblock, journal_back_interval_of_superblock, wf_superblock}
use Rattle.codec.specs.Codec.{JournalRange}
use Rattle.source.specs.JournalDisk.{ReqId}
use Rattle.source.specs.JournalCache.{SuperblockSuccess, SuperblockUnfinished, SuperblockCorruption, superblock_read, journal_interval_of_superblock, unless_is}
use Rattle.loading.specs.declared.SlotRead.{SlotRead}
use Rattle.loading.specs.declared.SlotRead.TheVariants as slot
use Rattle.loading.specs.declared.Piece.{Piece}
use Rattle.loading.specs.declared.Piece.TheVariants as piece
use Rattle.loading.specs.Slots.{slot_read}
use Rattle.loading.specs.Pieces.{without_read}
use Rattle.loading.specs.Laws.Other.{There}
use Rattle.refine.specs.Machine.LoadingView.{two, outstanding_read, read_result, awaited_read, loaded_piece}

-- A pair's place by a number, and the other

pub at_named : {A B : Type 0} (f : A → B) (a b : A) (w : Bool) → at (two (f a) (f b)) w ≡ f (cond w b a)
at_named f a b true = refl
at_named f a b false = refl

pub at_unnamed : {A B : Type 0} (f : A → B) (a b : A) (w : Bool) → at (two (f a) (f b)) (not w) ≡ f (cond w a b)
at_unnamed f a b true = refl
at_unnamed f a b false = refl

-- A slot

pub outstanding_is : (r : SlotRead) (id : ReqId) → outstanding_read r ≡ some id → r ≡ slot.Awaited id
outstanding_is slot.Unasked id e = ruin (cc)
outstanding_is (slot.Awaited k) id e = cc
outstanding_is (slot.Success superblock) id e = ruin (cc)
outstanding_is slot.Corruption id e = ruin (cc)

pub success_is : (r : SlotRead) (superblock : Superblock) → read_result r ≡ SuperblockSuccess superblock → r ≡ slot.Success superblock
success_is slot.Unasked superblock e = ruin (cc)
success_is (slot.Awaited id) superblock e = ruin (cc)
success_is (slot.Success other) superblock e = cc
success_is slot.Corruption superblock e = ruin (cc)

pub corruption_is : (r : SlotRead) → read_result r ≡ SuperblockCorruption → r ≡ slot.Corruption
corruption_is slot.Unasked e = ruin (cc)
corruption_is (slot.Awaited id) e = ruin (cc)
corruption_is (slot.Success superblock) e = ruin (cc)
corruption_is slot.Corruption e = refl

pub unasked_of : (r : SlotRead) → outstanding_read r ≡ none → read_result r ≡ SuperblockUnfinished → r ≡ slot.Unasked
unasked_of slot.Unasked p q = refl
unasked_of (slot.Awaited id) p q = ruin (cc)
unasked_of (slot.Success superblock) p q = ruin (cc)
unasked_of slot.Corruption p q = ruin (cc)

-- how a read ends
pub ended_none : (g : Geometry) (r : code.Option Superblock) → outstanding_read (slot_read g r) ≡ none
ended_none g (Some superblock) = go (wf_superblock g superblock)
  where
    go : (b : Bool) → outstanding_read (cond b (slot.Success superblock) slot.Corruption) ≡ none
    go true = refl
    go false = refl
ended_none g None = refl

pub ended_result : (g : Geometry) (r : code.Option Superblock) → read_result (slot_read g r) ≡ superblock_read g (option_of r)
ended_result g (Some superblock) = go (wf_superblock g superblock)
  where
    go : (b : Bool) → read_result (cond b (slot.Success superblock) slot.Corruption) ≡ cond b (SuperblockSuccess superblock) SuperblockCorruption
    go true = refl
    go false = refl
ended_result g None = refl

-- A piece

pub awaited_is : (p : Piece) (id : ReqId) → awaited_read p ≡ some id → p ≡ piece.Reading id
awaited_is piece.Unread id e = ruin (cc)
awaited_is (piece.Reading k) id e = cc
awaited_is piece.In id e = ruin (cc)

pub loaded_is : (p : Piece) (jr x : JournalRange) → loaded_piece p jr ≡ some x → p ≡ piece.In
loaded_is piece.Unread jr x e = ruin (cc)
loaded_is (piece.Reading id) jr x e = ruin (cc)
loaded_is piece.In jr x e = refl

pub in_blocks : (p : Piece) (jr x : JournalRange) → loaded_piece p jr ≡ some x → x ≡ jr
in_blocks piece.Unread jr x e = ruin (cc)
in_blocks (piece.Reading id) jr x e = ruin (cc)
in_blocks piece.In jr x e = cc

pub unread_of : (p : Piece) (jr : JournalRange) → awaited_read p ≡ none → loaded_piece p jr ≡ none → p ≡ piece.Unread
unread_of piece.Unread jr a b = refl
unread_of (piece.Reading id) jr a b = ruin (cc)
unread_of piece.In jr a b = ruin (cc)

pub there_of : (p : Piece) (jr : JournalRange) (o : Option JournalInterval) → ((id : ReqId) → awaited_read p ≡ some id → There o)
    → ((x : JournalRange) → loaded_piece p jr ≡ some x → There o) → (p ≡ piece.Unread → ⊥) → There o
there_of piece.Unread jr o f k u = absurd (u refl)
there_of (piece.Reading id) jr o f k u = f id refl
there_of piece.In jr o f k u = k jr refl

pub reading_read : (p : Piece) (id : ReqId) → p ≡ piece.Reading id → p ≡ piece.Unread → ⊥
reading_read p id e u = none_some (ap awaited_read u) (ap awaited_read e)

pub in_read : (p : Piece) → p ≡ piece.In → p ≡ piece.Unread → ⊥
in_read p e u = none_some {o = loaded_piece p []} (ap (λ (x : Piece). loaded_piece x []) u) (ap (λ (x : Piece). loaded_piece x []) e)

-- a read that is cleared under an id
pub without_read_is : (p : Piece) (id : ReqId) → awaited_read (without_read p id) ≡ unless_is (awaited_read p) id
without_read_is piece.Unread id = refl
without_read_is (piece.Reading k) id = go (eqb k id)
  where
    go : (b : Bool) → awaited_read (cond b piece.Unread (piece.Reading k)) ≡ cond b none (some k)
    go true = refl
    go false = refl
without_read_is piece.In id = refl

pub without_piece : (p : Piece) (id : ReqId) (jr : JournalRange) → loaded_piece (without_read p id) jr ≡ loaded_piece p jr
without_piece piece.Unread id jr = refl
without_piece (piece.Reading k) id jr = go (eqb k id)
  where
    go : (b : Bool) → loaded_piece (cond b piece.Unread (piece.Reading k)) jr ≡ none
    go true = refl
    go false = refl
without_piece piece.In id jr = refl

pub loaded_named : (a b : Piece) (jr kr : JournalRange) (w : Bool) → at (two (loaded_piece a jr) (loaded_piece b kr)) w ≡ loaded_piece (cond w b a) (cond w kr jr)
loaded_named a b jr kr true = refl
loaded_named a b jr kr false = refl

pub interval_named : (g : Geometry) (superblock : Superblock) (w : Bool)
    → journal_interval_of_superblock g w superblock ≡ cond w (journal_back_interval_of_superblock g superblock) (journal_front_interval_of_superblock g superblock)
interval_named g superblock true = refl
interval_named g superblock false = refl
