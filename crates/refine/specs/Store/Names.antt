-- What the driver of crate driver names is heard as the call that history's driver names, of every machine that loads; and it brings nothing along.
use Rattle.std.specs.Prelude.{ℕ, Bool, true, false, ◌≡◌, refl, None, Some, Ok, Err}
use Rattle.std.specs.declared.option.Option as code
use Rattle.std.proofs.Math.Option.{Option, none, some}
use Rattle.laws.specs.Choice.{true_false, false_true}
use Rattle.layout.specs.declared.Geometry.{Geometry}
use Rattle.interval.specs.declared.JournalInterval.{JournalInterval}
use Rattle.laws.specs.Optional.{optional}
use Rattle.refusal.specs.declared.Refusal.TheVariants as no
use Rattle.superblock.specs.Superblock.{journal_front_interval_of_superblock, journal_back_interval_of_superblock}
use Rattle.codec.specs.Codec.{JournalRange}
use Rattle.history.specs.Ledger as ledger
use Rattle.history.specs.Driver.{slot_next, piece_next, or_else, next_call}
use Rattle.loading.specs.declared.SlotRead.{SlotRead}
use Rattle.loading.specs.declared.SlotRead.TheVariants as slot
use Rattle.loading.specs.declared.Piece.{Piece}
use Rattle.loading.specs.declared.Piece.TheVariants as piece
use Rattle.loading.specs.Other.{front_of, back_of}
use Rattle.machine.specs.declared.Kind.{Kind}
use Rattle.machine.specs.declared.Kind.TheVariants as kind
use Rattle.machine.specs.declared.Machine.{Machine}
use Rattle.machine.specs.Machine.{by_kind}
use Rattle.machine.specs.Lent.{Lent}
use Rattle.disk.specs.declared.Disk.{Disk}
use Rattle.calls.specs.declared.calls.Step.{Step}
use Rattle.calls.specs.declared.calls.Step.TheVariants as step
use Rattle.calls.specs.Given.{Given}
use Rattle.driver.specs.Driver.{slot_step, piece_step, superblocks_step, other_step, loading_step}
use Rattle.driver.specs.Ids.{least_new}
use Rattle.refine.specs.Machine.LoadingView.{outstanding_read, read_result, awaited_read, loaded_piece, front_in, back_in}
use Rattle.refine.specs.Machine.MachineKinds.{of_kind}
use Rattle.refine.specs.Machine.MachineView.{machine_of}
use Rattle.refine.specs.Store.Seen.{call_of}
use Rattle.refine.specs.Store.Exact.{brings}

module _ (v : Given) (new : ℕ) where
  slots_heard : (a b : SlotRead)
      → or_else (slot_next new false (outstanding_read a) (read_result a)) (or_else (slot_next new true (outstanding_read b) (read_result b)) ledger.finish_superblocks)
      ≡ call_of v (slot_step new 0 a (slot_step new 1 b step.FinishLoadingSuperblockPhase))
  slots_heard slot.Unasked b = refl
  slots_heard (slot.Awaited id) b = refl
  slots_heard slot.Corruption b = refl
  slots_heard (slot.Success x) slot.Unasked = refl
  slots_heard (slot.Success x) (slot.Awaited id) = refl
  slots_heard (slot.Success x) slot.Corruption = refl
  slots_heard (slot.Success x) (slot.Success y) = refl

  second_heard : (o : Option JournalInterval) (b : Piece) (j : JournalRange)
      → or_else (piece_next new true o (awaited_read b) (loaded_piece b j)) ledger.finish_other ≡ call_of v (piece_step new 1 (optional o) b step.FinishLoadingOtherPhase)
  second_heard none b j = refl
  second_heard (some u) piece.Unread j = refl
  second_heard (some u) (piece.Reading id) j = refl
  second_heard (some u) piece.In j = refl

  pieces_heard : (o p : Option JournalInterval) (a b : Piece) (i j : JournalRange)
      → or_else (piece_next new false o (awaited_read a) (loaded_piece a i)) (or_else (piece_next new true p (awaited_read b) (loaded_piece b j)) ledger.finish_other)
      ≡ call_of v (piece_step new 0 (optional o) a (piece_step new 1 (optional p) b step.FinishLoadingOtherPhase))
  pieces_heard none p a b i j = second_heard p b j
  pieces_heard (some u) p piece.Unread b i j = refl
  pieces_heard (some u) p (piece.Reading id) b i j = refl
  pieces_heard (some u) p piece.In b i j = second_heard p b j

slot_plain : (new which : ℕ) (a : SlotRead) (x : Step) → brings x ≡ false → brings (slot_step new which a x) ≡ false
slot_plain new which slot.Unasked x e = refl
slot_plain new which (slot.Awaited id) x e = refl
slot_plain new which (slot.Success v) x e = e
slot_plain new which slot.Corruption x e = refl

piece_plain : (new which : ℕ) (o : code.Option JournalInterval) (a : Piece) (x : Step) → brings x ≡ false → brings (piece_step new which o a x) ≡ false
piece_plain new which None a x e = e
piece_plain new which (Some v) piece.Unread x e = refl
piece_plain new which (Some v) (piece.Reading id) x e = refl
piece_plain new which (Some v) piece.In x e = e

-- does a machine of this kind load?
abbrev pub loads : Kind → Bool
loads k = by_kind k true true false

-- the step that is named, and the call that it is heard as, whatever is handed with it
pub record Names (g : Geometry) (l : Lent) (v : Given) (m : Machine) (d : Disk) : Type 0 where
  pub step : Step
  pub named : loading_step g (record { machine = m; disk = d }) ≡ Ok step
  pub heard : next_call g (machine_of g l m) (least_new d) ≡ some (call_of v step)
  pub plain : brings step ≡ false

pub names : (g : Geometry) (l : Lent) (v : Given) (m : Machine) (d : Disk) → loads m.kind ≡ true → Names g l v m d
unfolding loading_step superblocks_step other_step
names g l v m d = go m.kind
  where
    go : (k : Kind) → loads k ≡ true → Names g l v (of_kind m k) d
    go kind.LoadingSuperblock e =
        record {
          step = superblocks_step (least_new d) m.superblocks;
          named = refl;
          heard = λ i. some (slots_heard v (least_new d) m.superblocks.first m.superblocks.second i);
          plain = slot_plain (least_new d) 0 m.superblocks.first _ (slot_plain (least_new d) 1 m.superblocks.second step.FinishLoadingSuperblockPhase refl);
        }
    go kind.LoadingOther e =
        record {
          step = other_step g (least_new d) m.other;
          named = refl;
          heard = λ i.
              some
              (pieces_heard v (least_new d) (journal_front_interval_of_superblock g m.other.superblock) (journal_back_interval_of_superblock g m.other.superblock) m.other.front m.other.back
              (front_in g l.pieces m.other.superblock) (back_in g l.pieces m.other.superblock) i);
          plain =
              piece_plain (least_new d) 0 (front_of g m.other.superblock) m.other.front _
              (piece_plain (least_new d) 1 (back_of g m.other.superblock) m.other.back step.FinishLoadingOtherPhase refl);
        }
    go kind.Ready e = false_true e

-- at Ready none is
pub none_named : (g : Geometry) (m : Machine) (d : Disk) → loads m.kind ≡ false → loading_step g (record { machine = m; disk = d }) ≡ Err no.Kind
unfolding loading_step
none_named g m d = go m.kind
  where
    go : (k : Kind) → loads k ≡ false → loading_step g (record { machine = of_kind m k; disk = d }) ≡ Err no.Kind
    go kind.LoadingSuperblock e = true_false e
    go kind.LoadingOther e = true_false e
    go kind.Ready e = refl
