-- A machine by its kind: what holds of the record with each kind put in its place, holds of the record (which is its fields). Question 3 and the
-- source's `s.Ready? && ..` name one kind.
use Rattle.std.specs.Prelude.{◌≡◌}
use Rattle.std.proofs.Common.{arith}
use Rattle.laws.specs.Choice.{ruin}
use Rattle.layout.specs.declared.Geometry.{Geometry}
use Rattle.source.specs.JournalCache.{LoadingSuperblockVariables, LoadingOtherVariables, ReadyVariables, IsLoadingSuperblock, IsLoadingOther, IsReady}
use Rattle.machine.specs.declared.Kind.{Kind}
use Rattle.machine.specs.declared.Kind.TheVariants as kind
use Rattle.machine.specs.declared.Machine.{Machine}
use Rattle.machine.specs.Machine.{ask_loading_superblock, ask_loading_other, ask_ready}
use Rattle.machine.specs.Lent.{Lent}
use Rattle.refine.specs.Machine.LoadingView.{loading_superblock_of, loading_other_of}
use Rattle.refine.specs.Machine.ReadyView.{ready_of}
use Rattle.refine.specs.Machine.MachineView.{ready_lent, syncs_of, machine_of}

abbrev pub of_kind : Machine → Kind → Machine
of_kind m k = record { kind = k; superblocks = m.superblocks; other = m.other; ready = m.ready; sync = m.sync }

module _ (P : Machine → Type 0) (m : Machine) where
  pub by_kind_is : P (of_kind m kind.LoadingSuperblock) → P (of_kind m kind.LoadingOther) → P (of_kind m kind.Ready) → P m
  by_kind_is a b c = go m.kind
    where
      go : (k : Kind) → P (of_kind m k)
      go kind.LoadingSuperblock = a
      go kind.LoadingOther = b
      go kind.Ready = c

  -- question 3 was answered yes
  pub asked_superblocks : ask_loading_superblock m ≡ 0 → P (of_kind m kind.LoadingSuperblock) → P m
  asked_superblocks e a = go m.kind e
    where
      go : (k : Kind) → ask_loading_superblock (of_kind m k) ≡ 0 → P (of_kind m k)
      go kind.LoadingSuperblock q = a
      go kind.LoadingOther q = ruin (omega arith)
      go kind.Ready q = ruin (omega arith)

  pub asked_other_is : ask_loading_other m ≡ 0 → P (of_kind m kind.LoadingOther) → P m
  asked_other_is e a = go m.kind e
    where
      go : (k : Kind) → ask_loading_other (of_kind m k) ≡ 0 → P (of_kind m k)
      go kind.LoadingSuperblock q = ruin (omega arith)
      go kind.LoadingOther q = a
      go kind.Ready q = ruin (omega arith)

  pub asked_ready : ask_ready m ≡ 0 → P (of_kind m kind.Ready) → P m
  asked_ready e a = go m.kind e
    where
      go : (k : Kind) → ask_ready (of_kind m k) ≡ 0 → P (of_kind m k)
      go kind.LoadingSuperblock q = ruin (omega arith)
      go kind.LoadingOther q = ruin (omega arith)
      go kind.Ready q = a

  -- a predicate that names a kind holds
  module _ (g : Geometry) (l : Lent) where
    pub seen_superblocks : (Q : LoadingSuperblockVariables → Type 0) → IsLoadingSuperblock (machine_of g l m) Q
        → (Q (loading_superblock_of m.superblocks (syncs_of m)) → P (of_kind m kind.LoadingSuperblock)) → P m
    seen_superblocks Q h f = go m.kind h
      where
        go : (k : Kind) → IsLoadingSuperblock (machine_of g l (of_kind m k)) Q → P (of_kind m k)
        go kind.LoadingSuperblock q = f q
        go kind.LoadingOther q = absurd q
        go kind.Ready q = absurd q

    pub seen_other : (Q : LoadingOtherVariables → Type 0) → IsLoadingOther (machine_of g l m) Q
        → (Q (loading_other_of g l.pieces m.other (syncs_of m)) → P (of_kind m kind.LoadingOther)) → P m
    seen_other Q h f = go m.kind h
      where
        go : (k : Kind) → IsLoadingOther (machine_of g l (of_kind m k)) Q → P (of_kind m k)
        go kind.LoadingSuperblock q = absurd q
        go kind.LoadingOther q = f q
        go kind.Ready q = absurd q

    pub seen_ready : (Q : ReadyVariables → Type 0) → IsReady (machine_of g l m) Q
        → (Q (ready_of (ready_lent l) (syncs_of m) m.ready) → P (of_kind m kind.Ready)) → P m
    seen_ready Q h f = go m.kind h
      where
        go : (k : Kind) → IsReady (machine_of g l (of_kind m k)) Q → P (of_kind m k)
        go kind.LoadingSuperblock q = absurd q
        go kind.LoadingOther q = absurd q
        go kind.Ready q = f q
