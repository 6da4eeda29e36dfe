-- Commit requests and sync requests. Of finitely many sync requests it can be told whether one waits at State3 with no entry in memory. Where
-- none does, the amended commit request is the source's; where one does, the source's is taken away and the amended one is new.
use Rattle.std.specs.Prelude.{ℕ, true, ◌≡◌, refl, List, [], ◌∷◌, ◌⊎◌}
use Rattle.std.proofs.Common.{sym, ◌∙◌, ap, subst, inl, inr, ⊎_elim}
use Rattle.std.proofs.Math.Option.{Option, none, some, map}
use Rattle.laws.specs.Choice.{ruin, split_eq, false_true}
use Rattle.laws.specs.Sets.{Map, is_key, keys, ids_of, ids_of_there, AtMost}
use Rattle.codec.specs.Codec.{JournalEntry}
use Rattle.source.specs.JournalDisk.{DiskOp}
use Rattle.source.specs.JournalCache.{Variables, Ready, LoadingOther, LoadingSuperblock, SyncReqStatus, State1, State2, State3, sync_reqs_of, with_sync_reqs, status3to2, sync_reqs3to2, if_none}
use Rattle.source.specs.Limits.{Limits, MachineCounts}
use Rattle.source.specs.Departures.{idle_sync, CommitReq⁺, WaitsIdle, SyncStays}

pub sync_with : (x : Map SyncReqStatus) (s : Variables) → sync_reqs_of (with_sync_reqs x s) ≡ x
sync_with x (Ready s) = refl
sync_with x (LoadingOther s) = refl
sync_with x (LoadingSuperblock s) = refl

sync_own : (s : Variables) → s ≡ with_sync_reqs (sync_reqs_of s) s
sync_own (Ready s) = refl
sync_own (LoadingOther s) = refl
sync_own (LoadingSuperblock s) = refl

pub sync_counted : (L : Limits) (s : Variables) → MachineCounts L s → AtMost L.sync_reqs (keys (sync_reqs_of s))
sync_counted L (Ready s) h = h.sync_few
sync_counted L (LoadingOther s) h = h.sync_few
sync_counted L (LoadingSuperblock s) h = h.sync_few

-- at State3, or not
waits? : (o : Option SyncReqStatus) → (o ≡ some State3) ⊎ (map status3to2 o ≡ o)
waits? none = inr refl
waits? (some State1) = inr refl
waits? (some State2) = inr refl
waits? (some State3) = inl refl

moved : (o : Option SyncReqStatus) → o ≡ some State3 → map status3to2 o ≡ o → ⊥
moved o e q = ruin (cc)

-- one of the listed requests waits, or none of them
listed_waits : (m : Map SyncReqStatus) (ks : List ℕ) → ((k : ℕ) × (m k ≡ some State3)) ⊎ ((i : ℕ) → ids_of ks i ≡ true → map status3to2 (m i) ≡ m i)
unfolding ids_of
listed_waits m [] = inr (λ i e. false_true e)
listed_waits m (k ∷ ks) = ⊎_elim (λ e. inl (k, e)) (λ e. more e (listed_waits m ks)) (waits? (m k))
  where
    more : map status3to2 (m k) ≡ m k → ((k : ℕ) × (m k ≡ some State3)) ⊎ ((i : ℕ) → ids_of ks i ≡ true → map status3to2 (m i) ≡ m i)
        → ((k : ℕ) × (m k ≡ some State3)) ⊎ ((i : ℕ) → ids_of (k ∷ ks) i ≡ true → map status3to2 (m i) ≡ m i)
    more e (inl x) = inl x
    more e (inr f) = inr (λ i h. split_eq k i (λ q. subst (λ (n : ℕ). map status3to2 (m n) ≡ m n) q e) (λ n. f i (sym (ids_of_there k i ks n) ∙ h)))

-- what is no key stays
unkeyed : (o : Option SyncReqStatus) → (is_key o ≡ true → map status3to2 o ≡ o) → map status3to2 o ≡ o
unkeyed none f = refl
unkeyed (some v) f = f refl

some-waits? : (n : ℕ) (m : Map SyncReqStatus) → AtMost n (keys m) → ((k : ℕ) × (m k ≡ some State3)) ⊎ (sync_reqs3to2 m ≡ m)
some-waits? n m h = ⊎_elim (λ x. inl x) (λ f. inr (λ j i. unkeyed (m i) (λ e. f i (h.all i e)) j)) (listed_waits m h.listed)

waits-idle? : (n : ℕ) (s : Variables) → AtMost n (keys (sync_reqs_of s)) → WaitsIdle s ⊎ (idle_sync s ≡ sync_reqs_of s)
waits-idle? n (Ready s) h = go s.in_memory_journal refl
  where
    go : (es : List JournalEntry) → s.in_memory_journal ≡ es → WaitsIdle (Ready s) ⊎ (idle_sync (Ready s) ≡ s.sync_reqs)
    go [] e = ⊎_elim (λ x. inl (e, x)) (λ q. inr (ap (λ (es : List JournalEntry). if_none es (sync_reqs3to2 s.sync_reqs) s.sync_reqs) e ∙ q)) (some-waits? n s.sync_reqs h)
    go (x ∷ es) e = inr (ap (λ (es : List JournalEntry). if_none es (sync_reqs3to2 s.sync_reqs) s.sync_reqs) e)
waits-idle? n (LoadingOther s) h = inr refl
waits-idle? n (LoadingSuperblock s) h = inr refl

-- a request that waits so is moved
pub waits_moved : (s : Variables) → WaitsIdle s → idle_sync s ≡ sync_reqs_of s → ⊥
waits_moved (Ready s) w q =
    moved (s.sync_reqs w.1.0) w.1.1
    (sym (ap (λ (es : List JournalEntry). if_none es (sync_reqs3to2 s.sync_reqs) s.sync_reqs w.1.0) w.0) ∙ (λ i. q i w.1.0))
waits_moved (LoadingOther s) w q = w
waits_moved (LoadingSuperblock s) w q = w

module _ (n : ℕ) (s s' : Variables) (dop : DiskOp) (R : Variables → Variables → DiskOp → Type 0) (few : AtMost n (keys (sync_reqs_of s)))
    (leaves : (t : Variables) → R s t dop → sync_reqs_of t ≡ sync_reqs_of s) where
  -- a commit request of the source, which leaves the sync requests, is the amended one or is taken away
  pub commit_departs : R s s' dop → CommitReq⁺ R s s' dop ⊎ SyncStays s s'
  commit_departs h =
      ⊎_elim
      (λ w. inr (w, leaves s' h))
      (λ q. inl (record { asked = s'; source = h; next = sync_own s' ∙ ap (λ (x : Map SyncReqStatus). with_sync_reqs x s') (leaves s' h ∙ sym q) }))
      (waits-idle? n s few)

  -- an amended one is the source's, or moves a request
  pub commit_source : CommitReq⁺ R s s' dop → R s s' dop ⊎ WaitsIdle s
  commit_source h =
      ⊎_elim
      (λ w. inr w)
      (λ q.
      inl
      (subst (λ (t : Variables). R s t dop)
      (sync_own h.asked ∙ ap (λ (x : Map SyncReqStatus). with_sync_reqs x h.asked) (leaves h.asked h.source ∙ sym q) ∙ sym h.next) h.source))
      (waits-idle? n s few)
