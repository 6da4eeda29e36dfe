-- What is known of a sync request, by its state. At State3, the entries added before its push are all on their way. At State2, none of them is in
-- memory: they are in the draft's ranges, frozen, or dropped; and where a commit has landed and is not answered, its landing covered them. At
-- State1, a landing covered them.
use Rattle.std.specs.Prelude.{ℕ, Bool, ◌≡◌, List, [], ◌∷◌, ◌++◌, ◌⊎◌}
use Rattle.std.proofs.Math.Path.{refl}
use Rattle.std.proofs.Common.{sym, ◌∙◌, ap, subst, append-nil, inl, inr}
use Rattle.std.proofs.Math.Option.{Option, none, some, map, some-injective}
use Rattle.laws.specs.Sets.{none_some, at}
use Rattle.layout.specs.declared.Geometry.{Geometry}
use Rattle.codec.specs.Codec.{JournalEntry, Codec}
use Rattle.source.specs.JournalDisk as D
use Rattle.source.specs.JournalDisk.{ReqId, ReqWriteSuperblockId}
use Rattle.source.specs.JournalCache as M
use Rattle.source.specs.JournalCache.{SyncReqStatus, State1, State2, State3, status3to2, status2to1, sync_reqs_of, sync_reqs3to2, sync_reqs2to1}
use Rattle.source.specs.JournalSystem.{on_ready}
use Rattle.history.specs.Ledger.{land, Request, landed}
use Rattle.history.specs.Coverage.{Said, yes, Page, pages, settled, covered_here, leaves, Leaves, Covered}
use Rattle.history.proofs.Simulation.Relation.{Flight, Asked, Phase, quiet, waits, done, flight_of, Sim}
use Rattle.history.proofs.Simulation.Commits.{none_there}
use Rattle.history.proofs.Covering.Lists.{Since, since_more, covered_more, covered_now}
use Rattle.history.proofs.Covering.Flow.{on_ranges, set, all, set_landed, all_landed, covered_landed}

-- the commit in flight
abbrev pub flying : M.Variables → Option ReqId
flying m = on_ready m (λ s. s.superblock_write) none

-- where State3 goes to State2, and State2 to State1
pub from_3to2 : (o : Option SyncReqStatus) (v : SyncReqStatus) → map status3to2 o ≡ some v → (o ≡ some v) ⊎ ((o ≡ some State3) × (v ≡ State2))
from_3to2 none v e = none_some refl e
from_3to2 (some State1) v e = inl e
from_3to2 (some State2) v e = inl e
from_3to2 (some State3) v e = inr (refl, some-injective v State2 (sym e))

pub from_2to1 : (o : Option SyncReqStatus) (v : SyncReqStatus) → map status2to1 o ≡ some v → (o ≡ some v) ⊎ ((o ≡ some State2) × (v ≡ State1))
from_2to1 none v e = none_some refl e
from_2to1 (some State1) v e = inl e
from_2to1 (some State2) v e = inr (refl, some-injective v State1 (sym e))
from_2to1 (some State3) v e = inl e

module _ (g : Geometry) (C : Codec) (p₀ : Page) where
  -- a commit has landed and is not answered
  pub record Landed (m : M.Variables) (p : Page) : Type 0 where
    pub id : ReqId
    pub flies : flying m ≡ some id
    pub none_asked : p.ledger.request ≡ none

  abbrev pub Known : List Said → Page → M.Variables → ℕ → SyncReqStatus → Type 0
  Known xs p m id State3 = Since g C p₀ xs id (all p)
  Known xs p m id State2 = Since g C p₀ xs id (set p) × (Landed m p → Covered g C p₀ xs id)
  Known xs p m id State1 = Covered g C p₀ xs id

  abbrev pub AllKnown : List Said → Page → M.Variables → Type 0
  AllKnown xs p m = (id : ℕ) (v : SyncReqStatus) → sync_reqs_of m id ≡ some v → Known xs p m id v

  -- what a call leaves of the entries, and no landing is new
  pub record Carries (p p' : Page) (m m' : M.Variables) : Type 0 where
    pub all_more : List JournalEntry
    pub all_is : all p' ≡ all p ++ all_more
    pub set_more : List JournalEntry
    pub set_is : set p' ≡ set p ++ set_more
    pub no_landing : Landed m' p' → Landed m p

  pub carries_same : (p : Page) (m m' : M.Variables) → flying m' ≡ flying m → Carries p p m m'
  carries_same p m m' e =
      record {
        all_more = [];
        all_is = sym (append-nil (all p));
        set_more = [];
        set_is = sym (append-nil (set p));
        no_landing = λ h. record { id = h.id; flies = sym e ∙ h.flies; none_asked = h.none_asked };
      }

  pub carry : (xs : List Said) (x : Said) (p p' : Page) (m m' : M.Variables) → Carries p p' m m' → (id : ℕ) → Leaves id x → (v : SyncReqStatus) → Known xs p m id v → Known (xs ++ x ∷ []) p' m' id v
  carry xs x p p' m m' c id f State1 k = covered_more g C p₀ xs id x k f
  carry xs x p p' m m' c id f State2 k =
      (since_more g C p₀ xs id (set p) (set p') c.set_more x k.0 f c.set_is, λ h. covered_more g C p₀ xs id x (k.1 (c.no_landing h)) f)
  carry xs x p p' m m' c id f State3 k = since_more g C p₀ xs id (all p) (all p') c.all_more x k f c.all_is

  module _ (xs : List Said) (x : Said) (p p' : Page) (m m' : M.Variables) (c : Carries p p' m m') (k : AllKnown xs p m) (f : (id : ℕ) → Leaves id x) where
    -- a call that leaves the sync requests
    pub known_same : sync_reqs_of m' ≡ sync_reqs_of m → AllKnown (xs ++ x ∷ []) p' m'
    known_same e id v q = carry xs x p p' m m' c id (f id) v (k id v (sym (λ i. e i id) ∙ q))

    -- a call that moves State3 to State2: nothing is left in memory then
    pub known_moved : (more : List JournalEntry) → set p' ≡ all p ++ more → (Landed m' p' → ⊥) → sync_reqs_of m' ≡ sync_reqs3to2 (sync_reqs_of m) → AllKnown (xs ++ x ∷ []) p' m'
    known_moved more e n q id v r = go (from_3to2 (sync_reqs_of m id) v (sym (λ i. q i id) ∙ r))
      where
        go : (sync_reqs_of m id ≡ some v) ⊎ ((sync_reqs_of m id ≡ some State3) × (v ≡ State2)) → Known (xs ++ x ∷ []) p' m' id v
        go (inl h) = carry xs x p p' m m' c id (f id) v (k id v h)
        go (inr h) =
            subst (Known (xs ++ x ∷ []) p' m' id) (sym h.1)
            (since_more g C p₀ xs id (all p) (set p') more x (k id State3 h.0) (f id) e, λ l. absurd (n l))

    -- the answer to a commit that landed moves State2 to State1
    pub known_answered : Landed m p → sync_reqs_of m' ≡ sync_reqs2to1 (sync_reqs_of m) → AllKnown (xs ++ x ∷ []) p' m'
    known_answered l q id v r = go (from_2to1 (sync_reqs_of m id) v (sym (λ i. q i id) ∙ r))
      where
        go : (sync_reqs_of m id ≡ some v) ⊎ ((sync_reqs_of m id ≡ some State2) × (v ≡ State1)) → Known (xs ++ x ∷ []) p' m' id v
        go (inl h) = carry xs x p p' m m' c id (f id) v (k id v h)
        go (inr h) = subst (Known (xs ++ x ∷ []) p' m' id) (sym h.1) (covered_more g C p₀ xs id x ((k id State2 h.0).1 l) (f id))

  leaves_land : (which : Bool) (id : ℕ) → Leaves id (yes (land which))
  unfolding leaves
  leaves_land which id e = refl

  abbrev pub landed_page : Page → Option Request → Page
  landed_page p o = record { ledger = landed g C o p.ledger; account = settled o p.account }

  -- a landing, first or again
  module _ (par : ℕ) (xs : List Said) (p : Page) (page_is : pages g C p₀ xs ≡ p) (which : Bool) (turned : pages g C p₀ (xs ++ yes (land which) ∷ []) ≡ landed_page p p.ledger.request) where
    -- the first landing: whatever is at State2 is covered by it
    known_first : (r : M.ReadyVariables) (d : D.Variables) (z : Sim g C par (M.Variables.Ready r) d p.ledger)
        → Asked g C (flight_of r) d.req_write_superblocks d.req_write_journals p.ledger.request p.ledger.kept p.ledger.draft.before p.ledger.draft.after z.slot
        → M.InvReady g r → AllKnown xs p (M.Variables.Ready r) → AllKnown (xs ++ yes (land which) ∷ []) (landed_page p p.ledger.request) (M.Variables.Ready r)
    known_first r d z a inv k id v e =
        subst (λ (o : Option Request). Known (xs ++ yes (land which) ∷ []) (landed_page p o) (M.Variables.Ready r) id v) (sym a.request_is) (go v (k id v e))
      where
        q : Request
        q = record { commit = a.commit; draft = a.draft }

        none_frozen_is : p.ledger.draft.frozen ≡ []
        none_frozen_is = sym z.runs.frozen_is ∙ (inv.if_new a.new (ap (λ (f : Flight). f.new_superblock) a.flight_is)).none_frozen_is

        covers : covered_here (landed_page p (some q)) ≡ set p
        covers =
            covered_landed p.account.dropped a.draft p.ledger.draft a.before_is a.after_is g C p.ledger.kept a.commit
            ∙ sym (append-nil (on_ranges p.account.dropped p.ledger.draft))
            ∙ ap (λ (es : List JournalEntry). on_ranges p.account.dropped p.ledger.draft ++ es) (sym none_frozen_is)

        go : (v : SyncReqStatus) → Known xs p (M.Variables.Ready r) id v → Known (xs ++ yes (land which) ∷ []) (landed_page p (some q)) (M.Variables.Ready r) id v
        go State1 h = covered_more g C p₀ xs id (yes (land which)) h (leaves_land which id)
        go State2 h = (
          since_more g C p₀ xs id (set p) (set (landed_page p (some q))) [] (yes (land which)) h.0 (leaves_land which id)
              (set_landed p.account.dropped a.draft p.ledger.draft a.before_is a.after_is a.commit ∙ sym (append-nil (set p))),
          λ l.
              covered_now g C p₀ xs id (set p) which q h.0 (leaves_land which id) (ap (λ (y : Page). y.ledger.request) page_is ∙ a.request_is)
              (ap covered_here (turned ∙ ap (landed_page p) a.request_is) ∙ covers),
        )
        go State3 h =
            since_more g C p₀ xs id (all p) (all (landed_page p (some q))) [] (yes (land which)) h (leaves_land which id)
            (all_landed p.account.dropped a.draft p.ledger.draft a.before_is a.after_is a.commit ∙ sym (append-nil (all p)))

    known_again : (m : M.Variables) → p.ledger.request ≡ none → AllKnown xs p m → AllKnown (xs ++ yes (land which) ∷ []) (landed_page p p.ledger.request) m
    known_again m n k =
        subst (λ (o : Option Request). AllKnown (xs ++ yes (land which) ∷ []) (landed_page p o) m) (sym n)
        (known_same xs (yes (land which)) p p m m (carries_same p m m refl) k (leaves_land which) refl)

    pub known_landed : (m : M.Variables) (d : D.Variables) (w : ReqWriteSuperblockId) → Sim g C par m d p.ledger → M.Inv g m → at d.req_write_superblocks which ≡ some w
        → AllKnown xs p m → AllKnown (xs ++ yes (land which) ∷ []) (landed_page p p.ledger.request) m
    known_landed (M.Variables.LoadingSuperblock s) d w z inv e k = none_there d.req_write_superblocks which w z.runs.0.writes_are e
    known_landed (M.Variables.LoadingOther s) d w z inv e k = none_there d.req_write_superblocks which w z.runs.0.writes_are e
    known_landed (M.Variables.Ready s) d w z inv e k = go z.runs.phase
      where
        go : Phase g C (flight_of s) s.superblock s.whichSuperblock s.writtenJournalLen s.frozenJournalPosition d.req_write_superblocks d.req_write_journals d.journal
            p.ledger.request p.ledger.kept p.ledger.draft.before p.ledger.draft.after z.slot
            → AllKnown (xs ++ yes (land which) ∷ []) (landed_page p p.ledger.request) (M.Variables.Ready s)
        go (quiet q st) = none_there d.req_write_superblocks which w q.writes_are e
        go (waits a st) = known_first s d z a inv k
        go (done a) = known_again (M.Variables.Ready s) a.request_is k

    -- and all entries are still there
    pub all_kept : (m : M.Variables) (d : D.Variables) (w : ReqWriteSuperblockId) → Sim g C par m d p.ledger → at d.req_write_superblocks which ≡ some w
        → all (landed_page p p.ledger.request) ≡ all p
    all_kept (M.Variables.LoadingSuperblock s) d w z e = none_there d.req_write_superblocks which w z.runs.0.writes_are e
    all_kept (M.Variables.LoadingOther s) d w z e = none_there d.req_write_superblocks which w z.runs.0.writes_are e
    all_kept (M.Variables.Ready s) d w z e = go z.runs.phase
      where
        go : Phase g C (flight_of s) s.superblock s.whichSuperblock s.writtenJournalLen s.frozenJournalPosition d.req_write_superblocks d.req_write_journals d.journal
            p.ledger.request p.ledger.kept p.ledger.draft.before p.ledger.draft.after z.slot → all (landed_page p p.ledger.request) ≡ all p
        go (quiet q st) = none_there d.req_write_superblocks which w q.writes_are e
        go (waits a st) =
            ap (λ (o : Option Request). all (landed_page p o)) a.request_is
            ∙ all_landed p.account.dropped a.draft p.ledger.draft a.before_is a.after_is a.commit
        go (done a) = ap (λ (o : Option Request). all (landed_page p o)) a.request_is
