-- A ledger has no entry that wasn't added: what holds of each entry of every add that was taken, holds of each entry that it shows. So no entry of zeros only
-- comes into a journal by calls of this release.
use Rattle.std.specs.Prelude.{Bool, true, false, ◌≡◌, refl, length}
use Rattle.std.proofs.Common.{sym, ◌∙◌, subst}
use Rattle.std.proofs.Math.Path.{ap}
use mathlib.Core.List.{List, [], ◌∷◌, ◌++◌}
use Rattle.std.proofs.Math.Option.{Option, none, some}
use Rattle.laws.specs.Fold.{Each, each_append, each_drop}
use Rattle.laws.specs.Cut.{flat}
use Rattle.layout.specs.declared.Geometry.{Geometry}
use Rattle.layout.specs.declared.Location.{Location}
use Rattle.range.specs.Blank.{blank, none_blank, none_blank_each, each_none_blank}
use Rattle.codec.specs.Codec.{JournalEntry, Codec}
use Rattle.source.specs.JournalCache as M
use Rattle.source.specs.JournalSystem as Y
use Rattle.source.specs.JournalSystem.{superblock_of_disk}
use Rattle.source.specs.Limits.{Limits}
use Rattle.source.specs.Departures.{Event, Allowed}
use Rattle.history.specs.Ledger.{Call, write_journal, journal_written, commit_log, commit_location, superblock_written, read_journal, journal_read, read_superblock, superblock_read, finish_superblocks, finish_other, freeze, receive, add, replay, push_sync, pop_sync, no_op, ask_again, land, crash, nonsense, Range, Kept, Draft, written_of, Commit, log, location, Request, kept_by, left_by, landed, Ledger, fresh, begin, tell, books}
use Rattle.history.specs.Statement.{Tied, tied_add, Takes, Trace, Loaded, ledger_of}
use Rattle.history.proofs.Whole.Lists.{run_by, books_append}
use Rattle.history.proofs.Whole.History.{loaded_tells}

-- of the entries of ranges, a draft, a request, a ledger
module _ (P : JournalEntry → Type 0) where
  abbrev Ranged : List Range → Type 0
  Ranged = Each (Each P)

  record Drafted (d : Draft) : Type 0 where
    before : Ranged d.before
    after : Ranged d.after
    frozen : Each P d.frozen
    memory : Each P d.memory

  abbrev Asked : Option Request → Type 0
  Asked none = Unit {0}
  Asked (some q) = Drafted q.draft

  record Only (l : Ledger) : Type 0 where
    kept : Ranged l.kept.ranges
    draft : Drafted l.draft
    request : Asked l.request

  join : (xs ys : List Range) → Ranged xs → Ranged ys → Ranged (xs ++ ys)
  join = each_append (Each P)

  only_fresh : (k : Kept) → Ranged k.ranges → Only (fresh k)
  only_fresh k h = record { kept = h; draft = record { before = tt; after = h; frozen = tt; memory = tt }; request = tt }

  only_written : (d : Draft) (es : List JournalEntry) → Each P es → Drafted d → Drafted (written_of es d)
  only_written d [] f h =
      record { before = h.before; after = join d.after (d.memory ∷ []) h.after (h.memory, tt); frozen = tt; memory = tt }
  only_written d (e ∷ es) f h =
      record {
        before = join (d.before ++ d.after) ((e ∷ es) ∷ []) (join d.before d.after h.before h.after) (f, tt);
        after = tt;
        frozen = tt;
        memory = h.memory;
      }

  only_kept : (g : Geometry) (C : Codec) (c : Commit) (d : Draft) (k : Kept) → Drafted d → Ranged (kept_by g C c d k).ranges
  only_kept g C log d k h = join d.before d.after h.before h.after
  only_kept g C location d k h = h.after

  only_left : (c : Commit) (d p : Draft) → Drafted p → Drafted (left_by c d p)
  only_left log d p h = h
  only_left location d p h =
      record {
        before = tt;
        after = each_drop (Each P) (length d.before) (p.before ++ p.after) (join p.before p.after h.before h.after);
        frozen = h.frozen;
        memory = h.memory;
      }

  only_landed : (g : Geometry) (C : Codec) (o : Option Request) (l : Ledger) → Asked o → Only l → Only (landed g C o l)
  only_landed g C none l a h = h
  only_landed g C (some q) l a h =
      record { kept = only_kept g C q.commit q.draft l.kept a; draft = only_left q.commit q.draft l.draft h.draft; request = tt }

  only_tell : (g : Geometry) (C : Codec) (x : Call) (l : Ledger) → ((es : List JournalEntry) → x ≡ add es → Each P es) → Only l → Only (tell g C x l)
  unfolding tell
  only_tell g C (write_journal id1 id2) l f h =
      record { kept = h.kept; draft = only_written l.draft l.draft.frozen h.draft.frozen h.draft; request = h.request }
  only_tell g C (journal_written id) l f h = h
  only_tell g C (commit_log id) l f h = record { kept = h.kept; draft = h.draft; request = h.draft }
  only_tell g C (commit_location id) l f h = record { kept = h.kept; draft = h.draft; request = h.draft }
  only_tell g C (superblock_written id) l f h = h
  only_tell g C (read_journal which id) l f h = h
  only_tell g C (journal_read id whole) l f h = h
  only_tell g C (read_superblock which id) l f h = h
  only_tell g C (superblock_read which id whole) l f h = h
  only_tell g C finish_superblocks l f h = h
  only_tell g C finish_other l f h = h
  only_tell g C freeze l f h =
      record {
        kept = h.kept;
        draft =
            record {
              before = join l.draft.before l.draft.after h.draft.before h.draft.after;
              after = tt;
              frozen = each_append P l.draft.frozen l.draft.memory h.draft.frozen h.draft.memory;
              memory = tt;
            };
        request = h.request;
      }
  only_tell g C (receive loc) l f h =
      record { kept = h.kept; draft = record { before = h.draft.before; after = h.draft.after; frozen = h.draft.frozen; memory = h.draft.memory }; request = h.request }
  only_tell g C (add es) l f h =
      record {
        kept = h.kept;
        draft =
            record { before = h.draft.before; after = h.draft.after; frozen = h.draft.frozen; memory = each_append P l.draft.memory es h.draft.memory (f es refl) };
        request = h.request;
      }
  only_tell g C (replay es) l f h = h
  only_tell g C (push_sync id) l f h = h
  only_tell g C (pop_sync id) l f h = h
  only_tell g C no_op l f h = h
  only_tell g C (ask_again which) l f h = h
  only_tell g C (land which) l f h = only_landed g C l.request l h.request h
  only_tell g C crash l f h = only_fresh l.kept h.kept
  only_tell g C nonsense l f h = h

  each_flat : (rs : List Range) → Ranged rs → Each P (flat rs)
  unfolding flat
  each_flat [] h = tt
  each_flat (r ∷ rs) h = each_append P r (flat rs) h.0 (each_flat rs h.1)

-- an entry with a byte that isn't 0
abbrev Some : JournalEntry → Type 0
Some e = blank e ≡ false

-- what a taken add brings
added_some : (g : Geometry) (C : Codec) (L : Limits) (s t : Y.Variables) (es : List JournalEntry) (e : Event) → Tied (add es) e → Allowed g C L s t e → Each Some es
added_some g C L s t es e tied_add a = none_blank_each es a.step.machine.none_blank_is

module _ (g : Geometry) (C : Codec) (L : Limits) where
  takes_some : (s t : Y.Variables) (x : Call) → Takes g C L s t x → (es : List JournalEntry) → x ≡ add es → Each Some es
  takes_some s t x h es e = added_some g C L s t es h.event (subst (λ (y : Call). Tied y h.event) e h.tied) h.allowed

  run_some : (s t : Y.Variables) (l : Ledger) (xs : List Call) (bs : List Bool) → Only Some l → Trace g C L s xs bs t → Only Some (books g C l xs bs)
  run_some = run_by g C (Takes g C L) (λ s l. Only Some l) (λ s t l o x h. only_tell Some g C x l (takes_some s t x h) o)

  -- so from `Init` nothing that is loaded is of zeros only
  pub loaded_none_blank : (first : Y.Variables) (loc : Location) (i : Y.Init g first loc)
      (calls : List Call) (answers : List Bool) (loading : List Call) (loaded : List Bool) (r : M.ReadyVariables)
      → Loaded g C L first calls answers loading loaded r → none_blank r.replay_journal ≡ true
  unfolding books
  loaded_none_blank first loc i calls answers loading loaded r h =
      ap (λ (q : M.ReadyVariables). none_blank q.replay_journal) (loaded_tells g C L first loc i calls answers loading loaded r h)
      ∙ each_none_blank _ (each_flat Some _ (subst (Only Some) (sym told) after).kept)
    where
      l₀ : Ledger
      l₀ = begin (superblock_of_disk g first.disk i.wf)

      l₁ : Ledger
      l₁ = books g C l₀ calls answers

      told : ledger_of g C first loc i calls answers loading loaded ≡ books g C (tell g C crash l₁) loading loaded
      told = books_append g C l₀ _ first h.before calls answers (crash ∷ loading) (true ∷ loaded) h.ran

      after : Only Some (books g C (tell g C crash l₁) loading loaded)
      after =
          run_some h.after h.end (tell g C crash l₁) loading loaded
          (only_tell Some g C crash l₁ (takes_some h.before h.after crash h.crashed) (run_some first h.before l₀ calls answers (only_fresh Some l₀.kept tt) h.ran)) h.load
