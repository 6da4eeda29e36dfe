-- Lists of calls with their answers, cut and lengthened: a page of a longer list, and requests whose push and landing stand in it.
use Rattle.std.specs.Prelude.{ℕ, Bool, ◌≡◌}
use Rattle.std.proofs.Math.Path.{refl}
use Rattle.std.proofs.Common.{sym, ◌∙◌, ap, subst}
use mathlib.Core.List.{List, [], ◌∷◌, ◌++◌, append-nil, append_assoc}
use Rattle.std.proofs.Math.Option.{some}
use Rattle.laws.specs.Fold.{Each, each_append}
use Rattle.layout.specs.declared.Geometry.{Geometry}
use Rattle.codec.specs.Codec.{JournalEntry, Codec}
use Rattle.history.specs.Ledger.{Call, push_sync, land, Request, books}
use Rattle.history.specs.Coverage.{Said, yes, said, Page, turn, pages, before_here, covered_here, Leaves, Covered}

module _ (g : Geometry) (C : Codec) where
  pub pages_append : (p : Page) (xs ys : List Said) → pages g C p (xs ++ ys) ≡ pages g C (pages g C p xs) ys
  unfolding pages
  pages_append p [] ys = refl
  pages_append p (x ∷ xs) ys = pages_append (turn g C x p) xs ys

  pub pages_one : (p : Page) (xs : List Said) (x : Said) → pages g C p (xs ++ x ∷ []) ≡ turn g C x (pages g C p xs)
  unfolding pages
  pages_one p xs x = pages_append p xs (x ∷ [])

  -- a page's ledger is the ledger of the calls with their answers
  pub pages_books : (p : Page) (xs : List Call) (bs : List Bool) → (pages g C p (said xs bs)).ledger ≡ books g C p.ledger xs bs
  unfolding pages books
  pages_books p [] bs = refl
  pages_books p (x ∷ xs) [] = refl
  pages_books p (x ∷ xs) (b ∷ bs) = pages_books (turn g C (record { call = x; accepted = b }) p) xs bs

  module _ (p : Page) where
    -- a request that was pushed, and the entries of `now` begin with those added before
    pub record Since (xs : List Said) (id : ℕ) (now : List JournalEntry) : Type 0 where
      pub before : List Said
      pub after : List Said
      pub list_is : xs ≡ before ++ yes (push_sync id) ∷ after
      pub its_push : Each (Leaves id) after
      pub rest : List JournalEntry
      pub begins : now ≡ before_here (pages g C p before) ++ rest

    pub since_more : (xs : List Said) (id : ℕ) (now now' new : List JournalEntry) (x : Said) → Since xs id now → Leaves id x → now' ≡ now ++ new → Since (xs ++ x ∷ []) id now'
    since_more xs id now now' new x h f e =
        record {
          before = h.before;
          after = h.after ++ x ∷ [];
          list_is = ap (λ (z : List Said). z ++ x ∷ []) h.list_is ∙ append_assoc h.before (yes (push_sync id) ∷ h.after) (x ∷ []);
          its_push = each_append (Leaves id) h.after (x ∷ []) h.its_push (f, tt);
          rest = h.rest ++ new;
          begins = e ∙ ap (λ (z : List JournalEntry). z ++ new) h.begins ∙ append_assoc (before_here (pages g C p h.before)) h.rest new;
        }

    pub since_push : (xs : List Said) (id : ℕ) (now : List JournalEntry) → now ≡ before_here (pages g C p xs) → Since (xs ++ yes (push_sync id) ∷ []) id now
    since_push xs id now e =
        record { before = xs; after = []; list_is = refl; its_push = tt; rest = []; begins = e ∙ sym (append-nil (before_here (pages g C p xs))) }

    pub covered_more : (xs : List Said) (id : ℕ) (x : Said) → Covered g C p xs id → Leaves id x → Covered g C p (xs ++ x ∷ []) id
    covered_more xs id x h f =
        record {
          before = h.before;
          between = h.between;
          which = h.which;
          after = h.after ++ x ∷ [];
          list_is =
              ap (λ (z : List Said). z ++ x ∷ []) h.list_is
              ∙ append_assoc h.before (yes (push_sync id) ∷ (h.between ++ yes (land h.which) ∷ h.after)) (x ∷ [])
              ∙ ap (λ (z : List Said). h.before ++ yes (push_sync id) ∷ z) tail;
          its_push = subst (Each (Leaves id)) tail (each_append (Leaves id) (h.between ++ yes (land h.which) ∷ h.after) (x ∷ []) h.its_push (f, tt));
          request = h.request;
          first_landing = h.first_landing;
          rest = h.rest;
          covers = h.covers;
        }
      where
        tail : (h.between ++ yes (land h.which) ∷ h.after) ++ x ∷ [] ≡ h.between ++ yes (land h.which) ∷ (h.after ++ x ∷ [])
        tail = append_assoc h.between (yes (land h.which) ∷ h.after) (x ∷ [])

    -- a landing now, of a commit request, that covers what was added before the push
    pub covered_now : (xs : List Said) (id : ℕ) (now : List JournalEntry) (which : Bool) (q : Request) → Since xs id now → Leaves id (yes (land which))
        → (pages g C p xs).ledger.request ≡ some q → covered_here (pages g C p (xs ++ yes (land which) ∷ [])) ≡ now → Covered g C p (xs ++ yes (land which) ∷ []) id
    covered_now xs id now which q h f r e =
        record {
          before = h.before;
          between = h.after;
          which = which;
          after = [];
          list_is = list_is;
          its_push = each_append (Leaves id) h.after (yes (land which) ∷ []) h.its_push (f, tt);
          request = q;
          first_landing = ap (λ (z : List Said). (pages g C p z).ledger.request) (sym h.list_is) ∙ r;
          rest = h.rest;
          covers = ap (λ (z : List Said). covered_here (pages g C p z)) (sym list_is) ∙ e ∙ h.begins;
        }
      where
        list_is : xs ++ yes (land which) ∷ [] ≡ h.before ++ yes (push_sync id) ∷ (h.after ++ yes (land which) ∷ [])
        list_is = ap (λ (z : List Said). z ++ yes (land which) ∷ []) h.list_is ∙ append_assoc h.before (yes (push_sync id) ∷ h.after) (yes (land which) ∷ [])
