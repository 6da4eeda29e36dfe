-- The choice, question by question, as the code asks them.
use Rattle.std.specs.Prelude.{ℕ, ◌≤◌, ◌≡◌, refl, ⊤, List, Result, Ok, Err, IsErrAnd}
use Rattle.std.proofs.Common.{sym, ◌∙◌, ap, arith}
use Rattle.laws.specs.Choice.{ask}
use Rattle.layout.specs.declared.Geometry.{Geometry}
use Rattle.refusal.specs.Refusal.{asked, ok_unless, number_of, number_asked, small_ask}
use Rattle.refusal.specs.declared.Refusal.{Refusal}
use Rattle.superblock.specs.declared.Superblock.{Superblock}
use Rattle.superblock.specs.Superblock.{select_superblock, select_superblock_index, wf_superblock}
use Rattle.sector.specs.Sector.{sector_size}
use Rattle.image.specs.declared.Choice.{Choice}
use Rattle.image.specs.declared.Refused.{Refused}
use Rattle.image.specs.Image.{of_slot, no_unless, No, refusal, first_no, slot_read, sector_superblock, ask_slots, selected, which, chosen, choice_of}
use Rattle.image.specs.Asked.{no_next, slot_yes, slot_no}

-- the number of an answer of questions
pub number_is : (q : ℕ) (r : Result ⊤ Refusal) → q ≤ 13 → r ≡ asked q → number_of r ≡ q
number_is q r h e = ap number_of e ∙ number_asked q record {} h

module _ (g : Geometry) (disk : List ℕ) (q : ℕ) where
  abbrev first : Result Superblock Refusal
  first = slot_read disk 0

  abbrev second : Result Superblock Refusal
  second = slot_read disk sector_size

  abbrev at : No → Result Choice Refused
  at n = no_unless n (record { superblock = selected disk; which = which disk })

  -- the questions that are left after one was answered yes
  abbrev formed2 : No
  formed2 = first_no (ask 2 (wf_superblock g (sector_superblock second))) 2 (refusal 0 0)

  abbrev formed1 : No
  formed1 = first_no (ask 2 (wf_superblock g (sector_superblock first))) 1 formed2

  abbrev lent : No
  lent = first_no q 0 formed1

  abbrev read2 : No
  read2 = first_no (number_of second) 2 lent

  past : (k slot : ℕ) (n : No) (x : Result Choice Refused) → k ≡ 0 → x ≡ at n → x ≡ at (first_no k slot n)
  past k slot n x h e = e ∙ ap at (sym (no_next k slot n h))

  -- a no goes on, with its slot
  pub first_refused : (e : Refused) (x : Result Choice Refused) → Err e ≡ of_slot first 1 → IsErrAnd x (λ (y : Refused). y ≡ e) → x ≡ choice_of (chosen g disk q)
  unfolding chosen ask_slots
  first_refused e x h i = slot_no first 1 e read2 _ x h i

  module _ (s : Superblock) (hs : Ok s ≡ of_slot first 1) where
    one : number_of first ≡ 0
    one = ap number_of (slot_yes first 1 s hs)

    s_is : s ≡ sector_superblock first
    unfolding sector_superblock
    s_is = sym (ap sector_superblock (slot_yes first 1 s hs))

    pub second_refused : (e : Refused) (x : Result Choice Refused) → Err e ≡ of_slot second 2 → IsErrAnd x (λ (y : Refused). y ≡ e) → x ≡ choice_of (chosen g disk q)
    unfolding chosen ask_slots
    second_refused e x h i = past _ 1 read2 x one (slot_no second 2 e lent _ x h i)

    module _ (t : Superblock) (ht : Ok t ≡ of_slot second 2) where
      two : number_of second ≡ 0
      two = ap number_of (slot_yes second 2 t ht)

      t_is : t ≡ sector_superblock second
      unfolding sector_superblock
      t_is = sym (ap sector_superblock (slot_yes second 2 t ht))

      module _ (r : Result ⊤ Refusal) (hr : number_of r ≡ q) where
        pub lent_refused : (e : Refused) (x : Result Choice Refused) → Err e ≡ of_slot r 0 → IsErrAnd x (λ (y : Refused). y ≡ e) → x ≡ choice_of (chosen g disk q)
        unfolding chosen ask_slots
        lent_refused e x h i = past _ 1 read2 x one (past _ 2 lent x two (slot_no r 0 e formed1 _ x h i ∙ ap (λ (k : ℕ). at (first_no k 0 formed1)) hr))

        module _ (u : ⊤) (hu : Ok u ≡ of_slot r 0) where
          none : q ≡ 0
          none = sym hr ∙ ap number_of (slot_yes r 0 u hu)

          -- a superblock is well formed, or that is the no
          formed_is : (a b : Superblock) (k : Result ⊤ Refusal) → k ≡ asked (ask 2 (wf_superblock g a)) → a ≡ b → number_of k ≡ ask 2 (wf_superblock g b)
          formed_is a b k h e = number_is _ k (small_ask 2 _ (omega arith)) h ∙ ap (λ (c : Superblock). ask 2 (wf_superblock g c)) e

          module _ (a : Result ⊤ Refusal) (ha : a ≡ asked (ask 2 (wf_superblock g s))) where
            pub first_formless : (e : Refused) (x : Result Choice Refused) → Err e ≡ of_slot a 1 → IsErrAnd x (λ (y : Refused). y ≡ e) → x ≡ choice_of (chosen g disk q)
            unfolding chosen ask_slots
            first_formless e x h i =
                past _ 1 read2 x one
                (past _ 2 lent x two
                (past q 0 formed1 x none (slot_no a 1 e formed2 _ x h i ∙ ap (λ (k : ℕ). at (first_no k 1 formed2)) (formed_is s (sector_superblock first) a ha s_is))))

            module _ (v : ⊤) (hv : Ok v ≡ of_slot a 1) (b : Result ⊤ Refusal) (hb : b ≡ asked (ask 2 (wf_superblock g t))) where
              first_formed : ask 2 (wf_superblock g (sector_superblock first)) ≡ 0
              first_formed = sym (formed_is s (sector_superblock first) a ha s_is) ∙ ap number_of (slot_yes a 1 v hv)

              pub second_formless : (e : Refused) (x : Result Choice Refused) → Err e ≡ of_slot b 2 → IsErrAnd x (λ (y : Refused). y ≡ e) → x ≡ choice_of (chosen g disk q)
              unfolding chosen ask_slots
              second_formless e x h i =
                  past _ 1 read2 x one
                  (past _ 2 lent x two
                  (past q 0 formed1 x none
                  (past _ 1 formed2 x first_formed (slot_no b 2 e (refusal 0 0) _ x h i ∙ ap (λ (k : ℕ). at (first_no k 2 (refusal 0 0))) (formed_is t (sector_superblock second) b hb t_is)))))

              -- every answer is yes
              pub chosen_yes : (w : ⊤) → Ok w ≡ of_slot b 2 → (y : Superblock) (i : ℕ) → i ≡ select_superblock_index s t → y ≡ select_superblock s t
                  → Ok (record { superblock = y; which = i }) ≡ choice_of (chosen g disk q)
              unfolding chosen ask_slots
              chosen_yes w hw y i hi hy =
                  past _ 1 read2 _ one
                  (past _ 2 lent _ two
                  (past q 0 formed1 _ none
                  (past _ 1 formed2 _ first_formed
                  (past _ 2 (refusal 0 0) _ (sym (formed_is t (sector_superblock second) b hb t_is) ∙ ap number_of (slot_yes b 2 w hw))
                  (λ j.
                  Ok (record { superblock = (hy ∙ (λ k. select_superblock (s_is k) (t_is k))) j; which = (hi ∙ (λ k. select_superblock_index (s_is k) (t_is k))) j }))))))
