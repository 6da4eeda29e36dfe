-- What a yes to the questions of an image tells: question 1, those of the slots and the choice between them, question 6.
use Rattle.std.specs.Prelude.{ℕ, ◌+◌, ◌*◌, ◌≡◌, refl, List, Result, Ok, Err, IsErrAnd}
use Rattle.std.proofs.Math.Path.{sym}
use Rattle.std.proofs.Common.{◌∙◌, ap, arith}
use borrow.Author.Tests.{eqb-true, eq-eqb}
use Rattle.laws.specs.Choice.{also_left, also_right, also_both, and_then_left, and_then_right, and_then_both, ask_yes, ask_holds, by_eqb, asked_yes, asked_no, ruin}
use Rattle.laws.specs.Cut.{lengths}
use Rattle.layout.specs.declared.Geometry.{Geometry}
use Rattle.layout.specs.Geometry.{ValidGeometry, geometry_asked, asked_geometry}
use Rattle.superblock.specs.declared.Superblock.{Superblock}
use Rattle.superblock.specs.Superblock.{select_superblock, select_superblock_index}
use Rattle.superblock.specs.Laws.{WFSuperblock, superblock_facts, facts_superblock}
use Rattle.journal.specs.Memory.{ask_readable}
use Rattle.std.proofs.lemmas.Result.{err_from_is_err_and}
use Rattle.refusal.specs.Refusal.{asked, ok_unless, number, number_of, number_some, refusal_number, number_asked, unless_yes, unless_no}
use Rattle.refusal.specs.declared.Refusal.{Refusal}
use Rattle.sector.specs.Sector.{sector_size}
use Rattle.image.specs.declared.Refused.{Refused}
use Rattle.image.specs.Image.{of_slot, refused, no_unless, slot_read, interval_of, sector_superblock, image_lent, ask_image, No, refusal, first_no, ask_slots, Chosen, chosen, readable}

-- the lent lengths
pub record Imaged (g : Geometry) (disk pieces rbytes rlens : ℕ) : Type 0 where
  pub geometry : ValidGeometry g
  pub disk_size : disk ≡ 8192 + g.blocks * 4096
  pub pieces_size : pieces ≡ g.blocks * 4096
  pub bytes_size : rbytes ≡ g.blocks * 4096
  pub lens_size : rlens ≡ g.blocks * 4096

-- question 1 was answered yes exactly there
module _ (g : Geometry) (disk pieces rbytes rlens : ℕ) where
  pub image_asked : ask_image g disk pieces rbytes rlens ≡ 0 → Imaged g disk pieces rbytes rlens
  unfolding ask_image image_lent
  image_asked e =
      let t = ask_yes 1 (image_lent g disk pieces rbytes rlens) (omega arith) (and_then_right _ _ e) in
      let t1 = also_right _ _ t in
      let t2 = also_right _ _ t1 in
      record {
        geometry = geometry_asked g (and_then_left _ _ e);
        disk_size = eqb-true disk (8192 + g.blocks * 4096) (also_left _ _ t);
        pieces_size = eqb-true pieces (g.blocks * 4096) (also_left _ _ t1);
        bytes_size = eqb-true rbytes (g.blocks * 4096) (also_left _ _ t2);
        lens_size = eqb-true rlens (g.blocks * 4096) (also_right _ _ t2);
      }

  pub asked_image : Imaged g disk pieces rbytes rlens → ask_image g disk pieces rbytes rlens ≡ 0
  unfolding ask_image image_lent
  asked_image v =
      and_then_both _ _ (asked_geometry g v.geometry)
      (ask_holds 1 _
      (also_both _ _ (eq-eqb disk (8192 + g.blocks * 4096) v.disk_size)
      (also_both _ _ (eq-eqb pieces (g.blocks * 4096) v.pieces_size)
      (also_both _ _ (eq-eqb rbytes (g.blocks * 4096) v.bytes_size) (eq-eqb rlens (g.blocks * 4096) v.lens_size)))))

-- a first no, and a yes
pub no_first : (q slot : ℕ) (next : No) → (q ≡ 0 → ⊥) → first_no q slot next ≡ refusal q slot
unfolding first_no
no_first q slot next h = asked_no q next (refusal q slot) h

pub no_next : (q slot : ℕ) (next : No) → q ≡ 0 → first_no q slot next ≡ next
unfolding first_no
no_next q slot next h = asked_yes q next (refusal q slot) h

-- nothing was refused exactly where neither was
pub no_left : (q slot : ℕ) (next : No) → (first_no q slot next).number ≡ 0 → q ≡ 0
unfolding first_no
no_left q slot next =
    by_eqb (λ (r : No). r.number ≡ 0 → q ≡ 0) q 0 next (refusal q slot) (λ h e. h) (λ h e. e)

pub no_right : (q slot : ℕ) (next : No) → (first_no q slot next).number ≡ 0 → next.number ≡ 0
no_right q slot next e = ap (λ (r : No). r.number) (sym (no_next q slot next (no_left q slot next e))) ∙ e

-- what an answer tells that was taken apart
pub choice_yes : {A : Type 0} (n : No) (v x : A) → Ok x ≡ no_unless n v → (n.number ≡ 0) × (x ≡ v)
choice_yes n v x =
    by_eqb (λ (r : Result _ Refused). Ok x ≡ r → (n.number ≡ 0) × (x ≡ v)) n.number 0 (Ok v) (Err (refused n))
    (λ h e. (h, cc)) (λ h e. ruin (cc))

pub choice_no : {A : Type 0} (n : No) (v : A) (e : Refused) → Err e ≡ no_unless n v → (n.number ≡ 0 → ⊥) × (e ≡ refused n)
choice_no n v e =
    by_eqb (λ (r : Result _ Refused). Err e ≡ r → (n.number ≡ 0 → ⊥) × (e ≡ refused n)) n.number 0 (Ok v) (Err (refused n))
    (λ h k. ruin (cc)) (λ h k. (h, cc))

-- at a `?` over an answer of a slot: its value, or its no, which is the first
pub slot_yes : {A : Type 0} (r : Result A Refusal) (slot : ℕ) (v : A) → Ok v ≡ of_slot r slot → r ≡ Ok v
slot_yes (Ok a) slot v h = let e : a ≡ v = cc in ap Ok e
slot_yes (Err e) slot v h = ruin (cc)

pub slot_no : {A B : Type 0} (r : Result A Refusal) (slot : ℕ) (e : Refused) (next : No) (w : B) (x : Result B Refused)
    → Err e ≡ of_slot r slot → IsErrAnd x (λ (y : Refused). y ≡ e) → x ≡ no_unless (first_no (number_of r) slot next) w
slot_no (Ok a) slot e next w x h i = ruin (cc)
slot_no (Err n) slot e next w x h i =
    let p = err_from_is_err_and x i in
    p.1
    ∙ ap Err (p.2 ∙ err_is ∙ (λ k. record { no = sym (refusal_number n) k; slot = slot }))
    ∙ sym (asked_no (number n) _ _ (number_some n))
    ∙ ap (λ (m : No). no_unless m w) (sym (no_first (number n) slot next (number_some n)))
  where
    err_is : e ≡ record { no = n; slot = slot }
    err_is = cc

-- what a yes of both slots tells
pub record SlotsAsked (g : Geometry) (first second : Result Superblock Refusal) (lent : ℕ) : Type 0 where
  pub first_read : number_of first ≡ 0
  pub second_read : number_of second ≡ 0
  pub lent_asked : lent ≡ 0
  pub first_formed : WFSuperblock g (sector_superblock first)
  pub second_formed : WFSuperblock g (sector_superblock second)

pub slots_asked : (g : Geometry) (first second : Result Superblock Refusal) (lent : ℕ) → (ask_slots g first second lent).number ≡ 0 → SlotsAsked g first second lent
unfolding ask_slots
slots_asked g first second lent e =
    let e1 = no_right _ _ _ e in
    let e2 = no_right _ _ _ e1 in
    let e3 = no_right _ _ _ e2 in
    let e4 = no_right _ _ _ e3 in
    record {
      first_read = no_left _ _ _ e;
      second_read = no_left _ _ _ e1;
      lent_asked = no_left _ _ _ e2;
      first_formed = superblock_facts g (sector_superblock first) (ask_yes 2 _ (omega arith) (no_left _ _ _ e3));
      second_formed = superblock_facts g (sector_superblock second) (ask_yes 2 _ (omega arith) (no_left _ _ _ e4));
    }

-- a sector that was not refused holds its superblock
holds_is : (r : Result Superblock Refusal) → number_of r ≡ 0 → r ≡ Ok (sector_superblock r)
unfolding sector_superblock
holds_is (Ok s) h = refl
holds_is (Err e) h = absurd (number_some e h)

pub slot_holds_is : (disk : List ℕ) (at : ℕ) → number_of (slot_read disk at) ≡ 0 → slot_read disk at ≡ Ok (sector_superblock (slot_read disk at))
slot_holds_is disk at h = holds_is (slot_read disk at) h

-- two well-formed superblocks are refused nothing
pub slots_hold : (g : Geometry) (a b : Superblock) → WFSuperblock g a → WFSuperblock g b → ask_slots g (Ok a) (Ok b) 0 ≡ refusal 0 0
unfolding ask_slots sector_superblock
slots_hold g a b f h =
    no_next _ _ _ refl
    ∙ no_next _ _ _ refl
    ∙ no_next _ _ _ refl
    ∙ no_next _ _ _ (ask_holds 2 _ (facts_superblock g a f))
    ∙ no_next _ _ _ (ask_holds 2 _ (facts_superblock g b h))

-- the selected one of two well-formed superblocks is well formed
pub selected_formed : (g : Geometry) (a b : Superblock) → WFSuperblock g a → WFSuperblock g b → WFSuperblock g (select_superblock a b)
unfolding select_superblock
selected_formed g a b f h = by_eqb (WFSuperblock g) (select_superblock_index a b) 1 b a (λ e. h) (λ e. f)

-- what the parts answer is the choice
pub chosen_is : (g : Geometry) (disk : List ℕ) (q : ℕ) (a b : Result Superblock Refusal) (n : No) (s t x : Superblock) (w : ℕ) → a ≡ slot_read disk 0 → b ≡ slot_read disk sector_size → n ≡ ask_slots g a b q
    → s ≡ sector_superblock a → t ≡ sector_superblock b → w ≡ select_superblock_index s t → x ≡ select_superblock s t → record { no = n; superblock = x; which = w } ≡ chosen g disk q
unfolding chosen
chosen_is g disk q a b n s t x w ha hb hn hs ht hw hx =
    λ i.
    record {
      no = (hn ∙ (λ k. ask_slots g (ha k) (hb k) q)) i;
      superblock = (hx ∙ (λ k. select_superblock ((hs ∙ ap sector_superblock ha) k) ((ht ∙ ap sector_superblock hb) k))) i;
      which = (hw ∙ (λ k. select_superblock_index ((hs ∙ ap sector_superblock ha) k) ((ht ∙ ap sector_superblock hb) k))) i;
    }

-- the choice of two well-formed superblocks, after a yes to question 1
pub chosen_holds : (g : Geometry) (disk : List ℕ) (a b : Superblock) → slot_read disk 0 ≡ Ok a → slot_read disk sector_size ≡ Ok b → WFSuperblock g a → WFSuperblock g b
    → chosen g disk 0 ≡ record { no = refusal 0 0; superblock = select_superblock a b; which = select_superblock_index a b }
unfolding sector_superblock
chosen_holds g disk a b ha hb f h =
    sym
    (chosen_is g disk 0 (Ok a) (Ok b) (refusal 0 0) a b (select_superblock a b) (select_superblock_index a b) (sym ha) (sym hb) (sym (slots_hold g a b f h)) refl refl refl
    refl)

-- a choice that was not refused: nothing was refused of the slots
pub chosen_asked : (g : Geometry) (disk : List ℕ) (q : ℕ) → (chosen g disk q).no.number ≡ 0 → SlotsAsked g (slot_read disk 0) (slot_read disk sector_size) q
unfolding chosen
chosen_asked g disk q e = slots_asked g (slot_read disk 0) (slot_read disk sector_size) q e

-- question 6 is asked where nothing was refused before
module _ (marks : List ℕ) (c : Chosen) where
  pub readable_refused : (c.no.number ≡ 0 → ⊥) → c ≡ readable marks c
  unfolding readable
  readable_refused h = λ i. record { no = sym (no_first c.no.number c.no.slot (refusal (ask_readable (interval_of c.superblock) marks) 0) h) i; superblock = c.superblock; which = c.which }

  pub readable_asked : c.no.number ≡ 0 → (q : ℕ) → q ≡ ask_readable (interval_of c.superblock) marks → record { no = refusal q 0; superblock = c.superblock; which = c.which } ≡ readable marks c
  unfolding readable
  readable_asked h q e =
      λ i.
      record {
        no = (ap (λ (n : ℕ). refusal n 0) e ∙ sym (no_next c.no.number c.no.slot (refusal (ask_readable (interval_of c.superblock) marks) 0) h)) i;
        superblock = c.superblock;
        which = c.which;
      }

  -- so nothing was refused of it exactly where nothing was before, and the interval's blocks can be read
  pub readable_yes : (readable marks c).no.number ≡ 0 → (c.no.number ≡ 0) × (ask_readable (interval_of c.superblock) marks ≡ 0)
  unfolding readable
  readable_yes e = (no_left _ _ _ e, no_right _ _ _ e)
