-- A table of ids and its set: what each change does to the set, and that it keeps `Counted` and the array's length.
use Rattle.std.specs.Prelude.{ℕ, ◌+◌, ◌-◌, ◌≤◌, ◌<◌, Bool, ◌≡◌, refl, ltb, length, take, get_or}
use Rattle.std.proofs.Math.Bool.{true, false, cond}
use Rattle.std.proofs.Common.{sym, ◌∙◌, subst, ⊎_elim, arith, length-take-le, get_or-take}
use Rattle.std.proofs.Math.Path.{ap}
use Rattle.std.proofs.Math.ListN.{set, length-set}
use borrow.Author.Tests.{lt-ltb, le-ltb, le-leb}
use Rattle.laws.specs.Choice.{also, also_false, split_bool, split_le}
use Rattle.laws.specs.Sets.{empty_ids, join, leave, ids_of, join_same, leave_same}
use Rattle.tables.specs.declared.IdTable.{IdTable}
use Rattle.tables.specs.Rows.{place_of, Counted, ask_join, in_use, filled}
use Rattle.tables.specs.IdTable.{id_set, SizedIds, no_ids, added_id, joined_id, removed_id}
use Rattle.tables.proofs.Laws.Places.{place_below, place_out, place_id}
use Rattle.tables.proofs.Laws.Arrays.{set_added, set_removed}
use Rattle.tables.proofs.Laws.Counts.{Addable, join_asked, count_none, counted_added, counted_removed}

-- the empty table
pub ids_empty : id_set no_ids ≡ empty_ids
unfolding ids_of
ids_empty = refl

module _ (t : IdTable) where
  -- none in use, and the empty set
  pub ids_none : t.count ≡ 0 → id_set t ≡ empty_ids
  unfolding ids_of
  ids_none e = ap (λ (n : ℕ). ids_of (take n t.ids)) e

  pub none_ids : (most : ℕ) → Counted most t.count t.ids → id_set t ≡ empty_ids → t.count ≡ 0
  none_ids most c e = count_none most t.count t.ids c e

  -- a change that is made, and one that isn't
  added_is : (id : ℕ) → t.count < length t.ids → added_id t id ≡ record { ids = set t.ids t.count id; count = t.count + 1 }
  unfolding added_id
  added_is id h = ap (λ (b : Bool). cond b (record { ids = set t.ids t.count id; count = t.count + 1 }) t) (lt-ltb t.count (length t.ids) h)

  joined_known : (id : ℕ) → id_set t id ≡ true → joined_id t id ≡ t
  unfolding joined_id
  joined_known id e = ap (λ (b : Bool). cond b t (added_id t id)) e

  joined_new : (id : ℕ) → id_set t id ≡ false → joined_id t id ≡ added_id t id
  unfolding joined_id
  joined_new id e = ap (λ (b : Bool). cond b t (added_id t id)) e

  removed_is : (i : ℕ) → t.count ≤ length t.ids → i < t.count → removed_id t i ≡ record { ids = filled 0 t.count i t.ids; count = t.count - 1 }
  unfolding removed_id in_use also
  removed_is i h k = simp (le-leb t.count (length t.ids) h, lt-ltb i t.count k)

  removed_none : (i : ℕ) → t.count ≤ i → removed_id t i ≡ t
  unfolding removed_id in_use
  removed_none i h = simp (le-ltb i t.count h, also_false)

  -- what a change does to the set
  pub ids_added : (id : ℕ) → t.count < length t.ids → id_set (added_id t id) ≡ join (id_set t) id
  ids_added id h = ap id_set (added_is id h) ∙ set_added t.ids t.count id h

  pub ids_joined : (most id : ℕ) → ask_join most t.count t.ids id ≡ 0 → id_set (joined_id t id) ≡ join (id_set t) id
  ids_joined most id e =
      split_bool (id_set t id)
      (λ h. ap id_set (joined_known id h) ∙ sym (join_same (id_set t) id h))
      (λ n. ⊎_elim (λ h. ap id_set (joined_known id h) ∙ sym (join_same (id_set t) id h)) (λ a. ap id_set (joined_new id n) ∙ ids_added id a.free) (join_asked most t.count t.ids id e))

  module _ (most : ℕ) (c : Counted most t.count t.ids) where
    pub ids_removed : (i : ℕ) → i < t.count → id_set (removed_id t i) ≡ leave (id_set t) (get_or t.ids i 0)
    ids_removed i h = ap id_set (removed_is i c.in_array h) ∙ set_removed t.ids t.count i h c.in_array c.differ

    -- an id is taken out by its place, and one that isn't there changes nothing
    pub ids_left : (id : ℕ) → id_set (removed_id t (place_of id (take t.count t.ids))) ≡ leave (id_set t) id
    ids_left id =
        let l : length (take t.count t.ids) ≡ t.count = length-take-le t.count t.ids c.in_array in
        split_bool (id_set t id)
        (λ h.
        let b = place_below id (take t.count t.ids) h in
        let k : place_of id (take t.count t.ids) < t.count = omega arith in
        ids_removed (place_of id (take t.count t.ids)) k
        ∙ ap (leave (id_set t)) (sym (get_or-take t.count t.ids (place_of id (take t.count t.ids)) 0 k) ∙ place_id id (take t.count t.ids) 0 b))
        (λ n.
        let b = place_out id (take t.count t.ids) n in
        ap id_set (removed_none (place_of id (take t.count t.ids)) (omega arith)) ∙ sym (leave_same (id_set t) id n))

    -- kept
    pub ids_added_ok : (id : ℕ) → Addable most t.count t.ids id → Counted most (added_id t id).count (added_id t id).ids
    ids_added_ok id a =
        subst (λ (u : IdTable). Counted most u.count u.ids) (sym (added_is id a.free)) (counted_added most t.count t.ids c id a)

    pub ids_joined_ok : (id : ℕ) → ask_join most t.count t.ids id ≡ 0 → Counted most (joined_id t id).count (joined_id t id).ids
    ids_joined_ok id e =
        split_bool (id_set t id)
        (λ h. subst (λ (u : IdTable). Counted most u.count u.ids) (sym (joined_known id h)) c)
        (λ n.
        ⊎_elim
        (λ h. subst (λ (u : IdTable). Counted most u.count u.ids) (sym (joined_known id h)) c)
        (λ a. subst (λ (u : IdTable). Counted most u.count u.ids) (sym (joined_new id n)) (ids_added_ok id a))
        (join_asked most t.count t.ids id e))

    pub ids_removed_ok : (i : ℕ) → Counted most (removed_id t i).count (removed_id t i).ids
    ids_removed_ok i =
        split_le t.count i
        (λ h. subst (λ (u : IdTable). Counted most u.count u.ids) (sym (removed_none i h)) c)
        (λ h. subst (λ (u : IdTable). Counted most u.count u.ids) (sym (removed_is i c.in_array h)) (counted_removed most t.count t.ids c i h))

  -- the array's length
  module _ (l : SizedIds t) where
    pub sized_added_ids : (id : ℕ) → SizedIds (added_id t id)
    unfolding added_id
    sized_added_ids id = go (ltb t.count (length t.ids))
      where
        go : (b : Bool) → SizedIds (cond {A = IdTable} b (record { ids = set t.ids t.count id; count = t.count + 1 }) t)
        go true = record { ids_long = length-set t.ids t.count id ∙ l.ids_long }
        go false = l

    pub sized_joined_ids : (id : ℕ) → SizedIds (joined_id t id)
    unfolding joined_id
    sized_joined_ids id = go (id_set t id) (sized_added_ids id)
      where
        go : (b : Bool) → SizedIds (added_id t id) → SizedIds (cond {A = IdTable} b t (added_id t id))
        go true z = l
        go false z = z

    pub sized_removed_ids : (i : ℕ) → SizedIds (removed_id t i)
    unfolding removed_id
    sized_removed_ids i = go (in_use t.count i t.ids)
      where
        go : (b : Bool) → SizedIds (cond {A = IdTable} b (record { ids = filled 0 t.count i t.ids; count = t.count - 1 }) t)
        go true = record { ids_long = length-set t.ids i (get_or t.ids (t.count - 1) 0) ∙ l.ids_long }
        go false = l

pub sized_no_ids : SizedIds no_ids
sized_no_ids = record { ids_long = refl }
