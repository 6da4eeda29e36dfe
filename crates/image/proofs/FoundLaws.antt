-- The interval that is found, and the ways out of a record.
use Rattle.std.specs.Prelude.{ℕ, ◌+◌, ◌*◌, ◌-◌, ◌≤◌, ◌<◌, Bool, ◌≡◌, length, drop, Result, Ok, Err, IsErrAnd, ⊤, eqb}
use Rattle.std.proofs.Math.Bool.{true, false, cond}
use Rattle.std.proofs.Math.Path.{refl, sym, ap}
use Rattle.std.proofs.Common.{◌∙◌, subst, arith, length-drop, drop-drop, le-leb}
use mathlib.Core.List.{List}
use Rattle.std.proofs.Math.ListN.{take}
use Rattle.std.proofs.lemmas.Bool.{lt-leb}
use Rattle.laws.specs.Around.{around_straight}
use Rattle.laws.specs.Choice.{unless, and_then_both, ask_yes, ask_holds, asked_yes, asked_no, unless_kept, unless_done, and_then, ask}
use Rattle.laws.specs.Cut.{flat, lengths}
use Rattle.laws.specs.Fold.{sum, every, every_take, every_drop}
use Rattle.laws.specs.Part.{tail_is, part_of_front}
use Rattle.laws.specs.Splice.{splice, part_splice}
use Rattle.layout.specs.declared.Geometry.{Geometry}
use Rattle.layout.specs.Geometry.{ask_geometry, asked_geometry}
use Rattle.interval.specs.Facts.{ValidJournalInterval, facts_interval}
use Rattle.interval.specs.Interval.{ask_interval}
use Rattle.superblock.specs.declared.Superblock.{Superblock}
use Rattle.journal.specs.Memory.{slice_bytes, ask_slice_bytes, ask_marks, ask_readable}
use Rattle.journal.specs.Asked.{asked_blocks}
use Rattle.journal.specs.Cells.{length_bytes, slice_every}
use Rattle.range.specs.Form.{Entry, all_entries, all_parse}
use Rattle.std.proofs.lemmas.Result.{err_from_is_err_and}
use Rattle.refusal.specs.Refusal.{asked, ok_unless, number_of, small_ask, small_then}
use Rattle.refusal.specs.Refusal as answer
use Rattle.refusal.specs.declared.Refusal.{Refusal}
use Rattle.range.specs.declared.Count.{Count}
use Rattle.reader.specs.Answer.{scanned, count_of}
use Rattle.unpacker.specs.Unpack as unpack
use Rattle.unpacker.specs.Unpack.{ask_unpack}
use Rattle.sector.specs.Sector.{sector_size}
use Rattle.image.specs.declared.Choice.{Choice}
use Rattle.image.specs.declared.Held.{Held}
use Rattle.image.specs.declared.Refused.{Refused}
use Rattle.image.specs.Image.{Lent, lent, of_slot, choice_of, ask_image, slot_read, journal_of, interval_of, interval_bytes, straight, sector_superblock, ask_lent, No, refusal, refused, no_unless, Chosen, selected, chosen, readable, interval_entries, ask_parse, held, ask_record, record_of, pieces_after, record_lent}
use Rattle.image.proofs.ChoosingLaws.{number_is}
use Rattle.image.specs.Asked.{choice_yes, choice_no, readable_refused, readable_asked, image_asked, no_first, no_next, no_left, no_right, SlotsAsked, slots_asked, selected_formed, chosen_asked, readable_yes}
use Rattle.image.specs.Found.{Fetches, found_in, found_lent, held_in}

-- an interval's bytes are a slice of the journal's; those of a disk of bytes are bytes
pub interval_is : (g : Geometry) (disk : List ℕ) (s : Superblock) → interval_bytes g disk s ≡ slice_bytes (journal_of g disk) (interval_of s)
unfolding interval_bytes
interval_is g disk s = refl

pub interval_every : (p : ℕ → Bool) (g : Geometry) (disk : List ℕ) (s : Superblock) → every p disk ≡ true → every p (interval_bytes g disk s) ≡ true
interval_every p g disk s h =
    ap (every p) (interval_is g disk s)
    ∙ slice_every p (journal_of g disk) (interval_of s) (every_take p (g.blocks * 4096) (drop 8192 disk) (every_drop p 8192 disk h))

-- the interval of a well-formed superblock lies in the journal of an image, and its blocks have room in the lent memory
module _ (g : Geometry) (s : Superblock) (disk : List ℕ) (l : Lent)
    (f : Fetches g s (length disk) (length l.pieces) (length l.rbytes) (length l.rlens)) where
  valid : ValidJournalInterval g (interval_of s)
  valid = record { start_in = f.formed.start_in; len_in = f.formed.len_in }

  -- the journal, as a slice to the image's end has it
  pub journal_part : take (length disk - 8192) (drop 8192 disk) ≡ journal_of g disk
  journal_part =
      let e : length disk - 8192 ≡ g.blocks * 4096 = omega (arith, f.lent.disk_size) in
      ap (λ (n : ℕ). take n (drop 8192 disk)) e

  pub length_journal : length (journal_of g disk) ≡ g.blocks * 4096
  length_journal =
      let e : length disk - 8192 ≡ g.blocks * 4096 = omega (arith, f.lent.disk_size) in
      ap length (sym journal_part ∙ tail_is disk 8192) ∙ length-drop 8192 disk ∙ e

  pub length_interval : length (interval_bytes g disk s) ≡ s.journalLen * 4096
  unfolding interval_bytes
  length_interval = length_bytes g (interval_of s) valid (journal_of g disk) length_journal

  -- an interval that lies straight is a part of the image
  pub straight_part : s.journalStart + s.journalLen ≤ g.blocks → (at n : ℕ) → at ≡ 8192 + s.journalStart * 4096 → n ≡ s.journalLen * 4096
      → take n (drop at disk) ≡ interval_bytes g disk s
  unfolding interval_bytes slice_bytes
  straight_part h at n ha hn =
      (λ i. take (hn i) (drop (ha i) disk))
      ∙ ap (take (s.journalLen * 4096)) (sym (drop-drop (s.journalStart * 4096) 8192 disk))
      ∙ sym (part_of_front (drop 8192 disk) (g.blocks * 4096) (s.journalStart * 4096) (s.journalLen * 4096) (omega (arith, h)))
      ∙ sym (around_straight (journal_of g disk) (s.journalStart * 4096) (s.journalLen * 4096) (omega (arith, h, length_journal)))

  slice_asked : ask_slice_bytes g (interval_of s) (journal_of g disk) l.pieces ≡ 0
  unfolding ask_slice_bytes ask_interval
  slice_asked =
      and_then_both _ _ (asked_blocks g (journal_of g disk) (record { geometry = f.lent.geometry; size = length_journal }))
      (and_then_both _ _ (asked_blocks g l.pieces (record { geometry = f.lent.geometry; size = f.lent.pieces_size }))
      (and_then_both _ _ (asked_geometry g f.lent.geometry) (ask_holds 4 _ (facts_interval g (interval_of s) valid))))

  -- the interval's blocks copied to the front, and read back there
  pub fetched : (part x : List ℕ) → part ≡ journal_of g disk
      → x ≡ unless (ask_slice_bytes g (interval_of s) part l.pieces) l.pieces (splice l.pieces 0 (slice_bytes part (interval_of s)))
      → x ≡ splice l.pieces 0 (interval_bytes g disk s)
  unfolding interval_bytes
  fetched part x hp hx =
      hx
      ∙ ap (λ (p : List ℕ). unless (ask_slice_bytes g (interval_of s) p l.pieces) l.pieces (splice l.pieces 0 (slice_bytes p (interval_of s)))) hp
      ∙ unless_done _ _ _ slice_asked

  pub fetched_front : (x : List ℕ) → x ≡ splice l.pieces 0 (interval_bytes g disk s) → (n : ℕ) → n ≡ s.journalLen * 4096
      → take (n - 0) (drop 0 x) ≡ interval_bytes g disk s
  fetched_front x hx n hn =
      (λ i. take (k i) (drop 0 (hx i))) ∙ part_splice l.pieces 0 (interval_bytes g disk s) (omega arith)
    where
      k : n - 0 ≡ length (interval_bytes g disk s)
      k = omega (arith, hn, length_interval)

  -- replay memory has room for its entries
  pub unpack_asks : ask_unpack (interval_bytes g disk s) l.rbytes l.rlens ≡ ask_parse g disk s
  unpack_asks =
      unpack.lent (interval_bytes g disk s) l.rbytes l.rlens (omega (arith, length_interval, f.lent.bytes_size, f.formed.len_in))
      (omega (arith, length_interval, f.lent.lens_size, f.formed.len_in))

  -- and what was unpacked of it, wherever it lay
  pub found : (xs : List ℕ) → xs ≡ interval_bytes g disk s → (pieces x y z : List ℕ) (r : Result Count Refusal) → x ≡ pieces
      → (r ≡ scanned (ask_unpack xs l.rbytes l.rlens) (all_entries xs))
      × ((y ≡ unless (ask_unpack xs l.rbytes l.rlens) l.rbytes (splice l.rbytes 0 (flat (all_entries xs))))
      × (z ≡ unless (ask_unpack xs l.rbytes l.rlens) l.rlens (splice l.rlens 0 (lengths (all_entries xs)))))
      → (r ≡ found_in g disk s) × (lent x y z ≡ found_lent g disk s pieces l)
  found xs hx pieces x y z r hp h = (
    h.0 ∙ (λ i. scanned (asks i) (all_entries (hx i))),
    λ i.
        lent (hp i)
        ((h.1.0 ∙ (λ k. unless (asks k) l.rbytes (splice l.rbytes 0 (flat (all_entries (hx k)))))) i)
        ((h.1.1 ∙ (λ k. unless (asks k) l.rlens (splice l.rlens 0 (lengths (all_entries (hx k)))))) i),
  )
    where
      asks : ask_unpack xs l.rbytes l.rlens ≡ ask_parse g disk s
      asks = ap (λ (x : List ℕ). ask_unpack x l.rbytes l.rlens) hx ∙ unpack_asks

-- what pieces are left as: as they were, or the copy
pub pieces_straight : (g : Geometry) (disk : List ℕ) (s : Superblock) (pieces : List ℕ) → s.journalStart + s.journalLen ≤ g.blocks → pieces_after g disk s pieces ≡ pieces
unfolding pieces_after straight
pieces_straight g disk s pieces h = ap (λ (b : Bool). cond b pieces (splice pieces 0 (interval_bytes g disk s))) (le-leb _ _ h)

pub pieces_round : (g : Geometry) (disk : List ℕ) (s : Superblock) (pieces : List ℕ) → g.blocks < s.journalStart + s.journalLen
    → pieces_after g disk s pieces ≡ splice pieces 0 (interval_bytes g disk s)
unfolding pieces_after straight
pieces_round g disk s pieces h = ap (λ (b : Bool). cond b pieces (splice pieces 0 (interval_bytes g disk s))) (lt-leb _ _ h)

-- the ways out, by a choice
module _ (g : Geometry) (disk : List ℕ) (c : Chosen) (l : Lent) where
  -- a no before the interval is looked at
  module _ (h : c.no.number ≡ 0 → ⊥) where
    no_is : ask_record g disk c ≡ refusal c.no.number c.no.slot
    unfolding ask_record
    no_is = no_first c.no.number c.no.slot _ h

    not_all : (ask_record g disk c).number ≡ 0 → ⊥
    not_all e = h (ap (λ (r : No). r.number) (sym no_is) ∙ e)

    pub record_refused : Err (refused c.no) ≡ record_of g disk c
    unfolding record_of
    record_refused =
        ap (λ (r : No). Err (refused r)) (sym no_is)
        ∙ sym (asked_no (ask_record g disk c).number _ _ not_all)

    pub lent_refused : l ≡ record_lent g disk c l
    unfolding record_lent
    lent_refused =
        λ i.
        lent
        (sym (unless_kept c.no.number l.pieces (pieces_after g disk c.superblock l.pieces) h) i)
        (sym (unless_kept (ask_record g disk c).number l.rbytes (splice l.rbytes 0 (flat (interval_entries g disk c.superblock))) not_all) i)
        (sym (unless_kept (ask_record g disk c).number l.rlens (splice l.rlens 0 (lengths (interval_entries g disk c.superblock))) not_all) i)

  -- what was found in it
  module _ (h : c.no.number ≡ 0) where
    asks_parse : ask_record g disk c ≡ refusal (ask_parse g disk c.superblock) 0
    unfolding ask_record
    asks_parse = no_next c.no.number c.no.slot _ h

    pub record_found : held_in g disk (record { superblock = c.superblock; which = c.which }) ≡ record_of g disk c
    unfolding record_of
    record_found = ap (λ (r : No). no_unless r (held c.superblock c.which (interval_entries g disk c.superblock))) (sym asks_parse)

    pub lent_found : (x : Lent) → x ≡ found_lent g disk c.superblock (pieces_after g disk c.superblock l.pieces) l → x ≡ record_lent g disk c l
    unfolding record_lent
    lent_found x e =
        e
        ∙ (λ i.
        lent
        (sym (unless_done c.no.number l.pieces (pieces_after g disk c.superblock l.pieces) h) i)
        (unless (sym asks_parse i).number l.rbytes (splice l.rbytes 0 (flat (interval_entries g disk c.superblock))))
        (unless (sym asks_parse i).number l.rlens (splice l.rlens 0 (lengths (interval_entries g disk c.superblock)))))

-- a record that is held: the answer, and replay memory
module _ (g : Geometry) (disk : List ℕ) (c : Chosen) (h : c.no.number ≡ 0) (k : ask_parse g disk c.superblock ≡ 0) where
  pub asked_record : (ask_record g disk c).number ≡ 0
  unfolding ask_record
  asked_record = ap (λ (r : No). r.number) (no_next c.no.number c.no.slot _ h) ∙ k

  pub held_yes : record_of g disk c ≡ Ok (held c.superblock c.which (interval_entries g disk c.superblock))
  unfolding record_of
  held_yes = asked_yes (ask_record g disk c).number _ _ asked_record

  pub bytes_yes : (l : Lent) → (record_lent g disk c l).rbytes ≡ splice l.rbytes 0 (flat (interval_entries g disk c.superblock))
  unfolding record_lent
  bytes_yes l = unless_done (ask_record g disk c).number l.rbytes _ asked_record

  pub lens_yes : (l : Lent) → (record_lent g disk c l).rlens ≡ splice l.rlens 0 (lengths (interval_entries g disk c.superblock))
  unfolding record_lent
  lens_yes l = unless_done (ask_record g disk c).number l.rlens _ asked_record

-- and nothing was refused of it
pub record_asked : (g : Geometry) (disk : List ℕ) (c : Chosen) → (ask_record g disk c).number ≡ 0 → (c.no.number ≡ 0) × (all_parse (interval_bytes g disk c.superblock) ≡ true)
unfolding ask_record
record_asked g disk c e = (no_left _ _ _ e, ask_yes 7 _ (omega arith) (no_right _ _ _ e))

-- by the choice: nothing was refused of the slots, and the selected interval parses
pub chosen_record : (g : Geometry) (disk : List ℕ) (q : ℕ) → (ask_record g disk (chosen g disk q)).number ≡ 0
    → SlotsAsked g (slot_read disk 0) (slot_read disk sector_size) q × (all_parse (interval_bytes g disk (selected disk)) ≡ true)
unfolding chosen
chosen_record g disk q e = let r = record_asked g disk (chosen g disk q) e in (chosen_asked g disk q r.0, r.1)

-- so of a record with marks that was not refused: the record without them isn't, and the selected interval's blocks can be read
pub marked_record : (g : Geometry) (disk : List ℕ) (marks : List ℕ) (q : ℕ) → (ask_record g disk (readable marks (chosen g disk q))).number ≡ 0
    → ((ask_record g disk (chosen g disk q)).number ≡ 0) × (ask_readable (interval_of (selected disk)) marks ≡ 0)
unfolding readable chosen
marked_record g disk marks q e =
    let r = record_asked g disk (readable marks (chosen g disk q)) e in
    let y = readable_yes marks (chosen g disk q) r.0 in
    (asked_record g disk (chosen g disk q) y.0 (ask_holds 7 _ r.1), y.1)

-- what `record` chooses may be fetched, and what `record_marked` chooses
pub unmarked_may : (g : Geometry) (disk : List ℕ) (l : Lent) (q : ℕ) → (q ≡ 0 → ask_lent g disk l ≡ 0) → (chosen g disk q).no.number ≡ 0
    → Fetches g (selected disk) (length disk) (length l.pieces) (length l.rbytes) (length l.rlens)
unfolding chosen
unmarked_may g disk l q k h =
    let f = slots_asked g (slot_read disk 0) (slot_read disk sector_size) q h in
    record {
      lent = image_asked g (length disk) (length l.pieces) (length l.rbytes) (length l.rlens) (k f.lent_asked);
      formed = selected_formed g (sector_superblock (slot_read disk 0)) (sector_superblock (slot_read disk sector_size)) f.first_formed f.second_formed;
    }

-- question 1's number, alone and with the marks
pub image_number : (g : Geometry) (disk pieces rbytes rlens : ℕ) (r : Result ⊤ Refusal) → r ≡ asked (ask_image g disk pieces rbytes rlens) → number_of r ≡ ask_image g disk pieces rbytes rlens
unfolding ask_image ask_geometry
image_number g disk pieces rbytes rlens r e = number_is _ r (small_then _ _ (small_ask 1 _ (omega arith)) (small_ask 1 _ (omega arith))) e

pub marked_number : (g : Geometry) (disk pieces rbytes rlens : ℕ) (marks : List ℕ) (r : Result ⊤ Refusal)
    → r ≡ asked (and_then (ask_image g disk pieces rbytes rlens) (ask_marks g marks)) → number_of r ≡ and_then (ask_image g disk pieces rbytes rlens) (ask_marks g marks)
unfolding ask_image ask_geometry ask_marks
marked_number g disk pieces rbytes rlens marks r e =
    number_is _ r
    (small_then _ _ (small_then _ _ (small_ask 1 _ (omega arith)) (small_ask 1 _ (omega arith))) (small_then _ _ (small_ask 1 _ (omega arith)) (small_ask 1 _ (omega arith)))) e

-- an answer of questions, with its slot
of_slot_is : {A : Type 0} (q slot : ℕ) (a : A) → of_slot (ok_unless q a) slot ≡ no_unless (refusal q slot) a
of_slot_is {A = A} q slot a = go (eqb q 0)
  where
    go : (b : Bool) → of_slot (cond b (Ok a) (Err (answer.refusal q))) slot ≡ cond b (Ok a) (Err (refused (refusal q slot)))
    go true = refl
    go false = refl

-- a no says the same of every value
no_other : {A B : Type 0} (n : No) (v : A) (w : B) (e : Refused) → Err e ≡ no_unless n v → Err e ≡ no_unless n w
no_other n v w e h = let f = choice_no n v e h in ap Err f.1 ∙ sym (asked_no n.number _ _ f.0)

-- what the code finds in an interval is the record
module _ (g : Geometry) (disk : List ℕ) (d : Choice) (r : Result Count Refusal) (hr : r ≡ found_in g disk d.superblock) where
  as_no : of_slot r 0 ≡ no_unless (refusal (ask_parse g disk d.superblock) 0) (count_of (interval_entries g disk d.superblock))
  as_no = ap (λ (k : Result Count Refusal). of_slot k 0) hr ∙ of_slot_is (ask_parse g disk d.superblock) 0 (count_of (interval_entries g disk d.superblock))

  pub found_refused : (e : Refused) (x : Result Held Refused) → Err e ≡ of_slot r 0 → IsErrAnd x (λ (y : Refused). y ≡ e) → x ≡ held_in g disk d
  found_refused e x h i =
      let p = err_from_is_err_and x i in
      p.1 ∙ ap Err p.2 ∙ no_other (refusal (ask_parse g disk d.superblock) 0) _ _ e (h ∙ as_no)

  pub found_held : (c : Count) → Ok c ≡ of_slot r 0 → Ok (record { superblock = d.superblock; which = d.which; entries = c.entries; bytes = c.bytes }) ≡ held_in g disk d
  found_held c h =
      let f = choice_yes (refusal (ask_parse g disk d.superblock) 0) _ c (h ∙ as_no) in
      (λ i. Ok (record { superblock = d.superblock; which = d.which; entries = (f.1 i).entries; bytes = (f.1 i).bytes })) ∙ sym (asked_yes (ask_parse g disk d.superblock) _ _ f.0)

-- a choice's record: where it was refused, and where it is taken
module _ (g : Geometry) (disk : List ℕ) (l : Lent) (c : Chosen) where
  pub choice_refused : (e : Refused) (x : Result Held Refused) → Err e ≡ choice_of c → IsErrAnd x (λ (y : Refused). y ≡ e) → (x ≡ record_of g disk c) × (l ≡ record_lent g disk c l)
  choice_refused e x h i =
      let n = choice_no c.no _ e h in
      let p = err_from_is_err_and x i in
      (p.1 ∙ ap Err (p.2 ∙ n.1) ∙ record_refused g disk c l n.0, lent_refused g disk c l n.0)

  -- and so with question 6 behind it
  pub marked_refused : (marks : List ℕ) (e : Refused) (x : Result Held Refused) → Err e ≡ choice_of c → IsErrAnd x (λ (y : Refused). y ≡ e)
      → (x ≡ record_of g disk (readable marks c)) × (l ≡ record_lent g disk (readable marks c) l)
  marked_refused marks e x h i =
      let r = choice_refused e x h i in
      let k = readable_refused marks c (choice_no c.no _ e h).0 in
      (r.0 ∙ ap (record_of g disk) k, r.1 ∙ ap (λ (d : Chosen). record_lent g disk d l) k)

  module _ (d : Choice) (h : Ok d ≡ choice_of c) where
    pub record_taken : (x : Result Held Refused) → x ≡ held_in g disk d → x ≡ record_of g disk c
    record_taken x e = let f = choice_yes c.no _ d h in e ∙ ap (held_in g disk) f.1 ∙ record_found g disk c l f.0

    pub lent_taken : (x : Lent) → x ≡ found_lent g disk d.superblock (pieces_after g disk d.superblock l.pieces) l → x ≡ record_lent g disk c l
    lent_taken x e =
        let f = choice_yes c.no _ d h in
        lent_found g disk c l f.0 x (e ∙ ap (λ (k : Choice). found_lent g disk k.superblock (pieces_after g disk k.superblock l.pieces) l) f.1)

    -- with question 6
    module _ (marks : List ℕ) (a : Result ⊤ Refusal) (ha : a ≡ asked (ask_readable (interval_of d.superblock) marks)) where
      asks : of_slot a 0 ≡ no_unless (readable marks c).no record {}
      asks =
          let f = choice_yes c.no _ d h in
          ap (λ (k : Result ⊤ Refusal). of_slot k 0) (ha ∙ ap (λ (k : Choice). asked (ask_readable (interval_of k.superblock) marks)) f.1)
          ∙ of_slot_is (ask_readable (interval_of c.superblock) marks) 0 record {}
          ∙ ap (λ (k : Chosen). no_unless k.no record {}) (readable_asked marks c f.0 _ refl)

      pub marks_refused : (e : Refused) → Err e ≡ of_slot a 0 → Err e ≡ choice_of (readable marks c)
      marks_refused e k = no_other (readable marks c).no _ _ e (k ∙ asks)

      pub marks_taken : (u : ⊤) → Ok u ≡ of_slot a 0 → Ok d ≡ choice_of (readable marks c)
      unfolding readable
      marks_taken u k =
          let f = choice_yes c.no _ d h in
          let m = choice_yes (readable marks c).no _ u (k ∙ asks) in
          ap Ok f.1 ∙ sym (asked_yes (readable marks c).no.number _ _ m.0)

-- the selected superblock's interval may be fetched
pub taken_may : (g : Geometry) (disk : List ℕ) (l : Lent) (q : ℕ) (d : Choice) → (q ≡ 0 → ask_lent g disk l ≡ 0) → Ok d ≡ choice_of (chosen g disk q)
    → Fetches g d.superblock (length disk) (length l.pieces) (length l.rbytes) (length l.rlens)
unfolding chosen
taken_may g disk l q d k h =
    let f = choice_yes (chosen g disk q).no _ d h in
    subst (λ (c : Choice). Fetches g c.superblock (length disk) (length l.pieces) (length l.rbytes) (length l.rlens)) (sym f.1) (unmarked_may g disk l q k f.0)
