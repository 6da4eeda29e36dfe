-- The relation through a landing, first and again, and through the answer that tells the machine of it; an answer before the landing
-- cannot be.
use Rattle.std.specs.Prelude.{ℕ, ◌+◌, ◌%◌, ◌≤◌, ◌<◌, Bool, not, ◌≡◌, refl, List, ◌++◌, length, drop}
use Rattle.std.proofs.Common.{sym, ◌∙◌, ap, subst, arith, drop_at}
use Rattle.std.proofs.Math.Option.{Option, some}
use Rattle.laws.specs.Fold.{Each, each_right}
use Rattle.layout.specs.declared.Geometry.{Geometry}
use Rattle.layout.specs.Journal.{journal_pos_add}
use Rattle.interval.specs.Journal.{JournalBlock}
use Rattle.superblock.specs.declared.Superblock.{Superblock}
use Rattle.superblock.specs.Superblock.{increment_superblock_counter}
use Rattle.laws.specs.Sets.{Two, at, put}
use Rattle.laws.specs.Maps.{no_keys_some}
use Rattle.codec.specs.Codec.{Codec}
use Rattle.source.specs.JournalDisk as D
use Rattle.source.specs.JournalDisk.{ReqWriteSuperblockId}
use Rattle.source.specs.JournalCache as M
use Rattle.history.specs.Ledger.{Range, blocks, Kept, Draft, Commit, log, location, Request, Ledger, kept_by, left_by, landed}
use Rattle.codec.specs.Ranges.{Good, codes, codes_append, length_codes, blocks_append}
use Rattle.history.proofs.Journal.Holds.{Holds, pos_add_mod, holds_moved}
use Rattle.history.proofs.Journal.Slots.{parity, next_parity, Slots, slots_wf_is, slots_land, slots_again}
use Rattle.history.proofs.Simulation.Relation.{super_of, Standing, Owes, Asked, Done, Phase, quiet, waits, done, flight_of, Sim}
use Rattle.history.proofs.Simulation.Loading.{by_next}
use Rattle.history.proofs.Simulation.Commits.{at_slot, none_there, not_not}

-- both commits step the counter
pub kept_counter : (g : Geometry) (C : Codec) (c : Commit) (d : Draft) (k : Kept) → (kept_by g C c d k).counter ≡ increment_superblock_counter k.counter
kept_counter g C log d k = refl
kept_counter g C location d k = refl

module _ (g : Geometry) (C : Codec) (k : Kept) (q : Draft) (before after : List Range) (before_is : q.before ≡ before) (after_is : q.after ≡ after)
    (superblock : Superblock) (which : Bool) (len position : ℕ) (j : List (Option JournalBlock)) (w : Bool)
    (st : Standing g C superblock which len position j k before after w) (start_in : k.start < g.blocks) (size : length j ≡ g.blocks) where
  rs_are : q.before ++ q.after ≡ before ++ after
  rs_are = λ i. before_is i ++ after_is i

  -- what is kept by the landing is on the disk
  pub landed_holds : (c : Commit) → Holds g j (kept_by g C c q k).start (codes C (kept_by g C c q k).ranges)
  landed_holds log = subst (λ (rs : List Range). Holds g j k.start (codes C rs)) (sym rs_are) st.holds
  landed_holds location =
      subst (λ (n : ℕ). Holds g j n (codes C q.after)) place
      (holds_moved g j size k.start (codes C q.before) (codes C q.after) start_in fits
      (subst (Holds g j k.start) (ap (codes C) (sym rs_are) ∙ codes_append C q.before q.after) st.holds))
    where
      fits : length (codes C q.before) + length (codes C q.after) ≤ g.blocks
      fits =
          omega (arith, st.len_in, st.len_is, ap (blocks C) rs_are, blocks_append C q.before q.after, length_codes C q.before, length_codes C q.after)

      place : journal_pos_add g k.start (length (codes C q.before)) ≡ (k.start + blocks C q.before) % g.blocks
      place = pos_add_mod g k.start (length (codes C q.before)) start_in (omega (arith, fits)) ∙ ap (λ (n : ℕ). (k.start + n) % g.blocks) (length_codes C q.before)

  pub landed_good : (c : Commit) → Each (Good C) (kept_by g C c q k).ranges
  landed_good log = subst (Each (Good C)) (sym rs_are) st.good
  landed_good location = each_right (Good C) q.before q.after (subst (Each (Good C)) (sym rs_are) st.good)

-- what is left of the present draft, whose ranges are still those of the request
module _ (q p : Draft) (before_is : q.before ≡ p.before) (after_is : q.after ≡ p.after) where
  left_after : drop (length q.before) (p.before ++ p.after) ≡ p.after
  left_after = drop_at p.before p.after (length q.before) (ap length (sym before_is))

  pub left_kept : (g : Geometry) (C : Codec) (k : Kept) (c : Commit) → (kept_by g C c q k).ranges ≡ (left_by c q p).before ++ (left_by c q p).after
  left_kept g C k log = λ i. before_is i ++ after_is i
  left_kept g C k location = after_is ∙ sym left_after

  pub left_owes : (g : Geometry) (C : Codec) (k : Kept) (superblock : Superblock) (which : Bool) (len position : ℕ) (j : List (Option JournalBlock)) (w : Bool)
      → Standing g C superblock which len position j k p.before p.after w → (c : Commit) → Owes C c len position (left_by c q p).before (left_by c q p).after
  left_owes g C k superblock which len position j w st log = (st.len_is, st.position_is)
  left_owes g C k superblock which len position j w st location =
      (omega (arith, st.len_is, st.position_is, blocks_append C p.before p.after, ap (blocks C) left_after), refl)

  -- pending entries and the location are the present ones
  pub left_frozen : (c : Commit) → p.frozen ≡ (left_by c q p).frozen
  left_frozen log = refl
  left_frozen location = refl

  pub left_memory : (c : Commit) → p.memory ≡ (left_by c q p).memory
  left_memory log = refl
  left_memory location = refl

  pub left_received : (c : Commit) → p.received ≡ (left_by c q p).received
  left_received log = refl
  left_received location = refl

module _ (g : Geometry) (C : Codec) (p : ℕ) where
  -- the first landing
  land_first : (s : M.ReadyVariables) (d : D.Variables) (l : Ledger) (which : Bool) (r : ReqWriteSuperblockId) (z : Sim g C p (M.Variables.Ready s) d l)
      (a : Asked g C (flight_of s) d.req_write_superblocks d.req_write_journals l.request l.kept l.draft.before l.draft.after z.slot)
      → Standing g C s.superblock s.whichSuperblock s.writtenJournalLen s.frozenJournalPosition d.journal l.kept l.draft.before l.draft.after z.slot
      → at d.req_write_superblocks which ≡ some r
      → Sim g C p (M.Variables.Ready s) (D.to_superblocks (put d.superblocks which (some r.req.superblock)) d) (landed g C l.request l)
  land_first s d l which r z a st e =
      subst (λ (o : Option Request). Sim g C p (M.Variables.Ready s) (D.to_superblocks (put d.superblocks which (some r.req.superblock)) d) (landed g C o l)) (sym a.request_is)
      (by_next g C p refl (λ i. D.to_superblocks (put d.superblocks (here.0 i) (some (here.1 i).req.superblock)) d)
      (record {
        slot = not z.slot;
        disk =
            record {
              selected = subst (Slots g (put d.superblocks (not z.slot) (some a.new)) (not z.slot)) a.new_is
                  (slots_land g d.superblocks z.slot (super_of C l.kept) z.disk.selected a.new newer a.new_wf);
              parity_is =
                  ap (λ (n : ℕ). parity n (not z.slot)) (kept_counter g C a.commit a.draft l.kept) ∙ next_parity l.kept.counter z.slot ∙ z.disk.parity_is;
              size = z.disk.size;
              holds =
                  landed_holds g C l.kept a.draft l.draft.before l.draft.after a.before_is a.after_is s.superblock s.whichSuperblock s.writtenJournalLen
                  s.frozenJournalPosition d.journal z.slot st start_in z.disk.size a.commit;
              good =
                  landed_good g C l.kept a.draft l.draft.before l.draft.after a.before_is a.after_is s.superblock s.whichSuperblock s.writtenJournalLen
                  s.frozenJournalPosition d.journal z.slot st start_in z.disk.size a.commit;
              clear = λ id v w. no_keys_some d.req_write_journals id v a.none_writing w;
            };
        runs =
            record {
              frozen_is = z.runs.frozen_is ∙ left_frozen a.draft l.draft a.before_is a.after_is a.commit;
              memory_is = z.runs.memory_is ∙ left_memory a.draft l.draft a.before_is a.after_is a.commit;
              received = λ x q. sym (left_received a.draft l.draft a.before_is a.after_is a.commit) ∙ z.runs.received x q;
              received_valid = z.runs.received_valid;
              ids = z.runs.ids;
              phase =
                  done
                  (record {
                    commit = a.commit;
                    id = a.id;
                    new = a.new;
                    flight_is = a.flight_is;
                    writes_are = a.writes_are;
                    none_writing = a.none_writing;
                    request_is = refl;
                    new_is = a.new_is;
                    which_is = st.which_is ∙ not_not z.slot;
                    kept_is = left_kept a.draft l.draft a.before_is a.after_is g C l.kept a.commit;
                    owes =
                        left_owes a.draft l.draft a.before_is a.after_is g C l.kept s.superblock s.whichSuperblock s.writtenJournalLen s.frozenJournalPosition
                        d.journal z.slot st a.commit;
                  });
            };
      }))
    where
      here : (which ≡ not z.slot) × (r ≡ record { id = a.id; req = record { superblock = a.new } })
      here = at_slot (not z.slot) which a.id a.new r (subst (λ (t : Two (Option ReqWriteSuperblockId)). at t which ≡ some r) a.writes_are e)

      newer : a.new.counter ≡ increment_superblock_counter l.kept.counter
      newer = ap (λ (v : Superblock). v.counter) a.new_is ∙ kept_counter g C a.commit a.draft l.kept

      start_in : l.kept.start < g.blocks
      start_in = (slots_wf_is g d.superblocks z.slot (super_of C l.kept) z.disk.selected).start_in

  -- the same write lands again, before its answer
  land_again : (s : M.ReadyVariables) (d : D.Variables) (l : Ledger) (which : Bool) (r : ReqWriteSuperblockId) (z : Sim g C p (M.Variables.Ready s) d l)
      (a : Done C (flight_of s) d.req_write_superblocks d.req_write_journals s.whichSuperblock s.writtenJournalLen s.frozenJournalPosition l.request l.kept l.draft.before l.draft.after z.slot)
      → at d.req_write_superblocks which ≡ some r
      → Sim g C p (M.Variables.Ready s) (D.to_superblocks (put d.superblocks which (some r.req.superblock)) d) (landed g C l.request l)
  land_again s d l which r z a e =
      subst (λ (o : Option Request). Sim g C p (M.Variables.Ready s) (D.to_superblocks (put d.superblocks which (some r.req.superblock)) d) (landed g C o l)) (sym a.request_is)
      (by_next g C p refl (λ i. D.to_superblocks (put d.superblocks (here.0 i) (some ((ap (λ (x : ReqWriteSuperblockId). x.req.superblock) here.1 ∙ a.new_is) i))) d)
      (record {
        slot = z.slot;
        disk =
            record {
              selected = slots_again g d.superblocks z.slot (super_of C l.kept) z.disk.selected;
              parity_is = z.disk.parity_is;
              size = z.disk.size;
              holds = z.disk.holds;
              good = z.disk.good;
              clear = z.disk.clear;
            };
        runs = z.runs;
      }))
    where
      here : (which ≡ z.slot) × (r ≡ record { id = a.id; req = record { superblock = a.new } })
      here = at_slot z.slot which a.id a.new r (subst (λ (t : Two (Option ReqWriteSuperblockId)). at t which ≡ some r) a.writes_are e)

  pub sim_land : (which : Bool) (m m' : M.Variables) (d d' : D.Variables) (l : Ledger) → Sim g C p m d l → m ≡ m' → D.ProcessWriteSuperblock d d' which
      → Sim g C p m' d' (landed g C l.request l)
  sim_land which (M.Variables.LoadingSuperblock s) m' d d' l z e h = none_there d.req_write_superblocks which h.write z.runs.0.writes_are h.waiting
  sim_land which (M.Variables.LoadingOther s) m' d d' l z e h = none_there d.req_write_superblocks which h.write z.runs.0.writes_are h.waiting
  sim_land which (M.Variables.Ready s) m' d d' l z e h = by_next g C p (sym e) h.next (go z.runs.phase)
    where
      go : Phase g C (flight_of s) s.superblock s.whichSuperblock s.writtenJournalLen s.frozenJournalPosition d.req_write_superblocks d.req_write_journals d.journal
          l.request l.kept l.draft.before l.draft.after z.slot
          → Sim g C p (M.Variables.Ready s) (D.to_superblocks (put d.superblocks which (some h.write.req.superblock)) d) (landed g C l.request l)
      go (quiet q st) = none_there d.req_write_superblocks which h.write q.writes_are h.waiting
      go (waits a st) = land_first s d l which h.write z a st h.waiting
      go (done a) = land_again s d l which h.write z a h.waiting
