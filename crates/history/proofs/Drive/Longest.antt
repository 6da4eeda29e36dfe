-- The longest load is there: where a crash left a selected superblock with two pieces, and both slots are then read damaged, twelve calls are left.
use Rattle.std.specs.Prelude.{ℕ, Bool, true, false, not, ◌≡◌, refl, List, [], ◌∷◌}
use Rattle.std.proofs.Common.{◌∙◌, ap, arith}
use Rattle.std.proofs.Math.Option.{Option, none, some}
use Rattle.laws.specs.Sets.{Ids, join, leave, Map, Two, at, put, none_some, at_both, at_put, at_put_other}
use Rattle.layout.specs.declared.Geometry.{Geometry}
use Rattle.layout.specs.Geometry.{ValidGeometry}
use Rattle.interval.specs.declared.JournalInterval.{JournalInterval}
use Rattle.superblock.specs.declared.Superblock.{Superblock}
use Rattle.superblock.specs.Superblock.{select_superblock}
use Rattle.codec.specs.Codec.{Codec}
use Rattle.source.specs.JournalDisk as D
use Rattle.source.specs.JournalDisk.{ReqId, RespReadSuperblockOp}
use Rattle.source.specs.JournalCache as M
use Rattle.source.specs.JournalCache.{SuperblockUnfinished, SuperblockCorruption, PageInSuperblockRespStep, journal_interval_of_superblock}
use Rattle.source.specs.JournalSystem as Y
use Rattle.source.specs.Limits.{Limits, Fitting}
use Rattle.source.specs.Meets.{SystemMeets, one_id}
use Rattle.source.specs.Departures.{Source, MachineStep}
use Rattle.history.specs.Ledger.{Call, read_superblock, superblock_read, Ledger}
use Rattle.history.specs.Statement.{tied_corrupt, Takes, Trace}
use Rattle.history.proofs.Loads.Comes.{taken}
use Rattle.history.proofs.Reach.Reachable.{Reached}
use Rattle.history.specs.Driver.{New, left}
use Rattle.history.proofs.Drive.Most.{longest_twelve}
use Rattle.history.proofs.Drive.Superblocks.{Moves, holds_read, asked, ask_moves}
use Rattle.history.proofs.Drive.Named.{Rooms, moves_on}

abbrev pub at_slots : M.LoadingSuperblockVariables → D.Variables → Y.Variables
at_slots s d = record { machine = M.Variables.LoadingSuperblock s; disk = d }

-- nothing is asked for
abbrev Unasked : M.LoadingSuperblockVariables → Type 0
Unasked s = (which : Bool) → at s.outstanding_superblock_reads which ≡ none

module _ (g : Geometry) (C : Codec) (L : Limits) (s : M.LoadingSuperblockVariables) (d : D.Variables) (meets : SystemMeets g L (at_slots s d)) where
  -- so every id is new
  all_new : Unasked s → (id : ReqId) → New d id
  all_new none_read id =
      record {
        superblocks = slot;
        journal = ap (λ (m : Map JournalInterval). m id) meets.joined.journal_reads_is;
      }
    where
      slot : (which : Bool) → at d.req_read_superblocks which id ≡ false
      slot false = ap (λ (r : Two Ids). at r false id) meets.joined.superblock_reads_is ∙ ap (λ (o : Option ReqId). one_id o id) (none_read false)
      slot true = ap (λ (r : Two Ids). at r true id) meets.joined.superblock_reads_is ∙ ap (λ (o : Option ReqId). one_id o id) (none_read true)

  -- a read comes back damaged
  abbrev spoilt : Bool → M.LoadingSuperblockVariables
  spoilt which = M.to_outstanding_superblock_reads (put s.outstanding_superblock_reads which none) (M.to_superblocks (put s.superblocks which SuperblockCorruption) s)

  abbrev left_disk : Bool → ReqId → D.Variables
  left_disk which id = D.to_req_read_superblocks (put d.req_read_superblocks which (leave (at d.req_read_superblocks which) id)) d

  damaged_moves : (which : Bool) (id : ReqId) → at s.outstanding_superblock_reads which ≡ some id
      → Moves g C L (at_slots s d) (at_slots (spoilt which) (left_disk which id)) (superblock_read which id false)
  damaged_moves which id reads =
      record {
        takes =
            record {
              event = MachineStep (RespReadSuperblockOp id which none) (Source (PageInSuperblockRespStep which));
              tied = tied_corrupt;
              allowed =
                  record {
                    meets = meets;
                    step =
                        record {
                          machine = record { id = id; superblock = none; op = refl; waiting = reads; next = refl };
                          disk = record { waiting = holds_read g C L s d meets which id reads; whole = λ v e. none_some refl e; next = refl };
                        };
                  };
            };
        counts = record { sync_few = meets.machine.counts.sync_few };
        unwritten = refl;
        arguments = record { few = omega arith; fit = tt };
      }

-- both slots, one after the other
abbrev pub damaging : List Call
damaging = read_superblock false 0 ∷ superblock_read false 0 false ∷ read_superblock true 0 ∷ superblock_read true 0 false ∷ []

module _ (g : Geometry) (C : Codec) (L : Limits) (fits : Fitting C L) (rooms : Rooms L) (valid : ValidGeometry g) (p : ℕ) where
  -- one slot, asked for and damaged
  record Spoiled (s : M.LoadingSuperblockVariables) (d : D.Variables) (which : Bool) : Type 0 where
    middle : Y.Variables
    after : M.LoadingSuperblockVariables
    disk : D.Variables
    ledger : Ledger
    asks : Takes g C L (at_slots s d) middle (read_superblock which 0)
    answers : Takes g C L middle (at_slots after disk) (superblock_read which 0 false)
    reached : Reached g C L p (at_slots after disk) ledger
    unasked : Unasked after
    corrupt : at after.superblocks which ≡ SuperblockCorruption
    other : at after.superblocks (not which) ≡ at s.superblocks (not which)
    slots : disk.superblocks ≡ d.superblocks

  spoil : (s : M.LoadingSuperblockVariables) (d : D.Variables) (l : Ledger) → Reached g C L p (at_slots s d) l → Unasked s → (which : Bool) → at s.superblocks which ≡ SuperblockUnfinished
      → Spoiled s d which
  spoil s d l r none_read which unfinished =
      let ask = ask_moves g C L s d r.meets which 0 (all_new g C L s d r.meets none_read 0) (none_read which) unfinished in
      let reading = (moves_on g C L fits rooms valid p (at_slots s d) (at_slots s' d') l (read_superblock which 0) r ask).1 in
      let answer = damaged_moves g C L s' d' reading.meets which 0 (at_put s.outstanding_superblock_reads which (some 0)) in
      record {
        middle = at_slots s' d';
        after = spoilt g C L s' d' reading.meets which;
        disk = left_disk g C L s' d' reading.meets which 0;
        ledger = _;
        asks = ask.takes;
        answers = answer.takes;
        reached = (moves_on g C L fits rooms valid p (at_slots s' d') _ _ (superblock_read which 0 false) reading answer).1;
        unasked = both_unasked which;
        corrupt = at_put s.superblocks which SuperblockCorruption;
        other = at_put_other s.superblocks which SuperblockCorruption;
        slots = refl;
      }
    where
      s' : M.LoadingSuperblockVariables
      s' = M.to_outstanding_superblock_reads (put s.outstanding_superblock_reads which (some 0)) s

      d' : D.Variables
      d' = D.to_req_read_superblocks (put d.req_read_superblocks which (join (at d.req_read_superblocks which) 0)) d

      both_unasked : (which b : Bool) → at (put (put s.outstanding_superblock_reads which (some 0)) which none) b ≡ none
      both_unasked false false = refl
      both_unasked false true = none_read true
      both_unasked true false = none_read false
      both_unasked true true = refl

  pub record TwelveLeft (d : D.Variables) : Type 0 where
    pub end : Y.Variables
    pub ran : Trace g C L (at_slots M.initial d) damaging (taken damaging) end
    pub meets : SystemMeets g L end
    pub twelve : left g end ≡ 12

  pub longest_reached : (d : D.Variables) (l : Ledger) → Reached g C L p (at_slots M.initial d) l → (a b : Superblock) (front back : JournalInterval)
      → d.superblocks.first ≡ some a → d.superblocks.second ≡ some b
      → journal_interval_of_superblock g false (select_superblock a b) ≡ some front → journal_interval_of_superblock g true (select_superblock a b) ≡ some back → TwelveLeft d
  longest_reached d l r a b front back holds1 holds2 front_is back_is =
      record {
        end = at_slots two.after two.disk;
        ran = (one.middle, one.asks, (_, one.answers, (two.middle, two.asks, (_, two.answers, refl))));
        meets = two.reached.meets;
        twelve =
            longest_twelve g (M.Variables.LoadingSuperblock two.after) two.disk.superblocks
            (record {
              loading = two.after;
              first = a;
              second = b;
              front = front;
              back = back;
              kind_is = refl;
              corrupt = corrupt;
              holds1 = ap (λ (x : Two (Option Superblock)). x.first) kept ∙ holds1;
              holds2 = ap (λ (x : Two (Option Superblock)). x.second) kept ∙ holds2;
              front_is = front_is;
              back_is = back_is;
            });
      }
    where
      one : Spoiled M.initial d false
      one = spoil M.initial d l r (λ which. at_both none which) false refl

      two : Spoiled one.after one.disk true
      two = spoil one.after one.disk one.ledger one.reached one.unasked true one.other

      corrupt : (which : Bool) → at two.after.superblocks which ≡ SuperblockCorruption
      corrupt false = two.other ∙ one.corrupt
      corrupt true = two.corrupt

      kept : two.disk.superblocks ≡ d.superblocks
      kept = two.slots ∙ one.slots
