-- Superblock reads, received and answered, against 001's RecvReadSuperblock and AckReadSuperblock: what is taken is what the source allows;
-- what the source allows within the limits is taken, and the view of the next disk is that next state; a refusal leaves the disk.
use Rattle.std.specs.Prelude.{ℕ, ◌≤◌, ◌<◌, Bool, true, false, ◌≡◌, refl, List, length, take, None, Some, Ok, Err}
use Rattle.std.specs.declared.option.Option as code
use Rattle.std.proofs.Common.{sym, ◌∙◌, ap, subst, arith}
use Rattle.std.proofs.Math.Option.{Option, none, some}
use Rattle.laws.specs.Choice.{and_then, ruin}
use Rattle.laws.specs.Sets.{Ids, join, leave, AtMost, at, put, at_put, each_of, at_each, each_put, is_key, none_some}
use Rattle.laws.specs.Optional.{optional, option_of, option_same}
use Rattle.refusal.specs.declared.Refusal.{Refusal}
use Rattle.layout.specs.declared.Geometry.{Geometry}
use Rattle.superblock.specs.declared.Superblock.{Superblock}
use Rattle.tables.specs.declared.IdTable.{IdTable}
use Rattle.tables.specs.Rows.{place_of}
use Rattle.tables.specs.IdTable.{id_set, SizedIds, added_id, removed_id}
use Rattle.tables.proofs.Laws.Counts.{add_asked, few_add, room_array, has_room_is}
use Rattle.tables.proofs.Laws.IdTables.{ids_added, ids_left}
use Rattle.source.specs.JournalDisk as D
use Rattle.source.specs.JournalDisk.{ReqReadSuperblockOp, RespReadSuperblockOp}
use Rattle.source.specs.Limits.{limits}
use Rattle.source.specs.Within.{Operation, DiskAllowed, DiskWithin}
use Rattle.requests.specs.Slots.{SuperblockReads, slot_at, put_slot}
use Rattle.disk.specs.declared.Disk.{Disk}
use Rattle.disk.specs.Questions.{ask_disk}
use Rattle.requests.specs.Receive.{ask_recv_read_superblock}
use Rattle.disk.specs.Next.{recv_read_superblock_next}
use Rattle.requests.specs.Acknowledge.{may_read, read_from, ask_ack_read_superblock, holds_read, ask_read_superblock_as}
use Rattle.disk.specs.Next.{ack_read_superblock_next}
use Rattle.disk.specs.Whole.{recv_read_superblock, ack_read_superblock}
use Rattle.disk.specs.Laws.Answers.{refused_same, read_same}
use Rattle.requests.specs.Laws.Pairs.{bit_of, slot_pair, slot_at_is, slot_put}
use Rattle.requests.specs.Laws.Receive.{recv_read_superblock_asked, asks_recv_read_superblock}
use Rattle.disk.specs.Laws.Next.{recv_read_superblock_next_is}
use Rattle.requests.specs.Laws.Acknowledge.{ack_read_superblock_waiting, ack_read_superblock_may, asks_ack_read_superblock, read_superblock_as_waiting, read_superblock_as_holds, asks_read_superblock_as, whole_held, held_whole, held_damaged, whole_holds, holds_whole, may_damaged, read_whole, read_damaged}
use Rattle.disk.specs.Laws.Next.{ack_read_superblock_next_is}
use Rattle.refine.specs.Disk.View.{disk_of, SizedDisk, Table, DiskTables, Lent}
use Rattle.refine.specs.Disk.Meets.{counted_own}
use Rattle.refine.specs.Disk.Calls.{sound_by, complete_by, read_sound_by, read_complete_by}

-- the table of one slot
module _ (r : SuperblockReads) (which : ℕ) where
  pub reads_sized : SizedIds r.first → SizedIds r.second → SizedIds (slot_at r which)
  reads_sized a b = subst SizedIds (sym (slot_at_is which r)) (go (bit_of which))
    where
      go : (w : Bool) → SizedIds (at (slot_pair r) w)
      go true = b
      go false = a

  pub reads_table : Table r.first.count r.first.ids → Table r.second.count r.second.ids → Table (slot_at r which).count (slot_at r which).ids
  reads_table a b = subst (λ (t : IdTable). Table t.count t.ids) (sym (slot_at_is which r)) (go (bit_of which))
    where
      go : (w : Bool) → Table (at (slot_pair r) w).count (at (slot_pair r) w).ids
      go true = b
      go false = a

  pub reads_set : id_set (slot_at r which) ≡ at (each_of id_set (slot_pair r)) (bit_of which)
  reads_set = ap id_set (slot_at_is which r) ∙ sym (at_each id_set (slot_pair r) (bit_of which))

  -- the pair with another table in its place
  reads_placed : (x : IdTable) (s : Ids) → id_set x ≡ s → each_of id_set (slot_pair (put_slot r which x)) ≡ put (each_of id_set (slot_pair r)) (bit_of which) s
  reads_placed x s e =
      ap (each_of id_set) (slot_put which r x)
      ∙ each_put id_set (slot_pair r) (bit_of which) x
      ∙ ap (put (each_of id_set (slot_pair r)) (bit_of which)) e

-- RecvReadSuperblock

module _ (g : Geometry) (d : Disk) (which id : ℕ) (blocks marks : List ℕ) where
  received : (slot_at d.superblockReads which).count < length (slot_at d.superblockReads which).ids
      → disk_of g blocks marks (recv_read_superblock_next d which id)
      ≡ D.to_req_read_superblocks
      (put (disk_of g blocks marks d).req_read_superblocks (bit_of which) (join (at (disk_of g blocks marks d).req_read_superblocks (bit_of which)) id))
      (disk_of g blocks marks d)
  received h =
      let r : SuperblockReads = d.superblockReads in
      let set : Ids = at (disk_of g blocks marks d).req_read_superblocks (bit_of which) in
      let e : id_set (added_id (slot_at r which) id) ≡ join set id = ids_added (slot_at r which) id h ∙ ap (λ (t : Ids). join t id) (reads_set r which) in
      ap (disk_of g blocks marks) (recv_read_superblock_next_is d which id)
      ∙ (λ i. D.to_req_read_superblocks (reads_placed r which (added_id (slot_at r which) id) (join set id) e i) (disk_of g blocks marks d))

  -- the source's clauses, of a yes, and back
  pub recv_read_clauses : (z : SizedDisk d) → ask_recv_read_superblock d.superblockReads which id ≡ 0
      → D.RecvReadSuperblock (disk_of g blocks marks d) (disk_of g blocks marks (recv_read_superblock_next d which id)) id (bit_of which)
  recv_read_clauses z e =
      let a = recv_read_superblock_asked d.superblockReads which id e in
      let free = room_array 8 (slot_at d.superblockReads which).count (slot_at d.superblockReads which).ids 1 a.room in
      record { new1 = a.new1; new2 = a.new2; next = received (omega arith) }

  pub clauses_recv_read : SizedDisk d → DiskTables d → which ≤ 1 → (s' : D.Variables) → D.RecvReadSuperblock (disk_of g blocks marks d) s' id (bit_of which)
      → AtMost 8 (at s'.req_read_superblocks (bit_of which)) → ask_recv_read_superblock d.superblockReads which id ≡ 0
  clauses_recv_read z t h s' a w =
      let r : IdTable = slot_at d.superblockReads which in
      let k : Table r.count r.ids = reads_table d.superblockReads which t.reads1 t.reads2 in
      let size = (reads_sized d.superblockReads which z.reads1 z.reads2).ids_long in
      let new : id_set r id ≡ false = ap (λ (x : Ids). x id) (reads_set d.superblockReads which) ∙ new_at (bit_of which) a.new1 a.new2 in
      let few : AtMost 8 (join (id_set r) id) =
      subst (AtMost 8)
      (ap (λ (x : D.Variables). at x.req_read_superblocks (bit_of which)) a.next
      ∙ at_put (disk_of g blocks marks d).req_read_superblocks (bit_of which) (join (at (disk_of g blocks marks d).req_read_superblocks (bit_of which)) id)
      ∙ ap (λ (x : Ids). join x id) (sym (reads_set d.superblockReads which)))
      w
      in
      let f = add_asked 8 r.count r.ids id (few_add r.count r.count r.ids (counted_own r.count r.ids k) 8 id (omega arith) new few) in
      asks_recv_read_superblock d.superblockReads which id
      (record { which_in = h; new1 = a.new1; new2 = a.new2; room = has_room_is 8 r.count r.ids 1 (omega (arith, f.below)) (omega (arith, f.free)) })
    where
      new_at : (b : Bool) → at (disk_of g blocks marks d).req_read_superblocks false id ≡ false → at (disk_of g blocks marks d).req_read_superblocks true id ≡ false
          → at (disk_of g blocks marks d).req_read_superblocks b id ≡ false
      new_at true p1 p2 = p2
      new_at false p1 p2 = p1

  pub recv_read_superblock_sound : SizedDisk d → (recv_read_superblock g d which id blocks marks).answer ≡ Ok record {}
      → DiskAllowed g limits (disk_of g blocks marks d) (disk_of g blocks marks (recv_read_superblock g d which id blocks marks).disk) (Operation (ReqReadSuperblockOp id (bit_of which)))
  recv_read_superblock_sound z e =
      sound_by g blocks marks d z (ask_recv_read_superblock d.superblockReads which id) (recv_read_superblock_next d which id) (Operation (ReqReadSuperblockOp id (bit_of which))) e
      (λ e0 m. recv_read_clauses z e0)

  pub recv_read_superblock_complete : SizedDisk d → DiskTables d → Lent g blocks marks → which ≤ 1 → (s' : D.Variables)
      → DiskAllowed g limits (disk_of g blocks marks d) s' (Operation (ReqReadSuperblockOp id (bit_of which)))
      → DiskWithin g limits s' (Operation (ReqReadSuperblockOp id (bit_of which)))
      → ((recv_read_superblock g d which id blocks marks).answer ≡ Ok record {}) × (disk_of g blocks marks (recv_read_superblock g d which id blocks marks).disk ≡ s')
  recv_read_superblock_complete z t l h s' a w =
      let e = clauses_recv_read z t h s' a.step (w.counts.superblock_reads_few (bit_of which)) in
      complete_by g blocks marks d z (ask_recv_read_superblock d.superblockReads which id) (recv_read_superblock_next d which id) s' t l a.meets e
      ((recv_read_clauses z e).next ∙ sym a.step.next)

  pub recv_read_superblock_refused : (n : Refusal) → (recv_read_superblock g d which id blocks marks).answer ≡ Err n → (recv_read_superblock g d which id blocks marks).disk ≡ d
  recv_read_superblock_refused n e =
      refused_same (and_then (ask_disk g d blocks marks) (ask_recv_read_superblock d.superblockReads which id)) (recv_read_superblock_next d which id) d n e

-- AckReadSuperblock

module _ (g : Geometry) (d : Disk) (which id : ℕ) (blocks marks : List ℕ) where
  pub read_answered : DiskTables d
      → disk_of g blocks marks (ack_read_superblock_next d which id)
      ≡ D.to_req_read_superblocks
      (put (disk_of g blocks marks d).req_read_superblocks (bit_of which) (leave (at (disk_of g blocks marks d).req_read_superblocks (bit_of which)) id))
      (disk_of g blocks marks d)
  read_answered t =
      let r : SuperblockReads = d.superblockReads in
      let u : IdTable = slot_at r which in
      let set : Ids = at (disk_of g blocks marks d).req_read_superblocks (bit_of which) in
      let x : IdTable = removed_id u (place_of id (take u.count u.ids)) in
      let e : id_set x ≡ leave set id =
      ids_left u u.count (counted_own u.count u.ids (reads_table r which t.reads1 t.reads2)) id ∙ ap (λ (y : Ids). leave y id) (reads_set r which)
      in
      ap (disk_of g blocks marks) (ack_read_superblock_next_is d which id)
      ∙ (λ i. D.to_req_read_superblocks (reads_placed r which x (leave set id) e i) (disk_of g blocks marks d))

  pub waiting_at : id_set (slot_at d.superblockReads which) id ≡ at (disk_of g blocks marks d).req_read_superblocks (bit_of which) id
  waiting_at = ap (λ (x : Ids). x id) (reads_set d.superblockReads which)

  pub slot_view : option_of (slot_at d.slots which) ≡ at (disk_of g blocks marks d).superblocks (bit_of which)
  slot_view = ap option_of (slot_at_is which d.slots) ∙ sym (at_each option_of (slot_pair d.slots) (bit_of which))

  -- a slot that may be read so shows what is read
  shown : (whole : Bool) (x : code.Option Superblock) (y : Option Superblock) → option_of x ≡ y → (whole ≡ true → (s : Superblock) × (x ≡ Some s)) → (v : Superblock)
      → option_of (read_from whole x) ≡ some v → option_of (read_from whole x) ≡ y
  shown true x y e h v p =
      let k = h refl in
      ap (λ (o : code.Option Superblock). option_of (read_from true o)) k.1 ∙ ap option_of (read_whole k.0) ∙ sym (ap option_of k.1) ∙ e
  shown false x y e h v p = none_some (ap option_of (read_damaged x)) p

  -- the source's clauses, of a yes: by whole or damaged, and with what was read
  pub ack_read_clauses : (t : DiskTables d) (whole : Bool) → ask_ack_read_superblock d.slots d.superblockReads which id whole ≡ 0
      → D.AckReadSuperblock (disk_of g blocks marks d) (disk_of g blocks marks (ack_read_superblock_next d which id)) id (bit_of which) (option_of (read_from whole (slot_at d.slots which)))
  ack_read_clauses t whole e =
      record {
        waiting = sym waiting_at ∙ (ack_read_superblock_waiting d.superblockReads which id d.slots whole e).waiting;
        whole =
            shown whole (slot_at d.slots which) (at (disk_of g blocks marks d).superblocks (bit_of which)) slot_view
            (by whole (ack_read_superblock_may d.superblockReads which id d.slots whole e));
        next = read_answered t;
      }
    where
      by : (whole : Bool) → may_read whole (slot_at d.slots which) ≡ true → whole ≡ true → (s : Superblock) × (slot_at d.slots which ≡ Some s)
      by true y h = whole_holds (slot_at d.slots which) y
      by false y h = ruin (cc)

  pub read_as_clauses : (t : DiskTables d) (x : code.Option Superblock) → ask_read_superblock_as d.slots d.superblockReads which id x ≡ 0
      → D.AckReadSuperblock (disk_of g blocks marks d) (disk_of g blocks marks (ack_read_superblock_next d which id)) id (bit_of which) (option_of x)
  read_as_clauses t x e =
      record {
        waiting = sym waiting_at ∙ (read_superblock_as_waiting d.superblockReads which id d.slots x e).waiting;
        whole = held x (read_superblock_as_holds d.superblockReads which id d.slots x e);
        next = read_answered t;
      }
    where
      held : (x : code.Option Superblock) → holds_read (slot_at d.slots which) x ≡ true → (v : Superblock) → option_of x ≡ some v → option_of x ≡ at (disk_of g blocks marks d).superblocks (bit_of which)
      held (Some s) y v p = sym (ap option_of (whole_held (slot_at d.slots which) s y)) ∙ slot_view
      held None y v p = none_some refl p

  pub ack_read_superblock_sound : SizedDisk d → (whole : Bool) (x : code.Option Superblock) → (ack_read_superblock g d which id whole blocks marks).answer ≡ Ok x
      → DiskAllowed g limits (disk_of g blocks marks d) (disk_of g blocks marks (ack_read_superblock g d which id whole blocks marks).disk)
      (Operation (RespReadSuperblockOp id (bit_of which) (option_of x)))
  ack_read_superblock_sound z whole x e =
      read_sound_by g blocks marks d z (ask_ack_read_superblock d.slots d.superblockReads which id whole) (read_from whole (slot_at d.slots which)) (ack_read_superblock_next d which id)
      (λ (v : code.Option Superblock). Operation (RespReadSuperblockOp id (bit_of which) (option_of v))) x e
      (λ e0 m. ack_read_clauses m.tables whole e0)

  -- the slot that the source reads
  pub holds_of : (v : Superblock) → some v ≡ at (disk_of g blocks marks d).superblocks (bit_of which) → slot_at d.slots which ≡ Some v
  holds_of v e = option_same (slot_at d.slots which) (Some v) (slot_view ∙ sym e)

  pub clauses_read_as : which ≤ 1 → (superblock : Option Superblock) (s' : D.Variables) → D.AckReadSuperblock (disk_of g blocks marks d) s' id (bit_of which) superblock
      → ask_read_superblock_as d.slots d.superblockReads which id (optional superblock) ≡ 0
  clauses_read_as h superblock s' a =
      asks_read_superblock_as d.superblockReads which id d.slots (optional superblock) (record { which_in = h; waiting = waiting_at ∙ a.waiting }) (go superblock a.whole)
    where
      go : (o : Option Superblock) → ((v : Superblock) → o ≡ some v → o ≡ at (disk_of g blocks marks d).superblocks (bit_of which)) → holds_read (slot_at d.slots which) (optional o) ≡ true
      go none f = held_damaged (slot_at d.slots which)
      go (some v) f = ap (λ (x : code.Option Superblock). holds_read x (Some v)) (holds_of v (f v refl)) ∙ held_whole v

  pub ack_read_superblock_complete : SizedDisk d → DiskTables d → Lent g blocks marks → which ≤ 1 → (superblock : Option Superblock) (s' : D.Variables)
      → DiskAllowed g limits (disk_of g blocks marks d) s' (Operation (RespReadSuperblockOp id (bit_of which) superblock))
      → ((ack_read_superblock g d which id (is_key superblock) blocks marks).answer ≡ Ok (optional superblock))
      × (disk_of g blocks marks (ack_read_superblock g d which id (is_key superblock) blocks marks).disk ≡ s')
  ack_read_superblock_complete z t l h none s' a =
      read_complete_by g blocks marks d z (ask_ack_read_superblock d.slots d.superblockReads which id false) (read_from false (slot_at d.slots which)) (ack_read_superblock_next d which id)
      None s' t l a.meets
      (asks_ack_read_superblock d.superblockReads which id d.slots false (record { which_in = h; waiting = waiting_at ∙ a.step.waiting }) (may_damaged (slot_at d.slots which)))
      (read_damaged (slot_at d.slots which))
      (read_answered t ∙ sym a.step.next)
  ack_read_superblock_complete z t l h (some v) s' a =
      let k = holds_of v (a.step.whole v refl) in
      read_complete_by g blocks marks d z (ask_ack_read_superblock d.slots d.superblockReads which id true) (read_from true (slot_at d.slots which)) (ack_read_superblock_next d which id)
      (Some v) s' t l a.meets
      (asks_ack_read_superblock d.superblockReads which id d.slots true (record { which_in = h; waiting = waiting_at ∙ a.step.waiting })
      (ap (may_read true) k ∙ holds_whole v))
      (ap (read_from true) k ∙ read_whole v)
      (read_answered t ∙ sym a.step.next)

  pub ack_read_superblock_refused : (whole : Bool) (n : Refusal) → (ack_read_superblock g d which id whole blocks marks).answer ≡ Err n
      → (ack_read_superblock g d which id whole blocks marks).disk ≡ d
  ack_read_superblock_refused whole n e =
      read_same (and_then (ask_disk g d blocks marks) (ask_ack_read_superblock d.slots d.superblockReads which id whole)) (read_from whole (slot_at d.slots which))
      (ack_read_superblock_next d which id) d n e
