-- Superblock writes, received, landing and answered, against 001's RecvWriteSuperblock, ProcessWriteSuperblock and AckWriteSuperblock.
use Rattle.std.specs.Prelude.{ℕ, ◌≤◌, false, ◌≡◌, refl, List, None, Some, Ok, Err}
use Rattle.std.specs.declared.option.Option as code
use Rattle.std.proofs.Common.{sym, ◌∙◌, ap}
use Rattle.std.proofs.Math.Option.{Option, none, some}
use Rattle.laws.specs.Choice.{and_then}
use Rattle.laws.specs.Sets.{at, put, each_of, at_each, each_put, none_some, same_value}
use Rattle.laws.specs.Optional.{option_of}
use Rattle.refusal.specs.declared.Refusal.{Refusal}
use Rattle.layout.specs.declared.Geometry.{Geometry}
use Rattle.superblock.specs.declared.Superblock.{Superblock}
use Rattle.source.specs.JournalDisk as D
use Rattle.source.specs.JournalDisk.{ReqWriteSuperblock, ReqWriteSuperblockId, ReqWriteSuperblockOp, RespWriteSuperblockOp}
use Rattle.source.specs.Limits.{limits}
use Rattle.source.specs.Within.{Operation, Internal, DiskAllowed}
use Rattle.requests.specs.Slots.{Slots, SuperblockWrites, slot_at, put_slot, is_write}
use Rattle.requests.specs.declared.SuperblockWrite.{SuperblockWrite}
use Rattle.disk.specs.declared.Disk.{Disk}
use Rattle.disk.specs.Questions.{ask_disk}
use Rattle.requests.specs.Receive.{ask_recv_write_superblock}
use Rattle.disk.specs.Next.{recv_write_superblock_next}
use Rattle.requests.specs.Acknowledge.{landed, ask_ack_write_superblock}
use Rattle.disk.specs.Next.{ack_write_superblock_next}
use Rattle.requests.specs.Landing.{in_flight, ask_land, landing_on}
use Rattle.disk.specs.Next.{land_next}
use Rattle.disk.specs.Whole.{recv_write_superblock, ack_write_superblock, land}
use Rattle.disk.specs.Laws.Answers.{refused_same}
use Rattle.requests.specs.Laws.Pairs.{bit_of, slot_pair, slot_put, slot_at_is}
use Rattle.requests.specs.Laws.Receive.{recv_write_superblock_asked, asks_recv_write_superblock, other_write, write_other, no_write}
use Rattle.disk.specs.Laws.Next.{recv_write_superblock_next_is}
use Rattle.requests.specs.Laws.Acknowledge.{ack_write_superblock_asked, asks_ack_write_superblock, is_write_is, write_is, landed_holds, holds_landed}
use Rattle.disk.specs.Laws.Next.{ack_write_superblock_next_is}
use Rattle.requests.specs.Laws.Landing.{land_asked, asks_land, flight_write, write_flight, landing_holds}
use Rattle.disk.specs.Laws.Next.{land_next_is}
use Rattle.refine.specs.Disk.View.{write_in, disk_of, SizedDisk, DiskTables, Lent}
use Rattle.refine.specs.Disk.Calls.{sound_by, complete_by}
use Rattle.refine.specs.Disk.SuperblockReads.{slot_view, holds_of}

-- the write of a superblock under an id, as the source has it
abbrev pub request_of : Superblock → ReqWriteSuperblock
request_of s = record { superblock = s }

-- and as the code has it
abbrev written : ℕ → Superblock → SuperblockWrite
written id s = record { id = id; superblock = s }

-- a write under another id
other_in : (x : code.Option SuperblockWrite) (id : ℕ) → is_write x id ≡ false → (w : ReqWriteSuperblockId) → write_in x ≡ some w → w.id ≡ id → ⊥
other_in (Some k) id e w p q = other_write k.id id k.superblock e (ap (λ (y : ReqWriteSuperblockId). y.id) (same_value refl p) ∙ q)
other_in None id e w p q = none_some refl p

in_other : (x : code.Option SuperblockWrite) (id : ℕ) → ((w : ReqWriteSuperblockId) → write_in x ≡ some w → w.id ≡ id → ⊥) → is_write x id ≡ false
in_other (Some k) id f = write_other k.id id k.superblock (λ q. f (record { id = k.id; req = request_of k.superblock }) refl q)
in_other None id f = no_write id

-- the write that the source has
write_of_is : (x : code.Option SuperblockWrite) (w : ReqWriteSuperblockId) → write_in x ≡ some w → x ≡ Some (written w.id w.req.superblock)
write_of_is (Some k) w p =
    let q = same_value {a = record { id = k.id; req = request_of k.superblock }} refl p in
    λ i. Some (written (q i).id (q i).req.superblock)
write_of_is None w p = none_some refl p

-- the pairs with another write, or another superblock, in its place
writes_placed : (w : SuperblockWrites) (which : ℕ) (x : code.Option SuperblockWrite) (o : Option ReqWriteSuperblockId) → write_in x ≡ o
    → each_of write_in (slot_pair (put_slot w which x)) ≡ put (each_of write_in (slot_pair w)) (bit_of which) o
writes_placed w which x o e =
    ap (each_of write_in) (slot_put which w x)
    ∙ each_put write_in (slot_pair w) (bit_of which) x
    ∙ ap (put (each_of write_in (slot_pair w)) (bit_of which)) e

slots_placed : (s : Slots) (which : ℕ) (x : code.Option Superblock) (o : Option Superblock) → option_of x ≡ o
    → each_of option_of (slot_pair (put_slot s which x)) ≡ put (each_of option_of (slot_pair s)) (bit_of which) o
slots_placed s which x o e =
    ap (each_of option_of) (slot_put which s x)
    ∙ each_put option_of (slot_pair s) (bit_of which) x
    ∙ ap (put (each_of option_of (slot_pair s)) (bit_of which)) e

module _ (g : Geometry) (d : Disk) (which : ℕ) (blocks marks : List ℕ) where
  write_view : write_in (slot_at d.superblockWrites which) ≡ at (disk_of g blocks marks d).req_write_superblocks (bit_of which)
  write_view = ap write_in (slot_at_is which d.superblockWrites) ∙ sym (at_each write_in (slot_pair d.superblockWrites) (bit_of which))

  -- RecvWriteSuperblock

  module _ (id : ℕ) (superblock : Superblock) where
    received : disk_of g blocks marks (recv_write_superblock_next d which id superblock)
        ≡ D.to_req_write_superblocks (put (disk_of g blocks marks d).req_write_superblocks (bit_of which) (some (record { id = id; req = request_of superblock }))) (disk_of g blocks marks d)
    received =
        ap (disk_of g blocks marks) (recv_write_superblock_next_is d which id superblock)
        ∙ (λ i.
        D.to_req_write_superblocks (writes_placed d.superblockWrites which (Some (written id superblock)) (some (record { id = id; req = request_of superblock })) refl i)
        (disk_of g blocks marks d))

    -- the source's clauses, of a yes, and back
    pub recv_write_clauses : ask_recv_write_superblock d.superblockWrites which id ≡ 0
        → D.RecvWriteSuperblock (disk_of g blocks marks d) (disk_of g blocks marks (recv_write_superblock_next d which id superblock)) id (bit_of which) (request_of superblock)
    recv_write_clauses e =
        let a = recv_write_superblock_asked d.superblockWrites which id e in
        record { new1 = other_in d.superblockWrites.first id a.new1; new2 = other_in d.superblockWrites.second id a.new2; next = received }

    pub clauses_recv_write : which ≤ 1 → (s' : D.Variables) → D.RecvWriteSuperblock (disk_of g blocks marks d) s' id (bit_of which) (request_of superblock)
        → ask_recv_write_superblock d.superblockWrites which id ≡ 0
    clauses_recv_write h s' a =
        asks_recv_write_superblock d.superblockWrites which id
        (record { which_in = h; new1 = in_other d.superblockWrites.first id a.new1; new2 = in_other d.superblockWrites.second id a.new2 })

    pub recv_write_superblock_sound : SizedDisk d → (recv_write_superblock g d which id superblock blocks marks).answer ≡ Ok record {}
        → DiskAllowed g limits (disk_of g blocks marks d) (disk_of g blocks marks (recv_write_superblock g d which id superblock blocks marks).disk)
        (Operation (ReqWriteSuperblockOp id (bit_of which) (request_of superblock)))
    recv_write_superblock_sound z e =
        sound_by g blocks marks d z (ask_recv_write_superblock d.superblockWrites which id) (recv_write_superblock_next d which id superblock)
        (Operation (ReqWriteSuperblockOp id (bit_of which) (request_of superblock))) e (λ e0 m. recv_write_clauses e0)

    pub recv_write_superblock_complete : SizedDisk d → DiskTables d → Lent g blocks marks → which ≤ 1 → (s' : D.Variables)
        → DiskAllowed g limits (disk_of g blocks marks d) s' (Operation (ReqWriteSuperblockOp id (bit_of which) (request_of superblock)))
        → ((recv_write_superblock g d which id superblock blocks marks).answer ≡ Ok record {})
        × (disk_of g blocks marks (recv_write_superblock g d which id superblock blocks marks).disk ≡ s')
    recv_write_superblock_complete z t l h s' a =
        complete_by g blocks marks d z (ask_recv_write_superblock d.superblockWrites which id) (recv_write_superblock_next d which id superblock) s' t l a.meets
        (clauses_recv_write h s' a.step)
        (received ∙ sym a.step.next)

    pub recv_write_superblock_refused : (n : Refusal) → (recv_write_superblock g d which id superblock blocks marks).answer ≡ Err n
        → (recv_write_superblock g d which id superblock blocks marks).disk ≡ d
    recv_write_superblock_refused n e =
        refused_same (and_then (ask_disk g d blocks marks) (ask_recv_write_superblock d.superblockWrites which id)) (recv_write_superblock_next d which id superblock) d n e

  -- ProcessWriteSuperblock

  lands : (id : ℕ) (s : Superblock) → slot_at d.superblockWrites which ≡ Some (written id s)
      → disk_of g blocks marks (land_next d which) ≡ D.to_superblocks (put (disk_of g blocks marks d).superblocks (bit_of which) (some s)) (disk_of g blocks marks d)
  lands id s e =
      let x : (code.Option Superblock) = landing_on (slot_at d.slots which) (slot_at d.superblockWrites which) in
      let h : option_of x ≡ some s = ap option_of (ap (landing_on (slot_at d.slots which)) e ∙ landing_holds (slot_at d.slots which) id s) in
      ap (disk_of g blocks marks) (land_next_is d which)
      ∙ (λ i. D.to_superblocks (slots_placed d.slots which x (some s) h i) (disk_of g blocks marks d))

  -- the source's clauses, of a yes
  pub land_clauses : ask_land d.superblockWrites which ≡ 0 → D.ProcessWriteSuperblock (disk_of g blocks marks d) (disk_of g blocks marks (land_next d which)) (bit_of which)
  land_clauses e =
      let a = land_asked d.superblockWrites which e in
      let k = flight_write (slot_at d.superblockWrites which) a.in_flight_is in
      record {
        write = record { id = k.0; req = request_of k.1 };
        waiting = sym write_view ∙ ap write_in k.2;
        next = lands k.0 k.1 k.2;
      }

  pub land_sound : SizedDisk d → (land g d which blocks marks).answer ≡ Ok record {}
      → DiskAllowed g limits (disk_of g blocks marks d) (disk_of g blocks marks (land g d which blocks marks).disk) (Internal (D.ProcessWriteSuperblockStep (bit_of which)))
  land_sound z e =
      sound_by g blocks marks d z (ask_land d.superblockWrites which) (land_next d which) (Internal (D.ProcessWriteSuperblockStep (bit_of which))) e
      (λ e0 m. land_clauses e0)

  pub clauses_land : which ≤ 1 → (s' : D.Variables) → D.ProcessWriteSuperblock (disk_of g blocks marks d) s' (bit_of which)
      → (ask_land d.superblockWrites which ≡ 0) × (disk_of g blocks marks (land_next d which) ≡ s')
  clauses_land h s' a =
      let w : ReqWriteSuperblockId = a.write in
      let k = write_of_is (slot_at d.superblockWrites which) w (write_view ∙ a.waiting) in (
        asks_land d.superblockWrites which (record { which_in = h; in_flight_is = ap in_flight k ∙ write_flight w.id w.req.superblock }),
        lands w.id w.req.superblock k ∙ sym a.next,
      )

  pub land_complete : SizedDisk d → DiskTables d → Lent g blocks marks → which ≤ 1 → (s' : D.Variables)
      → DiskAllowed g limits (disk_of g blocks marks d) s' (Internal (D.ProcessWriteSuperblockStep (bit_of which)))
      → ((land g d which blocks marks).answer ≡ Ok record {}) × (disk_of g blocks marks (land g d which blocks marks).disk ≡ s')
  land_complete z t l h s' a =
      let c = clauses_land h s' a.step in
      complete_by g blocks marks d z (ask_land d.superblockWrites which) (land_next d which) s' t l a.meets c.0 c.1

  pub land_refused : (n : Refusal) → (land g d which blocks marks).answer ≡ Err n → (land g d which blocks marks).disk ≡ d
  land_refused n e = refused_same (and_then (ask_disk g d blocks marks) (ask_land d.superblockWrites which)) (land_next d which) d n e

  -- AckWriteSuperblock

  module _ (id : ℕ) where
    answered_write : disk_of g blocks marks (ack_write_superblock_next d which)
        ≡ D.to_req_write_superblocks (put (disk_of g blocks marks d).req_write_superblocks (bit_of which) none) (disk_of g blocks marks d)
    answered_write =
        ap (disk_of g blocks marks) (ack_write_superblock_next_is d which)
        ∙ (λ i. D.to_req_write_superblocks (writes_placed d.superblockWrites which None none refl i) (disk_of g blocks marks d))

    -- the source's clauses, of a yes, and back
    pub ack_write_clauses : ask_ack_write_superblock d.slots d.superblockWrites which id ≡ 0
        → D.AckWriteSuperblock (disk_of g blocks marks d) (disk_of g blocks marks (ack_write_superblock_next d which)) id (bit_of which)
    ack_write_clauses e =
        let a = ack_write_superblock_asked d.slots d.superblockWrites which id e in
        let k = is_write_is (slot_at d.superblockWrites which) id a.id_is in
        let s = landed_holds (slot_at d.slots which) id k.0 (ap (landed (slot_at d.slots which)) (sym k.1) ∙ a.is_landed) in
        record {
          write = record { id = id; req = request_of k.0 };
          waiting = sym write_view ∙ ap write_in k.1;
          id_is = refl;
          landed = sym (ap option_of s) ∙ slot_view g d which id blocks marks;
          next = answered_write;
        }

    pub clauses_ack_write : which ≤ 1 → (s' : D.Variables) → D.AckWriteSuperblock (disk_of g blocks marks d) s' id (bit_of which)
        → ask_ack_write_superblock d.slots d.superblockWrites which id ≡ 0
    clauses_ack_write h s' a =
        let w : ReqWriteSuperblockId = a.write in
        let k : slot_at d.superblockWrites which ≡ Some (written id w.req.superblock) =
        write_of_is (slot_at d.superblockWrites which) w (write_view ∙ a.waiting) ∙ ap (λ (n : ℕ). Some (written n w.req.superblock)) (sym a.id_is)
        in
        let s = holds_of g d which id blocks marks w.req.superblock a.landed in
        asks_ack_write_superblock d.slots d.superblockWrites which id
        (record {
          which_in = h;
          id_is = ap (λ (x : code.Option SuperblockWrite). is_write x id) k ∙ write_is id w.req.superblock;
          is_landed = (λ i. landed (s i) (k i)) ∙ holds_landed id w.req.superblock;
        })

    pub ack_write_superblock_sound : SizedDisk d → (ack_write_superblock g d which id blocks marks).answer ≡ Ok record {}
        → DiskAllowed g limits (disk_of g blocks marks d) (disk_of g blocks marks (ack_write_superblock g d which id blocks marks).disk) (Operation (RespWriteSuperblockOp id (bit_of which)))
    ack_write_superblock_sound z e =
        sound_by g blocks marks d z (ask_ack_write_superblock d.slots d.superblockWrites which id) (ack_write_superblock_next d which) (Operation (RespWriteSuperblockOp id (bit_of which))) e
        (λ e0 m. ack_write_clauses e0)

    pub ack_write_superblock_complete : SizedDisk d → DiskTables d → Lent g blocks marks → which ≤ 1 → (s' : D.Variables)
        → DiskAllowed g limits (disk_of g blocks marks d) s' (Operation (RespWriteSuperblockOp id (bit_of which)))
        → ((ack_write_superblock g d which id blocks marks).answer ≡ Ok record {}) × (disk_of g blocks marks (ack_write_superblock g d which id blocks marks).disk ≡ s')
    ack_write_superblock_complete z t l h s' a =
        complete_by g blocks marks d z (ask_ack_write_superblock d.slots d.superblockWrites which id) (ack_write_superblock_next d which) s' t l a.meets
        (clauses_ack_write h s' a.step)
        (answered_write ∙ sym a.step.next)

    pub ack_write_superblock_refused : (n : Refusal) → (ack_write_superblock g d which id blocks marks).answer ≡ Err n → (ack_write_superblock g d which id blocks marks).disk ≡ d
    ack_write_superblock_refused n e =
        refused_same (and_then (ask_disk g d blocks marks) (ask_ack_write_superblock d.slots d.superblockWrites which id)) (ack_write_superblock_next d which) d n e
