-- The range that a journal write sends stands at the front of the lent buffer: its blocks there are the format's blocks of the entries.
use Rattle.std.specs.Prelude.{ℕ, ◌-◌, ◌*◌, ◌≤◌, ◌<◌, ◌≡◌, refl, List, length}
use Rattle.std.specs.declared.option.Option as code
use Rattle.std.proofs.Common.{sym, ◌∙◌, ap, subst, arith, drop_of_length-le, take_all}
use Rattle.laws.specs.Around.{splice_around}
use Rattle.laws.specs.Splice.{splice, splice_none}
use Rattle.range.specs.Form.{length_width, block_size, blocks, encode, used, blocks_for}
use Rattle.range.specs.Blocks.{blocks_some, length_encode_at}
use Rattle.range.specs.Memory.{view, total}
use Rattle.journal.specs.Cells.{blocks_in}
use Rattle.journal.specs.Blocks.{blocks_front, blocks_flat}
use Rattle.writer.specs.Entries.{Fits, fits_blocks}
use Rattle.writer.specs.Ring.{put_range, put_view}
use Rattle.codec.specs.Codec.{JournalEntry}
use Rattle.codec.specs.Format.{format, flat_encode_blocks, lengths_encode_blocks}
use Rattle.layout.specs.declared.Geometry.{Geometry}
use Rattle.layout.specs.Geometry.{num_journal_blocks}
use Rattle.lengths.specs.Entries.{entries_first}
use Rattle.ready.specs.declared.Bodies.{Bodies}
use Rattle.ready.specs.State.{sent}
use Rattle.ready.specs.JournalSteps.{sent_blocks}
use Rattle.ready.specs.Laws.Asked.{MayWrite}
use Rattle.source.specs.Limits.{limits}
use Rattle.source.specs.Meets.{MachineMeets}
use Rattle.machine.specs.declared.Kind.TheVariants as kind
use Rattle.machine.specs.declared.Machine.{Machine}
use Rattle.machine.specs.Lent.{Lent}
use Rattle.machine.specs.Questions.{bodies_of}
use Rattle.machine.specs.Working.{sent_range}
use Rattle.refine.specs.Machine.ReadyMeets.{meets_pending}
use Rattle.refine.specs.Machine.ReadyJournal as R
use Rattle.refine.specs.Machine.ReadyJournal.{sent_within, sent_bytes, sent_is}
use Rattle.refine.specs.Machine.MachineView.{ready_lent, syncs_of, machine_of, MachineForm}
use Rattle.refine.specs.Machine.MachineWork.{bodies_found, work_of, work_seen, work_form}

-- a write at the front that fits goes round nothing
front_splice : (d s : List ℕ) → length s ≤ length d → splice_around d 0 s ≡ splice d 0 s
unfolding splice_around
front_splice d s h =
    (λ i. splice (splice d 0 (take_all (length d - 0) s (omega arith) i)) 0 (drop_of_length-le s rest i)) ∙ sym (splice_none (splice d 0 s) 0)
  where
    rest : length s ≤ length d - 0
    rest = omega arith

-- entries as bytes, cut into blocks
pub encoded_blocks : (es : List JournalEntry) → blocks_in (blocks es) (encode es) ≡ format.encode es
encoded_blocks es = ap (blocks_in (blocks es)) (sym (flat_encode_blocks es)) ∙ blocks_flat (blocks es) (format.encode es) (lengths_encode_blocks es)

pub range_front : (bytes lens : List ℕ) (n t : ℕ) (out : List ℕ) (N : ℕ) → Fits bytes lens n → t ≡ total lens n → length out ≡ N * block_size → blocks (view bytes lens n) ≤ N
    → blocks_in (blocks (view bytes lens n)) (put_range bytes lens n t out 0) ≡ format.encode (view bytes lens n)
range_front bytes lens n t out N f ht size holds =
    let long = length_encode_at length_width (view bytes lens n) in
    let some = blocks_some length_width (view bytes lens n) in
    ap (blocks_in (blocks (view bytes lens n)))
    (put_view bytes lens n t out 0 f ht (omega (arith, size, holds, some)) (omega (arith, size, holds))
    ∙ front_splice out (encode (view bytes lens n)) (omega (arith, long, size, holds)))
    ∙ blocks_front (blocks (view bytes lens n)) (encode (view bytes lens n)) out long (omega (arith, size, holds))
    ∙ encoded_blocks (view bytes lens n)

-- the entries that a machine sends: what was looked up of them, that they make a range, and its blocks
module _ (g : Geometry) (l : Lent) (m : Machine) where
  -- what was looked up of pending memory
  abbrev held : Bodies
  held = bodies_of l.lens m

  -- the entries that are sent make a range, and its blocks are those that stand in the buffer then
  module _ (e : m.kind ≡ kind.Ready) (form : MachineForm l m) (meets : MachineMeets g limits (machine_of g l m)) where
    pub sent_fits : 0 < (sent m.ready.entries held).entries → Fits l.bytes l.lens (sent m.ready.entries held).entries
    sent_fits any =
        let f = work_form g l m e form in
        let p = meets_pending g limits (ready_lent l) (syncs_of m) m.ready refl (subst (MachineMeets g limits) (work_seen g l m e) meets) f in
        let within = sent_within (ready_lent l) m.ready.entries held f.pending (bodies_found l m e) in
        record {
          any = any;
          few = omega (arith, within, p.few);
          held =
              entries_first (length l.bytes) l.lens 0 (sent m.ready.entries held).entries m.ready.entries.pending
              (record { order = omega arith; there = p.there; each = p.each; fit = p.fit })
              (omega arith)
              within;
        }

    -- how many bytes and blocks they have
    pub sent_total : (sent m.ready.entries held).bytes ≡ total l.lens (sent m.ready.entries held).entries
    sent_total = sent_bytes (ready_lent l) m.ready.entries held (work_form g l m e form).pending (bodies_found l m e)

    pub sent_count : 0 < (sent m.ready.entries held).entries → sent_blocks m.ready held ≡ blocks (view l.bytes l.lens (sent m.ready.entries held).entries)
    sent_count any =
        ap (λ (t : ℕ). blocks_for (used length_width (sent m.ready.entries held).entries t)) sent_total
        ∙ sym (fits_blocks l.bytes l.lens (sent m.ready.entries held).entries (sent_fits any))

    pub range_sent : (id1 : ℕ) (id2 : code.Option ℕ) (out : List ℕ) → MayWrite g m.ready id1 id2 held → length out ≡ num_journal_blocks g * block_size
        → blocks_in (sent_blocks m.ready held) (sent_range m held l.bytes l.lens out 0) ≡ R.sent_range (work_of l m)
    range_sent id1 id2 out may size =
        let f = work_form g l m e form in
        let fits = sent_fits may.some_pending in
        let found = bodies_found l m e in
        let bytes = sent_total in
        let count = sent_count may.some_pending in
        ap (λ (n : ℕ). blocks_in n (sent_range m held l.bytes l.lens out 0)) count
        ∙ range_front l.bytes l.lens (sent m.ready.entries held).entries (sent m.ready.entries held).bytes out (num_journal_blocks g) fits bytes size
        (omega (arith, count, may.fits))
        ∙ ap format.encode (sym (sent_is (ready_lent l) m.ready.entries held f.pending found))
