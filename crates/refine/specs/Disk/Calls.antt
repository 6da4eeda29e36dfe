-- What is alike in every operation: from the answer to a yes to its questions, and from the yes to the answer. One number decides: questions
-- 1 and 2, then the operation's own (r).
use Rattle.std.specs.Prelude.{ℕ, ◌≡◌, List, Ok, Err}
use Rattle.std.specs.declared.option.Option as code
use Rattle.std.proofs.Common.{sym, ◌∙◌, ap, subst}
use Rattle.laws.specs.Choice.{and_then, and_then_left, and_then_right, and_then_both, and_then_done}
use Rattle.refusal.specs.Refusal.{refusal}
use Rattle.layout.specs.declared.Geometry.{Geometry}
use Rattle.superblock.specs.declared.Superblock.{Superblock}
use Rattle.source.specs.JournalDisk as D
use Rattle.source.specs.Limits.{limits}
use Rattle.source.specs.Meets.{DiskMeets}
use Rattle.source.specs.Within.{DiskEvent, DiskStep⁺, DiskAllowed}
use Rattle.disk.specs.declared.Disk.{Disk}
use Rattle.disk.specs.Disk.{DiskStepped}
use Rattle.disk.specs.Disk.{SuperblockAcked}
use Rattle.disk.specs.Disk.{answered}
use Rattle.disk.specs.Questions.{ask_disk}
use Rattle.disk.specs.Disk.{answered_with}
use Rattle.disk.specs.Laws.Answers.{done_asked, asked_done, asked_refused, read_asked, asked_read}
use Rattle.refine.specs.Disk.View.{disk_of, SizedDisk, DiskTables, Lent}
use Rattle.refine.specs.Disk.Meets.{Met, disk_met, met_disk}

module _ (g : Geometry) (blocks marks : List ℕ) (d : Disk) (z : SizedDisk d) (r : ℕ) where
  abbrev asks : ℕ
  asks = and_then (ask_disk g d blocks marks) r

  pub asks_met : asks ≡ 0 → Met g blocks marks d z
  asks_met e = disk_met g blocks marks d z (and_then_left (ask_disk g d blocks marks) r e)

  pub met_asks : DiskTables d → Lent g blocks marks → DiskMeets g limits (disk_of g blocks marks d) → r ≡ 0 → asks ≡ 0
  met_asks t l m e = and_then_both (ask_disk g d blocks marks) r (met_disk g blocks marks d z (record { lent = l; tables = t; meets = m })) e

  -- an operation that is done, and leaves lent memory
  module _ (next : Disk) where
    -- the answer by the operation's own questions
    pub done_by : DiskTables d → Lent g blocks marks → DiskMeets g limits (disk_of g blocks marks d) → r ≡ 0 → (answered asks next d).answer ≡ Ok record {}
    done_by t l m e = ap (λ (x : DiskStepped). x.answer) (asked_done asks next d (met_asks t l m e))

    pub refused_by : DiskTables d → Lent g blocks marks → DiskMeets g limits (disk_of g blocks marks d) → (n : ℕ) → r ≡ n → (n ≡ 0 → ⊥) → (answered asks next d).answer ≡ Err (refusal n)
    refused_by t l m n e h =
        let k : asks ≡ n = and_then_done (ask_disk g d blocks marks) r (met_disk g blocks marks d z (record { lent = l; tables = t; meets = m })) ∙ e in
        ap (λ (x : DiskStepped). x.answer) (asked_refused asks next d (λ q. h (sym k ∙ q))) ∙ ap (λ (q : ℕ). Err (refusal q)) k

    pub sound_by : (event : DiskEvent) → (answered asks next d).answer ≡ Ok record {}
        → (r ≡ 0 → Met g blocks marks d z → DiskStep⁺ g (disk_of g blocks marks d) (disk_of g blocks marks next) event)
        → DiskAllowed g limits (disk_of g blocks marks d) (disk_of g blocks marks (answered asks next d).disk) event
    sound_by event e f =
        let e0 : asks ≡ 0 = done_asked asks next d e in
        let m = asks_met e0 in
        record {
          meets = m.meets;
          step =
              subst (λ (x : DiskStepped). DiskStep⁺ g (disk_of g blocks marks d) (disk_of g blocks marks x.disk) event) (sym (asked_done asks next d e0))
              (f (and_then_right (ask_disk g d blocks marks) r e0) m);
        }

    pub complete_by : (s' : D.Variables) → DiskTables d → Lent g blocks marks → DiskMeets g limits (disk_of g blocks marks d) → r ≡ 0 → disk_of g blocks marks next ≡ s'
        → ((answered asks next d).answer ≡ Ok record {}) × (disk_of g blocks marks (answered asks next d).disk ≡ s')
    complete_by s' t l m e p =
        let done = asked_done asks next d (met_asks t l m e) in (
          ap (λ (x : DiskStepped). x.answer) done,
          ap (λ (x : DiskStepped). disk_of g blocks marks x.disk) done ∙ p,
        )

  -- the same of a superblock read's answer
  module _ (v : code.Option Superblock) (next : Disk) where
    pub read_sound_by : (event : code.Option Superblock → DiskEvent) (u : code.Option Superblock) → (answered_with asks v next d).answer ≡ Ok u
        → (r ≡ 0 → Met g blocks marks d z → DiskStep⁺ g (disk_of g blocks marks d) (disk_of g blocks marks next) (event v))
        → DiskAllowed g limits (disk_of g blocks marks d) (disk_of g blocks marks (answered_with asks v next d).disk) (event u)
    read_sound_by event u e f =
        let k = read_asked asks v next d u e in
        let m = asks_met k.0 in
        record {
          meets = m.meets;
          step =
              subst (λ (x : code.Option Superblock). DiskStep⁺ g (disk_of g blocks marks d) (disk_of g blocks marks (answered_with asks v next d).disk) (event x)) (sym k.1)
              (subst (λ (x : SuperblockAcked). DiskStep⁺ g (disk_of g blocks marks d) (disk_of g blocks marks x.disk) (event v)) (sym (asked_read asks v next d k.0))
              (f (and_then_right (ask_disk g d blocks marks) r k.0) m));
        }

    pub read_complete_by : (u : code.Option Superblock) (s' : D.Variables) → DiskTables d → Lent g blocks marks → DiskMeets g limits (disk_of g blocks marks d) → r ≡ 0 → v ≡ u
        → disk_of g blocks marks next ≡ s'
        → ((answered_with asks v next d).answer ≡ Ok u) × (disk_of g blocks marks (answered_with asks v next d).disk ≡ s')
    read_complete_by u s' t l m e w p =
        let done = asked_read asks v next d (met_asks t l m e) in (
          ap (λ (x : SuperblockAcked). x.answer) done ∙ ap Ok w,
          ap (λ (x : SuperblockAcked). disk_of g blocks marks x.disk) done ∙ p,
        )
