-- A position on the ring in its two cases, and as the code tells it.
use Rattle.std.specs.Prelude.{ℕ, ◌+◌, ◌-◌, ◌≤◌, ◌<◌, false, ◌≡◌, eqb}
use Rattle.std.proofs.Common.{sym, ◌∙◌, arith, ne_eqb}
use Rattle.laws.specs.Choice.{eqb_same}
use Rattle.laws.specs.Ring.{wrap_past, wrap_below}
use Rattle.layout.specs.declared.Geometry.{Geometry}
use Rattle.layout.specs.Journal.{journal_pos_add}
use Rattle.layout.specs.Laws.{pos_add_wrap}

module _ (g : Geometry) (start span : ℕ) where
  pub pos_past : g.blocks ≤ start + span → journal_pos_add g start span ≡ start + span - g.blocks
  pos_past h = pos_add_wrap g start span ∙ wrap_past g.blocks (start + span) h

  pub pos_below : start + span < g.blocks → journal_pos_add g start span ≡ start + span
  pos_below h = pos_add_wrap g start span ∙ wrap_below g.blocks (start + span) h

  -- from a start outside the ring
  module _ (place : ℕ) (h : g.blocks ≤ start) where
    pub pos_before : place < start - g.blocks → false ≡ eqb place (journal_pos_add g start span)
    pos_before k = let p = pos_past (omega arith) in sym (ne_eqb place (journal_pos_add g start span) (λ e. omega arith))

    pub pos_from : start - g.blocks ≤ place → eqb (place - (start - g.blocks)) span ≡ eqb place (journal_pos_add g start span)
    pos_from k =
        let p = pos_past (omega arith) in
        eqb_same (place - (start - g.blocks)) span place (journal_pos_add g start span) (λ e. omega arith) (λ e. omega arith)
