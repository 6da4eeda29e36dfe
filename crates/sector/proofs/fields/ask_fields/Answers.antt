use Rattle.std.proofs.Common.{eqb, length, sym, ap, ◌∙◌}
use Rattle.runs.specs.Compare.{pointwise_same}
use Rattle.laws.specs.Choice.{also, and_also, and_then, ask}
use Rattle.refusal.specs.Refusal.{asked}
use Rattle.sector.specs.Fields.{ask_parts}
use Rattle.sector.specs.Sector.{check_number, numbers_in}
use Rattle.sector.proofs.fields.ask_fields.Goals as goal

pub returns : goal.returns
unfolding numbers_in
returns c =
    let blank = and_also c.zeros-gap.result c.zeros-rest.result ∙ (λ i. also (c.zeros-gap.ensures i) (c.zeros-rest.ensures i)) in
    let check = c.check_number-check.ensures ∙ ap check_number c.read_numbers.ensures in
    let parts = (λ i.
    and_then (ask 10 ((c.eq-same.ensures ∙ pointwise_same c.args.contents.now _) i))
    (and_then (ask 11 (blank i))
    (ask 12 (eqb (c.number_at-found.ensures i) (check i)))))
    ∙ sym (ask_parts c.args.contents.now c.args.sector.now (length c.args.numbers.now) c.requires.0 c.requires.1) in record {
      value = c.first_no.ensures ∙ ap asked parts;
      numbers_after = c.read_numbers.ensures;
    }
