use Rattle.image.proofs.FoundLaws.{found_refused, found_held}
use Rattle.image.proofs.recording.record_chosen.Goals as goal

pub returns-in_err-found : goal.returns-in_err-found
returns-in_err-found c = record {
  value = found_refused c.args.g c.args.disk.now c.args.c _ c.fetch.ensures.value _ _ c.in_err-found.ensures c.from_residual.ensures.1;
  lent_after = c.fetch.ensures.lent_after;
}

pub returns : goal.returns
returns c = record {
  value = found_held c.args.g c.args.disk.now c.args.c _ c.fetch.ensures.value _ c.in_ok-found.ensures;
  lent_after = c.fetch.ensures.lent_after;
}
