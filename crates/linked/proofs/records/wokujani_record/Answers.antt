use Rattle.std.proofs.Common.{ap, ◌∙◌}
use Rattle.linked.specs.Records.{number_of}
use Rattle.linked.specs.Bounds.{record_by_number}
use Rattle.linked.proofs.records.wokujani_record.Goals as goal

pub returns-clause-number : goal.returns-clause-number
returns-clause-number c = c.tell.ensures.value ∙ ap number_of c.record-r.ensures.value ∙ record_by_number c.args.n c.args.t c.args.disk.now _
