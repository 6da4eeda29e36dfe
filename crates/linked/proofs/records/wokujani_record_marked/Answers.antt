use Rattle.std.proofs.Common.{ap, ◌∙◌}
use Rattle.linked.specs.Records.{number_of}
use Rattle.linked.specs.Bounds.{record_marked_number}
use Rattle.linked.proofs.records.wokujani_record_marked.Goals as goal

pub returns-clause-number : goal.returns-clause-number
returns-clause-number c = c.tell.ensures.value ∙ ap number_of c.record_marked-r.ensures.value ∙ record_marked_number c.args.n c.args.t c.args.disk.now c.args.marks.now _
