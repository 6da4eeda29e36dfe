use mathlib.Core.Path.{sym, ◌∙◌}
use Rattle.laws.specs.Choice.{unless_same}
use Rattle.disk.specs.Laws.Answers.{read_answered, read_copied}
use Rattle.disk.specs.Laws.Operation.{written_is, read_is, decided}
use Rattle.disk.proofs.Disk.operate.Goals as goal

pub returns-in-Written : goal.returns-in-Written
returns-in-Written c =
    let r = c.write_blocks.ensures in
    let h = sym c.touched_by-t.ensures ∙ c.in-Written.is in record { value = rw (written_is _ _ _ _ h) (c.write_blocks.ensures.value); blocks_after = rw (written_is _ _ _ _ h) (c.write_blocks.ensures.blocks_after); marks_after = rw (written_is _ _ _ _ h) (c.write_blocks.ensures.marks_after); out_after = rw (written_is _ _ _ _ h) (unless_same _ _) }

pub returns-in-Read : goal.returns-in-Read
returns-in-Read c =
    let r = c.read_blocks-r.ensures in
    let e = c.is_whole-whole.ensures in
    let h = sym c.touched_by-t.ensures ∙ c.in-Read.is in record { value = rw (read_is _ _ _ h) (read_answered _ _ _ _ _ e _ _ _ _ c.read_blocks-r.ensures.value c.as_stepped.ensures); blocks_after = rw (read_is _ _ _ h) (unless_same _ _); marks_after = rw (read_is _ _ _ h) (unless_same _ _); out_after = rw (read_is _ _ _ h) (read_copied _ _ _ _ _ e _ _ _ c.read_blocks-r.ensures.out_after) }

pub returns-in-Nothing : goal.returns-in-Nothing
returns-in-Nothing c =
    let a = c.args in
    let h = sym c.touched_by-t.ensures ∙ c.in-Nothing.is in
    let all = decided a.g a.self a.new.now _ _ _ _ h _ c.decide_asked.ensures in record { value = all.0; blocks_after = all.1.0; marks_after = all.1.1.0; out_after = all.1.1.1 }
