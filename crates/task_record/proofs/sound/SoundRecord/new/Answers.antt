-- `new`: a record that the check refuses is none. Assumes nothing.
use Rattle.std.proofs.Common.{sym, ◌∙◌}
use Rattle.task_record.specs.Record.{Sound}
use Rattle.task_record.proofs.sound.SoundRecord.new.Goals as goal

pub invariant_of-result : goal.invariant_of-result
unfolding Sound
invariant_of-result c = sym c.check_record.ensures.value ∙ c.in_ok-check_record.was
