-- `check_state`: in numbers, line 10. Assumes nothing.
use Rattle.std.proofs.Common.{sym, ap, ◌∙◌}
use Rattle.task_record.specs.Answers.{state_numbers, judged_by_lines}
use Rattle.task_record.proofs.ByLines.{judged_told}
use Rattle.task_record.proofs.sound.SoundRecord.check_state.Goals as goal

pub returns-clause-numbers : goal.returns-clause-numbers
returns-clause-numbers c = ap state_numbers c.judge_state.ensures ∙ sym (judged_told c.self.inside.cells.now c.args.state.now) ∙ ap (λ r. judged_by_lines r c.args.state.now) c.self.view_is
