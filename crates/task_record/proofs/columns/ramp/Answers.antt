-- `ramp`: the first sixteen cells are filled, the others stay. Assumes nothing.
use Rattle.std.proofs.Common.{◌≡◌, replicate, rules}
use Rattle.task_record.proofs.ColumnLaws.{is_ramp}
use Rattle.task_record.proofs.columns.ramp.Goals as goal

pub returns : goal.returns
returns c = let e : c.fill.new.self ≡ replicate 16 255 = c.fill.ensures.after (λ y h. search rules) in rw e is_ramp
