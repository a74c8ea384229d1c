-- `eight_fit`: a column whose test answered 0 is right. Assumes nothing.
use Rattle.std.proofs.Common.{rules}
use Rattle.task_record.proofs.columns.eight_fit.Goals as goal

pub faultless-requires : goal.faultless-requires
faultless-requires g c = let l = c.args.record.now.passed.long in search rules

pub returns : goal.returns
returns g c = λ h v l. let said = c.faultless.ensures h v l in search rules
