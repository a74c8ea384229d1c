-- `report_job`: what was put into the buffer from its start on. Assumes nothing.
use mathlib.Core.Path.{◌∙◌}
use native.Mathlib.Omega.{arith}
use borrow.Author.Rules.{rules}
use Rattle.report.proofs.Stored.{written_all}
use Rattle.report.proofs.records.report_job.Goals as goal

pub returns : goal.returns
returns c =
    let n = c.new-lines.ensures in
    let r = c.put_job.ensures in
    let a = written_all (rw (n.at, n.holds) at r.written.written) in
    (c.len.ensures ∙ a.0, (search rules) ∙ a.1, omega (arith, r.short, c.len.ensures))
