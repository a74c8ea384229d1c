-- `put_job`: what the job gives, or how the program is called. Assumes nothing.
use Rattle.std.proofs.Common.{◌≡◌, ℕ, List, refl, ◌∙◌, ap, Some}
use Rattle.reader.specs.Bytes.{bytes}
use Rattle.report.specs.Records.{upgrade_written, usage_lines, job_written}
use Rattle.report.specs.declared.records.Job.{Job}
use Rattle.report.specs.declared.records.Job.TheVariants.{Upgrade}
use Rattle.report.proofs.records.put_job.Goals as goal

upgrade_job : (j : Job) (stored : List ℕ) → job_written (Some j) stored ≡ upgrade_written stored
unfolding job_written
upgrade_job Upgrade stored = refl

pub returns-in-Some-Upgrade-clause-written : goal.returns-in-Some-Upgrade-clause-written
returns-in-Some-Upgrade-clause-written c =
    let stored = c.args.stored.now in
    rw (ap (λ j. job_written j stored) c.in-Some-Upgrade.is ∙ upgrade_job c.in-Some-Upgrade.field-0 stored) c.put_upgraded.ensures.written

pub returns-in-None-clause-written : goal.returns-in-None-clause-written
unfolding job_written usage_lines bytes
returns-in-None-clause-written c = rw c.in-None.is c.put_line.ensures.written
