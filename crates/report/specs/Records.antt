-- What program `records` writes for a stored record: document 02, item 3, "a tool lengthens stored records". Assumes nothing.
use Rattle.std.specs.Prelude.{ℕ, cond, List, Option, Some, None, Result, Ok, Err}
use Rattle.std.specs.Str.{bytes_eq}
use Rattle.reader.specs.Bytes.{bytes}
use Rattle.task_record.specs.Layout.{record_size}
use Rattle.task_record.specs.declared.refusal.Refusal.{Refusal}
use Rattle.stored.specs.Upgrade.{upgraded, upgrade_answer}
use Rattle.report.specs.Lines.{line}
use Rattle.report.specs.Report.{refused_lines}
use Rattle.report.specs.declared.records.Job.{Job}
use Rattle.report.specs.declared.records.Job.TheVariants.{Upgrade}

-- The word that names each job.
unfoldable pub job_of : List ℕ → Option Job
job_of word = cond (bytes_eq word (bytes "upgrade")) (Some Upgrade) None

-- The record where the tool answers, and "every refusal has this form", its two lines, where it does not. No record begins with a letter, since
-- its first byte is the number of its variables.
unfoldable pub upgraded_or_refused : List ℕ → Result Unit Refusal → List ℕ
upgraded_or_refused stored (Ok done) = upgraded stored
upgraded_or_refused stored (Err e) = refused_lines e

unfoldable pub upgrade_written : List ℕ → List ℕ
upgrade_written stored = upgraded_or_refused stored (upgrade_answer stored record_size)

-- How the program is called.
unfoldable pub usage_lines : List ℕ
usage_lines = line (bytes "usage: records upgrade <old >new")

-- What is written for a job and what was read; without a job, how the program is called.
unfoldable pub job_written : Option Job → List ℕ → List ℕ
job_written (Some Upgrade) stored = upgrade_written stored
job_written None stored = usage_lines
