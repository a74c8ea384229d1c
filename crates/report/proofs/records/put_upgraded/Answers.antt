-- `put_upgraded`: the record that the tool left, or the lines of its refusal. Assumes nothing.
use Rattle.std.proofs.Common.{◌≡◌, ℕ, List, length, replicate}
use lib.ListN.{length-replicate}
use Rattle.task_record.specs.Layout.{record_size}
use Rattle.report.proofs.Reports.{refusal_told}
use Rattle.report.proofs.UpgradedRecords.{record_written, refusal_written}
use Rattle.report.proofs.records.put_upgraded.Goals as goal

abbrev room : List ℕ
room = replicate record_size 0

whole : length room ≡ record_size
whole = length-replicate {A = ℕ} record_size 0

pub returns-in-Ok-clause-written : goal.returns-in-Ok-clause-written
returns-in-Ok-clause-written c =
    rw (record_written c.args.stored.now room whole c.upgrade.result c.upgrade.ensures.value.0 c.upgrade.new.target c.in-Ok.is c.upgrade.ensures.value.1) c.put_word.ensures

pub returns-in-Err-clause-written : goal.returns-in-Err-clause-written
returns-in-Err-clause-written c =
    rw (refusal_written c.args.stored.now room whole c.upgrade.result c.upgrade.ensures.value.0 c.in-Err.refusal c.in-Err.is, refusal_told _ _ _ c.numbers.ensures) c.put_refusal.ensures.written
