-- `report::text::report_lines` meets its contract: a text that is refused, or the lines of its record. Assumes nothing.
use mathlib.Core.Path.{refl, sym, ◌∙◌}
use native.Mathlib.Omega.{arith}
use lib.ListN.{length}
use Rattle.report.proofs.Reports.{text_refused, text_read, printed-refusal, printed_record, refusal_told}
use Rattle.report.proofs.text.report_lines.Goals as goal

pub returns-in-Ok : goal.returns-in-Ok
returns-in-Ok c = let e = sym c.in-Ok.is ∙ c.read_text.ensures.value.0 in
    let w = text_read _ _ e refl in
    let p = printed_record _ (length c.args.tables.now) (length c.args.plan.now) c.args.tables.now c.args.plan.now _ _ w c.read_text.ensures.value.1 in
    let r = c.report_record.ensures in
    record { written = rw p.0 r.written; tables = r.tables ∙ sym p.1; plan = r.plan ∙ sym p.2; short = r.short }

pub returns-in-Err : goal.returns-in-Err
returns-in-Err c = let e = sym c.in-Err.is ∙ c.read_text.ensures.value.0 in
    let w = text_refused _ _ _ e refl in
    let p = printed-refusal _ (length c.args.tables.now) (length c.args.plan.now) c.args.tables.now c.args.plan.now _ w in
    record { written = rw (p.0, refusal_told _ _ _ c.numbers.ensures) c.put_refusal.ensures.written; tables = sym p.1; plan = sym p.2; short = omega arith }
