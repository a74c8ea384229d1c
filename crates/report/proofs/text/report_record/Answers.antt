-- `report::text::report_record` meets its contract: for each answer of the search its lines, and the tables and the plan as the search left
-- them. Assumes nothing.
use mathlib.Core.Path.{refl, sym, ◌∙◌}
use native.Mathlib.Omega.{arith}
use lib.ListN.{length-take}
use lib.Seq.{length-take-le}
use Rattle.reader.specs.Bytes.{bytes}
use Rattle.report.proofs.Reports.{answer_told, start-value-told, found_within, found_short, found-told, over-told, spent-told, none_told, refusal-told, refusal_told}
use Rattle.report.proofs.Stored.{puts_then}
use Rattle.report.proofs.text.report_record.Goals as goal

pub slice_bounds-put_found-end : goal.slice_bounds-put_found-end
slice_bounds-put_found-end c = let e = answer_told c.in-Ok-Found.field-0 _ _ _ c.in-Ok-Found.field-0-is c.in-Ok-Found.is c.search.ensures.answer in
    let l = c.search.auto in
    omega (arith, found_within c.args.rec.now c.args.tables.now c.args.plan.now _ _ _ e)

pub slice_bounds-put_found-end-in-Ok-Found : goal.slice_bounds-put_found-end-in-Ok-Found
slice_bounds-put_found-end-in-Ok-Found c = let e = answer_told c.in-Ok-Found.field-0 _ _ _ c.in-Ok-Found.field-0-is c.in-Ok-Found.is c.search.ensures.answer in
    let l = c.search.auto in
    sym (length-take-le _ _ (omega (arith, found_within c.args.rec.now c.args.tables.now c.args.plan.now _ _ _ e)))

pub put_found-requires : goal.put_found-requires
put_found-requires c = let e = answer_told c.in-Ok-Found.field-0 _ _ _ c.in-Ok-Found.field-0-is c.in-Ok-Found.is c.search.ensures.answer in
    (c.put_start_value.ensures.short, simp length-take (omega (arith, found_short c.args.rec.now c.args.tables.now c.args.plan.now _ _ _ e)))

pub returns-in-Err-clause-written : goal.returns-in-Err-clause-written
returns-in-Err-clause-written c = rw (refusal-told _ _ _ _ (sym c.in-Err.is ∙ c.search.ensures.answer), refusal_told _ _ _ c.numbers.ensures) c.put_refusal.ensures.written

pub returns-in-Ok-Found-clause-written : goal.returns-in-Ok-Found-clause-written
returns-in-Ok-Found-clause-written c = let s = c.search.ensures in
    let e = answer_told c.in-Ok-Found.field-0 _ _ _ c.in-Ok-Found.field-0-is c.in-Ok-Found.is s.answer in
    rw (found-told _ _ _ _ _ _ e _ _ refl s.plan) (puts_then (c.put_start_value.ensures.written _ (start-value-told _ _ _ _ e s.tables)) c.put_found.ensures.written)

pub returns-in-Ok-Found-clause-short : goal.returns-in-Ok-Found-clause-short
returns-in-Ok-Found-clause-short c = let s = c.search.ensures in
    let e = answer_told c.in-Ok-Found.field-0 _ _ _ c.in-Ok-Found.field-0-is c.in-Ok-Found.is s.answer in
    omega (arith, c.put_found.ensures.short, c.put_start_value.ensures.short, length-take c.in-Ok-Found.bytes c.search.new.plan, found_within c.args.rec.now c.args.tables.now c.args.plan.now _ _ _ e)

pub returns-in-Ok-Over-clause-written : goal.returns-in-Ok-Over-clause-written
unfolding bytes
returns-in-Ok-Over-clause-written c = let s = c.search.ensures in
    let e = answer_told c.in-Ok-Over.field-0 _ _ _ c.in-Ok-Over.field-0-is c.in-Ok-Over.is s.answer in
    rw (over-told _ _ _ _ e) (puts_then (c.put_start_value-in-Ok-Over.ensures.written _ (start-value-told _ _ _ _ e s.tables)) c.put_count.ensures.written)

pub returns-in-Ok-Spent-clause-written : goal.returns-in-Ok-Spent-clause-written
returns-in-Ok-Spent-clause-written c = let s = c.search.ensures in
    let e = answer_told c.in-Ok-Spent.field-0 _ _ _ c.in-Ok-Spent.field-0-is c.in-Ok-Spent.is s.answer in
    rw (spent-told _ _ _ _ _ e) (puts_then (c.put_start_value-in-Ok-Spent.ensures.written _ (start-value-told _ _ _ _ e s.tables)) c.put_spent.ensures.written)

pub returns-in-Ok-None-clause-written : goal.returns-in-Ok-None-clause-written
unfolding bytes
returns-in-Ok-None-clause-written c = let s = c.search.ensures in
    let e = answer_told c.in-Ok-None.field-0 _ _ _ c.in-Ok-None.field-0-is c.in-Ok-None.is s.answer in
    rw (none_told _ _ _ _ e) (puts_then (c.put_start_value-in-Ok-None.ensures.written _ (start-value-told _ _ _ _ e s.tables)) c.put_count-in-Ok-None.ensures.written)
