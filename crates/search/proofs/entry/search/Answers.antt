-- `search::entry::search` meets its contract: a refusal of the preparation with the slices as found, else the search. Assumes nothing.
use Rattle.std.proofs.Common.{length, replicate, Err, sym, ap, ◌∙◌}
use Rattle.std.proofs.lemmas.Result.{err_from_is_err_and}
use Rattle.task_record.specs.declared.refusal.Refusal.{Refusal}
use Rattle.packed_task.specs.Packed.{task_words}
use Rattle.search.specs.Answer.{answer_of, buffer_of}
use Rattle.search.specs.Entry.{search_numbers}
use Rattle.search.proofs.ByLines.{search-told}
use Rattle.search.proofs.Prepared.{search-refused, plan_refused, search_ready, plan_ready, prepared, within_own, start_ready, start_refused}
use Rattle.search.proofs.RecordSearch.{answered_so, refused_so}
use Rattle.search.proofs.entry.search.Goals as goal

pub invariant_of-built : goal.invariant_of-built
invariant_of-built c = let a = c.args in let e = c.prepare.ensures in record { prepared = ∣ prepared a.rec.now a.tables.now (sym e.value.0 ∙ c.in_ok-start.was) (replicate task_words 0) (replicate 2048 0) e.value.1 e.value.2 e.sets c.budget.ensures ∣₁ }

pub returns-in_err-start : goal.returns-in_err-start
returns-in_err-start c = let a = c.args in let r = a.rec.now in let h = start_refused r (length a.tables.now) (sym c.prepare.ensures.value.0 ∙ c.in_err-start.was) in
    let t = err_from_is_err_and c.from_residual.result c.from_residual.ensures.1 in
    let q = t.1 ∙ ap (λ (x : Refusal). Err x) t.2 ∙ sym (search-refused r (length a.tables.now) h (length a.plan.now)) in record {
      answer = q;
      tables = c.prepare.ensures.value.1;
      plan = sym (plan_refused r (length a.tables.now) h a.plan.now);
      numbers = ap search_numbers q ∙ search-told r (length a.tables.now) (length a.plan.now);
    }

pub returns-in_err-answer : goal.returns-in_err-answer
returns-in_err-answer c = let a = c.args in let r = a.rec.now in let h = start_ready r (length a.tables.now) (sym c.prepare.ensures.value.0 ∙ c.in_ok-start.was) in let w = within_own r c.budget.ensures in
    let t = err_from_is_err_and c.from_residual-in_err-answer.result c.from_residual-in_err-answer.ensures.1 in
    let q = t.1 ∙ ap (λ (x : Refusal). Err x) t.2 ∙ sym (search_ready r (length a.tables.now) h (length a.plan.now) ∙ refused_so (length a.plan.now) _ (sym (c.search_built.ensures.answer ∙ ap (answer_of (length a.plan.now)) w) ∙ c.in_err-answer.was)) in record {
      answer = q;
      tables = c.prepare.ensures.value.1;
      plan = c.search_built.ensures.buffer ∙ ap (buffer_of (length a.plan.now)) w ∙ sym (plan_ready r (length a.tables.now) h a.plan.now);
      numbers = ap search_numbers q ∙ search-told r (length a.tables.now) (length a.plan.now);
    }

pub returns : goal.returns
returns c = let a = c.args in let r = a.rec.now in let h = start_ready r (length a.tables.now) (sym c.prepare.ensures.value.0 ∙ c.in_ok-start.was) in let w = within_own r c.budget.ensures in
    let g = answered_so (length a.plan.now) _ (sym (c.search_built.ensures.answer ∙ ap (answer_of (length a.plan.now)) w) ∙ c.in_ok-answer.was) in
    let q = sym (search_ready r (length a.tables.now) h (length a.plan.now) ∙ g) in record {
      answer = q;
      tables = c.prepare.ensures.value.1;
      plan = c.search_built.ensures.buffer ∙ ap (buffer_of (length a.plan.now)) w ∙ sym (plan_ready r (length a.tables.now) h a.plan.now);
      numbers = ap search_numbers q ∙ search-told r (length a.tables.now) (length a.plan.now);
    }
