-- What the search finds, the check passes: with the same record, the record's start and the first bytes of the buffer, as many as the search
-- said, with the cost that it said. The calls of README's C example. Assumes nothing.
use Rattle.std.proofs.Common.{◌≡◌, ℕ, ◌-◌, List, length, take, replicate, sym, ap, ◌∙◌, Ok}
use lib.Seq.{take_at}
use Rattle.planning.specs.Numbers.{answered}
use Rattle.planning.specs.Plan.{encode}
use Rattle.task_record.specs.Layout.{at_start}
use Rattle.task_record.specs.TaskOf.{cells_at}
use Rattle.patterns.specs.Estimate.{estimate_check}
use Rattle.patterns.proofs.Refusals.{after_ok, checked_ready}
use Rattle.search.specs.Entry.{task_answer, search_of, search_answer, plan_after, search_numbers}
use Rattle.search.specs.Optimal.{Optimal}
use Rattle.search.specs.declared.entry.SearchAnswer.TheVariants as outcome
use Rattle.search.proofs.Demand.{found_plan_optimal}
use Rattle.plan_check.specs.Check.{answer_of, plan_check_of}
use Rattle.plan_check.specs.ForC.{numbers_of, five_numbers}
use Rattle.plan_check.specs.declared.for_c.PlannerAnswer.{PlannerAnswer}
use Rattle.planner.proofs.SearchNumbers.{zeros_mean_found}
use Rattle.planner.proofs.StartChecked.{check_at_start}

-- The first k bytes of a buffer in which an optimal plan of k bytes stands.
plan_in_front : (r buffer : List ℕ) (d k : ℕ) (o : Optimal r buffer d k) → take k buffer ≡ encode o.plan
plan_in_front r buffer d k o = ap (take k) o.written ∙ take_at (encode o.plan) (replicate (length buffer - k) 255) k o.bytes

module _ (r tabs plan : List ℕ) where
  -- The check of the first k bytes.
  pub found_plan_passes : (d c k : ℕ) → search_answer r (length tabs) (length plan) ≡ Ok (outcome.Found d c k) →
      plan_check_of r (cells_at r at_start) (take k (plan_after r (length tabs) plan)) ≡ Ok (record { cost = d; length = k })
  unfolding search_answer answer_of
  found_plan_passes d c k h =
      let e = after_ok (estimate_check r (length tabs)) (λ ready. search_of (length plan) (task_answer r)) (outcome.Found d c k) h in
      let o = found_plan_optimal r tabs plan d c k h in
      rw (plan_in_front r (plan_after r (length tabs) plan) d k o) (check_at_start r (checked_ready r (length tabs) e.1).0 (encode o.plan) ∙ ap answer_of o.passes)

  -- As C sees it, where `a` is what planner_search answers and `b` what planner_check_plan then answers: `if (a.number == 0 && a.kind == 0)`
  -- the check of `a.third` bytes gives number 0 with `a.first` as the cost and `a.third` as the length.
  pub found_plan_passes_for_c : (a b : PlannerAnswer) → a ≡ five_numbers (search_numbers (search_answer r (length tabs) (length plan))) → a.number ≡ 0 → a.kind ≡ 0 →
      b ≡ five_numbers (numbers_of (plan_check_of r (cells_at r at_start) (take a.third (plan_after r (length tabs) plan)))) →
      b ≡ five_numbers (answered 0 a.first a.third 0)
  unfolding five_numbers answered
  found_plan_passes_for_c a b search zero found check =
      let f = zeros_mean_found r (length tabs) (length plan) (sym (ap (λ x. x.number) search) ∙ zero) (sym (ap (λ x. x.kind) search) ∙ found) in
      let s = search ∙ ap (λ x. five_numbers (search_numbers x)) f.3 in
      let e = found_plan_passes f.0 f.1 f.2 f.3 in
      check ∙ rw (s, e)
