-- Demand 3, sentence by sentence, of the calls themselves: what the value call says of every state on tables that a build left, and what
-- the search answers and writes, for any lent tables and buffer. Assumes nothing.
use Rattle.std.proofs.Common.{◌≡◌, ℕ, ◌+◌, ◌-◌, ◌<◌, ◌≤◌, T, List, ◌++◌, length, replicate, Some, None, Ok, ap, ◌∙◌, arith, length-append}
use lib.ListN.{length-replicate}
use Rattle.planning.specs.Extended.{◌≤?◌}
use Rattle.planning.specs.Pattern.{Additive}
use Rattle.planning.specs.Plan.{Plan, Strong, cost, encode}
use Rattle.planning.specs.PlanCheck.{most_moves}
use Rattle.planning.specs.Search.{found}
use Rattle.planning.specs.Table.{estimate, Small}
use Rattle.planning.specs.Task.{system, State}
use Rattle.planning.proofs.Answer.{found_is_optimal, over_means_above-limit, spent_means_at_least, none_means_no_plan, found_passes}
use Rattle.planning.proofs.Estimate.{estimate_admissible}
use Rattle.task_record.specs.Numbers.{limit_of, budget_of}
use Rattle.task_record.specs.Record.{Sound}
use Rattle.task_record.specs.State.{state_check}
use Rattle.task_record.specs.TaskOf.{task_of, patterns_of, start_of, values_of}
use Rattle.task_record.proofs.States.{checked_good}
use Rattle.task_record.proofs.SoundTask.{actions_right, sound_well_formed, sound_start}
use Rattle.patterns.specs.Space.{entries_needed}
use Rattle.patterns.specs.Estimate.{estimate_check}
use Rattle.tables.specs.RecordTables.{tables_built, tables_prepared}
use Rattle.patterns.specs.Value.{value_of, state_value}
use Rattle.tables.proofs.BuiltTables.{buildable_built, prepared_as_built, value-after_build, finite_after_build, infinite_after_build}
use Rattle.patterns.proofs.Reading.{actions_length}
use Rattle.patterns.proofs.Refusals.{checked_ready}
use Rattle.search.specs.Answer.{buffer_of}
use Rattle.search.specs.Entry.{task_answer, search_of, search_answer, plan_after}
use Rattle.search.specs.Optimal.{Optimal}
use Rattle.search.specs.declared.entry.SearchAnswer.TheVariants as outcome
use Rattle.search.proofs.Answered.{answered_means, answer-found, answer-over, answer-spent, answer_none, buffer_found}
use Rattle.search.proofs.Prepared.{search_ready, plan_ready, ready_additive, ready_when}
use Rattle.search.proofs.RecordSearch.{limit_right}

-- The value call on tables that a build left, whatever they were lent with.
module _ (r tabs s : List ℕ) where
  -- "Let a task be sound and its patterns additive, as document 01 defines both. Its sums .. are then the ones defined there": where the
  -- patterns are small enough and the lent tables have room (7 and 8), for every state of 16 bytes.
  pub sums_as_defined : state_check r s ≡ Ok tt → Additive (task_of r) (patterns_of r) → Small (task_of r) (patterns_of r) →
      entries_needed (task_of r).sizes (patterns_of r) ≤ length tabs →
      state_value r s (tables_built r tabs) ≡ Ok (value_of (estimate (task_of r) (patterns_of r) (values_of r s)))
  sums_as_defined good add small room =
      value-after_build r tabs s (entries_needed (task_of r).sizes (patterns_of r))
      (buildable_built r (length tabs) (record { sound = (checked_good r s good).0; small = small; room = room })) good add

  -- "and for every state and every strong plan from it, whichever ending each move has, the summed estimate is at most that plan's cost."
  pub sum_at_most_cost : (v : ℕ) → state_value r s (tables_built r tabs) ≡ Ok (Some v) → (p : Plan) →
      Strong (system (task_of r)) p (values_of r s) → v ≤ cost (system (task_of r)) p
  sum_at_most_cost = finite_after_build r tabs s

  -- "An infinite sum means that no strong plan from that state exists."
  pub infinite_sum_no_plan : state_value r s (tables_built r tabs) ≡ Ok None → (p : Plan) → Strong (system (task_of r)) p (values_of r s) → ⊥
  infinite_sum_no_plan = infinite_after_build r tabs s

-- The same of the estimate that the search cuts by, at every state of the task.
pub estimate_at_most_cost : (r : List ℕ) → Sound r → Additive (task_of r) (patterns_of r) → (p : Plan) (s : List ℕ) → State (task_of r) s →
    Strong (system (task_of r)) p s →
    T (estimate (task_of r) (patterns_of r) s ≤? cost (system (task_of r)) p)
estimate_at_most_cost r sound add = estimate_admissible (task_of r) (sound_well_formed r sound) (patterns_of r) add

-- The search, lent tables and a buffer that hold anything.
module _ (r tabs buffer : List ℕ) where
  ready_sound : estimate_check r (length tabs) ≡ Ok tt → Sound r
  ready_sound h = (checked_ready r (length tabs) h).0

  -- "Let a task be sound and its patterns additive, as document 01 defines both. Its .. answers are then the ones defined there": where
  -- the patterns are small enough and the lent tables have room (7 and 8), the search's answer and its buffer; its tables are as built.
  pub answers_as_defined : Sound r → Additive (task_of r) (patterns_of r) → Small (task_of r) (patterns_of r) →
      entries_needed (task_of r).sizes (patterns_of r) ≤ length tabs →
      (search_answer r (length tabs) (length buffer) ≡ search_of (length buffer) (task_answer r)) ×
      (plan_after r (length tabs) buffer ≡ buffer_of (length buffer) (task_answer r)) ×
      (tables_prepared r tabs ≡ tables_built r tabs)
  answers_as_defined sound add small room = let h = ready_when r (length tabs) sound add small room in
      (search_ready r (length tabs) h (length buffer), plan_ready r (length tabs) h buffer, prepared_as_built r tabs h)

  -- The bytes of a plan that fits.
  stands : (p : Plan) (d c k : ℕ) → estimate_check r (length tabs) ≡ Ok tt → task_answer r ≡ found p d c → length (encode p) ≡ k →
      k ≤ length buffer →
      plan_after r (length tabs) buffer ≡ encode p ++ replicate (length (plan_after r (length tabs) buffer) - k) 255
  stands p d c k h e l m =
      let w = plan_ready r (length tabs) h buffer ∙ ap (buffer_of (length buffer)) e ∙ buffer_found (length buffer) p d c (omega arith) in
      let n = ap length w ∙ length-append (encode p) (replicate (length buffer - length (encode p)) 255)
      ∙ ap (λ x. length (encode p) + x) (length-replicate (length buffer - length (encode p)) 255) in
      let q : length buffer - length (encode p) ≡ length (plan_after r (length tabs) buffer) - k = omega arith in
      w ∙ ap (λ x. encode p ++ replicate x 255) q

  -- "A found plan is a strong plan from the start, the cost reported is its cost, and every other strong plan from the start costs at least
  -- as much." It stands in the buffer, and the plan check passes it with the same cost and length.
  pub found_plan_optimal : (d c k : ℕ) → search_answer r (length tabs) (length buffer) ≡ Ok (outcome.Found d c k) →
      Optimal r (plan_after r (length tabs) buffer) d k
  unfolding task_answer
  found_plan_optimal d c k h =
      let a = answered_means r (length tabs) (length buffer) (outcome.Found d c k) h in
      let sound = ready_sound a.0 in
      let b = answer-found (length buffer) (task_answer r) d c k a.1 in
      let o = found_is_optimal (task_of r) (sound_well_formed r sound) (patterns_of r) (ready_additive r (length tabs) a.0) (budget_of r) (limit_of r) (start_of r)
      (sound_start r sound) b.0 d c b.1.0 in
      let f = found_passes (task_of r) (sound_well_formed r sound) (patterns_of r) (ready_additive r (length tabs) a.0) (budget_of r) (limit_of r) (start_of r)
      (sound_start r sound) most_moves (limit_right r sound)
      (let n = actions_length r in let m = actions_right r sound in omega arith) b.0 d c b.1.0 in
      record {
        plan = b.0;
        written = stands b.0 d c k a.0 b.1.0 b.1.1 b.1.2;
        bytes = b.1.1;
        strong = o.0;
        costs = o.1;
        cheapest = o.2;
        passes = rw b.1.1 at f;
      }

  -- "An answer 'over' means that every strong plan from the start costs more than the limit,"
  pub over-above-limit : (c : ℕ) → search_answer r (length tabs) (length buffer) ≡ Ok (outcome.Over c) → (q : Plan) →
      Strong (system (task_of r)) q (start_of r) → limit_of r < cost (system (task_of r)) q
  unfolding task_answer
  over-above-limit c h = let a = answered_means r (length tabs) (length buffer) (outcome.Over c) h in
      over_means_above-limit (task_of r) (sound_well_formed r (ready_sound a.0)) (patterns_of r) (ready_additive r (length tabs) a.0) (budget_of r) (limit_of r)
      (start_of r) (sound_start r (ready_sound a.0)) c
      (answer-over (length buffer) (task_answer r) c a.1)

  -- "'spent' that every one costs at least the round reported,": and the count is the budget.
  pub spent_at_least_round : (d c : ℕ) → search_answer r (length tabs) (length buffer) ≡ Ok (outcome.Spent d c) →
      ((q : Plan) → Strong (system (task_of r)) q (start_of r) → d ≤ cost (system (task_of r)) q) × (c ≡ budget_of r)
  unfolding task_answer
  spent_at_least_round d c h = let a = answered_means r (length tabs) (length buffer) (outcome.Spent d c) h in
      spent_means_at_least (task_of r) (sound_well_formed r (ready_sound a.0)) (patterns_of r) (ready_additive r (length tabs) a.0) (budget_of r) (limit_of r)
      (start_of r) (sound_start r (ready_sound a.0)) d c
      (answer-spent (length buffer) (task_answer r) d c a.1)

  -- "and 'none' that there is none.": and the count is 0.
  pub none_no_plan : (c : ℕ) → search_answer r (length tabs) (length buffer) ≡ Ok (outcome.None c) →
      ((q : Plan) → Strong (system (task_of r)) q (start_of r) → ⊥) × (c ≡ 0)
  unfolding task_answer
  none_no_plan c h = let a = answered_means r (length tabs) (length buffer) (outcome.None c) h in
      none_means_no_plan (task_of r) (sound_well_formed r (ready_sound a.0)) (patterns_of r) (ready_additive r (length tabs) a.0) (budget_of r) (limit_of r)
      (start_of r) (sound_start r (ready_sound a.0)) c
      (answer_none (length buffer) (task_answer r) c a.1)
