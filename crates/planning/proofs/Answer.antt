-- Demand 3 over the definitions, for a well-formed task with additive patterns: what the answers of its search mean. Assumes nothing.
use mathlib.Core.Path.{◌≡◌}
use mathlib.Core.List.{List}
use Prim.Native.Nat.{ℕ, ◌≤◌, ◌<◌}
use native.Mathlib.Omega.{arith}
use lib.ListN.{length}
use Rattle.planning.specs.Plan.{Plan, Strong, cost, encode}
use Rattle.planning.specs.Task.{Task, system, State, WellFormed}
use Rattle.planning.specs.Pattern.{Additive}
use Rattle.planning.specs.Search.{found, over, spent, none, answer}
use Rattle.planning.specs.Table.{estimate}
use Rattle.planning.specs.PlanCheck.{passed, check_plan}
use Rattle.planning.proofs.Search.{Right, search_right, found_same_plan}
use Rattle.planning.proofs.Task.{task_invariant, task_filled}
use Rattle.planning.proofs.Estimate.{estimate_admissible}
use Rattle.planning.proofs.PlanCheck.{cheap_passed}

module _ (t : Task) (w : WellFormed t) (ps : List (List ℕ)) (A : Additive t ps) (budget limit : ℕ) (s : List ℕ) (o : State t s) where
  -- Every answer is right.
  pub answer_right : Right (system t) s budget limit (answer t ps budget limit s)
  unfolding answer
  answer_right = search_right (system t) s (State t) (task_invariant t w) (estimate t ps) (estimate_admissible t w ps A) budget limit o

  -- "A found plan is a strong plan from the start, the cost reported is its cost, and every other strong plan from the start costs at
  -- least as much."
  pub found_is_optimal : (p : Plan) (d c : ℕ) → answer t ps budget limit s ≡ found p d c → Strong (system t) p s × (cost (system t) p ≡ d) × ((q : Plan) → Strong (system t) q s → d ≤ cost (system t) q)
  found_is_optimal p d c e = let r = rw e at answer_right in (r.0, r.1, r.2)

  -- "An answer 'over' means that every strong plan from the start costs more than the limit".
  pub over_means_above-limit : (c : ℕ) → answer t ps budget limit s ≡ over c → (q : Plan) → Strong (system t) q s → limit < cost (system t) q
  over_means_above-limit c e = let r = rw e at answer_right in r.0

  -- "'spent' that every one costs at least the round reported"; and the whole budget was used.
  pub spent_means_at_least : (d c : ℕ) → answer t ps budget limit s ≡ spent d c → ((q : Plan) → Strong (system t) q s → d ≤ cost (system t) q) × (c ≡ budget)
  spent_means_at_least d c e = let r = rw e at answer_right in (r.0, r.2)

  -- "'none' that there is none"; and nothing was examined.
  pub none_means_no_plan : (c : ℕ) → answer t ps budget limit s ≡ none c → ((q : Plan) → Strong (system t) q s → ⊥) × (c ≡ 0)
  none_means_no_plan c e = rw e at answer_right

  -- A found plan passes the plan check with the cost reported and its length, if the limit is at most the moves that the check allows.
  pub found_passes : (most : ℕ) → limit ≤ most → length t.actions ≤ 254 → (p : Plan) (d c : ℕ) → answer t ps budget limit s ≡ found p d c → check_plan (system t) most s (encode p) ≡ passed d (length (encode p))
  unfolding system
  found_passes most l few p d c e = let r = rw e at answer_right in
      rw (← r.1) (cheap_passed (system t) most few (task_filled t w) (task_invariant t w).weight_positive p s r.0 (omega (arith, r.1, r.3)))

-- The plan found does not depend on the patterns, nor on budget or limit: two searches that find, find the same plan at the same cost.
pub found_plan_unique : (t : Task) → WellFormed t → (ps qs : List (List ℕ)) → Additive t ps → Additive t qs → (b l b' l' : ℕ) (s : List ℕ) → State t s → (p p' : Plan) (d d' c c' : ℕ) →
    answer t ps b l s ≡ found p d c → answer t qs b' l' s ≡ found p' d' c' → (p ≡ p') × (d ≡ d')
found_plan_unique t w ps qs A A' b l b' l' s o p p' d d' c c' e e' =
    found_same_plan (system t) s b l b' l' p p' d d' c c' (rw e at (answer_right t w ps A b l s o)) (rw e' at (answer_right t w qs A' b' l' s o))
