-- The search: document 01, "Search". Over any system and any estimate h; for a task the estimate is the summed one. Assumes nothing.
use Rattle.std.specs.Prelude.{◌&&◌, List, [], ◌∷◌, ◌++◌, ℕ, zero, suc, ◌-◌, eqb, leb, take, replicate}
use Rattle.planning.specs.Finite.{choose}
use Rattle.planning.specs.Extended.{ℕ∞, fin, inf, ◌≤?◌}
use Rattle.planning.specs.System.{System, applies}
use Rattle.planning.specs.Plan.{Plan, arrived, act, Plans, done, ◌then◌, encode}
use Rattle.planning.specs.Task.{Task, system}
use Rattle.planning.specs.Table.{estimate}

-- How an examination ends, each with the count: "The count in each answer is the one made."
pub data Result (A : Type 0) : Type 0 where
  succeeded : A → ℕ → Result A
  failed : ℕ → Result A
  stopped : ℕ → Result A

unfoldable pub and_then : {A B : Type 0} → Result A → (A → ℕ → Result B) → Result B
and_then (succeeded a c) k = k a c
and_then (failed c) k = failed c
and_then (stopped c) k = stopped c

unfoldable pub or_else : {A : Type 0} → Result A → (ℕ → Result A) → Result A
or_else (succeeded a c) k = succeeded a c
or_else (failed c) k = k c
or_else (stopped c) k = stopped c

-- "A move fails at its first failing outcome and succeeds if all succeed": the states after its outcomes, in order, each examined by r.
unfoldable pub examine_outcomes : {S : Type 0} → (S → ℕ → Result Plan) → List S → ℕ → Result Plans
examine_outcomes r [] c = succeeded done c
examine_outcomes r (x ∷ xs) c = and_then (r x c) (λ p c₁. and_then (examine_outcomes r xs c₁) (λ ps c₂. succeeded (p then ps) c₂))

-- "the first succeeding move wins": the n actions k, k + 1, ..., each tried by t.
unfoldable pub try_actions : (ℕ → ℕ → Result Plan) → ℕ → ℕ → ℕ → Result Plan
try_actions t k zero c = failed c
try_actions t k (suc n) c = or_else (t k c) (λ c₁. try_actions t (suc k) n c₁)

module _ {S : Type 0} (Y : System S) (h : S → ℕ∞) (budget : ℕ) where
  -- "the applying moves are tried by number, their outcomes in order, each examined with d less 1": r examines; an action takes its
  -- weight off the depth, and one that weighs more than the depth is not tried.
  unfoldable pub try_action : (ℕ → S → ℕ → Result Plan) → ℕ → S → ℕ → ℕ → Result Plan
  try_action r d s m c = choose (applies Y m s && leb (Y.weight m) d)
      (λ u. and_then (examine_outcomes (r (d - Y.weight m)) (Y.successors m s) c) (λ ps c₁. succeeded (act m ps) c₁))
      (λ u. failed c)

  -- "If the count equals the budget before an examination, the search ends as spent." "To examine state s with depth d adds 1 to the
  -- count .. then: a goal succeeds; else value above d fails; else d = 0 fails; else the applying moves are tried".
  unfoldable pub examine : (ℕ → S → ℕ → Result Plan) → ℕ → S → ℕ → Result Plan
  examine r d s c = choose (eqb c budget) (λ u. stopped c)
      (λ u. choose (Y.goal s) (λ u. succeeded arrived (suc c))
      (λ u. choose (h s ≤? d)
      (λ u. choose (eqb d 0) (λ u. failed (suc c)) (λ u. try_actions (try_action r d s) 0 Y.actions (suc c)))
      (λ u. failed (suc c))))

  -- The first number is fuel beside the depth; d + 1 is enough for depth d (examination_unfolds).
  unfoldable pub examine_with : ℕ → ℕ → S → ℕ → Result Plan
  examine_with zero d s c = failed c
  examine_with (suc f) d s c = examine (examine_with f) d s c

  unfoldable pub examination : ℕ → S → ℕ → Result Plan
  examination d s c = examine_with (suc d) d s c

-- The answers, each with the count ("The count of examinations is carried in every answer"): found with plan, cost and count; over with
-- the count; spent with round and count; none with the count.
pub data Answer : Type 0 where
  found : Plan → ℕ → ℕ → Answer
  over : ℕ → Answer
  spent : ℕ → ℕ → Answer
  none : ℕ → Answer

-- The count that an answer carries.
abbrev pub answer_count : Answer → ℕ
answer_count (found p d c) = c
answer_count (over c) = c
answer_count (spent d c) = c
answer_count (none c) = c

unfoldable pub end_round : ℕ → Result Plan → (ℕ → Answer) → Answer
end_round d (succeeded p c) next = found p d c
end_round d (failed c) next = next c
end_round d (stopped c) next = spent d c

module _ {S : Type 0} (Y : System S) (h : S → ℕ∞) (budget limit : ℕ) (s : S) where
  -- n rounds from d on: "one more each .. When the last round fails: 'over'. 'spent' reports the d of the round it ended in."
  unfoldable pub rounds : ℕ → ℕ → ℕ → Answer
  rounds zero d c = over c
  rounds (suc n) d c = end_round d (examination Y h budget d s c) (λ c₁. rounds n (suc d) c₁)

  -- "Rounds run d = value of the start, then one more each, up to the limit. An infinite value answers 'none', a value above the limit
  -- 'over', both with count 0."
  unfoldable pub search_from : ℕ∞ → Answer
  search_from inf = none 0
  search_from (fin v) = choose (leb v limit) (λ u. rounds (suc (limit - v)) v 0) (λ u. over 0)

  unfoldable pub search : Answer
  search = search_from (h s)

-- The search of a task with patterns from a state.
unfoldable pub answer : Task → List (List ℕ) → ℕ → ℕ → List ℕ → Answer
answer t ps budget limit s = search (system t) (estimate t ps) budget limit s

-- "A found plan stands at the start of the lent buffer, 255 after it; with any other answer .. the whole buffer holds 255." n is the
-- buffer's length; a found plan that is longer is refusal 11.
unfoldable pub plan_bytes : Answer → List ℕ
plan_bytes (found p d c) = encode p
plan_bytes (over c) = []
plan_bytes (spent d c) = []
plan_bytes (none c) = []

unfoldable pub plan_buffer : ℕ → Answer → List ℕ
plan_buffer n a = take n (plan_bytes a ++ replicate n 255)
