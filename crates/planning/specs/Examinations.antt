-- The examinations that a search makes, in their order over all rounds: what its count counts. Document 01, "Search": "To examine state s
-- with depth d adds 1 to the count, which starts at 0 and runs on over all rounds". Each definition follows the one of Search that it names:
-- it makes the same calls and goes on where that one goes on, and lists what is examined on the way. Assumes nothing.
use Rattle.std.specs.Prelude.{◌&&◌, List, [], ◌∷◌, ◌++◌, ℕ, zero, suc, ◌-◌, eqb, leb}
use Rattle.planning.specs.Finite.{choose}
use Rattle.planning.specs.Extended.{ℕ∞, fin, inf, ◌≤?◌}
use Rattle.planning.specs.System.{System, applies}
use Rattle.planning.specs.Plan.{Plan}
use Rattle.planning.specs.Task.{Task, system}
use Rattle.planning.specs.Table.{estimate}
use Rattle.planning.specs.Search.{Result, succeeded, failed, stopped, try_action, examine_with, examination}

-- One examination: which state, with which depth.
pub record Examined (S : Type 0) : Type 0 where
  pub state : S
  pub depth : ℕ

-- What is listed after a result: andThen goes on after a success, orElse and the rounds after a failure, each from the count reached.
unfoldable pub after_success : {A B : Type 0} → Result A → (ℕ → List B) → List B
after_success (succeeded a c) next = next c
after_success (failed c) next = []
after_success (stopped c) next = []

unfoldable pub after_failure : {A B : Type 0} → Result A → (ℕ → List B) → List B
after_failure (succeeded a c) next = []
after_failure (failed c) next = next c
after_failure (stopped c) next = []

-- Of examine_outcomes, "A move fails at its first failing outcome": r examines an outcome's state, e lists the examinations of that.
unfoldable pub outcomes_examined : {S : Type 0} → (S → ℕ → Result Plan) → (S → ℕ → List (Examined S)) → List S → ℕ → List (Examined S)
outcomes_examined r e [] c = []
outcomes_examined r e (x ∷ xs) c = e x c ++ after_success (r x c) (λ c₁. outcomes_examined r e xs c₁)

-- Of try_actions, "the first succeeding move wins": t tries an action, e lists the examinations of that.
unfoldable pub actions_examined : {S : Type 0} → (ℕ → ℕ → Result Plan) → (ℕ → ℕ → List (Examined S)) → ℕ → ℕ → ℕ → List (Examined S)
actions_examined t e k zero c = []
actions_examined t e k (suc n) c = e k c ++ after_failure (t k c) (λ c₁. actions_examined t e (suc k) n c₁)

module _ {S : Type 0} (Y : System S) (h : S → ℕ∞) (budget : ℕ) where
  -- Of try_action: nothing is examined for an action that does not apply or weighs more than the depth.
  unfoldable pub action_examined : (ℕ → S → ℕ → Result Plan) → (ℕ → S → ℕ → List (Examined S)) → ℕ → S → ℕ → ℕ → List (Examined S)
  action_examined r e d s m c = choose (applies Y m s && leb (Y.weight m) d)
      (λ u. outcomes_examined (r (d - Y.weight m)) (e (d - Y.weight m)) (Y.successors m s) c)
      (λ u. [])

  -- Of examine: none where "the count equals the budget before an examination"; else the state with its depth, then what its actions
  -- examine.
  unfoldable pub state_examined : (ℕ → S → ℕ → Result Plan) → (ℕ → S → ℕ → List (Examined S)) → ℕ → S → ℕ → List (Examined S)
  state_examined r e d s c = choose (eqb c budget) (λ u. [])
      (λ u. record { state = s; depth = d } ∷ choose (Y.goal s) (λ u. [])
      (λ u. choose (h s ≤? d)
      (λ u. choose (eqb d 0) (λ u. []) (λ u. actions_examined (try_action Y h budget r d s) (action_examined r e d s) 0 Y.actions (suc c)))
      (λ u. [])))

  -- Of examine_with, with its fuel, and of examination.
  unfoldable pub examined_with : ℕ → ℕ → S → ℕ → List (Examined S)
  examined_with zero d s c = []
  examined_with (suc f) d s c = state_examined (examine_with Y h budget f) (examined_with f) d s c

  unfoldable pub examined : ℕ → S → ℕ → List (Examined S)
  examined d s c = examined_with (suc d) d s c

module _ {S : Type 0} (Y : System S) (h : S → ℕ∞) (budget limit : ℕ) (s : S) where
  -- Of rounds: a round that fails is followed by the next.
  unfoldable pub rounds_examined : ℕ → ℕ → ℕ → List (Examined S)
  rounds_examined zero d c = []
  rounds_examined (suc n) d c = examined Y h budget d s c ++ after_failure (examination Y h budget d s c) (λ c₁. rounds_examined n (suc d) c₁)

  -- Of search_from: without a round nothing is examined. Of search: from the value of the start.
  unfoldable pub search_examined_from : ℕ∞ → List (Examined S)
  search_examined_from inf = []
  search_examined_from (fin v) = choose (leb v limit) (λ u. rounds_examined (suc (limit - v)) v 0) (λ u. [])

  unfoldable pub search_examined : List (Examined S)
  search_examined = search_examined_from (h s)

-- Of answer: the examinations of a task's search. "The count in each answer is the one made": its length (proofs/Examinations, answer-counts).
unfoldable pub examinations : Task → List (List ℕ) → ℕ → ℕ → List ℕ → List (Examined (List ℕ))
examinations t ps budget limit s = search_examined (system t) (estimate t ps) budget limit s
