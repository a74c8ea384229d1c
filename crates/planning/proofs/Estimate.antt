-- Laws of estimates: over any system, a consistent one is admissible and the larger of two is consistent; of a task, the sum of costs of
-- abstractions is consistent where an action's charges to the patterns are within its weight, so for additive patterns. Assumes nothing.
use mathlib.Core.Path.{◌≡◌, refl, ap}
use mathlib.Core.Logic.{inl, inr}
use mathlib.Core.Bool.{true, false, not, cond}
use mathlib.Core.List.{List, [], ◌∷◌, ◌++◌}
use Prim.Native.Nat.{ℕ, suc, ◌≤◌, ◌<◌}
use native.Mathlib.Omega.{arith}
use lib.Dec.{T}
use lib.ListN.{length}
use Rattle.planning.specs.Finite.{All, Some}
use Rattle.planning.specs.Extended.{ℕ∞, fin, inf, ◌≤?◌, ◌≤∞◌, max∞, add∞, sum∞}
use Rattle.planning.specs.System.{System, applies, bellman, IsCost, Invariant}
use Rattle.planning.specs.Plan.{Plan, arrived, act, Plans, done, ◌then◌, Strong, Strongs, cost, costs}
use Rattle.planning.specs.Estimate.{Consistent, Admissible}
use Rattle.planning.specs.Task.{Action, Task, apply, permits, action_at, no_action, system, State, WellFormed}
use Rattle.planning.specs.Pattern.{project, mask_action, abstraction, AbstractState, affects_pattern, affected_from, Additive}
use Rattle.planning.specs.Table.{entry_at, table, tables, value, estimate, Small, most_weight}
use Rattle.planning.proofs.Test.{and_l, by_test}
use Rattle.planning.proofs.Finite.{all_imp, all_at, some_imp, some_all, some_map, some_unmap}
use Rattle.planning.proofs.Extended.{mono?, weaken, add_up, le∞_refl, le∞_trans, max∞_left, max∞_right, max∞_case, add∞_mono, charge_mono, add∞-zero}
use Rattle.planning.proofs.Sum.{Step, charges, Every, One, sum_one}
use Rattle.planning.proofs.System.{cost_is_fixed_point}
use Rattle.planning.proofs.Task.{action_well_formed, task_invariant, task_filled}
use Rattle.planning.proofs.Projection.{projection_goal, projection_step}
use Rattle.planning.proofs.Pattern.{unaffected, project_state, action_masked, abstraction_invariant, projection}
use Rattle.planning.proofs.Table.{table_is_cost, value_of_built}

module _ {S : Type 0} (Y : System S) (Ok : S → Type 0) (I : Invariant Y Ok) (h : S → ℕ∞) (C : Consistent Y Ok h) where
  -- A consistent estimate is at most the cost of any strong plan.
  mutual
    unfolding Strong Strongs cost costs

    estimate-below_plan : (p : Plan) (s : S) → Ok s → Strong Y p s → T (h s ≤? cost Y p)
    estimate-below_plan arrived s o q = rw (C.at_goal_lem s o q) tt
    estimate-below_plan (act m ps) s o q = let a = some_all (Y.successors m s) (C.step m s q.0 o q.1) (estimate-below_plans ps (Y.successors m s) (I.closed m s q.0 o q.1) q.2) in
        add_up (h s) (Y.weight m) (h a.0) (costs Y ps) a.1 a.2

    estimate-below_plans : (ps : Plans) (xs : List S) → All Ok xs → Strongs Y ps xs → All (λ x. T (h x ≤? costs Y ps)) xs
    estimate-below_plans done [] o q = tt
    estimate-below_plans done (x ∷ xs) o q = absurd q
    estimate-below_plans (p then ps) [] o q = tt
    estimate-below_plans (p then ps) (x ∷ xs) o q = (mono? (h x) (cost Y p) _ (omega arith) (estimate-below_plan p x o.0 q.0), weaken h (costs Y ps) _ xs (omega arith) (estimate-below_plans ps xs o.1 q.1))

  pub consistent_admissible : Admissible Y Ok h
  consistent_admissible = estimate-below_plan

-- Where an admissible estimate is infinite there is no strong plan.
pub infinite_means_none : {S : Type 0} (Y : System S) (Ok : S → Type 0) (h : S → ℕ∞) → Admissible Y Ok h → (s : S) → Ok s → h s ≡ inf → (p : Plan) → Strong Y p s → ⊥
infinite_means_none Y Ok h A s o e p q = rw e at (A p s o q)

-- The larger of two consistent estimates is consistent.
pub max_consistent : {S : Type 0} (Y : System S) (Ok : S → Type 0) (f g : S → ℕ∞) → Consistent Y Ok f → Consistent Y Ok g → Consistent Y Ok (λ s. max∞ (f s) (g s))
unfolding max∞
max_consistent Y Ok f g F G = record {
  at_goal_lem = λ s o t. rw (F.at_goal_lem s o t, G.at_goal_lem s o t);
  step = λ m s l o a. max∞_case (f s) (g s)
      (λ k. some_imp (λ x z. le∞_trans _ _ _ k (le∞_trans _ _ _ z (add∞_mono (Y.weight m) _ _ (max∞_left (f x) (g x))))) (Y.successors m s) (F.step m s l o a))
      (λ k. some_imp (λ x z. le∞_trans _ _ _ k (le∞_trans _ _ _ z (add∞_mono (Y.weight m) _ _ (max∞_right (f x) (g x))))) (Y.successors m s) (G.step m s l o a));
}

-- What does not change is charged nothing.
same_charged_nothing : (x y : ℕ∞) → x ≡ y → y ≤∞ add∞ (fin 0) x
same_charged_nothing x y e = rw (add∞-zero x, e) (le∞_refl y)

-- Components x of an estimate, each with a pattern and costs of its abstract states; the part of the estimate that a component gives.
module _ (t : Task) {X : Type 0} (pat : X → List ℕ) (c : X → List ℕ → ℕ∞) where
  abbrev pub part : X → List ℕ → ℕ∞
  part x s = c x (project (pat x) s)

  -- The charges of an action to the components: each component keeps to its charge, for every outcome or, one at most, for some outcome,
  -- and the charges together are within the action's weight.
  pub record Charged (m : ℕ) (s : List ℕ) (xs : List X) : Type 0 where
    pub charge : X → ℕ
    pub keep_to_charges : One (λ x. part x s) (λ x e. part x (apply e s)) charge (action_at t m).outcomes xs
    pub within_weight : charges (λ x. part x s) (λ x e. part x (apply e s)) charge (action_at t m).outcomes xs ≤ (action_at t m).weight

-- Each component has weights of its own, and its costs are those of the abstraction at these weights.
module _ (t : Task) (w : WellFormed t) {X : Type 0} (pat : X → List ℕ) (q : X → Action → ℕ) (positive : (x : X) → All (λ a. 1 ≤ q x a) t.actions)
    (c : X → List ℕ → ℕ∞) (costed : (x : X) (s : List ℕ) → AbstractState t (pat x) s → IsCost (system (abstraction (pat x) (q x) t)) s (c x s)) where
  part_fixed : (x : X) (s : List ℕ) → AbstractState t (pat x) s → c x s ≡ bellman (system (abstraction (pat x) (q x) t)) (c x) s
  part_fixed x = cost_is_fixed_point (system (abstraction (pat x) (q x) t)) (AbstractState t (pat x)) (abstraction_invariant t w (pat x) (q x) (positive x)) (c x) (costed x)

  -- A component is 0 at a goal.
  pub part_goal : (x : X) (s : List ℕ) → State t s → T ((system t).goal s) → part t pat c x s ≡ fin 0
  part_goal x s o g = projection_goal (system t) (system (abstraction (pat x) (q x) t)) (project (pat x)) (projection t (pat x) (q x)) (AbstractState t (pat x)) (c x) (part_fixed x) s (project_state t w (pat x) s o) g

  module _ (m : ℕ) (s : List ℕ) (l : m < length t.actions) (o : State t s) (a : T (applies (system t) m s)) where
    -- Under an action that applies, some outcome lowers a component by at most its own weight of the action.
    pub part_step : (x : X) → Some (λ e. part t pat c x s ≤∞ add∞ (fin (q x (action_at t m))) (part t pat c x (apply e s))) (action_at t m).outcomes
    unfolding system mask_action
    part_step x = some_unmap _ (λ e. apply e s) (action_at t m).outcomes (rw (ap (λ k. k.weight) (action_masked (pat x) (q x) t m l)) at
        (projection_step (system t) (system (abstraction (pat x) (q x) t)) (project (pat x)) (projection t (pat x) (q x)) (AbstractState t (pat x)) (c x) (part_fixed x) m s l (project_state t w (pat x) s o) a (task_filled t w m s l)))

    -- An action that does not affect the pattern leaves the component as it is, whatever the outcome.
    pub part_unaffected : (x : X) → T (not (affects_pattern (action_at t m) (pat x))) → All (λ e. part t pat c x s ≤∞ add∞ (fin 0) (part t pat c x (apply e s))) (action_at t m).outcomes
    unfolding applies system
    part_unaffected x n = all_imp (λ e k. same_charged_nothing _ _ (ap (c x) k)) (action_at t m).outcomes
        (unaffected (action_at t m) (pat x) s (and_l (permits (action_at t m) s) _ a) n)

  sum_goal : (s : List ℕ) → State t s → T ((system t).goal s) → (xs : List X) → sum∞ (λ x. part t pat c x s) xs ≡ fin 0
  unfolding add∞
  sum_goal s o g [] = refl
  sum_goal s o g (x ∷ xs) = rw (part_goal x s o g, sum_goal s o g xs)

  -- Where every action that applies is charged so, the sum of the components is consistent.
  pub sum_consistent : (xs : List X) → ((m : ℕ) (s : List ℕ) → m < length t.actions → State t s → T (applies (system t) m s) → Charged t pat c m s xs) →
      Consistent (system t) (State t) (λ s. sum∞ (λ x. part t pat c x s) xs)
  unfolding system
  sum_consistent xs h = record {
    at_goal_lem = λ s o g. sum_goal s o g xs;
    step = λ m s l o a. let k = h m s l o a in
        some_map (λ y. sum∞ (λ x. part t pat c x s) xs ≤∞ add∞ (fin (action_at t m).weight) (sum∞ (λ x. part t pat c x y) xs)) (λ e. apply e s) (action_at t m).outcomes
        (some_imp (λ e b. charge_mono _ _ _ _ k.within_weight b) (action_at t m).outcomes
        (sum_one (λ x. part t pat c x s) (λ x e. part t pat c x (apply e s)) k.charge (action_at t m).outcomes xs (action_well_formed t w m l).some_outcome k.keep_to_charges));
  }

-- Additive patterns: an action is charged in full to the pattern that it affects, and nothing to the others.
module _ (t : Task) (w : WellFormed t) where
  weights_positive : All (λ a. 1 ≤ a.weight) t.actions
  weights_positive = all_imp (λ a k. k.weight_positive) t.actions w.actions_well_formed

  -- The entries of a pattern are the costs of its abstraction.
  abbrev of_pattern : List ℕ → List ℕ → ℕ∞
  of_pattern p s = entry_at t.sizes p (table t p) s

  entries_are_costs : (p s : List ℕ) → AbstractState t p s → IsCost (system (abstraction p (λ a. a.weight) t)) s (of_pattern p s)
  unfolding table
  entries_are_costs p = table_is_cost t p (λ a. a.weight) w weights_positive

  module _ (m : ℕ) (s : List ℕ) (l : m < length t.actions) (o : State t s) (a : T (applies (system t) m s)) where
    -- What a pattern is charged; what it says of the state, and of the state after an outcome; and that it keeps to its charge.
    charge : List ℕ → ℕ
    charge p = cond (affects_pattern (action_at t m) p) (action_at t m).weight 0

    abbrev now : List ℕ → ℕ∞
    now p = of_pattern p (project p s)

    abbrev after : List ℕ → List ℕ → ℕ∞
    after p e = of_pattern p (project p (apply e s))

    affected_keeps : (p : List ℕ) → affects_pattern (action_at t m) p ≡ true → Some (Step now after charge (action_at t m).outcomes p) (action_at t m).outcomes
    unfolding charge
    affected_keeps p e = some_imp (λ x k. rw e k) (action_at t m).outcomes (part_step t w (λ p. p) (λ p a. a.weight) (λ p. weights_positive) of_pattern entries_are_costs m s l o a p)

    unaffected_keeps : (p : List ℕ) → affects_pattern (action_at t m) p ≡ false → All (Step now after charge (action_at t m).outcomes p) (action_at t m).outcomes
    unfolding charge
    unaffected_keeps p e = all_imp (λ x k. rw e k) (action_at t m).outcomes (part_unaffected t w (λ p. p) (λ p a. a.weight) (λ p. weights_positive) of_pattern entries_are_costs m s l o a p (rw e tt))

    -- No pattern affected, and at most one; k is the number of the first.
    none_charged : (k : ℕ) (ps : List (List ℕ)) → length (affected_from k ps (action_at t m)) ≤ 0 →
        Every now after charge (action_at t m).outcomes ps × (charges now after charge (action_at t m).outcomes ps ≡ 0)
    unfolding charge affected_from
    none_charged k [] h = (tt, refl)
    none_charged k (p ∷ ps) h = by_test (affects_pattern (action_at t m) p)
        (λ e. let n : suc (length (affected_from (suc k) ps (action_at t m))) ≤ 0 = rw e at h in absurd (omega arith))
        (λ e. let r = none_charged (suc k) ps (rw e at h) in ((unaffected_keeps p e, r.0), rw (e, r.1)))

    one_charged : (k : ℕ) (ps : List (List ℕ)) → length (affected_from k ps (action_at t m)) ≤ 1 →
        One now after charge (action_at t m).outcomes ps × (charges now after charge (action_at t m).outcomes ps ≤ (action_at t m).weight)
    unfolding charge affected_from
    one_charged k [] h = (tt, omega arith)
    one_charged k (p ∷ ps) h = by_test (affects_pattern (action_at t m) p)
        (λ e. let n : suc (length (affected_from (suc k) ps (action_at t m))) ≤ 1 = rw e at h in
        let r = none_charged (suc k) ps (omega arith) in (inr (affected_keeps p e, r.0), rw (e, r.1) (omega arith)))
        (λ e. let r = one_charged (suc k) ps (rw e at h) in (inl (unaffected_keeps p e, r.0), rw e (omega arith)))

  -- The summed estimate of additive patterns is consistent, so admissible, so where it is infinite there is no strong plan (demand 3).
  pub estimate_consistent : (ps : List (List ℕ)) → Additive t ps → Consistent (system t) (State t) (estimate t ps)
  unfolding estimate Additive
  estimate_consistent ps A = sum_consistent t w (λ p. p) (λ p a. a.weight) (λ p. weights_positive) of_pattern entries_are_costs ps
      (λ m s l o a. let r = one_charged m s l o a 0 ps (all_at (λ b. length (affected_from 0 ps b) ≤ 1) t.actions no_action A m l) in
      record { charge = charge m s l o a; keep_to_charges = r.0; within_weight = r.1 })

  pub estimate_admissible : (ps : List (List ℕ)) → Additive t ps → Admissible (system t) (State t) (estimate t ps)
  estimate_admissible ps A = consistent_admissible (system t) (State t) (task_invariant t w) (estimate t ps) (estimate_consistent ps A)

  pub estimate_infinite : (ps : List (List ℕ)) → Additive t ps → (s : List ℕ) → State t s → estimate t ps s ≡ inf → (p : Plan) → Strong (system t) p s → ⊥
  estimate_infinite ps A = infinite_means_none (system t) (State t) (estimate t ps) (estimate_admissible ps A)

  -- The same of the value read from the tables as built, whatever follows them, where patterns are small and actions count 1.
  pub built_value_admissible : (ps : List (List ℕ)) → Additive t ps → Small t ps → All (λ a. a.weight ≤ most_weight) t.actions → (rest : List ℕ) → Admissible (system t) (State t) (value t.sizes ps (tables t ps ++ rest))
  built_value_admissible ps A small unit rest p s o k = rw (value_of_built t s o unit ps small rest) (estimate_admissible ps A p s o k)

  pub built_value_infinite : (ps : List (List ℕ)) → Additive t ps → Small t ps → All (λ a. a.weight ≤ most_weight) t.actions → (rest s : List ℕ) → State t s →
      value t.sizes ps (tables t ps ++ rest) s ≡ inf → (p : Plan) → Strong (system t) p s → ⊥
  built_value_infinite ps A small unit rest = infinite_means_none (system t) (State t) (value t.sizes ps (tables t ps ++ rest)) (built_value_admissible ps A small unit rest)
