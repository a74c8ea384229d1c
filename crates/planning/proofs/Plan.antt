-- The cost of a state is the least cost of a strong plan from it, and infinite exactly where there is none. Assumes nothing.
use mathlib.Core.Path.{◌≡◌, refl}
use mathlib.Core.Logic.{◌↔◌}
use mathlib.Core.List.{List, [], ◌∷◌}
use Prim.Native.Nat.{ℕ, zero, suc, ◌-◌, ◌≤◌, ◌<◌}
use native.Mathlib.Omega.{arith}
use lib.Dec.{T, T_not}
use Rattle.planning.specs.Finite.{every}
use Rattle.planning.specs.Extended.{ℕ∞, inf, ◌≤?◌}
use Rattle.planning.specs.System.{System, applies, IsCost, Invariant}
use Rattle.planning.specs.Plan.{Plan, arrived, act, Plans, done, ◌then◌, Strong, Strongs, cost, costs}
use Rattle.planning.proofs.Test.{bool_iff, and_in, and_r}
use Rattle.planning.proofs.Extended.{mono?}
use Rattle.planning.proofs.System.{solvable, solves_goal, solves_act, cost_solvable}
use Rattle.planning.proofs.Canonical.{canonical, canonical_strong}

module _ {S : Type 0} (Y : System S) where
  -- A state with a strong plan of cost at most d passes the test.
  module _ (positive : (m : ℕ) → m < Y.actions → 1 ≤ Y.weight m) where
    mutual
      unfolding solvable cost Strong

      pub plan_solvable : (p : Plan) (f d : ℕ) (s : S) → d < f → Strong Y p s → cost Y p ≤ d → T (solvable Y f d s)
      plan_solvable arrived zero d s l h c = absurd (omega arith)
      plan_solvable arrived (suc f) d s l h c = solves_goal Y (solvable Y f) d s h
      plan_solvable (act m ps) zero d s l h c = absurd (omega arith)
      plan_solvable (act m ps) (suc f) d s l h c = solves_act Y (solvable Y f) d s m h.0 h.1 (omega arith)
          (plans_solvable ps f (d - Y.weight m) (Y.successors m s) (omega (arith, positive m h.0)) h.2 (omega arith))

      plans_solvable : (ps : Plans) (f d : ℕ) (xs : List S) → d < f → Strongs Y ps xs → costs Y ps ≤ d → T (every (solvable Y f d) xs)
      plans_solvable done f d [] l h c = tt
      plans_solvable done f d (x ∷ xs) l h c = absurd h
      plans_solvable (p then ps) f d [] l h c = tt
      plans_solvable (p then ps) f d (x ∷ xs) l h c = and_in (solvable Y f d x) _ (plan_solvable p f d x l h.0 (omega arith)) (plans_solvable ps f d xs l h.1 (omega arith))

-- The least cost of a strong plan: no strong plan costs less, and every bound from it on has one.
unfoldable pub IsLeast : {S : Type 0} → System S → S → ℕ∞ → Type 0
IsLeast Y s v = ((p : Plan) → Strong Y p s → T (v ≤? cost Y p)) × ((d : ℕ) → T (v ≤? d) → (p : Plan) × Strong Y p s × (cost Y p ≤ d))

module _ {S : Type 0} (Y : System S) (Ok : S → Type 0) (I : Invariant Y Ok) where
  pub cost_is_least : (s : S) → Ok s → (v : ℕ∞) → IsCost Y s v ↔ IsLeast Y s v
  unfolding IsLeast
  cost_is_least s o v = (
    λ c. let h = (cost_solvable Y Ok I s o v).0 c in
        (λ p q. rw (h (cost Y p)) (plan_solvable Y I.weight_positive p (suc (cost Y p)) (cost Y p) s (omega arith) q (omega arith)), λ d t. (canonical Y (suc d) d s, (canonical_strong Y (suc d) d s (rw (h d) at t)).0, (canonical_strong Y (suc d) d s (rw (h d) at t)).1)),
    λ h. (cost_solvable Y Ok I s o v).1 (λ d. bool_iff (v ≤? d) (solvable Y (suc d) d s)
        (λ t. let a = h.1 d t in plan_solvable Y I.weight_positive a.0 (suc d) d s (omega arith) a.1 a.2)
        (λ t. let a = canonical_strong Y (suc d) d s t in mono? v (cost Y (canonical Y (suc d) d s)) d a.1 (h.0 (canonical Y (suc d) d s) a.0))),
  )

  pub cost_infinite_iff_no_plan : (s : S) → Ok s → IsCost Y s inf ↔ ((p : Plan) → Strong Y p s → ⊥)
  unfolding IsLeast
  cost_infinite_iff_no_plan s o = (λ h. ((cost_is_least s o inf).0 h).0, λ h. (cost_is_least s o inf).1 (h, λ d t. absurd t))

-- "at a goal state 254": there a strong plan is nothing else.
pub strong_at_goal : {S : Type 0} (Y : System S) (p : Plan) (s : S) → T (Y.goal s) → Strong Y p s → p ≡ arrived
unfolding Strong applies
strong_at_goal Y arrived s g h = refl
strong_at_goal Y (act m ps) s g h = absurd (T_not (Y.goal s) (and_r (Y.enabled m s) _ h.1) g)
