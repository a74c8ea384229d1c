-- The canonical plan within a depth: at each state the lowest action that leads to a plan within the depth left. It is a strong plan
-- wherever there is one, and it is what every examination finds (Search, examination-settles), whatever the estimate. Assumes nothing.
use mathlib.Core.Path.{◌≡◌, ◌∙◌}
use mathlib.Core.Bool.{Bool, ◌&&◌}
use mathlib.Core.List.{List, [], ◌∷◌}
use Prim.Native.Nat.{ℕ, zero, suc, ◌+◌, ◌-◌, ◌≤◌, ◌<◌}
use native.Mathlib.Omega.{arith}
use lib.Dec.{T, leb, leb→le}
use Rattle.planning.specs.Finite.{choose, every, any_from}
use Rattle.planning.specs.System.{System, applies}
use Rattle.planning.specs.Plan.{Plan, arrived, act, Plans, done, ◌then◌, Strong, Strongs, cost, costs}
use Rattle.planning.proofs.Test.{and_l, and_r, by_test, choose_true, choose_false}
use Rattle.planning.proofs.System.{solves, solvable}

unfoldable pub plans_by : {S : Type 0} → (S → Plan) → List S → Plans
plans_by r [] = done
plans_by r (x ∷ xs) = r x then plans_by r xs

-- The plan of the first of the n actions k, k + 1, ... that passes the test; `arrived` where none does.
unfoldable pub first_action : (ℕ → Bool) → (ℕ → Plan) → ℕ → ℕ → Plan
first_action t plan k zero = arrived
first_action t plan k (suc n) = choose (t k) (λ u. plan k) (λ u. first_action t plan (suc k) n)

pub first_action_lem : (t : ℕ → Bool) (plan : ℕ → Plan) (k n : ℕ) → T (any_from k n t) → (m : ℕ) × (m < k + n) × T (t m) × (first_action t plan k n ≡ plan m)
unfolding first_action
first_action_lem t plan k zero u = absurd u
first_action_lem t plan k (suc n) u = by_test (t k)
    (λ e. (k, omega arith, rw e tt, choose_true (t k) _ _ (rw e tt)))
    (λ e. let a = first_action_lem t plan (suc k) n (rw e at u) in (a.0, omega (arith, a.1), a.2, choose_false (t k) _ _ (rw e tt) ∙ a.3))

module _ {S : Type 0} (Y : System S) where
  -- The action leads from s to plans within d, seen in f rounds.
  abbrev pub leads : ℕ → ℕ → S → ℕ → Bool
  leads f d s m = applies Y m s && (leb (Y.weight m) d && every (solvable Y f (d - Y.weight m)) (Y.successors m s))

  unfoldable pub canonical : ℕ → ℕ → S → Plan
  canonical zero d s = arrived
  canonical (suc f) d s = choose (Y.goal s) (λ u. arrived)
      (λ u. first_action (leads f d s) (λ m. act m (plans_by (canonical f (d - Y.weight m)) (Y.successors m s))) 0 Y.actions)

  plans_strong : (e : ℕ) (r : S → Bool) (plan : S → Plan) → ((x : S) → T (r x) → Strong Y (plan x) x × (cost Y (plan x) ≤ e)) → (xs : List S) → T (every r xs) → Strongs Y (plans_by plan xs) xs × (costs Y (plans_by plan xs) ≤ e)
  unfolding plans_by cost Strong
  plans_strong e r plan h [] t = (tt, omega arith)
  plans_strong e r plan h (x ∷ xs) t =
      let a = h x (and_l (r x) (every r xs) t) in
      let b = plans_strong e r plan h xs (and_r (r x) (every r xs) t) in
      ((a.0, b.0), omega arith)

  pub canonical_strong : (f d : ℕ) (s : S) → T (solvable Y f d s) → Strong Y (canonical f d s) s × (cost Y (canonical f d s) ≤ d)
  unfolding solvable solves canonical cost Strong
  canonical_strong zero d s t = absurd t
  canonical_strong (suc f) d s t = by_test (Y.goal s)
      (λ e. rw (choose_true (Y.goal s) (λ u. arrived) (λ u. first_action (leads f d s) (λ m. act m (plans_by (canonical f (d - Y.weight m)) (Y.successors m s))) 0 Y.actions) (rw e tt)) (rw e tt, omega arith))
      (λ e. let a = first_action_lem (leads f d s) (λ m. act m (plans_by (canonical f (d - Y.weight m)) (Y.successors m s))) 0 Y.actions (rw e at t) in
      rw (choose_false (Y.goal s) (λ u. arrived) (λ u. first_action (leads f d s) (λ m. act m (plans_by (canonical f (d - Y.weight m)) (Y.successors m s))) 0 Y.actions) (rw e tt), a.3) (taken a.0 a.1 a.2 (canonical_strong f (d - Y.weight a.0))))
    where
      taken : (m : ℕ) → m < 0 + Y.actions → T (leads f d s m) → ((x : S) → T (solvable Y f (d - Y.weight m) x) → Strong Y (canonical f (d - Y.weight m) x) x × (cost Y (canonical f (d - Y.weight m) x) ≤ d - Y.weight m)) →
          Strong Y (act m (plans_by (canonical f (d - Y.weight m)) (Y.successors m s))) s × (cost Y (act m (plans_by (canonical f (d - Y.weight m)) (Y.successors m s))) ≤ d)
      taken m l c h = let b = and_r (applies Y m s) _ c in
          let w : Y.weight m ≤ d = leb→le (Y.weight m) d (and_l (leb (Y.weight m) d) _ b) in
          let p = plans_strong (d - Y.weight m) (solvable Y f (d - Y.weight m)) (canonical f (d - Y.weight m)) h (Y.successors m s) (and_r (leb (Y.weight m) d) _ b) in
          ((omega arith, and_l (applies Y m s) _ c, p.0), omega arith)
