-- An examination makes the same examinations whatever the count it begins with, as long as the budget reaches: begun at another count it
-- ends alike, with its count moved by as much. So a failure that is known holds at every count, and so does a success. Assumes nothing.
use mathlib.Core.Path.{◌≡◌, ap}
use mathlib.Core.Bool.{Bool, true, false, not, ◌&&◌}
use mathlib.Core.List.{List, [], ◌∷◌}
use Prim.Native.Nat.{ℕ, zero, suc, ◌+◌, ◌-◌, ◌≤◌, ◌<◌}
use native.Mathlib.Omega.{arith}
use lib.Dec.{T, leb, eqb, eqb→eq}
use Rattle.planning.specs.Finite.{choose}
use Rattle.planning.specs.Extended.{ℕ∞, ◌≤?◌}
use Rattle.planning.specs.System.{System, applies}
use Rattle.planning.specs.Plan.{Plan, arrived, act, done, ◌then◌}
use Rattle.planning.specs.Search.{Result, succeeded, failed, stopped, and_then, or_else, examine_outcomes, try_actions, try_action, examine, examine_with, examination}
use Rattle.planning.proofs.Test.{by_test}
use Rattle.planning.proofs.Budget.{count_of, then_grows, else_grows, outcomes_grow, actions_grow, try_grows, made_counts, count_grows, at_budget_stops}

-- The first result, begun at count c, and the second, begun at count c', of the same run: both end alike after equally many examinations,
-- unless the first is stopped, or makes more than the budget b leaves to the second.
data Moved {A : Type 0} (b c c' : ℕ) : Result A → Result A → Type 0 where
  moved_success : (a : A) (x y : ℕ) → x + c' ≡ y + c → Moved b c c' (succeeded a x) (succeeded a y)
  moved_failure : (x y : ℕ) → x + c' ≡ y + c → Moved b c c' (failed x) (failed y)
  was_stopped : (x : ℕ) (q : Result A) → Moved b c c' (stopped x) q
  too_long : (r q : Result A) → b + c < count_of r + c' → Moved b c c' r q

module _ {A : Type 0} (b : ℕ) where
  -- What was moved by as much before it was begun is moved by as much from the beginning.
  moved_since : (c c' x y : ℕ) → x + c' ≡ y + c → {r q : Result A} → Moved b x y r q → Moved b c c' r q
  moved_since c c' x y e (moved_success a m n k) = moved_success a m n (omega (arith, e, k))
  moved_since c c' x y e (moved_failure m n k) = moved_failure m n (omega (arith, e, k))
  moved_since c c' x y e (was_stopped m q) = was_stopped m q
  moved_since c c' x y e (too_long r q l) = too_long r q (omega (arith, e, l))

  moved_choose : (c c' : ℕ) (t : Bool) (j k j' k' : Unit {0} → Result A) → (T t → Moved b c c' (j tt) (j' tt)) → (T (not t) → Moved b c c' (k tt) (k' tt)) → Moved b c c' (choose t j k) (choose t j' k')
  unfolding choose
  moved_choose c c' true j k j' k' f g = f tt
  moved_choose c c' false j k j' k' f g = g tt

  moved_else : (c c' : ℕ) {r q : Result A} (k : ℕ → Result A) → Moved b c c' r q → ((x : ℕ) → x ≤ count_of (k x)) → ((x y : ℕ) → Moved b x y (k x) (k y)) → Moved b c c' (or_else r k) (or_else q k)
  unfolding or_else
  moved_else c c' k (moved_success a x y e) g f = moved_success a x y e
  moved_else c c' k (moved_failure x y e) g f = moved_since c c' x y e (f x y)
  moved_else c c' k (was_stopped x q) g f = was_stopped x (or_else q k)
  moved_else c c' k (too_long r q l) g f = too_long (or_else r k) (or_else q k) (omega (arith, l, else_grows r k g))

moved_then : {A B : Type 0} (b c c' : ℕ) {r q : Result A} (k : A → ℕ → Result B) → Moved b c c' r q → ((a : A) (x : ℕ) → x ≤ count_of (k a x)) → ((a : A) (x y : ℕ) → Moved b x y (k a x) (k a y)) → Moved b c c' (and_then r k) (and_then q k)
unfolding and_then
moved_then b c c' k (moved_success a x y e) g f = moved_since b c c' x y e (f a x y)
moved_then b c c' k (moved_failure x y e) g f = moved_failure x y e
moved_then b c c' k (was_stopped x q) g f = was_stopped x (and_then q k)
moved_then b c c' k (too_long r q l) g f = too_long (and_then r k) (and_then q k) (omega (arith, l, then_grows r k g))

moved_outcomes : {S : Type 0} (b : ℕ) (r : S → ℕ → Result Plan) → ((x : S) (c : ℕ) → c ≤ count_of (r x c)) → ((x : S) (c c' : ℕ) → Moved b c c' (r x c) (r x c')) → (xs : List S) (c c' : ℕ) → Moved b c c' (examine_outcomes r xs c) (examine_outcomes r xs c')
unfolding examine_outcomes
moved_outcomes b r g h [] c c' = moved_success done c c' (omega arith)
moved_outcomes b r g h (x ∷ xs) c c' = moved_then b c c' _ (h x c c')
    (λ p c₁. omega (arith, outcomes_grow r g xs c₁, then_grows (examine_outcomes r xs c₁) (λ ps c₂. succeeded (p then ps) c₂) (λ ps c₂. omega arith)))
    (λ p c₁ c₂. moved_then b c₁ c₂ _ (moved_outcomes b r g h xs c₁ c₂) (λ ps x₁. omega arith) (λ ps x₁ y₁. moved_success (p then ps) x₁ y₁ (omega arith)))

moved_actions : (b : ℕ) (t : ℕ → ℕ → Result Plan) → ((m c : ℕ) → c ≤ count_of (t m c)) → ((m c c' : ℕ) → Moved b c c' (t m c) (t m c')) → (k n c c' : ℕ) → Moved b c c' (try_actions t k n c) (try_actions t k n c')
unfolding try_actions
moved_actions b t g h k zero c c' = moved_failure c c' (omega arith)
moved_actions b t g h k (suc n) c c' = moved_else b c c' _ (h k c c') (λ x. actions_grow t g (suc k) n x) (λ x y. moved_actions b t g h (suc k) n x y)

module _ {S : Type 0} (Y : System S) (h : S → ℕ∞) (b : ℕ) where
  -- Where neither count is the budget, both runs take the same way.
  moved_within : (r : ℕ → S → ℕ → Result Plan) → ((d : ℕ) (x : S) (c : ℕ) → c ≤ count_of (r d x c)) → ((d : ℕ) (x : S) (c c' : ℕ) → Moved b c c' (r d x c) (r d x c')) → (d : ℕ) (s : S) (c c' : ℕ) → eqb c b ≡ false → eqb c' b ≡ false → Moved b c c' (examine Y h b r d s c) (examine Y h b r d s c')
  unfolding examine try_action
  moved_within r g z d s c c' e e' = rw (e, e') (moved_choose b c c' false _ _ _ _ (λ t. absurd t)
      (λ t. moved_choose b c c' (Y.goal s) _ _ _ _ (λ t. moved_success arrived (suc c) (suc c') (omega arith))
      (λ t. moved_choose b c c' (h s ≤? d) _ _ _ _
      (λ t. moved_choose b c c' (eqb d 0) _ _ _ _ (λ t. moved_failure (suc c) (suc c') (omega arith))
      (λ t. moved_since b c c' (suc c) (suc c') (omega arith) (moved_actions b (try_action Y h b r d s) (try_grows Y h b r g d s)
      (λ m x y. moved_choose b x y (applies Y m s && leb (Y.weight m) d) _ _ _ _
      (λ t. moved_then b x y _ (moved_outcomes b (r (d - Y.weight m)) (g (d - Y.weight m)) (z (d - Y.weight m)) (Y.successors m s) x y) (λ ps x₁. omega arith) (λ ps x₁ y₁. moved_success (act m ps) x₁ y₁ (omega arith)))
      (λ t. moved_failure x y (omega arith)))
      0 Y.actions (suc c) (suc c'))))
      (λ t. moved_failure (suc c) (suc c') (omega arith)))))

  moved_examine : (r : ℕ → S → ℕ → Result Plan) → ((d : ℕ) (x : S) (c : ℕ) → c ≤ count_of (r d x c)) → ((d : ℕ) (x : S) (c c' : ℕ) → Moved b c c' (r d x c) (r d x c')) → (d : ℕ) (s : S) (c c' : ℕ) → Moved b c c' (examine Y h b r d s c) (examine Y h b r d s c')
  moved_examine r g z d s c c' = by_test (eqb c b)
      (λ e. rw (at_budget_stops Y h b r d s c (rw e tt)) (was_stopped c _))
      (λ e. by_test (eqb c' b)
      (λ e'. too_long _ _ (omega (arith, eqb→eq c' b (rw e' tt), made_counts Y h b r g d s c (rw e tt))))
      (λ e'. moved_within r g z d s c c' e e'))

  examination_moves : (f d : ℕ) (s : S) (c c' : ℕ) → Moved b c c' (examine_with Y h b f d s c) (examine_with Y h b f d s c')
  unfolding examine_with
  examination_moves zero d s c c' = moved_failure c c' (omega arith)
  examination_moves (suc f) d s c c' = moved_examine (examine_with Y h b f) (count_grows Y h b f) (examination_moves f) d s c c'

failure_moves : {A : Type 0} (b c c' k : ℕ) {r q : Result A} → Moved b c c' r q → r ≡ failed (c + k) → c' + k ≤ b → q ≡ failed (c' + k)
failure_moves b c c' k (moved_success a x y e) w l = let z : ◌≡◌ {A = ℕ} 0 1 = cc in absurd (omega arith)
failure_moves b c c' k (moved_failure x y e) w l = let z : x ≡ c + k = ap count_of w in let v : y ≡ c' + k = omega (arith, e, z) in cc
failure_moves b c c' k (was_stopped x q) w l = let z : ◌≡◌ {A = ℕ} 0 1 = cc in absurd (omega arith)
failure_moves b c c' k (too_long r q n) w l = let z : count_of r ≡ c + k = ap count_of w in absurd (omega (arith, n, z, l))

-- An examination that fails after k examinations fails after k examinations at every count that leaves so many.
pub failed_anywhere : {S : Type 0} (Y : System S) (h : S → ℕ∞) (budget d : ℕ) (s : S) (c k c' : ℕ) → examination Y h budget d s c ≡ failed (c + k) → c' + k ≤ budget → examination Y h budget d s c' ≡ failed (c' + k)
unfolding examination
failed_anywhere Y h budget d s c k c' e l = failure_moves budget c c' k (examination_moves Y h budget (suc d) d s c c') e l

success_moves : {A : Type 0} (b c c' k : ℕ) (a : A) {r q : Result A} → Moved b c c' r q → r ≡ succeeded a (c + k) → c' + k ≤ b → q ≡ succeeded a (c' + k)
success_moves b c c' k a (moved_success a' x y e) w l = let z : x ≡ c + k = ap count_of w in let v : y ≡ c' + k = omega (arith, e, z) in cc
success_moves b c c' k a (moved_failure x y e) w l = let z : ◌≡◌ {A = ℕ} 0 1 = cc in absurd (omega arith)
success_moves b c c' k a (was_stopped x q) w l = let z : ◌≡◌ {A = ℕ} 0 1 = cc in absurd (omega arith)
success_moves b c c' k a (too_long r q n) w l = let z : count_of r ≡ c + k = ap count_of w in absurd (omega (arith, n, z, l))

-- An examination that succeeds after k examinations succeeds with the same plan after k examinations at every count that leaves so many.
pub succeeded_anywhere : {S : Type 0} (Y : System S) (h : S → ℕ∞) (budget d : ℕ) (s : S) (p : Plan) (c k c' : ℕ) → examination Y h budget d s c ≡ succeeded p (c + k) → c' + k ≤ budget → examination Y h budget d s c' ≡ succeeded p (c' + k)
unfolding examination
succeeded_anywhere Y h budget d s p c k c' e l = success_moves budget c c' k p (examination_moves Y h budget (suc d) d s c c') e l
