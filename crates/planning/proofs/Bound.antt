-- How large a finite cost can be where the valid states are finitely many, so how many rounds of Definition 2.9 are enough; and that
-- the operator lowers no cost below the true one. Over any system. Assumes nothing.
use mathlib.Core.Path.{◌≡◌, ◌∙◌}
use mathlib.Core.Logic.{inl, inr}
use mathlib.Core.Bool.{Bool, true, false, cond}
use mathlib.Core.List.{List, [], ◌∷◌}
use Prim.Native.Nat.{ℕ, zero, suc, ◌+◌, ◌*◌, ◌-◌, ◌≤◌, ◌<◌}
use native.Mathlib.Omega.{arith}
use lib.Dec.{T, ltb, leb→le, le→leb, ltb→lt, nltb→le}
use lib.ListN.{length}
use Rattle.planning.specs.Finite.{Some}
use Rattle.planning.specs.Extended.{ℕ∞, fin, ◌≤?◌, ◌≤∞◌}
use Rattle.planning.specs.System.{System, bellman, iterate, IsCost, cost_within, Invariant}
use Rattle.planning.proofs.Test.{T_true, bool_iff, by_test, false_not_T}
use Rattle.planning.proofs.Finite.{all_of, all_imp, every_imp, every_some}
use Rattle.planning.proofs.Extended.{infinite_below, infinite_above}
use Rattle.planning.proofs.System.{solves, solvable, solves_goal, solves_act, solves_out, bellman_le, solvable_stable, iterate_solvable, cost_solvable, cost_is_fixed_point}

-- More rounds and a larger bound pass where fewer and a smaller do.
pub solvable_mono : {S : Type 0} (Y : System S) (f g d e : ℕ) (s : S) → f ≤ g → d ≤ e → T (solvable Y f d s) → T (solvable Y g e s)
unfolding solvable
solvable_mono Y zero g d e s a b t = absurd t
solvable_mono Y (suc f) zero d e s a b t = absurd (omega arith)
solvable_mono Y (suc f) (suc g) d e s a b t = solves_out Y (solvable Y f) d s t (solves_goal Y (solvable Y g) e s)
    (λ m l c w k. solves_act Y (solvable Y g) e s m l c (omega arith)
    (every_imp (solvable Y f (d - Y.weight m)) (solvable Y g (e - Y.weight m)) (Y.successors m s)
    (all_of (λ x. solvable_mono Y f g (d - Y.weight m) (e - Y.weight m) x (omega arith) (omega arith)) (Y.successors m s)) k))

-- The elements at which a test passes.
abbrev count : {A : Type 0} → (A → Bool) → List A → ℕ
count p [] = 0
count p (x ∷ xs) = cond (p x) 1 0 + count p xs

count_at_most_length : {A : Type 0} (p : A → Bool) (xs : List A) → count p xs ≤ length xs
count_at_most_length p [] = omega arith
count_at_most_length p (x ∷ xs) = by_test (p x)
    (λ e. rw e (omega (arith, count_at_most_length p xs)))
    (λ e. rw e (omega (arith, count_at_most_length p xs)))

module _ {A : Type 0} (p q : A → Bool) (h : (x : A) → T (p x) → T (q x)) where
  cell_mono : (x : A) → cond (p x) 1 0 ≤ cond (q x) 1 0
  cell_mono x = by_test (p x) (λ e. rw (e, T_true (q x) (h x (rw e tt))) (omega arith)) (λ e. rw e (omega arith))

  count_mono : (xs : List A) → count p xs ≤ count q xs
  count_mono [] = omega arith
  count_mono (x ∷ xs) = omega (arith, cell_mono x, count_mono xs)

  -- One element more at which only the weaker test passes makes the count larger.
  count_grows : (xs : List A) (s : A) → Some (λ x. x ≡ s) xs → T (q s) → (T (p s) → ⊥) → count p xs < count q xs
  count_grows [] s e t n = absurd e
  count_grows (x ∷ xs) s (inl e) t n = by_test (p x)
      (λ k. absurd (n (rw (← e, k) tt)))
      (λ k. let j : q x ≡ true = T_true (q x) (rw e t) in rw (k, j) (omega (arith, count_mono xs)))
  count_grows (x ∷ xs) s (inr e) t n = omega (arith, cell_mono x, count_grows xs s e t n)

module _ {S : Type 0} (Y : System S) (Ok : S → Type 0) (I : Invariant Y Ok) where
  -- Whatever the number of rounds, what passes has a cost within the bound.
  pub solvable_within : (f d : ℕ) (s : S) → Ok s → T (solvable Y f d s) → T (solvable Y (suc d) d s)
  solvable_within f d s o t = by_test (ltb d f)
      (λ e. let l : d < f = ltb→lt d f (rw e tt) in rw (solvable_stable Y Ok I (suc d) f d s o (omega arith) l) t)
      (λ e. let l : f ≤ d = nltb→le d f (rw e tt) in solvable_mono Y f (suc d) d d s (omega arith) (omega arith) t)

  -- A list xs covers the valid states.
  module _ (xs : List S) (cover : (s : S) → Ok s → Some (λ x. x ≡ s) xs) where
    -- The number of states in it with a cost of at most d.
    within : ℕ → ℕ
    within d = count (λ x. solvable Y (suc d) d x) xs

    within_mono : (d e : ℕ) → d ≤ e → within d ≤ within e
    unfolding within
    within_mono d e l = count_mono _ _ (λ x. solvable_mono Y (suc d) (suc e) d e x (omega arith) l) xs

    within_grows : (d e : ℕ) (s : S) → d ≤ e → Ok s → T (solvable Y (suc e) e s) → (T (solvable Y (suc d) d s) → ⊥) → within d < within e
    unfolding within
    within_grows d e s l o t n = count_grows _ _ (λ x. solvable_mono Y (suc d) (suc e) d e x (omega arith) l) xs s (cover s o) t n

    within_positive : (e : ℕ) (s : S) → Ok s → T (solvable Y (suc e) e s) → 0 < within e
    unfolding within
    within_positive e s o t = omega (arith, count_grows (λ x. false) (λ x. solvable Y (suc e) e x) (λ x z. absurd z) xs s (cover s o) t (λ z. z))

    -- The rounds needed to see a cost of at most d are at most the number of states with such a cost.
    rounds_at_most_states : (n d : ℕ) (s : S) → d < n → Ok s → T (solvable Y (suc d) d s) → T (solvable Y (within d) d s)
    unfolding solvable
    rounds_at_most_states zero d s l o t = absurd (omega arith)
    rounds_at_most_states (suc n) d s l o t = solves_out Y (solvable Y d) d s t
        (λ g. solvable_mono Y 1 (within d) d d s (within_positive d s o t) (omega arith) (solves_goal Y (solvable Y 0) d s g))
        (λ m k c w a. let e = d - Y.weight m in let w₁ : 1 ≤ Y.weight m = I.weight_positive m k in by_test (solvable Y (suc e) e s)
        (λ z. solvable_mono Y (within e) (within d) e d s (within_mono e d (omega arith)) (omega arith) (rounds_at_most_states n e s (omega arith) o (rw z tt)))
        (λ z. solvable_mono Y (suc (within e)) (within d) d d s (within_grows e d s (omega arith) o t (false_not_T z)) (omega arith)
        (solves_act Y (solvable Y (within e)) d s m k c w (every_imp (solvable Y d e) (solvable Y (within e) e) (Y.successors m s)
        (all_imp (λ x u y. rounds_at_most_states n e x (omega arith) u (solvable_within d e x u y)) (Y.successors m s) (I.closed m s k o c)) a))))

    pub states_many_rounds : (f d : ℕ) (s : S) → Ok s → length xs ≤ f → T (solvable Y (suc d) d s) → T (solvable Y f d s)
    unfolding within
    states_many_rounds f d s o l t = solvable_mono Y (within d) f d d s (omega (arith, count_at_most_length (λ x. solvable Y (suc d) d x) xs)) (omega arith)
        (rounds_at_most_states (suc d) d s (omega arith) o t)

    -- Every action has an outcome, and no weight is above W.
    module _ (filled : (m : ℕ) (s : S) → m < Y.actions → Some (λ x. Unit {0}) (Y.successors m s)) (W : ℕ) (light : (m : ℕ) → m < Y.actions → Y.weight m ≤ W) where
      -- What f + 1 rounds see costs at most f times W.
      rounds_bound_cost : (f d : ℕ) (s : S) → T (solvable Y (suc f) d s) → T (solvable Y (suc f) (f * W) s)
      unfolding solvable
      rounds_bound_cost zero d s t = solves_out Y (solvable Y 0) d s t (solves_goal Y (solvable Y 0) (0 * W) s)
          (λ m k c w a. absurd (every_some (solvable Y 0 (d - Y.weight m)) (Y.successors m s) (filled m s k) a).1)
      rounds_bound_cost (suc f) d s t = solves_out Y (solvable Y (suc f)) d s t (solves_goal Y (solvable Y (suc f)) (suc f * W) s)
          (λ m k c w a. solves_act Y (solvable Y (suc f)) (suc f * W) s m k c (omega (arith, light m k))
          (every_imp (solvable Y (suc f) (d - Y.weight m)) (solvable Y (suc f) (suc f * W - Y.weight m)) (Y.successors m s)
          (all_of (λ x z. solvable_mono Y (suc f) (suc f) (f * W) (suc f * W - Y.weight m) x (omega arith) (omega (arith, light m k)) (rounds_bound_cost f (d - Y.weight m) x z)) (Y.successors m s)) a))

      -- At most f + 1 states: what has any cost at all has one of at most f times W.
      pub bounded_cost : (f d : ℕ) (s : S) → Ok s → length xs ≤ suc f → T (solvable Y (suc d) d s) → T (solvable Y (suc (f * W)) (f * W) s)
      bounded_cost f d s o l t = solvable_within (suc f) (f * W) s o (rounds_bound_cost f d s (states_many_rounds (suc f) d s o l t))

      -- Every finite cost is at most (number of states - 1) times the largest weight.
      pub finite_cost_bound : (f k : ℕ) (s : S) → Ok s → length xs ≤ suc f → IsCost Y s (fin k) → k ≤ f * W
      finite_cost_bound f k s o l c = let q = (cost_solvable Y Ok I s o (fin k)).0 c in
          leb→le k (f * W) (rw (q (f * W)) (bounded_cost f k s o l (rw (← q k) (le→leb k k (omega arith)))))

      -- So more rounds than that bound, with what has reached their number taken as infinite, give the limit of Definition 2.9.
      pub cost_is_limit : (f n : ℕ) (s : S) → Ok s → length xs ≤ suc f → suc (f * W) ≤ n → IsCost Y s (cost_within Y n s)
      unfolding cost_within
      cost_is_limit f zero s o l a = absurd (omega arith)
      cost_is_limit f (suc n) s o l a = (cost_solvable Y Ok I s o _).1 (λ d. by_test (ltb d (suc n))
          (λ e. let k : d < suc n = ltb→lt d (suc n) (rw e tt) in
          infinite_below (suc n) (iterate Y (suc n) s) d k ∙ iterate_solvable Y Ok I (suc n) d s o k ∙ solvable_stable Y Ok I (suc n) (suc d) d s o k (omega arith))
          (λ e. let k : suc n ≤ d = nltb→le d (suc n) (rw e tt) in
          infinite_above n (iterate Y (suc n) s) d (omega arith) ∙ iterate_solvable Y Ok I (suc n) n s o (omega arith) ∙ bool_iff (solvable Y (suc n) n s) (solvable Y (suc d) d s)
          (solvable_mono Y (suc n) (suc d) n d s (omega arith) (omega arith))
          (λ t. solvable_mono Y (suc (f * W)) (suc n) (f * W) n s (omega arith) (omega arith) (bounded_cost f d s o l t))))

  -- A weaker test passes a step where a stronger does, and the operator is monotone: on valid states.
  solves_mono : (r q : ℕ → S → Bool) → ((d : ℕ) (x : S) → Ok x → T (r d x) → T (q d x)) → (d : ℕ) (s : S) → Ok s → T (solves Y r d s) → T (solves Y q d s)
  solves_mono r q h d s o t = solves_out Y r d s t (solves_goal Y q d s)
      (λ m l c w k. solves_act Y q d s m l c w
      (every_imp (r (d - Y.weight m)) (q (d - Y.weight m)) (Y.successors m s) (all_imp (h (d - Y.weight m)) (Y.successors m s) (I.closed m s l o c)) k))

  pub bellman_mono : (f g : S → ℕ∞) → ((x : S) → Ok x → f x ≤∞ g x) → (s : S) → Ok s → bellman Y f s ≤∞ bellman Y g s
  unfolding ◌≤∞◌
  bellman_mono f g h s o d t = rw (bellman_le Y f d s) (solves_mono (λ e x. g x ≤? e) (λ e x. f x ≤? e) (λ e x u. h x u e) d s o (rw (bellman_le Y g d s) at t))

  -- What a builder needs that starts with costs nowhere below the true ones c and lowers them by the operator, in any order.
  module _ (c : S → ℕ∞) (cost-c : (s : S) → Ok s → IsCost Y s (c s)) where
    -- The operator's value is not below the cost either.
    pub upper_bound_step : (f : S → ℕ∞) → ((s : S) → Ok s → c s ≤∞ f s) → (s : S) → Ok s → c s ≤∞ bellman Y f s
    upper_bound_step f above s o = rw (cost_is_fixed_point Y Ok I c cost-c s o) (bellman_mono c f above s o)
