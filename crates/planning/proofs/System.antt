-- Laws of the cost of a state, over any system. Everything goes through one test, "a strong plan of cost at most d exists, seen in f
-- rounds" (solvable): the rounds of Definition 2.9, their limit, fixed points of the Bellman operator and plans are each tied to it.
-- Assumes nothing.
use mathlib.Core.Path.{◌≡◌, refl, sym, ap, ◌∙◌}
use mathlib.Core.Logic.{◌↔◌}
use mathlib.Core.Bool.{Bool, true, false, ◌&&◌, ◌||◌, cond}
use mathlib.Core.List.{List, [], ◌∷◌}
use Prim.Native.Nat.{ℕ, zero, suc, ◌+◌, ◌-◌, ◌≤◌, ◌<◌}
use native.Mathlib.Omega.{arith}
use lib.Dec.{T, leb, leb→le, le→leb}
use Rattle.planning.specs.Finite.{every, Some, any_from}
use Rattle.planning.specs.Extended.{ℕ∞, fin, inf, ◌≤?◌, ◌≤∞◌, add∞, largest}
use Rattle.planning.specs.System.{System, applies, bellman, iterate, IsLimit, IsCost, Invariant}
use Rattle.planning.proofs.Test.{T_true, not_T_false, and_in, and_l, and_r, or_l, or_r, or_elim, by_test, split_le, leb-zero}
use Rattle.planning.proofs.Finite.{any_ext, any_in, any_out, every_ext, all_imp, some_imp}
use Rattle.planning.proofs.Extended.{add∞_le, largest_le, least_le, largest_some, le∞_trans, add∞_mono, mono?, ext∞}

-- One step of the test: a goal, or an action that applies, within d, all of whose outcomes pass the test r at the depth left.
unfoldable pub solves : {S : Type 0} → System S → (ℕ → S → Bool) → ℕ → S → Bool
solves Y r d s = Y.goal s || any_from 0 Y.actions (λ m. applies Y m s && (leb (Y.weight m) d && every (r (d - Y.weight m)) (Y.successors m s)))

unfoldable pub solvable : {S : Type 0} → System S → ℕ → ℕ → S → Bool
solvable Y zero d s = false
solvable Y (suc f) d s = solves Y (solvable Y f) d s

-- The step's two ways in and its way out: proofs go through these.
pub solves_goal : {S : Type 0} (Y : System S) (r : ℕ → S → Bool) (d : ℕ) (s : S) → T (Y.goal s) → T (solves Y r d s)
unfolding solves
solves_goal Y r d s g = or_l (Y.goal s) _ g

pub solves_act : {S : Type 0} (Y : System S) (r : ℕ → S → Bool) (d : ℕ) (s : S) (m : ℕ) → m < Y.actions → T (applies Y m s) → Y.weight m ≤ d → T (every (r (d - Y.weight m)) (Y.successors m s)) → T (solves Y r d s)
unfolding solves
solves_act Y r d s m l c w t = or_r (Y.goal s) _ (any_in 0 Y.actions _ m (omega arith) (omega arith) (and_in (applies Y m s) _ c (and_in (leb (Y.weight m) d) _ (le→leb (Y.weight m) d w) t)))

pub solves_out : {S C : Type 0} (Y : System S) (r : ℕ → S → Bool) (d : ℕ) (s : S) → T (solves Y r d s) → (T (Y.goal s) → C) → ((m : ℕ) → m < Y.actions → T (applies Y m s) → Y.weight m ≤ d → T (every (r (d - Y.weight m)) (Y.successors m s)) → C) → C
unfolding solves
solves_out {C} Y r d s t f g = or_elim (Y.goal s) _ t f
    (λ t. let a = any_out 0 Y.actions (λ m. applies Y m s && (leb (Y.weight m) d && every (r (d - Y.weight m)) (Y.successors m s))) t in taken a.0 a.1 a.2)
  where
    taken : (m : ℕ) → m < 0 + Y.actions → T (applies Y m s && (leb (Y.weight m) d && every (r (d - Y.weight m)) (Y.successors m s))) → C
    taken m l c = let b = and_r (applies Y m s) _ c in
        g m (omega arith) (and_l (applies Y m s) _ c) (leb→le (Y.weight m) d (and_l (leb (Y.weight m) d) _ b)) (and_r (leb (Y.weight m) d) _ b)

-- The Bellman operator against a bound is the step.
cond_le : (b : Bool) (x : ℕ∞) (d : ℕ) → (cond b x inf ≤? d) ≡ (b && (x ≤? d))
cond_le true x d = refl
cond_le false x d = refl

pub bellman_le : {S : Type 0} (Y : System S) (f : S → ℕ∞) (d : ℕ) (s : S) → (bellman Y f s ≤? d) ≡ solves Y (λ e x. f x ≤? e) d s
unfolding bellman solves
bellman_le Y f d s = by_test (Y.goal s)
    (λ e. rw e (leb-zero d))
    (λ e. rw e (least_le 0 Y.actions _ d ∙ any_ext 0 Y.actions _ _
    (λ m l. simp (cond_le, add∞_le, largest_le))))

pub bellman_goal : {S : Type 0} (Y : System S) (f : S → ℕ∞) (s : S) → T (Y.goal s) → bellman Y f s ≡ fin 0
unfolding bellman
bellman_goal Y f s g = rw (T_true (Y.goal s) g)

-- A limit by its tests: from some round on, each bound is answered as the limit answers it.
unfoldable pub TestsTend : (ℕ → ℕ∞) → ℕ∞ → Type 0
TestsTend f v = (d : ℕ) → (n : ℕ) × ((m : ℕ) → n ≤ m → (f m ≤? d) ≡ (v ≤? d))

exactly : (x : ℕ∞) (k : ℕ) → T (x ≤? k) → ((d : ℕ) → d < k → T (x ≤? d) → ⊥) → x ≡ fin k
exactly (fin a) k t n = let l : a ≤ k = leb→le a k t in split_le a k l (λ e. ap fin e) (λ j. absurd (n a j (le→leb a a (omega arith))))
exactly inf k t n = absurd t

pub limit_tests : (f : ℕ → ℕ∞) (v : ℕ∞) → IsLimit f v ↔ TestsTend f v
unfolding IsLimit TestsTend
limit_tests f (fin k) = (λ h d. (h.0, λ m l. ap (λ x. x ≤? d) (h.1 m l)), λ h. reached h k refl)
  where
    reached : ((d : ℕ) → (n : ℕ) × ((m : ℕ) → n ≤ m → (f m ≤? d) ≡ leb k d)) → (j : ℕ) → j ≡ k → (n : ℕ) × ((m : ℕ) → n ≤ m → f m ≡ fin k)
    reached h zero e = ((h k).0, λ m l. exactly (f m) k (rw ((h k).1 m l) (le→leb k k (omega arith))) (λ d u. absurd (omega arith)))
    reached h (suc j) e = (
      (h k).0 + (h j).0,
      λ m l. exactly (f m) k (rw ((h k).1 m (omega arith)) (le→leb k k (omega arith)))
          (λ d u t. let w : k ≤ j = leb→le k j (rw ((h j).1 m (omega arith)) at (mono? (f m) d j (omega arith) t)) in omega arith),
    )
limit_tests f inf = (λ h d. ((h d).0, λ m l. not_T_false (f m ≤? d) ((h d).1 m l)), λ h d. ((h d).0, λ m l t. rw ((h d).1 m l) at t))

module _ {S : Type 0} (Y : System S) (Ok : S → Type 0) (I : Invariant Y Ok) where
  -- Two tests that agree below d give the same step at d.
  pub solves_ext : (r q : ℕ → S → Bool) (d : ℕ) (s : S) → Ok s → ((e : ℕ) (x : S) → e < d → Ok x → r e x ≡ q e x) → solves Y r d s ≡ solves Y q d s
  unfolding solves
  solves_ext r q d s v h = ap (λ z. Y.goal s || z) (any_ext 0 Y.actions _ _ (λ m l. agree m (omega arith)))
    where
      agree : (m : ℕ) → m < Y.actions → (applies Y m s && (leb (Y.weight m) d && every (r (d - Y.weight m)) (Y.successors m s))) ≡ (applies Y m s && (leb (Y.weight m) d && every (q (d - Y.weight m)) (Y.successors m s)))
      agree m l = by_test (applies Y m s)
          (λ e. by_test (leb (Y.weight m) d)
          (λ k. let j : Y.weight m ≤ d = leb→le (Y.weight m) d (rw k tt) in
          rw (e, k, every_ext (r (d - Y.weight m)) (q (d - Y.weight m)) (Y.successors m s) (all_imp (λ x u. h (d - Y.weight m) x (omega (arith, I.weight_positive m l)) u) (Y.successors m s) (I.closed m s l v (rw e tt)))))
          (λ k. rw (e, k)))
          (λ e. rw e)

  -- More than d rounds are as good as d + 1.
  pub solvable_stable : (f g d : ℕ) (s : S) → Ok s → d < f → d < g → solvable Y f d s ≡ solvable Y g d s
  unfolding solvable
  solvable_stable zero g d s v a b = absurd (omega arith)
  solvable_stable (suc f) zero d s v a b = absurd (omega arith)
  solvable_stable (suc f) (suc g) d s v a b = solves_ext (solvable Y f) (solvable Y g) d s v (λ e x l u. solvable_stable f g e x u (omega arith) (omega arith))

  -- Costs that are each the Bellman operator of those before answer a bound below their number as the test does.
  pub bellman_solvable : (g : ℕ → S → ℕ∞) → ((n : ℕ) (s : S) → Ok s → g (suc n) s ≡ bellman Y (g n) s) → (n d : ℕ) (s : S) → Ok s → d < n → (g n s ≤? d) ≡ solvable Y n d s
  unfolding solvable
  bellman_solvable g h zero d s v l = absurd (omega arith)
  bellman_solvable g h (suc n) d s v l = rw (h n s v) (bellman_le Y (g n) d s ∙ solves_ext (λ e x. g n x ≤? e) (solvable Y n) d s v (λ e x k u. bellman_solvable g h n e x u (omega arith)))

  pub iterate_solvable : (n d : ℕ) (s : S) → Ok s → d < n → (iterate Y n s ≤? d) ≡ solvable Y n d s
  unfolding iterate
  iterate_solvable = bellman_solvable (iterate Y) (λ n s v. refl)

  -- A value is the cost exactly if it answers every bound as the test does.
  pub cost_solvable : (s : S) → Ok s → (v : ℕ∞) → IsCost Y s v ↔ ((d : ℕ) → (v ≤? d) ≡ solvable Y (suc d) d s)
  unfolding IsCost TestsTend
  cost_solvable s o v = (
    λ c d. let h = (limit_tests (λ n. iterate Y n s) v).0 c in
        let n = (h d).0 + suc d in sym ((h d).1 n (omega arith)) ∙ iterate_solvable n d s o (omega arith) ∙ solvable_stable n (suc d) d s o (omega arith) (omega arith),
    λ h. (limit_tests (λ n. iterate Y n s) v).1 (λ d. (suc d, λ m l. iterate_solvable m d s o l ∙ solvable_stable m (suc d) d s o l (omega arith) ∙ sym (h d))),
  )

  pub cost_unique : (s : S) → Ok s → (v u : ℕ∞) → IsCost Y s v → IsCost Y s u → v ≡ u
  cost_unique s o v u a b = ext∞ v u (λ d. (cost_solvable s o v).0 a d ∙ sym ((cost_solvable s o u).0 b d))

  -- Every fixed point of the Bellman operator is the cost.
  pub fixed_point_is_cost : (f : S → ℕ∞) → ((s : S) → Ok s → f s ≡ bellman Y f s) → (s : S) → Ok s → IsCost Y s (f s)
  fixed_point_is_cost f h s o = (cost_solvable s o (f s)).1 (λ d. bellman_solvable (λ n. f) (λ n. h) (suc d) d s o (omega arith))

  -- The costs are a fixed point.
  pub cost_is_fixed_point : (f : S → ℕ∞) → ((s : S) → Ok s → IsCost Y s (f s)) → (s : S) → Ok s → f s ≡ bellman Y f s
  unfolding solvable
  cost_is_fixed_point f h s o = ext∞ (f s) (bellman Y f s) (λ d. (cost_solvable s o (f s)).0 (h s o) d
      ∙ solves_ext (solvable Y d) (λ e x. f x ≤? e) d s o (λ e x l u. solvable_stable d (suc e) e x u l (omega arith) ∙ sym ((cost_solvable x u (f x)).0 (h x u) e))
      ∙ sym (bellman_le Y f d s))

  -- The operator looks at valid states only.
  pub bellman_ext : (f g : S → ℕ∞) → ((x : S) → Ok x → f x ≡ g x) → (s : S) → Ok s → bellman Y f s ≡ bellman Y g s
  bellman_ext f g h s o = ext∞ (bellman Y f s) (bellman Y g s) (λ d. bellman_le Y f d s ∙ solves_ext _ _ d s o (λ e x l u. ap (λ v. v ≤? e) (h x u)) ∙ sym (bellman_le Y g d s))

-- Under an action that applies, some outcome keeps the operator's value within the action's weight.
pub bellman-below : {S : Type 0} (Y : System S) (f : S → ℕ∞) (m : ℕ) (s : S) → m < Y.actions → T (applies Y m s) → bellman Y f s ≤∞ add∞ (fin (Y.weight m)) (largest f (Y.successors m s))
unfolding ◌≤∞◌
bellman-below Y f m s l c d t = let k = rw (add∞_le, largest_le) at t in
    rw (bellman_le Y f d s) (solves_act Y (λ e x. f x ≤? e) d s m l c (leb→le (Y.weight m) d (and_l (leb (Y.weight m) d) _ k)) (and_r (leb (Y.weight m) d) _ k))

largest_of : {A : Type 0} (f : A → ℕ∞) (xs : List A) → Some (λ x. Unit {0}) xs → Some (λ y. largest f xs ≤∞ f y) xs
largest_of f [] e = e
largest_of f (x ∷ xs) e = largest_some f x xs

pub bellman_step : {S : Type 0} (Y : System S) (f : S → ℕ∞) (m : ℕ) (s : S) → m < Y.actions → T (applies Y m s) → Some (λ x. Unit {0}) (Y.successors m s) → Some (λ x. bellman Y f s ≤∞ add∞ (fin (Y.weight m)) (f x)) (Y.successors m s)
bellman_step Y f m s l c e = some_imp (λ x k. le∞_trans _ _ _ (bellman-below Y f m s l c) (add∞_mono (Y.weight m) _ _ k)) (Y.successors m s) (largest_of f (Y.successors m s) e)
