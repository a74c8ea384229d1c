-- The fuel of an examination does not matter: the examination that contracts cite satisfies the document's equation with no fuel in it.
-- Assumes nothing.
use mathlib.Core.Path.{◌≡◌, refl}
use mathlib.Core.Bool.{◌&&◌}
use mathlib.Core.List.{List, [], ◌∷◌}
use Prim.Native.Nat.{ℕ, zero, suc, ◌+◌, ◌-◌, ◌≤◌, ◌<◌}
use native.Mathlib.Omega.{arith}
use lib.Dec.{leb, eqb, leb→le}
use Rattle.planning.specs.Finite.{All}
use Rattle.planning.specs.Extended.{ℕ∞, ◌≤?◌}
use Rattle.planning.specs.System.{System, applies, Invariant}
use Rattle.planning.specs.Plan.{Plan}
use Rattle.planning.specs.Search.{Result, succeeded, failed, stopped, and_then, or_else, examine_outcomes, try_actions, try_action, examine, examine_with, examination}
use Rattle.planning.proofs.Test.{and_l, and_r, choose_ext}

pub then_ext : {A B : Type 0} (r : Result A) (k j : A → ℕ → Result B) → ((a : A) (c : ℕ) → k a c ≡ j a c) → and_then r k ≡ and_then r j
unfolding and_then
then_ext (succeeded a c) k j h = h a c
then_ext (failed c) k j h = refl
then_ext (stopped c) k j h = refl

else_ext : {A : Type 0} (r : Result A) (k j : ℕ → Result A) → ((c : ℕ) → k c ≡ j c) → or_else r k ≡ or_else r j
unfolding or_else
else_ext (succeeded a c) k j h = refl
else_ext (failed c) k j h = h c
else_ext (stopped c) k j h = refl

outcomes_ext : {S : Type 0} (Ok : S → Type 0) (r q : S → ℕ → Result Plan) → ((x : S) (c : ℕ) → Ok x → r x c ≡ q x c) → (xs : List S) (c : ℕ) → All Ok xs → examine_outcomes r xs c ≡ examine_outcomes q xs c
unfolding examine_outcomes
outcomes_ext Ok r q h [] c o = refl
outcomes_ext Ok r q h (x ∷ xs) c o = rw (h x c o.0) (then_ext (q x c) _ _ (λ p c₁. rw (outcomes_ext Ok r q h xs c₁ o.1)))

pub actions_ext : (r q : ℕ → ℕ → Result Plan) (M : ℕ) → ((m c : ℕ) → m < M → r m c ≡ q m c) → (k n c : ℕ) → k + n ≤ M → try_actions r k n c ≡ try_actions q k n c
unfolding try_actions
actions_ext r q M h k zero c l = refl
actions_ext r q M h k (suc n) c l = rw (h k c (omega arith)) (else_ext (q k c) _ _ (λ c₁. actions_ext r q M h (suc k) n c₁ (omega arith)))

module _ {S : Type 0} (Y : System S) (Ok : S → Type 0) (I : Invariant Y Ok) (h : S → ℕ∞) (budget : ℕ) where
  -- Two examinations that agree below d give the same examination at d.
  pub examine_ext : (r q : ℕ → S → ℕ → Result Plan) (d : ℕ) (s : S) (c : ℕ) → Ok s → ((e : ℕ) (x : S) (c : ℕ) → e < d → Ok x → r e x c ≡ q e x c) → examine Y h budget r d s c ≡ examine Y h budget q d s c
  unfolding examine try_action
  examine_ext r q d s c o z = choose_ext (eqb c budget) _ _ _ _ (λ t. refl) (λ t. choose_ext (Y.goal s) _ _ _ _ (λ g. refl) (λ g. choose_ext (h s ≤? d) _ _ _ _ (λ v. choose_ext (eqb d 0) _ _ _ _ (λ e. refl) (λ e.
      actions_ext _ _ Y.actions (λ m c₁ l. choose_ext (applies Y m s && leb (Y.weight m) d) _ _ _ _
      (λ a. let w : Y.weight m ≤ d = leb→le (Y.weight m) d (and_r (applies Y m s) _ a) in
      rw (outcomes_ext Ok (r (d - Y.weight m)) (q (d - Y.weight m)) (λ x c₂ u. z (d - Y.weight m) x c₂ (omega (arith, I.weight_positive m l)) u) (Y.successors m s) c₁ (I.closed m s l o (and_l (applies Y m s) _ a))))
      (λ a. refl)) 0 Y.actions (suc c) (omega arith))) (λ v. refl)))

  pub fuel_enough : (f g d : ℕ) (s : S) (c : ℕ) → Ok s → d < f → d < g → examine_with Y h budget f d s c ≡ examine_with Y h budget g d s c
  unfolding examine_with
  fuel_enough zero g d s c o a b = absurd (omega arith)
  fuel_enough (suc f) zero d s c o a b = absurd (omega arith)
  fuel_enough (suc f) (suc g) d s c o a b = examine_ext (examine_with Y h budget f) (examine_with Y h budget g) d s c o (λ e x c₁ l u. fuel_enough f g e x c₁ u (omega arith) (omega arith))

  -- An examination is one step whose inner examinations are examinations.
  pub examination_unfolds : (d : ℕ) (s : S) (c : ℕ) → Ok s → examination Y h budget d s c ≡ examine Y h budget (examination Y h budget) d s c
  unfolding examination examine_with
  examination_unfolds d s c o = examine_ext (examine_with Y h budget d) (examination Y h budget) d s c o (λ e x c₁ l u. fuel_enough d (suc e) e x c₁ u l (omega arith))
