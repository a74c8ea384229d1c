-- The same system over other states: where goals, actions, weights and successors correspond under a map of states, examinations are the
-- same. So code may keep states in a form of its own. Assumes nothing.
use mathlib.Core.Path.{◌≡◌, refl, ap, ◌∙◌}
use mathlib.Core.Bool.{◌&&◌}
use mathlib.Core.List.{List, [], ◌∷◌, map}
use Prim.Native.Nat.{ℕ, zero, suc, ◌-◌, ◌<◌}
use native.Mathlib.Omega.{arith}
use lib.Dec.{T, leb, eqb}
use Rattle.planning.specs.Finite.{All}
use Rattle.planning.specs.Extended.{ℕ∞, fin, inf, ◌≤?◌}
use Rattle.planning.specs.System.{System, applies}
use Rattle.planning.specs.Plan.{Plan, act}
use Rattle.planning.specs.Search.{Result, succeeded, failed, stopped, and_then, examine_outcomes, try_actions, try_action, examine, examine_with, examination, Answer, end_round, rounds, search_from, search}
use Rattle.planning.proofs.Test.{and_l, choose_ext, choose_same}
use Rattle.planning.proofs.Fuel.{then_ext, actions_ext}

end_ext : (d : ℕ) (r : Result Plan) (k j : ℕ → Answer) → ((c : ℕ) → k c ≡ j c) → end_round d r k ≡ end_round d r j
unfolding end_round
end_ext d (succeeded p c) k j h = refl
end_ext d (failed c) k j h = h c
end_ext d (stopped c) k j h = refl

-- Z over states r does as Y does over the states π r, at every r that is Ok.
pub record Simulates {R S : Type 0} (Z : System R) (Y : System S) (π : R → S) (Ok : R → Type 0) : Type 0 where
  pub same_actions : Z.actions ≡ Y.actions
  pub same_weight : (m : ℕ) → m < Z.actions → Z.weight m ≡ Y.weight m
  pub same_goal : (r : R) → Ok r → Z.goal r ≡ Y.goal (π r)
  pub same_enabled : (m : ℕ) (r : R) → m < Z.actions → Ok r → Z.enabled m r ≡ Y.enabled m (π r)
  pub same_successors : (m : ℕ) (r : R) → m < Z.actions → Ok r → T (applies Z m r) → map π (Z.successors m r) ≡ Y.successors m (π r)
  pub closed : (m : ℕ) (r : R) → m < Z.actions → Ok r → T (applies Z m r) → All Ok (Z.successors m r)

module _ {R S : Type 0} (Z : System R) (Y : System S) (π : R → S) (Ok : R → Type 0) (E : Simulates Z Y π Ok) where
  pub same_applies : (m : ℕ) (r : R) → m < Z.actions → Ok r → applies Z m r ≡ applies Y m (π r)
  unfolding applies
  same_applies m r l o = rw (E.same_enabled m r l o, E.same_goal r o)

  -- Examinations, with an estimate that corresponds too.
  module _ (h : S → ℕ∞) (g : R → ℕ∞) (same-estimate : (r : R) → Ok r → g r ≡ h (π r)) (budget : ℕ) where
    outcomes_map : (p : R → ℕ → Result Plan) (q : S → ℕ → Result Plan) → ((x : R) (c : ℕ) → Ok x → p x c ≡ q (π x) c) → (xs : List R) (c : ℕ) → All Ok xs → examine_outcomes p xs c ≡ examine_outcomes q (map π xs) c
    unfolding examine_outcomes
    outcomes_map p q z [] c o = refl
    outcomes_map p q z (x ∷ xs) c o = rw (z x c o.0) (then_ext (q (π x) c) _ _ (λ a c₁. rw (outcomes_map p q z xs c₁ o.1)))

    same_examine : (p : ℕ → R → ℕ → Result Plan) (q : ℕ → S → ℕ → Result Plan) → ((d : ℕ) (x : R) (c : ℕ) → Ok x → p d x c ≡ q d (π x) c) → (d : ℕ) (r : R) (c : ℕ) → Ok r → examine Z g budget p d r c ≡ examine Y h budget q d (π r) c
    unfolding examine try_action
    same_examine p q z d r c o = choose_ext (eqb c budget) _ _ _ _ (λ t. refl) (λ t. choose_same (Z.goal r) (Y.goal (π r)) _ _ _ _ (E.same_goal r o) (λ t. refl)
        (λ t. choose_same (g r ≤? d) (h (π r) ≤? d) _ _ _ _ (ap (λ v. v ≤? d) (same-estimate r o)) (λ t. choose_ext (eqb d 0) _ _ _ _ (λ t. refl)
        (λ t. actions_ext (try_action Z g budget p d r) (try_action Y h budget q d (π r)) Z.actions tried 0 Z.actions (suc c) (omega arith) ∙ ap (λ n. try_actions (try_action Y h budget q d (π r)) 0 n (suc c)) E.same_actions))
        (λ t. refl)))
      where
        tried : (m c₁ : ℕ) → m < Z.actions → try_action Z g budget p d r m c₁ ≡ try_action Y h budget q d (π r) m c₁
        tried m c₁ l = choose_same (applies Z m r && leb (Z.weight m) d) (applies Y m (π r) && leb (Y.weight m) d) _ _ _ _ (rw (same_applies m r l o, E.same_weight m l))
            (λ t. ap (λ x. and_then x (λ ps c₂. succeeded (act m ps) c₂))
            (outcomes_map (p (d - Z.weight m)) (q (d - Z.weight m)) (z (d - Z.weight m)) (Z.successors m r) c₁ (E.closed m r l o (and_l (applies Z m r) _ t))
            ∙ ap (λ w. examine_outcomes (q (d - w)) (map π (Z.successors m r)) c₁) (E.same_weight m l)
            ∙ ap (λ xs. examine_outcomes (q (d - Y.weight m)) xs c₁) (E.same_successors m r l o (and_l (applies Z m r) _ t))))
            (λ t. refl)

    pub same_examination : (f d : ℕ) (r : R) (c : ℕ) → Ok r → examine_with Z g budget f d r c ≡ examine_with Y h budget f d (π r) c
    unfolding examine_with
    same_examination zero d r c o = refl
    same_examination (suc f) d r c o = same_examine (examine_with Z g budget f) (examine_with Y h budget f) (λ d x c u. same_examination f d x c u) d r c o

    same_rounds : (limit : ℕ) (r : R) → Ok r → (n d c : ℕ) → rounds Z g budget limit r n d c ≡ rounds Y h budget limit (π r) n d c
    unfolding rounds examination
    same_rounds limit r o zero d c = refl
    same_rounds limit r o (suc n) d c = rw (same_examination (suc d) d r c o) (end_ext d (examine_with Y h budget (suc d) d (π r) c) _ _ (λ c₁. same_rounds limit r o n (suc d) c₁))

    pub same_search : (limit : ℕ) (r : R) → Ok r → search Z g budget limit r ≡ search Y h budget limit (π r)
    unfolding search search_from
    same_search limit r o = ap (search_from Z g budget limit r) (same-estimate r o) ∙ from (h (π r))
      where
        from : (v : ℕ∞) → search_from Z g budget limit r v ≡ search_from Y h budget limit (π r) v
        from inf = refl
        from (fin v) = choose_ext (leb v limit) _ _ _ _ (λ t. same_rounds limit r o (suc (limit - v)) v 0) (λ t. refl)
