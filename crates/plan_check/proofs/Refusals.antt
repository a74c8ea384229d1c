-- Laws of the tests at a byte: where they refuse, planning's check refuses; elsewhere it goes on, after an arrival with what is pending after
-- the state, after an action with its outcomes before that. Assumes nothing.
use Rattle.std.proofs.Common.{◌≡◌, ℕ, suc, ◌≤◌, ◌<◌, max, Bool, true, false, cond, eqb, leb, ltb, List, ◌∷◌, ◌++◌, refl, ap, arith, Result, Ok, Err}
use borrow.Author.Tests.{lt-ltb, le-ltb, ltb-true, ltb-false, leb-true, leb-false, eqb-true, eqb-false}
use Rattle.planning.specs.System.{System, applies}
use Rattle.planning.specs.PlanCheck.{Pending, pending_after, check_bytes}
use Rattle.planning.proofs.Test.{by_test}
use Rattle.planning.proofs.PlanCheck.{check_arrived, check_not_goal, check_no_action, check_too_deep, check_not_applying, check_applies}
use Rattle.task_record.specs.declared.refusal.Refusal.{Refusal}
use Rattle.plan_check.specs.declared.check.Passed.{Passed}
use Rattle.plan_check.specs.Refusal.{byte_judged}
use Rattle.plan_check.specs.Check.{refusal_of, answer_of}

-- What the tests came to where they refuse nothing.
acted_by : (deep applying : Bool) (a b : Refusal) → ◌≡◌ {A = Result Unit Refusal} (cond deep (Err a) (cond applying (Ok tt) (Err b))) (Ok tt) → (deep ≡ false) × (applying ≡ true)
acted_by true p a b h = let z : ◌≡◌ {A = ℕ} 0 1 = cc in absurd (omega arith)
acted_by false true a b h = (refl, refl)
acted_by false false a b h = let z : ◌≡◌ {A = ℕ} 0 1 = cc in absurd (omega arith)

goal_by : (goal : Bool) (a : Refusal) → ◌≡◌ {A = Result Unit Refusal} (cond goal (Ok tt) (Err a)) (Ok tt) → goal ≡ true
goal_by true a h = refl
goal_by false a h = let z : ◌≡◌ {A = ℕ} 0 1 = cc in absurd (omega arith)

-- A refusal is the same whatever could have been answered in its place.
same_refused : (a b : Refusal) → ◌≡◌ {A = Result Unit Refusal} (Err a) (Err b) → ◌≡◌ {A = Result Passed Refusal} (Err a) (Err b)
same_refused a b h = let e : a ≡ b = cc in ap Err e

module _ {S : Type 0} (Y : System S) (most : ℕ) (few : Y.actions ≤ 254) (bs : List ℕ) (x : Pending S) (rest : List (Pending S)) (i worst : ℕ) where
  pub byte-refused : (b : ℕ) (e : Refusal) → byte_judged Y most b x.moves x.state i ≡ Err e → answer_of (check_bytes Y most (b ∷ bs) (x ∷ rest) i worst) ≡ Err e
  unfolding byte_judged answer_of refusal_of
  byte-refused b e h = by_test (ltb b Y.actions)
      (λ a. let l = ltb-true b Y.actions a in
      let n : b ≡ 254 → ⊥ = λ e. omega arith in
      by_test (leb most x.moves)
      (λ d. rw (check_too_deep Y most bs x rest i worst b n l (leb-true most x.moves d)) (same_refused _ _ (rw (a, d) at h)))
      (λ d. by_test (applies Y b x.state)
      (λ p. let h = rw (a, d, p) at h in let z : ◌≡◌ {A = ℕ} 0 1 = cc in absurd (omega arith))
      (λ p. rw (check_not_applying Y most bs x rest i worst b n l (leb-false most x.moves d) (rw p tt)) (same_refused _ _ (rw (a, d, p) at h)))))
      (λ a. let l = ltb-false b Y.actions a in by_test (eqb b 254)
      (λ t. let q = eqb-true b 254 t in by_test (Y.goal x.state)
      (λ g. let h = rw (a, t, g) at h in let z : ◌≡◌ {A = ℕ} 0 1 = cc in absurd (omega arith))
      (λ g. let h = rw (a, t, g) at h in rw (q, check_not_goal Y most bs x rest i worst (rw g tt)) (same_refused _ _ h)))
      (λ t. rw (check_no_action Y most bs x rest i worst b (eqb-false b 254 t) l) (same_refused _ _ (rw (a, t) at h))))

  -- A byte that is not refused and no action's number arrives.
  pub byte_arrives : (b : ℕ) → Y.actions ≤ b → byte_judged Y most b x.moves x.state i ≡ Ok tt →
      check_bytes Y most (b ∷ bs) (x ∷ rest) i worst ≡ check_bytes Y most bs rest (suc i) (max worst x.paid)
  unfolding byte_judged
  byte_arrives b l h = by_test (eqb b 254)
      (λ e. let q = eqb-true b 254 e in let t = goal_by (Y.goal x.state) _ (rw (le-ltb b Y.actions l, e) at h) in
      rw q (check_arrived Y most bs x rest i worst (rw t tt)))
      (λ e. let h = rw (le-ltb b Y.actions l, e) at h in let z : ◌≡◌ {A = ℕ} 0 1 = cc in absurd (omega arith))

  -- An action that is not refused applies, and the path may still have a move.
  pub byte_acts : (b : ℕ) → b < Y.actions → byte_judged Y most b x.moves x.state i ≡ Ok tt →
      (x.moves < most) × (check_bytes Y most (b ∷ bs) (x ∷ rest) i worst ≡ check_bytes Y most bs (pending_after Y x b ++ rest) (suc i) worst)
  unfolding byte_judged
  byte_acts b l h =
      let t = acted_by (leb most x.moves) (applies Y b x.state) _ _ (rw (lt-ltb b Y.actions l) at h) in
      let k = leb-false most x.moves t.0 in
      (k, check_applies Y most bs x rest i worst b (λ e. omega arith) l k (rw t.1 tt))
