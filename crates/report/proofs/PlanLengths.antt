-- A found plan has at most as many bytes as states were examined, and those keep to the budget: each byte is an examination.
-- Assumes nothing.
use mathlib.Core.Path.{◌≡◌}
use mathlib.Core.Bool.{Bool, true, false, not, ◌&&◌}
use mathlib.Core.List.{List, [], ◌∷◌}
use Prim.Native.Nat.{ℕ, zero, suc, ◌+◌, ◌-◌, ◌<◌, ◌≤◌}
use native.Mathlib.Omega.{arith}
use lib.Dec.{T, eqb, leb}
use lib.ListN.{length, length-append}
use Rattle.planning.specs.Finite.{choose}
use Rattle.planning.specs.Extended.{ℕ∞, fin, inf, ◌≤?◌}
use Rattle.planning.specs.System.{System, applies}
use Rattle.planning.specs.Plan.{Plan, act, Plans, ◌then◌, encode, encodes}
use Rattle.planning.specs.Task.{Task, system}
use Rattle.planning.specs.Table.{estimate}
use Rattle.planning.specs.Search.{Result, succeeded, failed, stopped, and_then, or_else, examine_outcomes, try_actions, try_action, examine, examine_with, examination, Answer, found, over, spent, none, end_round, rounds, search_from, search, answer}
use Rattle.planning.proofs.Search.{below-budget}

-- From count c a run makes at least as many examinations as its plan has bytes, but for k of them, and keeps to the budget.
abbrev Paid : {A : Type 0} → (A → List ℕ) → ℕ → ℕ → ℕ → Result A → Type 0
Paid f k b c (succeeded a e) = (c + length (f a) ≤ e + k) × (e ≤ b)
Paid f k b c (failed e) = (c ≤ e) × (e ≤ b)
Paid f k b c (stopped e) = Unit {0}

paid_choose : {A : Type 0} (f : A → List ℕ) (k b c : ℕ) (t : Bool) (y n : Unit {0} → Result A) → (T t → Paid f k b c (y tt)) → (T (not t) → Paid f k b c (n tt)) → Paid f k b c (choose t y n)
unfolding choose
paid_choose f k b c true y n g h = g tt
paid_choose f k b c false y n g h = h tt

-- the outcomes' plans one after the other
one_more : (b c : ℕ) (p : Plan) (c₁ : ℕ) → c + length (encode p) ≤ c₁ → (x : Result Plans) → Paid encodes 0 b c₁ x → Paid encodes 0 b c (and_then x (λ ps c₂. succeeded (p then ps) c₂))
unfolding and_then encodes
one_more b c p c₁ l (succeeded ps e) h = (omega (arith, length-append (encode p) (encodes ps)), h.1)
one_more b c p c₁ l (failed e) h = (omega arith, h.1)
one_more b c p c₁ l (stopped e) h = tt

first_then : (b c : ℕ) (x : Result Plan) (g : ℕ → Result Plans) → Paid encode 0 b c x → ((e : ℕ) → e ≤ b → Paid encodes 0 b e (g e)) →
    Paid encodes 0 b c (and_then x (λ p c₁. and_then (g c₁) (λ ps c₂. succeeded (p then ps) c₂)))
unfolding and_then
first_then b c (succeeded p e) g h n = one_more b c p e (omega arith) (g e) (n e h.1)
first_then b c (failed e) g h n = h
first_then b c (stopped e) g h n = tt

outcomes_paid : {S : Type 0} (b : ℕ) (r : S → ℕ → Result Plan) → ((x : S) (c : ℕ) → c ≤ b → Paid encode 0 b c (r x c)) → (xs : List S) (c : ℕ) → c ≤ b → Paid encodes 0 b c (examine_outcomes r xs c)
unfolding examine_outcomes encodes
outcomes_paid b r h [] c l = (omega arith, l)
outcomes_paid b r h (x ∷ xs) c l = first_then b c (r x c) (examine_outcomes r xs) (h x c l) (λ e k. outcomes_paid b r h xs e k)

-- an action's own byte is paid by the examination of the state
acted : (b c m : ℕ) (x : Result Plans) → Paid encodes 0 b c x → Paid encode 1 b c (and_then x (λ ps e. succeeded (act m ps) e))
unfolding and_then encode
acted b c m (succeeded ps e) h = (omega arith, h.1)
acted b c m (failed e) h = h
acted b c m (stopped e) h = tt

or_next : (b c : ℕ) (x : Result Plan) (g : ℕ → Result Plan) → Paid encode 1 b c x → ((e : ℕ) → c ≤ e → e ≤ b → Paid encode 1 b e (g e)) → Paid encode 1 b c (or_else x g)
unfolding or_else
or_next b c (succeeded p e) g h n = h
or_next b c (failed e) g h n = earlier (g e) (n e h.0 h.1)
  where
    earlier : (y : Result Plan) → Paid encode 1 b e y → Paid encode 1 b c y
    earlier (succeeded p i) q = (omega (arith, h.0), q.1)
    earlier (failed i) q = (omega (arith, h.0), q.1)
    earlier (stopped i) q = tt
or_next b c (stopped e) g h n = tt

actions_paid : (b : ℕ) (t : ℕ → ℕ → Result Plan) → ((m c : ℕ) → c ≤ b → Paid encode 1 b c (t m c)) → (n k c : ℕ) → c ≤ b → Paid encode 1 b c (try_actions t k n c)
unfolding try_actions
actions_paid b t h zero k c l = (omega arith, l)
actions_paid b t h (suc n) k c l = or_next b c (t k c) (λ e. try_actions t (suc k) n e) (h k c l) (λ e i j. actions_paid b t h n (suc k) e j)

-- the examination's own count pays for it
counted : (b c : ℕ) (x : Result Plan) → Paid encode 1 b (suc c) x → Paid encode 0 b c x
counted b c (succeeded p e) h = (omega arith, h.1)
counted b c (failed e) h = (omega arith, h.1)
counted b c (stopped e) h = tt

module _ {S : Type 0} (Y : System S) (h : S → ℕ∞) (b : ℕ) where
  module _ (r : ℕ → S → ℕ → Result Plan) (paid : (d : ℕ) (x : S) (c : ℕ) → c ≤ b → Paid encode 0 b c (r d x c)) where
    action_paid : (d : ℕ) (s : S) (m e : ℕ) → e ≤ b → Paid encode 1 b e (try_action Y h b r d s m e)
    unfolding try_action
    action_paid d s m e i =
        paid_choose encode 1 b e (applies Y m s && leb (Y.weight m) d) _ _
        (λ u. acted b e m (examine_outcomes (r (d - Y.weight m)) (Y.successors m s) e) (outcomes_paid b (r (d - Y.weight m)) (paid (d - Y.weight m)) (Y.successors m s) e i))
        (λ u. (omega arith, i))

    examine_paid : (d : ℕ) (s : S) (c : ℕ) → c ≤ b → Paid encode 0 b c (examine Y h b r d s c)
    unfolding examine encode
    examine_paid d s c l =
        paid_choose encode 0 b c (eqb c b) _ _ (λ u. tt)
        (λ n.
        let k : c < b = below-budget c b l n in
        paid_choose encode 0 b c (Y.goal s) _ _ (λ u. (omega arith, omega arith))
        (λ g.
        paid_choose encode 0 b c (h s ≤? d) _ _
        (λ v.
        paid_choose encode 0 b c (eqb d 0) _ _ (λ u. (omega arith, omega arith))
        (λ u. counted b c (try_actions (try_action Y h b r d s) 0 Y.actions (suc c)) (actions_paid b (try_action Y h b r d s) (action_paid d s) Y.actions 0 (suc c) (omega arith))))
        (λ v. (omega arith, omega arith))))

  examination_paid : (f d : ℕ) (s : S) (c : ℕ) → c ≤ b → Paid encode 0 b c (examine_with Y h b f d s c)
  unfolding examine_with
  examination_paid zero d s c l = (omega arith, l)
  examination_paid (suc f) d s c l = examine_paid (examine_with Y h b f) (examination_paid f) d s c l

-- The answer: a found plan's bytes, the count and the budget.
abbrev Short : ℕ → Answer → Type 0
Short b (found p d c) = (length (encode p) ≤ c) × (c ≤ b)
Short b (over c) = Unit {0}
Short b (spent d c) = Unit {0}
Short b (none c) = Unit {0}

end_short : (b d : ℕ) (x : Result Plan) (next : ℕ → Answer) → Paid encode 0 b 0 x → ((e : ℕ) → e ≤ b → Short b (next e)) → Short b (end_round d x next)
unfolding end_round
end_short b d (succeeded p e) next h n = (omega arith, h.1)
end_short b d (failed e) next h n = n e h.1
end_short b d (stopped e) next h n = tt

-- a round from count c is one from 0 too
from_start : (b c : ℕ) (x : Result Plan) → Paid encode 0 b c x → Paid encode 0 b 0 x
from_start b c (succeeded p e) h = (omega arith, h.1)
from_start b c (failed e) h = (omega arith, h.1)
from_start b c (stopped e) h = tt

module _ {S : Type 0} (Y : System S) (h : S → ℕ∞) (b limit : ℕ) (s : S) where
  rounds_short : (n d c : ℕ) → c ≤ b → Short b (rounds Y h b limit s n d c)
  unfolding rounds examination
  rounds_short zero d c l = tt
  rounds_short (suc n) d c l = end_short b d (examination Y h b d s c) _ (from_start b c (examination Y h b d s c) (examination_paid Y h b (suc d) d s c l)) (λ e k. rounds_short n (suc d) e k)

  search_short : (v : ℕ∞) → Short b (search_from Y h b limit s v)
  unfolding search_from choose
  search_short inf = tt
  search_short (fin v) = choose_short (leb v limit) (rounds_short (suc (limit - v)) v 0 (omega arith))
    where
      choose_short : (t : Bool) → Short b (rounds Y h b limit s (suc (limit - v)) v 0) → Short b (choose t (λ u. rounds Y h b limit s (suc (limit - v)) v 0) (λ u. over 0))
      choose_short true k = k
      choose_short false k = tt

pub found_plan_short : (t : Task) (ps : List (List ℕ)) (budget limit : ℕ) (s : List ℕ) (p : Plan) (d c : ℕ) → answer t ps budget limit s ≡ found p d c → (length (encode p) ≤ c) × (c ≤ budget)
unfolding answer search
found_plan_short t ps budget limit s p d c e = rw e at (search_short (system t) (estimate t ps) budget limit s (estimate t ps s))
