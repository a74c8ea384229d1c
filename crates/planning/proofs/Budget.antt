-- A budgeted run is the run with a larger budget, cut off: the same result where its count keeps to the smaller budget, else stopped with
-- the smaller budget as count. A budget that is never used up is no budget at all. Assumes nothing.
use mathlib.Core.Path.{◌≡◌}
use mathlib.Core.Bool.{Bool, true, false, not, ◌&&◌}
use mathlib.Core.List.{List, [], ◌∷◌}
use Prim.Native.Nat.{ℕ, zero, suc, ◌-◌, ◌≤◌, ◌<◌}
use native.Mathlib.Omega.{arith}
use lib.Dec.{T, leb, eqb, eqb→eq, eqb_refl, T_not}
use Rattle.planning.specs.Finite.{choose}
use Rattle.planning.specs.Extended.{ℕ∞, fin, inf, ◌≤?◌}
use Rattle.planning.specs.System.{System, applies}
use Rattle.planning.specs.Plan.{Plan, arrived, act, done, ◌then◌}
use Rattle.planning.specs.Search.{Result, succeeded, failed, stopped, and_then, or_else, examine_outcomes, try_actions, try_action, examine, examine_with, examination, Answer, found, over, spent, none, answer_count, end_round, rounds, search_from, search}
use Rattle.planning.proofs.Test.{choose_true, not_equal, by_test, split_le}

abbrev pub count_of : {A : Type 0} → Result A → ℕ
count_of (succeeded a c) = c
count_of (failed c) = c
count_of (stopped c) = c

-- The count never falls.
pub then_grows : {A B : Type 0} (r : Result A) (k : A → ℕ → Result B) → ((a : A) (c : ℕ) → c ≤ count_of (k a c)) → count_of r ≤ count_of (and_then r k)
unfolding and_then
then_grows (succeeded a c) k h = h a c
then_grows (failed c) k h = omega arith
then_grows (stopped c) k h = omega arith

pub else_grows : {A : Type 0} (r : Result A) (k : ℕ → Result A) → ((c : ℕ) → c ≤ count_of (k c)) → count_of r ≤ count_of (or_else r k)
unfolding or_else
else_grows (succeeded a c) k h = omega arith
else_grows (failed c) k h = h c
else_grows (stopped c) k h = omega arith

choose_grows : {A : Type 0} (b : Bool) (j k : Unit {0} → Result A) (c : ℕ) → (T b → c ≤ count_of (j tt)) → (T (not b) → c ≤ count_of (k tt)) → c ≤ count_of (choose b j k)
unfolding choose
choose_grows true j k c f g = f tt
choose_grows false j k c f g = g tt

pub outcomes_grow : {S : Type 0} (r : S → ℕ → Result Plan) → ((x : S) (c : ℕ) → c ≤ count_of (r x c)) → (xs : List S) (c : ℕ) → c ≤ count_of (examine_outcomes r xs c)
unfolding examine_outcomes
outcomes_grow r h [] c = omega arith
outcomes_grow r h (x ∷ xs) c = let k : ℕ = count_of (r x c) in omega (
  arith,
  h x c,
  then_grows (r x c) (λ p c₁. and_then (examine_outcomes r xs c₁) (λ ps c₂. succeeded (p then ps) c₂))
      (λ p c₁. omega (arith, outcomes_grow r h xs c₁, then_grows (examine_outcomes r xs c₁) (λ ps c₂. succeeded (p then ps) c₂) (λ ps c₂. omega arith))),
)

pub actions_grow : (r : ℕ → ℕ → Result Plan) → ((m c : ℕ) → c ≤ count_of (r m c)) → (k n c : ℕ) → c ≤ count_of (try_actions r k n c)
unfolding try_actions
actions_grow r h k zero c = omega arith
actions_grow r h k (suc n) c = omega (arith, h k c, else_grows (r k c) (λ c₁. try_actions r (suc k) n c₁) (λ c₁. actions_grow r h (suc k) n c₁))

module _ {S : Type 0} (Y : System S) (h : S → ℕ∞) (budget : ℕ) where
  pub try_grows : (r : ℕ → S → ℕ → Result Plan) → ((d : ℕ) (x : S) (c : ℕ) → c ≤ count_of (r d x c)) → (d : ℕ) (s : S) (m c : ℕ) → c ≤ count_of (try_action Y h budget r d s m c)
  unfolding try_action
  try_grows r g d s m c = choose_grows (applies Y m s && leb (Y.weight m) d) _ _ c
      (λ t. omega (arith, outcomes_grow (r (d - Y.weight m)) (g (d - Y.weight m)) (Y.successors m s) c, then_grows (examine_outcomes (r (d - Y.weight m)) (Y.successors m s) c) (λ ps c₁. succeeded (act m ps) c₁) (λ ps c₁. omega arith)))
      (λ t. omega arith)

  -- An examination that is made counts itself.
  pub made_counts : (r : ℕ → S → ℕ → Result Plan) → ((d : ℕ) (x : S) (c : ℕ) → c ≤ count_of (r d x c)) → (d : ℕ) (s : S) (c : ℕ) → T (not (eqb c budget)) → suc c ≤ count_of (examine Y h budget r d s c)
  unfolding examine
  made_counts r g d s c n = choose_grows (eqb c budget) _ _ (suc c) (λ t. absurd (T_not (eqb c budget) n t))
      (λ t. choose_grows (Y.goal s) _ _ (suc c) (λ t. omega arith)
      (λ t. choose_grows (h s ≤? d) _ _ (suc c)
      (λ t. choose_grows (eqb d 0) _ _ (suc c) (λ t. omega arith) (λ t. actions_grow (try_action Y h budget r d s) (try_grows r g d s) 0 Y.actions (suc c)))
      (λ t. omega arith)))

  pub count_grows : (f d : ℕ) (s : S) (c : ℕ) → c ≤ count_of (examine_with Y h budget f d s c)
  unfolding examine_with examine choose
  count_grows zero d s c = omega arith
  count_grows (suc f) d s c = by_test (eqb c budget) (λ e. rw e (omega arith)) (λ e. omega (arith, made_counts (examine_with Y h budget f) (count_grows f) d s c (rw e tt)))

-- The first result, cut off at the budget b.
pub data Cut {A : Type 0} (b : ℕ) : Result A → Result A → Type 0 where
  same_success : (a : A) (c : ℕ) → c ≤ b → Cut b (succeeded a c) (succeeded a c)
  same_failure : (c : ℕ) → c ≤ b → Cut b (failed c) (failed c)
  same_stop : Cut b (stopped b) (stopped b)
  cut_short : (r : Result A) → b < count_of r → Cut b r (stopped b)

module _ {A : Type 0} (b : ℕ) where
  cut_then : {B : Type 0} {r q : Result A} (k j : A → ℕ → Result B) → Cut b r q → ((a : A) (c : ℕ) → c ≤ count_of (k a c)) → ((a : A) (c : ℕ) → c ≤ b → Cut b (k a c) (j a c)) → Cut b (and_then r k) (and_then q j)
  unfolding and_then
  cut_then k j (same_success a c l) g f = f a c l
  cut_then k j (same_failure c l) g f = same_failure c l
  cut_then k j same_stop g f = same_stop
  cut_then k j (cut_short r l) g f = cut_short (and_then r k) (omega (arith, then_grows r k g))

  cut_else : {r q : Result A} (k j : ℕ → Result A) → Cut b r q → ((c : ℕ) → c ≤ count_of (k c)) → ((c : ℕ) → c ≤ b → Cut b (k c) (j c)) → Cut b (or_else r k) (or_else q j)
  unfolding or_else
  cut_else k j (same_success a c l) g f = same_success a c l
  cut_else k j (same_failure c l) g f = f c l
  cut_else k j same_stop g f = same_stop
  cut_else k j (cut_short r l) g f = cut_short (or_else r k) (omega (arith, else_grows r k g))

  cut_choose : (x : Bool) (j k j' k' : Unit {0} → Result A) → (T x → Cut b (j tt) (j' tt)) → (T (not x) → Cut b (k tt) (k' tt)) → Cut b (choose x j k) (choose x j' k')
  unfolding choose
  cut_choose true j k j' k' f g = f tt
  cut_choose false j k j' k' f g = g tt

cut_outcomes : {S : Type 0} (b : ℕ) (r q : S → ℕ → Result Plan) → ((x : S) (c : ℕ) → c ≤ count_of (r x c)) → ((x : S) (c : ℕ) → c ≤ b → Cut b (r x c) (q x c)) → (xs : List S) (c : ℕ) → c ≤ b → Cut b (examine_outcomes r xs c) (examine_outcomes q xs c)
unfolding examine_outcomes
cut_outcomes b r q g h [] c l = same_success done c l
cut_outcomes b r q g h (x ∷ xs) c l = cut_then b _ _ (h x c l)
    (λ p c₁. omega (arith, outcomes_grow r g xs c₁, then_grows (examine_outcomes r xs c₁) (λ ps c₂. succeeded (p then ps) c₂) (λ ps c₂. omega arith)))
    (λ p c₁ l₁. cut_then b _ _ (cut_outcomes b r q g h xs c₁ l₁) (λ ps c₂. omega arith) (λ ps c₂ l₂. same_success (p then ps) c₂ l₂))

cut_actions : (b : ℕ) (r q : ℕ → ℕ → Result Plan) → ((m c : ℕ) → c ≤ count_of (r m c)) → ((m c : ℕ) → c ≤ b → Cut b (r m c) (q m c)) → (k n c : ℕ) → c ≤ b → Cut b (try_actions r k n c) (try_actions q k n c)
unfolding try_actions
cut_actions b r q g h k zero c l = same_failure c l
cut_actions b r q g h k (suc n) c l = cut_else b _ _ (h k c l) (λ c₁. actions_grow r g (suc k) n c₁) (λ c₁ l₁. cut_actions b r q g h (suc k) n c₁ l₁)

-- An examination at the budget is not made.
pub at_budget_stops : {S : Type 0} (Y : System S) (h : S → ℕ∞) (b : ℕ) (r : ℕ → S → ℕ → Result Plan) (d : ℕ) (s : S) (c : ℕ) → T (eqb c b) → examine Y h b r d s c ≡ stopped c
unfolding examine
at_budget_stops Y h b r d s c t = choose_true (eqb c b) _ _ t

module _ {S : Type 0} (Y : System S) (h : S → ℕ∞) (b b' : ℕ) (le : b ≤ b') where
  -- The count is the smaller budget: that run stops; the other stops too where the budgets are equal, else it counts on.
  cut_at_budget : (r q : ℕ → S → ℕ → Result Plan) → ((d : ℕ) (x : S) (c : ℕ) → c ≤ count_of (r d x c)) → (d : ℕ) (s : S) (c : ℕ) → c ≡ b → Cut b (examine Y h b' r d s c) (examine Y h b q d s c)
  cut_at_budget r q g d s c e = rw (at_budget_stops Y h b q d s c (rw e (eqb_refl b))) (rw e (by_test (eqb b b')
      (λ k. let z : b ≡ b' = eqb→eq b b' (rw k tt) in rw (at_budget_stops Y h b' r d s b (rw k tt)) same_stop)
      (λ k. cut_short (examine Y h b' r d s b) (made_counts Y h b' r g d s b (rw k tt)))))

  -- Below both budgets the two runs take the same way.
  cut_within : (r q : ℕ → S → ℕ → Result Plan) → ((d : ℕ) (x : S) (c : ℕ) → c ≤ count_of (r d x c)) → ((d : ℕ) (x : S) (c : ℕ) → c ≤ b → Cut b (r d x c) (q d x c)) → (d : ℕ) (s : S) (c : ℕ) → c < b → Cut b (examine Y h b' r d s c) (examine Y h b q d s c)
  unfolding examine try_action
  cut_within r q g z d s c l = rw (not_equal c b (λ e. omega arith), not_equal c b' (λ e. omega arith)) (cut_choose b false _ _ _ _ (λ t. absurd t)
      (λ t. cut_choose b (Y.goal s) _ _ _ _ (λ t. same_success arrived (suc c) l)
      (λ t. cut_choose b (h s ≤? d) _ _ _ _
      (λ t. cut_choose b (eqb d 0) _ _ _ _ (λ t. same_failure (suc c) l)
      (λ t. cut_actions b (try_action Y h b' r d s) (try_action Y h b q d s) (try_grows Y h b' r g d s)
      (λ m c₁ l₁. cut_choose b (applies Y m s && leb (Y.weight m) d) _ _ _ _
      (λ t. cut_then b _ _ (cut_outcomes b (r (d - Y.weight m)) (q (d - Y.weight m)) (g (d - Y.weight m)) (z (d - Y.weight m)) (Y.successors m s) c₁ l₁) (λ ps c₂. omega arith) (λ ps c₂ l₂. same_success (act m ps) c₂ l₂))
      (λ t. same_failure c₁ l₁))
      0 Y.actions (suc c) l))
      (λ t. same_failure (suc c) l))))

  pub examination_cut : (f d : ℕ) (s : S) (c : ℕ) → c ≤ b → Cut b (examine_with Y h b' f d s c) (examine_with Y h b f d s c)
  unfolding examine_with
  examination_cut zero d s c l = same_failure c l
  examination_cut (suc f) d s c l = split_le c b l
      (λ e. cut_at_budget (examine_with Y h b' f) (examine_with Y h b f) (count_grows Y h b' f) d s c e)
      (λ k. cut_within (examine_with Y h b' f) (examine_with Y h b f) (count_grows Y h b' f) (examination_cut f) d s c k)

-- The same for the whole search.
pub data CutAnswer (b : ℕ) : Answer → Answer → Type 0 where
  kept : (a : Answer) → answer_count a ≤ b → CutAnswer b a a
  cut_off : (a : Answer) (d : ℕ) → b < answer_count a → CutAnswer b a (spent d b)

module _ {S : Type 0} (Y : System S) (h : S → ℕ∞) (b b' limit : ℕ) (le : b ≤ b') (s : S) where
  end_grows : (d : ℕ) (r : Result Plan) (next : ℕ → Answer) → ((c : ℕ) → c ≤ answer_count (next c)) → count_of r ≤ answer_count (end_round d r next)
  unfolding end_round
  end_grows d (succeeded p c) next g = omega arith
  end_grows d (failed c) next g = g c
  end_grows d (stopped c) next g = omega arith

  rounds_grow : (n d c : ℕ) → c ≤ answer_count (rounds Y h b' limit s n d c)
  unfolding rounds examination
  rounds_grow zero d c = omega arith
  rounds_grow (suc n) d c = omega (arith, count_grows Y h b' (suc d) d s c, end_grows d (examine_with Y h b' (suc d) d s c) (λ c₁. rounds Y h b' limit s n (suc d) c₁) (λ c₁. rounds_grow n (suc d) c₁))

  cut_end : (d : ℕ) {r q : Result Plan} (next j : ℕ → Answer) → Cut b r q → ((c : ℕ) → c ≤ answer_count (next c)) → ((c : ℕ) → c ≤ b → CutAnswer b (next c) (j c)) → CutAnswer b (end_round d r next) (end_round d q j)
  unfolding end_round
  cut_end d next j (same_success p c l) g f = kept (found p d c) l
  cut_end d next j (same_failure c l) g f = f c l
  cut_end d next j same_stop g f = kept (spent d b) (omega arith)
  cut_end d next j (cut_short r l) g f = cut_off (end_round d r next) d (omega (arith, end_grows d r next g))

  rounds_cut : (n d c : ℕ) → c ≤ b → CutAnswer b (rounds Y h b' limit s n d c) (rounds Y h b limit s n d c)
  unfolding rounds examination
  rounds_cut zero d c l = kept (over c) l
  rounds_cut (suc n) d c l = cut_end d _ _ (examination_cut Y h b b' le (suc d) d s c l) (λ c₁. rounds_grow n (suc d) c₁) (λ c₁ l₁. rounds_cut n (suc d) c₁ l₁)

  -- With the smaller budget: the same answer where its count keeps to that budget, else spent with that budget as count.
  pub search_cut : CutAnswer b (search Y h b' limit s) (search Y h b limit s)
  unfolding search search_from choose
  search_cut = from (h s)
    where
      from : (v : ℕ∞) → CutAnswer b (search_from Y h b' limit s v) (search_from Y h b limit s v)
      from inf = kept (none 0) (omega arith)
      from (fin v) = by_test (leb v limit) (λ e. rw e (rounds_cut (suc (limit - v)) v 0 (omega arith))) (λ e. rw e (kept (over 0) (omega arith)))
