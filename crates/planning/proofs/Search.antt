-- What an examination and a search mean, for any admissible estimate. An examination that is not stopped succeeds exactly where a strong
-- plan within its depth exists, with the canonical one, and it stops only with the budget used. So each answer of the search says what
-- demand 3 words. Assumes nothing.
use mathlib.Core.Path.{◌≡◌, refl, sym, ◌∙◌}
use mathlib.Core.Bool.{Bool, true, false, not, ◌&&◌}
use mathlib.Core.List.{List, [], ◌∷◌}
use Prim.Native.Nat.{ℕ, zero, suc, ◌+◌, ◌-◌, ◌≤◌, ◌<◌}
use native.Mathlib.Omega.{arith}
use lib.Dec.{T, leb, eqb, leb→le, nleb→lt, eqb→eq, eqb_refl, T_not}
use Rattle.planning.specs.Finite.{choose, every, All, any_from}
use Rattle.planning.specs.Extended.{ℕ∞, fin, inf, ◌≤?◌}
use Rattle.planning.specs.System.{System, applies, Invariant}
use Rattle.planning.specs.Plan.{Plan, arrived, act, done, ◌then◌, Strong, cost}
use Rattle.planning.specs.Estimate.{Admissible}
use Rattle.planning.specs.Search.{Result, succeeded, failed, stopped, and_then, or_else, examine_outcomes, try_actions, try_action, examine, examine_with, examination, Answer, found, over, spent, none, end_round, rounds, search_from, search}
use Rattle.planning.proofs.Test.{not_T_false, and_in, and_l, and_r, or_l, or_r, or_elim, by_test, choose_true, choose_false}
use Rattle.planning.proofs.Extended.{mono?}
use Rattle.planning.proofs.System.{solves, solvable, solves_goal, solves_out}
use Rattle.planning.proofs.Canonical.{plans_by, first_action, leads, canonical, canonical_strong}
use Rattle.planning.proofs.Plan.{plan_solvable}

-- What a result says: P of a success, Q of a failure, R of a stop, each with the count.
pub data Says {A : Type 0} (P : A → ℕ → Type 0) (Q R : ℕ → Type 0) : Result A → Type 0 where
  success : (a : A) (c : ℕ) → P a c → Says P Q R (succeeded a c)
  failure : (c : ℕ) → Q c → Says P Q R (failed c)
  stop : (c : ℕ) → R c → Says P Q R (stopped c)

module _ {A : Type 0} {P : A → ℕ → Type 0} {Q R : ℕ → Type 0} where
  says_then : {B : Type 0} {P' : B → ℕ → Type 0} {Q' : ℕ → Type 0} {r : Result A} {k : A → ℕ → Result B} → Says P Q R r → ((a : A) (c : ℕ) → P a c → Says P' Q' R (k a c)) → ((c : ℕ) → Q c → Q' c) → Says P' Q' R (and_then r k)
  unfolding and_then
  says_then (success a c p) f g = f a c p
  says_then (failure c q) f g = failure c (g c q)
  says_then (stop c r) f g = stop c r

  says_else : {P' : A → ℕ → Type 0} {Q' : ℕ → Type 0} {r : Result A} {k : ℕ → Result A} → Says P Q R r → ((a : A) (c : ℕ) → P a c → P' a c) → ((c : ℕ) → Q c → Says P' Q' R (k c)) → Says P' Q' R (or_else r k)
  unfolding or_else
  says_else (success a c p) f g = success a c (f a c p)
  says_else (failure c q) f g = g c q
  says_else (stop c r) f g = stop c r

  pub says_weaker : {P' : A → ℕ → Type 0} {Q' : ℕ → Type 0} {r : Result A} → Says P Q R r → ((a : A) (c : ℕ) → P a c → P' a c) → ((c : ℕ) → Q c → Q' c) → Says P' Q' R r
  says_weaker (success a c p) f g = success a c (f a c p)
  says_weaker (failure c q) f g = failure c (g c q)
  says_weaker (stop c r) f g = stop c r

  says_choose : (b : Bool) (j k : Unit {0} → Result A) → (T b → Says P Q R (j tt)) → (T (not b) → Says P Q R (k tt)) → Says P Q R (choose b j k)
  unfolding choose
  says_choose true j k f g = f tt
  says_choose false j k f g = g tt

-- A count within the budget that is not the budget is below it.
pub below-budget : (c budget : ℕ) → c ≤ budget → T (not (eqb c budget)) → c < budget
below-budget c budget b e = by_test (leb budget c)
    (λ q. let l : budget ≤ c = leb→le budget c (rw q tt) in let z : c ≡ budget = omega arith in absurd (T_not (eqb c budget) e (rw z (eqb_refl budget))))
    (λ q. nleb→lt budget c (rw q tt))

module _ (budget : ℕ) where
  abbrev pub Counted : ℕ → ℕ → Type 0
  Counted c e = (c ≤ e) × (e ≤ budget)

  -- A run from count c succeeds with v where the test passes, else fails, and stops only with the budget used.
  abbrev pub Settles : {B : Type 0} → Bool → B → ℕ → Result B → Type 0
  Settles b v c r = Says (λ p e. T b × (p ≡ v) × Counted c e) (λ e. (T b → ⊥) × Counted c e) (λ e. e ≡ budget) r

  outcomes_settle : {S : Type 0} (Ok : S → Type 0) (t : S → Bool) (plan : S → Plan) (r : S → ℕ → Result Plan) → ((x : S) (c : ℕ) → Ok x → c ≤ budget → Settles (t x) (plan x) c (r x c)) →
      (xs : List S) (c : ℕ) → All Ok xs → c ≤ budget → Settles (every t xs) (plans_by plan xs) c (examine_outcomes r xs c)
  unfolding examine_outcomes plans_by
  outcomes_settle Ok t plan r H [] c o b = success done c (tt, refl, omega arith)
  outcomes_settle Ok t plan r H (x ∷ xs) c o b = says_then (H x c o.0 b)
      (λ p c₁ z. says_then (outcomes_settle Ok t plan r H xs c₁ o.1 z.2.1)
      (λ ps c₂ w. success (p then ps) c₂ (and_in (t x) (every t xs) z.0 w.0, λ i. z.1 i then w.1 i, omega (arith, z.2, w.2)))
      (λ c₂ w. (λ u. w.0 (and_r (t x) (every t xs) u), omega (arith, z.2, w.1))))
      (λ c₁ z. (λ u. z.0 (and_l (t x) (every t xs) u), z.1))

  actions_settle : (t : ℕ → Bool) (plan : ℕ → Plan) (r : ℕ → ℕ → Result Plan) (M : ℕ) → ((m c : ℕ) → m < M → c ≤ budget → Settles (t m) (plan m) c (r m c)) →
      (k n c : ℕ) → k + n ≤ M → c ≤ budget → Settles (any_from k n t) (first_action t plan k n) c (try_actions r k n c)
  unfolding try_actions first_action
  actions_settle t plan r M H k zero c l b = failure c (λ z. z, omega arith)
  actions_settle t plan r M H k (suc n) c l b = says_else (H k c (omega arith) b)
      (λ p e z. (or_l (t k) _ z.0, z.1 ∙ sym (choose_true (t k) (λ u. plan k) (λ u. first_action t plan (suc k) n) z.0), z.2))
      (λ c₁ z. says_weaker (actions_settle t plan r M H (suc k) n c₁ (omega arith) z.1.1)
      (λ p e w. (or_r (t k) _ w.0, w.1 ∙ sym (choose_false (t k) (λ u. plan k) (λ u. first_action t plan (suc k) n) (rw (not_T_false (t k) z.0) tt)), omega (arith, z.1, w.2)))
      (λ e w. (λ u. or_elim (t k) (any_from (suc k) n t) u z.0 w.0, omega (arith, z.1, w.1))))

-- Away from a goal, the step of the test is that some action leads to plans.
any_solves : {S : Type 0} (Y : System S) (f d : ℕ) (s : S) → T (any_from 0 Y.actions (leads Y f d s)) → T (solves Y (solvable Y f) d s)
unfolding solves
any_solves Y f d s u = or_r (Y.goal s) _ u

solves_any : {S : Type 0} (Y : System S) (f d : ℕ) (s : S) → T (not (Y.goal s)) → T (solves Y (solvable Y f) d s) → (T (any_from 0 Y.actions (leads Y f d s)) → ⊥) → ⊥
unfolding solves
solves_any Y f d s g u n = or_elim (Y.goal s) _ u (T_not (Y.goal s) g) n

module _ {S : Type 0} (Y : System S) (Ok : S → Type 0) (I : Invariant Y Ok) (h : S → ℕ∞) (A : Admissible Y Ok h) (budget : ℕ) where
  module _ (f : ℕ) (r : ℕ → S → ℕ → Result Plan) (H : (d : ℕ) (s : S) (c : ℕ) → Ok s → c ≤ budget → Settles budget (solvable Y f d s) (canonical Y f d s) c (r d s c)) where
    -- The applying actions by number: the first that leads to plans within d wins.
    pub actions_tried : (d : ℕ) (s : S) (c : ℕ) → Ok s → c ≤ budget →
        Settles budget (any_from 0 Y.actions (leads Y f d s)) (first_action (leads Y f d s) (λ m. act m (plans_by (canonical Y f (d - Y.weight m)) (Y.successors m s))) 0 Y.actions) c (try_actions (try_action Y h budget r d s) 0 Y.actions c)
    unfolding try_action
    actions_tried d s c o b = actions_settle budget (leads Y f d s) _ (try_action Y h budget r d s) Y.actions
        (λ m c₁ l b. says_choose (applies Y m s && leb (Y.weight m) d) _ _
        (λ a. says_then (outcomes_settle budget Ok (solvable Y f (d - Y.weight m)) (canonical Y f (d - Y.weight m)) (r (d - Y.weight m)) (H (d - Y.weight m)) (Y.successors m s) c₁ (I.closed m s l o (and_l (applies Y m s) _ a)) b)
        (λ ps c₂ z. success (act m ps) c₂ (and_in (applies Y m s) _ (and_l (applies Y m s) _ a) (and_in (leb (Y.weight m) d) _ (and_r (applies Y m s) _ a) z.0), λ i. act m (z.1 i), z.2))
        (λ c₂ z. (λ u. z.0 (and_r (leb (Y.weight m) d) _ (and_r (applies Y m s) _ u)), z.1)))
        (λ n. failure c₁ (λ u. not_tried (applies Y m s) (leb (Y.weight m) d) _ n u, omega arith)))
        0 Y.actions c (omega arith) b
      where
        not_tried : (x y z : Bool) → T (not (x && y)) → T (x && (y && z)) → ⊥
        not_tried true true z n t = n
        not_tried true false z n t = t
        not_tried false y z n t = t

    examine-settles : (d : ℕ) (s : S) (c : ℕ) → Ok s → c ≤ budget → Settles budget (solvable Y (suc f) d s) (canonical Y (suc f) d s) c (examine Y h budget r d s c)
    unfolding examine solvable canonical
    examine-settles d s c o b = says_choose (eqb c budget) _ _ (λ e. stop c (eqb→eq c budget e))
        (λ e. let k : c < budget = below-budget c budget b e in says_choose (Y.goal s) _ _
        (λ g. success arrived (suc c) (solves_goal Y (solvable Y f) d s g, sym (choose_true (Y.goal s) (λ u. arrived) _ g), omega arith))
        (λ g. says_choose (h s ≤? d) _ _
        (λ v. says_choose (eqb d 0) _ _
        (λ z. failure (suc c) (no_depth g (eqb→eq d 0 z), omega arith))
        (λ z. says_weaker (actions_tried d s (suc c) o k)
        (λ p e w. (any_solves Y f d s w.0, w.1 ∙ sym (choose_false (Y.goal s) (λ u. arrived) _ g), omega (arith, w.2)))
        (λ e w. (λ u. solves_any Y f d s g u w.0, omega (arith, w.1)))))
        (λ n. failure (suc c) (no_plan n, omega arith))))
      where
        no_depth : T (not (Y.goal s)) → d ≡ 0 → T (solves Y (solvable Y f) d s) → ⊥
        no_depth g z u = solves_out Y (solvable Y f) d s u (T_not (Y.goal s) g) (λ m l a w k. omega (arith, I.weight_positive m l))

        no_plan : T (not (h s ≤? d)) → T (solvable Y (suc f) d s) → ⊥
        no_plan n u = let a = canonical_strong Y (suc f) d s u in T_not (h s ≤? d) n (mono? (h s) (cost Y (canonical Y (suc f) d s)) d a.1 (A (canonical Y (suc f) d s) s o a.0))

  -- The examination that is not stopped succeeds exactly if a strong plan of cost at most d exists (solvable), and then with the canonical
  -- plan, whatever the estimate.
  pub examination-settles : (f d : ℕ) (s : S) (c : ℕ) → Ok s → c ≤ budget → Settles budget (solvable Y f d s) (canonical Y f d s) c (examine_with Y h budget f d s c)
  unfolding examine_with solvable
  examination-settles zero d s c o b = failure c (λ t. t, omega arith)
  examination-settles (suc f) d s c o b = examine-settles f (examine_with Y h budget f) (examination-settles f) d s c o b

-- The answers.
module _ {S : Type 0} (Y : System S) (s : S) where
  abbrev pub CostsAtLeast : ℕ → Type 0
  CostsAtLeast d = (q : Plan) → Strong Y q s → d ≤ cost Y q

  -- Demand 3, sentence by sentence: "A found plan is a strong plan from the start, the cost reported is its cost, and every other strong
  -- plan from the start costs at least as much. An answer 'over' means that every strong plan from the start costs more than the limit,
  -- 'spent' that every one costs at least the round reported, and 'none' that there is none." Besides, counts keep to
  -- the budget, that of 'none' is 0, and a found plan is the canonical one.
  abbrev pub Right : ℕ → ℕ → Answer → Type 0
  Right budget limit (found p d c) = Strong Y p s × (cost Y p ≡ d) × CostsAtLeast d × (d ≤ limit) × (c ≤ budget) × (p ≡ canonical Y (suc d) d s)
  Right budget limit (over c) = CostsAtLeast (suc limit) × (c ≤ budget)
  Right budget limit (spent d c) = CostsAtLeast d × (d ≤ limit) × (c ≡ budget)
  Right budget limit (none c) = ((q : Plan) → Strong Y q s → ⊥) × (c ≡ 0)

  end_right : (budget limit c d : ℕ) {r : Result Plan} (next : ℕ → Answer) → d ≤ limit → CostsAtLeast d → Settles budget (solvable Y (suc d) d s) (canonical Y (suc d) d s) c r →
      ((c : ℕ) → c ≤ budget → (T (solvable Y (suc d) d s) → ⊥) → Right budget limit (next c)) → Right budget limit (end_round d r next)
  unfolding end_round
  end_right budget limit c d next l a (success p e z) f = let k = canonical_strong Y (suc d) d s z.0 in
      rw z.1 (k.0, let g : d ≤ cost Y (canonical Y (suc d) d s) = a (canonical Y (suc d) d s) k.0 in omega (arith, k.1), a, l, z.2.1, refl)
  end_right budget limit c d next l a (failure e q) f = f e q.1.1 q.0
  end_right budget limit c d next l a (stop e q) f = (a, l, q)

  module _ (Ok : S → Type 0) (I : Invariant Y Ok) (h : S → ℕ∞) (A : Admissible Y Ok h) (budget limit : ℕ) (o : Ok s) where
    rounds_right : (n d c : ℕ) → n ≡ suc limit - d → c ≤ budget → CostsAtLeast d → Right budget limit (rounds Y h budget limit s n d c)
    unfolding rounds examination
    rounds_right zero d c e b a = (λ q z. let g : d ≤ cost Y q = a q z in omega arith, b)
    rounds_right (suc n) d c e b a = end_right budget limit c d _ (omega arith) a (examination-settles Y Ok I h A budget (suc d) d s c o b)
        (λ c₁ b₁ no_plan. rounds_right n (suc d) c₁ (omega arith) b₁ (λ q z. by_test (leb (cost Y q) d)
        (λ t. absurd (no_plan (plan_solvable Y I.weight_positive q (suc d) d s (omega arith) z (leb→le (cost Y q) d (rw t tt)))))
        (λ t. nleb→lt (cost Y q) d (rw t tt))))

    pub search_right : Right budget limit (search Y h budget limit s)
    unfolding search search_from choose
    search_right = from (h s) (λ q. A q s o)
      where
        from : (v : ℕ∞) → ((q : Plan) → Strong Y q s → T (v ≤? cost Y q)) → Right budget limit (search_from Y h budget limit s v)
        from inf a = (a, refl)
        from (fin v) a = by_test (leb v limit)
            (λ e. let l : v ≤ limit = leb→le v limit (rw e tt) in rw e (rounds_right (suc (limit - v)) v 0 (omega arith) (omega arith) (λ q z. leb→le v (cost Y q) (a q z))))
            (λ e. let l : limit < v = nleb→lt v limit (rw e tt) in rw e (λ q z. let k : v ≤ cost Y q = leb→le v (cost Y q) (a q z) in omega arith, omega arith))

-- The plan found depends on neither the estimate nor the budget nor the limit: two searches that find, find the same plan.
pub found_same_plan : {S : Type 0} (Y : System S) (s : S) (b l b' l' : ℕ) (p p' : Plan) (d d' c c' : ℕ) → Right Y s b l (found p d c) → Right Y s b' l' (found p' d' c') → (p ≡ p') × (d ≡ d')
found_same_plan Y s b l b' l' p p' d d' c c' r r' =
    let e : d ≡ d' = omega (arith, r.1, r'.1, r.2 p' r'.0, r'.2 p r.0) in
    (r.5 ∙ rw e (sym r'.5), e)
