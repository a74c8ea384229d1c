-- Entries that were lowered step by step from the start, none above an action's Bellman value, are the table of the pattern: the steps never go
-- below the costs, and what is stable is not above them. Assumes nothing.
use Rattle.std.proofs.Common.{◌≡◌, ℕ, zero, suc, ◌+◌, ◌-◌, ◌<◌, ◌≤◌, max, Bool, true, false, cond, ◌&&◌, T, eqb, ltb, leb, List, [], ◌∷◌, map, length, get_or, set, sym, refl, ap, ◌∙◌, subst, ap₂, zero-add, arith, le→leb, ltb→lt, lt→ltb, leb→le, length-set, get_or-set_other, get_or-set_same, ext_get_or}
use native.Mathlib.Decide.{ℕ_discrete}
use lib.Bits.{bit_and}
use lib.ListN.{length-map, get_or-map}
use Rattle.planning.specs.Finite.{All, every}
use Rattle.planning.specs.Extended.{ℕ∞, fin, inf, ◌≤?◌, ◌≤∞◌}
use Rattle.planning.specs.System.{System, applies}
use Rattle.planning.specs.Task.{Action, Task, apply, action_at, system, fits_sizes, WellFormed}
use Rattle.planning.specs.Pattern.{mask, mask_action, abstraction, AbstractState}
use Rattle.planning.specs.Table.{index, state_count, state_at, entry_at, weighted_table, table, entry_of, cost_of, EntriesBelow, infinite_entry}
use Rattle.planning.proofs.Test.{T_true, false_not_T, bool_iff, and_in, and_l, and_r, by_test}
use Rattle.planning.proofs.Finite.{all_imp, all_at, every_imp, any_out, get_or_tabulate, map-map}
use Rattle.planning.proofs.Extended.{mono?, ext∞, zero_le∞}
use Rattle.planning.proofs.System.{solvable, solves_act, solves_out, bellman_le, cost_solvable}
use Rattle.planning.proofs.Pattern.{mask_fits, mask_stays_abstract, action_masked, abstraction_actions, abstraction_invariant}
use Rattle.planning.proofs.Table.{index_below, state_at-index, state_at_abstract, table-length, table_entry}
use Rattle.planning.proofs.Build.{NotBelow, lowered, built_at_goal, lowered_not_below}
use Rattle.planning.proofs.Task.{apply_keeps_sizes, action_well_formed}
use Rattle.packed_task.specs.Packed.{pack_by, picking, low, action_weight, outcome_count, keep_mask, compiled}
use Rattle.packed_task.specs.Packable.{Packable}
use Rattle.tables.specs.Steps.{weigh, Space, worst, raised, outcome_entry, bellman_value, bellman_value_at, permitted_at, Steps, none, more, Stable, started}
use Rattle.packed_task.specs.Within.{is_goal, idles}
use Rattle.packed_task.proofs.Compiled.{outcome_count_is, action_weight_is}
use Rattle.packed_task.proofs.Abstracted.{goal_is, permitted_is, after_permitted, idle_outcome}

-- The space stands for the abstraction of t by p.
pub record Stands (t : Task) (p : List ℕ) (x : Space) : Type 0 where
  pub task_is : x.task ≡ compiled t
  pub mask_is : x.mask ≡ pack_by picking p
  pub weights_are : (s : List ℕ) → AbstractState t p s → weigh x.weights (pack_by low s) ≡ index t.sizes p s
  pub states_are : (i : ℕ) → i < state_count t.sizes p → get_or x.states i 0 ≡ pack_by low (state_at t.sizes p i)
  pub actions_are : x.actions ≡ length t.actions

-- A bound on the largest is a bound on each.
max_le : (a b d : ℕ) → leb (max a b) d ≡ (leb a d && leb b d)
max_le a b d = bool_iff _ _
    (λ h. let l : max a b ≤ d = leb→le (max a b) d h in and_in (leb a d) (leb b d) (le→leb a d (omega arith)) (le→leb b d (omega arith)))
    (λ h. let l = leb→le a d (and_l (leb a d) (leb b d) h) in let k = leb→le b d (and_r (leb a d) (leb b d) h) in le→leb (max a b) d (omega arith))

worst_le : {A : Type 0} (f : ℕ → ℕ) (h : A → Bool) (xs : List A) (x : A) (j d : ℕ) → ((o : ℕ) → o < length xs → leb (f (j + o)) d ≡ h (get_or xs o x)) → leb (worst f j (length xs)) d ≡ every h xs
unfolding worst
worst_le f h [] x j d e = T_true (leb 0 d) (le→leb 0 d (omega arith))
worst_le f h (y ∷ xs) x j d e = max_le (f j) (worst f (suc j) (length xs)) d ∙ ap₂ (λ a b. a && b) (let z : j + 0 ≡ j = omega arith in rw z at (e 0 (omega arith)))
    (worst_le f h xs x (suc j) d (λ o l. let z : j + suc o ≡ suc j + o = omega arith in rw z at (e (suc o) (omega arith))))

-- An entry as a cost: below the infinite one the number itself.
pub cost_le : (e d : ℕ) → d < infinite_entry → (cost_of e ≤? d) ≡ leb e d
unfolding cost_of
cost_le e d l = by_test (eqb e infinite_entry)
    (λ h. rw h (bool_iff false (leb e d) (λ u. absurd u) (λ u. let k = leb→le e d u in let z = borrow.Author.Tests.eqb-true e infinite_entry h in absurd (omega arith))))
    (λ h. rw h)

entry_of-cost : (e : ℕ) → entry_of (cost_of e) ≡ e
unfolding entry_of cost_of
entry_of-cost e = by_test (eqb e infinite_entry) (λ h. rw h (sym (borrow.Author.Tests.eqb-true e infinite_entry h))) (λ h. rw h)

-- What has a finite cost is that number.
pub finite_cost : (e d : ℕ) → T (cost_of e ≤? d) → (e ≡ infinite_entry → ⊥) × (e ≤ d)
unfolding cost_of
finite_cost e d u = by_test (eqb e infinite_entry)
    (λ h. absurd (rw h at u))
    (λ h. (λ z. absurd (false_not_T h (rw z tt)), leb→le e d (rw h at u)))

pub raised_finite : (w v : ℕ) → (raised w v ≡ infinite_entry → ⊥) → (raised w v ≡ w + v) × (w + v < infinite_entry)
unfolding raised
raised_finite w v n = by_test (ltb (w + v) infinite_entry)
    (λ h. (rw h, ltb→lt (w + v) infinite_entry (rw h tt)))
    (λ h. absurd (n (rw h)))

raised-within : (w v : ℕ) → w + v < infinite_entry → raised w v ≡ w + v
unfolding raised
raised-within w v l = rw (T_true (ltb (w + v) infinite_entry) (lt→ltb (w + v) infinite_entry l))

every_at : {A : Type 0} (h : A → Bool) (xs : List A) (d : A) (i : ℕ) → i < length xs → T (every h xs) → T (h (get_or xs i d))
every_at h [] d i l u = absurd (omega arith)
every_at h (x ∷ xs) d zero l u = and_l (h x) (every h xs) u
every_at h (x ∷ xs) d (suc i) l u = every_at h xs d i (omega arith) (and_r (h x) (every h xs) u)

-- Steps keep the length and only lower.
pub steps_length : {x : Space} {t u : List ℕ} → Steps x t u → length u ≡ length t
steps_length none = refl
steps_length (more {u = u} m i a b c d s) = length-set u i _ ∙ steps_length s

set_lower : (u : List ℕ) (i j v : ℕ) → i < length u → v < get_or u i 0 → Dec (j ≡ i) → get_or (set u i v) j 0 ≤ get_or u j 0
set_lower u i j v l h (yes e) = rw (e, get_or-set_same u i v 0 l) (omega arith)
set_lower u i j v l h (no n) = rw (get_or-set_other u i j v 0 n) (omega arith)

pub steps_lower : {x : Space} {t u : List ℕ} → Steps x t u → (j : ℕ) → get_or u j 0 ≤ get_or t j 0
steps_lower none j = omega arith
steps_lower (more {u = u} m i a b c d s) j = omega (arith, set_lower u i j _ b d (ℕ_discrete j i), steps_lower s j)

pub then : {x : Space} {t u w : List ℕ} → Steps x t u → Steps x u w → Steps x t w
then a none = a
then a (more m i l h g k b) = more m i l h g k (then a b)

every_map : {A B : Type 0} (h : B → Bool) (f : A → B) (xs : List A) → every h (map f xs) ≡ every (λ x. h (f x)) xs
every_map h f [] = refl
every_map h f (x ∷ xs) = ap (λ b. h (f x) && b) (every_map h f xs)

-- Inside a list the default does not matter.
pub inside : (l : List ℕ) (i d e : ℕ) → i < length l → get_or l i d ≡ get_or l i e
inside [] i d e h = absurd (omega arith)
inside (x ∷ l) zero d e h = refl
inside (x ∷ l) (suc i) d e h = inside l i d e (omega arith)

module _ (t : Task) (w : WellFormed t) (k : Packable t) (p : List ℕ) (x : Space) (r : Stands t p x) where
  abbrev pub weight_of : Action → ℕ
  weight_of a = a.weight

  abbrev pub abstracted : System (List ℕ)
  abstracted = system (abstraction p weight_of t)

  abbrev pub state_of : ℕ → List ℕ
  state_of i = state_at t.sizes p i

  abbrev pub states : ℕ
  states = state_count t.sizes p

  abbrev pub costs : List ℕ → List ℕ → ℕ∞
  costs e = entry_at t.sizes p (map cost_of e)

  pub positive : All (λ a. 1 ≤ weight_of a) t.actions
  positive = all_imp (λ a h. h.weight_positive) t.actions w.actions_well_formed

  pub cost_at_lem : (e : List ℕ) (s : List ℕ) → costs e s ≡ cost_of (get_or e (index t.sizes p s) infinite_entry)
  unfolding entry_at cost_of
  cost_at_lem e s = get_or-map cost_of e (index t.sizes p s) infinite_entry

  pub goal_at : (i : ℕ) → i < states → is_goal x.task x.mask (get_or x.states i 0) ≡ abstracted.goal (state_of i)
  goal_at i l = rw (r.task_is, r.mask_is, r.states_are i l) (goal_is t k p weight_of (state_of i) (state_at_abstract t w p i).0)

  module _ (m i : ℕ) (l : m < length t.actions) (b : i < states) where
    pub permitted_at_lem : permitted_at x m i ≡ abstracted.enabled m (state_of i)
    unfolding permitted_at
    permitted_at_lem = rw (r.task_is, r.mask_is, r.states_are i b) (permitted_is t k p weight_of m l (state_of i) (state_at_abstract t w p i).0)

    successors_at : abstracted.successors m (state_of i) ≡ map (λ o. apply (mask p o) (state_of i)) (action_at t m).outcomes
    unfolding system mask_action
    successors_at = rw (action_masked p weight_of t m l) (map-map (mask p) (λ o. apply o (state_of i)) (action_at t m).outcomes)

    weight_at_lem : abstracted.weight m ≡ (action_at t m).weight
    unfolding system mask_action
    weight_at_lem = rw (action_masked p weight_of t m l)

    outcome_abstract : (o : ℕ) → o < length (action_at t m).outcomes → AbstractState t p (apply (mask p (get_or (action_at t m).outcomes o [])) (state_of i))
    outcome_abstract o h = (
      apply_keeps_sizes t.sizes (mask p (get_or (action_at t m).outcomes o [])) (state_of i)
          (mask_fits p t.sizes (get_or (action_at t m).outcomes o []) (all_at (λ c. T (fits_sizes t.sizes c)) (action_at t m).outcomes [] (action_well_formed t w m l).outcomes_fit o h))
          (state_at_abstract t w p i).0,
      mask_stays_abstract p (get_or (action_at t m).outcomes o []) (state_of i) (state_at_abstract t w p i).1,
    )

    count_at : outcome_count x.task m ≡ length (action_at t m).outcomes
    count_at = rw r.task_is (outcome_count_is t k.actions_few m l)

    bellman_value_weight : action_weight x.task m ≡ abstracted.weight m
    bellman_value_weight = rw r.task_is (action_weight_is t k.actions_few m l) ∙ sym weight_at_lem

    -- The largest entry among the outcomes, in the abstraction.
    abbrev pub largest_entry : List ℕ → ℕ
    largest_entry e = worst (outcome_entry x.task x.mask x.weights e m (get_or x.states i 0)) 0 (outcome_count x.task m)

    -- Where the action is permitted, its words lead to the states after its outcomes.
    entry_after_lem : T (abstracted.enabled m (state_of i)) → (e : List ℕ) (d : ℕ) → d < infinite_entry → (o : ℕ) → o < length (action_at t m).outcomes →
        leb (outcome_entry x.task x.mask x.weights e m (get_or x.states i 0) (0 + o)) d ≡ (costs e (apply (mask p (get_or (action_at t m).outcomes o [])) (state_of i)) ≤? d)
    unfolding outcome_entry
    entry_after_lem v e d h o b₁ = let y = apply (mask p (get_or (action_at t m).outcomes o [])) (state_of i) in
        rw (zero-add o, r.task_is, r.mask_is, r.states_are i b, after_permitted t k p weight_of m l o b₁ (state_of i) (state_at_abstract t w p i) v, r.weights_are y (outcome_abstract o b₁), cost_at_lem e y)
        (sym (cost_le (get_or e (index t.sizes p y) infinite_entry) d h))

    pub largest_entry_le : T (abstracted.enabled m (state_of i)) → (e : List ℕ) (d : ℕ) → d < infinite_entry → leb (largest_entry e) d ≡ every (λ y. costs e y ≤? d) (abstracted.successors m (state_of i))
    largest_entry_le v e d h = rw count_at (worst_le _ (λ o. costs e (apply (mask p o) (state_of i)) ≤? d) (action_at t m).outcomes [] 0 d (entry_after_lem v e d h))
        ∙ sym (every_map (λ y. costs e y ≤? d) (λ o. apply (mask p o) (state_of i)) (action_at t m).outcomes) ∙ ap (every (λ y. costs e y ≤? d)) (sym successors_at)

    pub bellman_value_at_lem : (e : List ℕ) → bellman_value_at x e m i ≡ raised (abstracted.weight m) (largest_entry e)
    unfolding bellman_value_at bellman_value
    bellman_value_at_lem e = rw bellman_value_weight

  -- No entry is below the table's.
  abbrev pub Above : List ℕ → Type 0
  Above e = (i : ℕ) → i < states → get_or (weighted_table t p weight_of) i inf ≤∞ cost_of (get_or e i infinite_entry)

  above_not_below : (e : List ℕ) → Above e → NotBelow t p weight_of (map cost_of e)
  unfolding cost_of
  above_not_below e h i l = let z : get_or (map cost_of e) i inf ≡ cost_of (get_or e i infinite_entry) = get_or-map cost_of e i infinite_entry in rw z (h i l)

  pub action_bound : (m : ℕ) → m < x.actions → m < length t.actions
  action_bound m l = rw r.actions_are at l

  pub abstract_bound : (m : ℕ) → m < length t.actions → m < abstracted.actions
  unfolding system
  abstract_bound m l = rw (abstraction_actions p weight_of t) l

  bound_abstract : (m : ℕ) → m < abstracted.actions → m < length t.actions
  unfolding system
  bound_abstract m l = rw (abstraction_actions p weight_of t) at l

  bellman_value-above : (e : List ℕ) → Above e → (m i : ℕ) → m < length t.actions → i < states → permitted_at x m i ≡ true → get_or (weighted_table t p weight_of) i inf ≤∞ cost_of (bellman_value_at x e m i)
  unfolding ◌≤∞◌ applies
  bellman_value-above e h m i l b c d u = by_test (abstracted.goal (state_of i))
      (λ g. rw (built_at_goal t p weight_of w positive i b (rw g tt)) (zero_le∞ (cost_of (bellman_value_at x e m i)) d u))
      (λ g. let f = finite_cost (bellman_value_at x e m i) d u in
      let n = raised_finite (abstracted.weight m) (largest_entry m i l b e) (rw (bellman_value_at_lem m i l b e) at f.0) in
      let v = abstracted.weight m + largest_entry m i l b e in
      let q : v ≤ d = omega (arith, n.0, bellman_value_at_lem m i l b e, f.1) in
      let z : v - abstracted.weight m ≡ largest_entry m i l b e = omega arith in
      lowered_not_below t p weight_of w positive (map cost_of e) (above_not_below e h) i b d
      (mono? (lowered t p weight_of (map cost_of e) i) v d q (rw (bellman_le abstracted (costs e) v (state_of i))
      (solves_act abstracted (λ a y. costs e y ≤? a) v (state_of i) m (abstract_bound m l) (and_in (abstracted.enabled m (state_of i)) _ (rw (← permitted_at_lem m i l b, c) tt) (rw g tt)) (omega arith)
      (rw (z, ← largest_entry_le m i l b (rw (← permitted_at_lem m i l b, c) tt) e (largest_entry m i l b e) (omega (arith, n.1))) (le→leb (largest_entry m i l b e) (largest_entry m i l b e) (omega arith)))))))

  set-above : (u : List ℕ) (i v : ℕ) → i < length u → Above u → (get_or (weighted_table t p weight_of) i inf ≤∞ cost_of v) → (j : ℕ) → j < states → Dec (j ≡ i) → get_or (weighted_table t p weight_of) j inf ≤∞ cost_of (get_or (set u i v) j infinite_entry)
  set-above u i v l h n j b (yes e) = rw (e, get_or-set_same u i v infinite_entry l) n
  set-above u i v l h n j b (no e) = rw (get_or-set_other u i j v infinite_entry e) (h j b)

  step_above : (u : List ℕ) (m i : ℕ) → m < x.actions → i < length u → length u ≡ states → permitted_at x m i ≡ true → Above u → Above (set u i (bellman_value_at x u m i))
  step_above u m i a b n c above j q = set-above u i (bellman_value_at x u m i) b above (bellman_value-above u above m i (action_bound m a) (omega arith) c) j q (ℕ_discrete j i)

  steps_above : {e u : List ℕ} → Steps x e u → length e ≡ states → Above e → Above u
  steps_above none n h = h
  steps_above (more {u = u} m i a b c d s) n h = step_above u m i a b (steps_length s ∙ n) c (steps_above s n h)

  -- The start.
  started_at : (i : ℕ) → i < states → (d : ℕ) → get_or (started x.task x.mask x.states states) i d ≡ cond (abstracted.goal (state_of i)) 0 infinite_entry
  unfolding started
  started_at i l d = get_or_tabulate _ 0 states i d l ∙ rw (zero-add i, goal_at i l)

  started-above : Above (started x.task x.mask x.states states)
  unfolding cost_of ◌≤∞◌
  started-above i l = rw (started_at i l infinite_entry) (by_test (abstracted.goal (state_of i))
      (λ g. rw (g, built_at_goal t p weight_of w positive i l (rw g tt)) (zero_le∞ (fin 0)))
      (λ g. rw g (λ d u. absurd u)))

  -- An action that may leave the state as it is has the state among its successors.
  idle_at : (m i : ℕ) (l : m < length t.actions) → i < states → T (abstracted.enabled m (state_of i)) → (h : List ℕ → Bool) → T (every h (abstracted.successors m (state_of i))) → (o : ℕ) → o < outcome_count x.task m → bit_and (keep_mask x.task m o) x.mask ≡ x.mask → T (h (state_of i))
  idle_at m i l b z h u o v q =
      let within : o < length (action_at t m).outcomes = omega (arith, count_at m i l b) in
      let all : T (every (λ o. h (apply (mask p o) (state_of i))) (action_at t m).outcomes) = rw (← every_map h (λ o. apply (mask p o) (state_of i)) (action_at t m).outcomes, ← successors_at m i l b) u in
      subst (λ y. T (h y)) (idle_outcome t k p weight_of m l o within (state_of i) (state_at_abstract t w p i) z (rw (r.task_is, r.mask_is) at q))
      (every_at (λ o. h (apply (mask p o) (state_of i))) (action_at t m).outcomes [] o within all)

  idle_again : (m i : ℕ) (l : m < length t.actions) → i < states → T (abstracted.enabled m (state_of i)) → idles x.task x.mask m ≡ true → (h : List ℕ → Bool) → T (every h (abstracted.successors m (state_of i))) → T (h (state_of i))
  unfolding idles
  idle_again m i l b z q h u =
      let a = any_out 0 (outcome_count x.task m) (λ o. eqb (bit_and (keep_mask x.task m o) x.mask) x.mask) (rw q tt) in
      idle_at m i l b z h u a.0 (omega (arith, a.1)) (borrow.Author.Tests.eqb-true (bit_and (keep_mask x.task m a.0) x.mask) x.mask (T_true (eqb (bit_and (keep_mask x.task m a.0) x.mask) x.mask) a.2))

  -- Entries that are 0 at goals, none above an action's Bellman value, and that are not below the costs: they are at most every finite cost.
  module _ (e : List ℕ) (n : length e ≡ states) (above : Above e)
      (goal_zero : (i : ℕ) → i < states → T (abstracted.goal (state_of i)) → get_or e i 0 ≡ 0) (stable : Stable x e) where
    entry_of_state : (y : List ℕ) (d : ℕ) → d < infinite_entry → AbstractState t p y → get_or e (index t.sizes p y) 0 ≤ d → T (costs e y ≤? d)
    entry_of_state y d h o q = let b : index t.sizes p y < length e = rw n (index_below t.sizes p y o.0) in
        rw (cost_at_lem e y, cost_le (get_or e (index t.sizes p y) infinite_entry) d h) (le→leb _ d (rw (inside e (index t.sizes p y) infinite_entry 0 b) q))

    -- An entry is at most d if the entries after an action are at most d without the action's weight.
    entry_within : (m i d : ℕ) (l : m < length t.actions) (b : i < states) → d < infinite_entry → abstracted.weight m ≤ d → T (applies abstracted m (state_of i)) → idles x.task x.mask m ≡ false →
        T (every (λ y. costs e y ≤? (d - abstracted.weight m)) (abstracted.successors m (state_of i))) → get_or e i 0 ≤ d
    unfolding applies
    entry_within m i d l b h v c q bounded = let rest = d - abstracted.weight m in
        let most : largest_entry m i l b e ≤ rest = leb→le _ rest (rw (largest_entry_le m i l b (and_l (abstracted.enabled m (state_of i)) _ c) e rest (omega arith)) bounded) in
        let is_value = bellman_value_at_lem m i l b e ∙ raised-within (abstracted.weight m) (largest_entry m i l b e) (omega arith) in
        omega (arith, is_value, stable.low m i (rw r.actions_are l) (rw n b) q (permitted_at_lem m i l b ∙ T_true _ (and_l (abstracted.enabled m (state_of i)) _ c)))

    stable_below : (f d i : ℕ) → d < infinite_entry → i < states → T (solvable abstracted f d (state_of i)) → get_or e i 0 ≤ d
    unfolding solvable applies
    stable_below zero d i h b u = absurd u
    stable_below (suc f) d i h b u = solves_out abstracted (solvable abstracted f) d (state_of i) u
        (λ g. omega (arith, goal_zero i b g))
        (λ m l₁ c v a. let l = bound_abstract m l₁ in let rest = d - abstracted.weight m in by_test (idles x.task x.mask m)
        (λ q. omega (arith, stable_below f rest i (omega arith) b (idle_again m i l b (and_l (abstracted.enabled m (state_of i)) _ c) q (solvable abstracted f rest) a)))
        (λ q. entry_within m i d l b h v c q (every_imp (solvable abstracted f rest) (λ y. costs e y ≤? rest) (abstracted.successors m (state_of i))
        (all_imp (λ y o z. entry_of_state y rest (omega arith) o (stable_below f rest (index t.sizes p y) (omega arith) (index_below t.sizes p y o.0) (rw (state_at-index t.sizes p y o.0, o.1) z)))
        (abstracted.successors m (state_of i)) ((abstraction_invariant t w p weight_of positive).closed m (state_of i) l₁ (state_at_abstract t w p i) c)) a)))

    costs_equal : EntriesBelow infinite_entry (table t p) → (i : ℕ) → i < states → cost_of (get_or e i infinite_entry) ≡ get_or (weighted_table t p weight_of) i inf
    unfolding table ◌≤∞◌
    costs_equal small i b = ext∞ _ _ (λ d. bool_iff _ _ (above i b d) (from d (get_or (weighted_table t p weight_of) i inf) refl))
      where
        from : (d : ℕ) (v : ℕ∞) → get_or (weighted_table t p weight_of) i inf ≡ v → T (v ≤? d) → T (cost_of (get_or e i infinite_entry) ≤? d)
        from d inf q u = absurd u
        from d (fin c) q u = let h : c < infinite_entry = small i c q in
            let solved : T (solvable abstracted (suc c) c (state_of i)) = rw (← (cost_solvable abstracted (AbstractState t p) (abstraction_invariant t w p weight_of positive) (state_of i) (state_at_abstract t w p i) (fin c)).0 (rw q at (table_entry t p weight_of w positive i b)) c) (le→leb c c (omega arith)) in
            mono? (cost_of (get_or e i infinite_entry)) c d (leb→le c d u) (rw (cost_le (get_or e i infinite_entry) c h) (le→leb _ c (rw (inside e i infinite_entry 0 (rw n b)) (stable_below (suc c) c i h b solved))))

    -- So the entries are the table.
    entries_are_table : EntriesBelow infinite_entry (table t p) → e ≡ map entry_of (table t p)
    unfolding table entry_of
    entries_are_table small = ext_get_or infinite_entry e (map entry_of (weighted_table t p weight_of)) (n ∙ sym (length-map (weighted_table t p weight_of) entry_of ∙ table-length t p weight_of))
        (λ i l. sym (entry_of-cost (get_or e i infinite_entry)) ∙ ap entry_of (costs_equal small i (rw n at l)) ∙ sym (get_or-map entry_of (weighted_table t p weight_of) i inf))

  module _ (e : List ℕ) (n : length e ≡ states) (s : Steps x (started x.task x.mask x.states states) e) (stable : Stable x e) where
    goal_zero : (i : ℕ) → i < states → T (abstracted.goal (state_of i)) → get_or e i 0 ≡ 0
    goal_zero i l g = let z : get_or (started x.task x.mask x.states states) i 0 ≡ 0 = started_at i l 0 ∙ rw (T_true (abstracted.goal (state_of i)) g) in omega (arith, steps_lower s i)

    pub settled_is_table : EntriesBelow infinite_entry (table t p) → e ≡ map entry_of (table t p)
    settled_is_table = entries_are_table e n (steps_above s (sym (steps_length s) ∙ n) started-above) goal_zero stable
