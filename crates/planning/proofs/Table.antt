-- Laws of tables: the index numbers the abstract states without gaps, the table of a pattern holds their costs, and the value read from
-- tables as built is the summed estimate. Assumes nothing.
use mathlib.Core.Path.{◌≡◌, refl, sym, ap, ◌∙◌, subst}
use mathlib.Core.Bool.{Bool, true, false, cond}
use mathlib.Core.List.{List, [], ◌∷◌, ◌++◌, map, append_assoc}
use Prim.Native.Nat.{ℕ, zero, suc, ◌+◌, ◌*◌, ◌-◌, ◌/◌, ◌%◌, ◌≤◌, ◌<◌}
use native.Mathlib.Omega.{arith}
use native.Mathlib.Nat.{mod-lt, div-add-mod', div-lt_iff_lt-mul, zero-add, mul-le-mul_left}
use lib.Arith.{digits_lt, digits_div, digits_mod}
use lib.Seq.{drop-append_seam}
use lib.Dec.{T, leb, eqb, ltb, leb→le, le→leb, nleb→lt, lt→ltb, ltb→lt}
use lib.ListN
use lib.ListN.{length, get_or, drop, length-map, length-replicate, get_or-replicate, get_or-append}
use Rattle.planning.specs.Finite.{All, Some, tabulate, chain}
use Rattle.planning.specs.Extended.{ℕ∞, fin, inf, infinite_from}
use Rattle.planning.specs.System.{iterate, IsCost, cost_within}
use Rattle.planning.specs.Task.{Action, Task, system, no_action, in_sizes, State, WellFormed}
use Rattle.planning.specs.Pattern.{keep, project, mask_action, abstraction, AbstractState}
use Rattle.planning.specs.Table.{index_from, index, state_count, state_at, entry_at, largest_weight, table_round, table_after, rounds_enough, weighted_table, table, infinite_entry, entry_of, cost_of, tables, EntriesBelow, value, estimate, Small, most_weight, most_cost}
use Rattle.planning.proofs.Test.{false_not_T, and_in, and_l, and_r, by_test, not_equal}
use Rattle.planning.proofs.Finite.{all_imp, all_at, length-tabulate, get_or_tabulate, some_tabulate, get_or_map}
use Rattle.planning.proofs.Extended.{infinite_below, infinite_above}
use Rattle.planning.proofs.System.{bellman_ext}
use Rattle.planning.proofs.Bound.{cost_is_limit}
use Rattle.planning.proofs.Task.{task_filled}
use Rattle.planning.proofs.Pattern.{action_masked, abstraction_actions, abstraction-well_formed, abstraction_invariant}

-- The running weight w is a factor of the whole sum, so the index is in Horner form: times the size, plus the lowest value.
pub index_scaled : (w : ℕ) (zs p s : List ℕ) → index_from w zs p s ≡ index_from 1 zs p s * w
unfolding index_from
index_scaled w [] p s = omega arith
index_scaled w (z ∷ zs) p [] = omega arith
index_scaled w (z ∷ zs) [] (x ∷ s) = index_scaled w zs [] s
index_scaled w (z ∷ zs) (b ∷ p) (x ∷ s) = by_test (eqb b 1)
    (λ e. rw (e, index_scaled (w * z) zs p s, index_scaled (1 * z) zs p s) (omega arith))
    (λ e. rw e (index_scaled w zs p s))

pub index_horner : (z : ℕ) (zs : List ℕ) (b : ℕ) (p : List ℕ) (x : ℕ) (s : List ℕ) → index (z ∷ zs) (b ∷ p) (x ∷ s) ≡ cond (eqb b 1) (index zs p s * z + x) (index zs p s)
unfolding index index_from
index_horner z zs b p x s = by_test (eqb b 1) (λ e. rw (e, index_scaled (1 * z) zs p s) (omega arith)) (λ e. rw e)

-- The index of a state is below the number of abstract states.
pub index_below : (zs p s : List ℕ) → T (in_sizes zs s) → index zs p s < state_count zs p
unfolding index index_from state_count in_sizes
index_below [] p s h = omega arith
index_below (z ∷ zs) p [] h = absurd h
index_below (z ∷ zs) [] (x ∷ s) h = index_below zs [] s (and_r (ltb x z) _ h)
index_below (z ∷ zs) (b ∷ p) (x ∷ s) h = rw (index_horner z zs b p x s) (by_test (eqb b 1)
    (λ e. rw e (digits_lt (index_below zs p s (and_r (ltb x z) _ h)) (ltb→lt x z (and_l (ltb x z) _ h))))
    (λ e. rw e (index_below zs p s (and_r (ltb x z) _ h))))

-- Index and state are each other's inverse: from a state to its projection, from a number to itself.
pub state_at-index : (zs p s : List ℕ) → T (in_sizes zs s) → state_at zs p (index zs p s) ≡ project p s
unfolding index index_from state_at in_sizes keep
state_at-index [] p [] h = refl
state_at-index [] p (x ∷ s) h = absurd h
state_at-index (z ∷ zs) p [] h = absurd h
state_at-index (z ∷ zs) [] (x ∷ s) h = ap (λ l. 0 ∷ l) (state_at-index zs [] s (and_r (ltb x z) _ h))
state_at-index (z ∷ zs) (b ∷ p) (x ∷ s) h = rw (index_horner z zs b p x s) (by_test (eqb b 1)
    (λ e. let l : x < z = ltb→lt x z (and_l (ltb x z) _ h) in rw (e, digits_mod (index zs p s) l, digits_div (index zs p s) l, state_at-index zs p s (and_r (ltb x z) _ h)))
    (λ e. rw (e, state_at-index zs p s (and_r (ltb x z) _ h))))

pub index_at_state : (zs p : List ℕ) → All (λ z. 1 ≤ z) zs → (i : ℕ) → i < state_count zs p → index zs p (state_at zs p i) ≡ i
unfolding index index_from state_at state_count
index_at_state [] p h i l = omega arith
index_at_state (z ∷ zs) [] h i l = index_at_state zs [] h.1 i l
index_at_state (z ∷ zs) (b ∷ p) h i l = index_horner z zs b p (cond (eqb b 1) (i % z) 0) (state_at zs p (cond (eqb b 1) (i / z) i)) ∙ by_test (eqb b 1)
    (λ e. rw (e, index_at_state zs p h.1 (i / z) ((div-lt_iff_lt-mul h.0).1 (rw e at l))) (div-add-mod' i z))
    (λ e. rw e (index_at_state zs p h.1 i (rw e at l)))

-- A state and its projection have the same index.
pub index_projected : (zs p s : List ℕ) → index zs p (project p s) ≡ index zs p s
unfolding index index_from keep
index_projected [] p s = refl
index_projected (z ∷ zs) p [] = refl
index_projected (z ∷ zs) [] (x ∷ s) = index_projected zs [] s
index_projected (z ∷ zs) (b ∷ p) (x ∷ s) = index_horner z zs b p (cond (eqb b 1) x 0) (project p s) ∙ by_test (eqb b 1)
    (λ e. rw (e, index_projected zs p s))
    (λ e. rw (e, index_projected zs p s)) ∙ sym (index_horner z zs b p x s)

-- The state at an index is an abstract state.
state_cell-fits : (b : Bool) (i z : ℕ) → 1 ≤ z → T (ltb (cond b (i % z) 0) z)
state_cell-fits true i z l = lt→ltb (i % z) z (mod-lt i l)
state_cell-fits false i z l = lt→ltb 0 z l

state_at-in_sizes : (zs p : List ℕ) → All (λ z. 1 ≤ z) zs → (i : ℕ) → T (in_sizes zs (state_at zs p i))
unfolding state_at in_sizes
state_at-in_sizes [] p h i = tt
state_at-in_sizes (z ∷ zs) [] h i = and_in (ltb 0 z) _ (lt→ltb 0 z h.0) (state_at-in_sizes zs [] h.1 i)
state_at-in_sizes (z ∷ zs) (b ∷ p) h i = and_in (ltb (cond (eqb b 1) (i % z) 0) z) _ (state_cell-fits (eqb b 1) i z h.0) (state_at-in_sizes zs p h.1 (cond (eqb b 1) (i / z) i))

state_cell_kept : (b : Bool) (x : ℕ) → cond b (cond b x 0) 0 ≡ cond b x 0
state_cell_kept true x = refl
state_cell_kept false x = refl

state_at_projected : (zs p : List ℕ) (i : ℕ) → project p (state_at zs p i) ≡ state_at zs p i
unfolding state_at keep
state_at_projected [] p i = refl
state_at_projected (z ∷ zs) [] i = ap (λ l. 0 ∷ l) (state_at_projected zs [] i)
state_at_projected (z ∷ zs) (b ∷ p) i = rw (state_cell_kept (eqb b 1) (i % z), state_at_projected zs p (cond (eqb b 1) (i / z) i))

pub state_at_abstract : (t : Task) → WellFormed t → (p : List ℕ) (i : ℕ) → AbstractState t p (state_at t.sizes p i)
state_at_abstract t w p i = (state_at-in_sizes t.sizes p w.sizes_positive i, state_at_projected t.sizes p i)

-- The states by index cover the abstract states.
pub states_cover : (t : Task) (p s : List ℕ) → AbstractState t p s → Some (λ x. x ≡ s) (tabulate (state_at t.sizes p) 0 (state_count t.sizes p))
states_cover t p s o = let e : state_at t.sizes p (0 + index t.sizes p s) ≡ s = rw (zero-add (index t.sizes p s), state_at-index t.sizes p s o.0) o.1 in
    subst (λ y. Some (λ x. x ≡ y) (tabulate (state_at t.sizes p) 0 (state_count t.sizes p))) e
    (some_tabulate (state_at t.sizes p) 0 (state_count t.sizes p) (index t.sizes p s) (index_below t.sizes p s o.0))

-- No weight is above the largest.
pub weights_at_most_largest : (rest : List Action) (q : Action → ℕ) → All (λ a. q a ≤ largest_weight rest q) rest
unfolding largest_weight
weights_at_most_largest [] q = tt
weights_at_most_largest (a ∷ rest) q = (omega arith, all_imp (λ b l. omega arith) rest (weights_at_most_largest rest q))

module _ (t : Task) (p : List ℕ) (q : Action → ℕ) where
  after-length : (n : ℕ) → length (table_after t p q n) ≡ state_count t.sizes p
  unfolding table_after table_round
  after-length zero = length-replicate (state_count t.sizes p) (fin 0)
  after-length (suc n) = length-tabulate _ 0 (state_count t.sizes p)

  pub table-length : length (weighted_table t p q) ≡ state_count t.sizes p
  unfolding weighted_table
  table-length = length-map (table_after t p q (rounds_enough t p q)) (infinite_from (rounds_enough t p q)) ∙ after-length (rounds_enough t p q)

  module _ (w : WellFormed t) (positive : All (λ a. 1 ≤ q a) t.actions) where
    -- The entries of round n are the costs of round n.
    after_is_iterate : (n : ℕ) (s : List ℕ) → AbstractState t p s → entry_at t.sizes p (table_after t p q n) s ≡ iterate (system (abstraction p q t)) n s
    unfolding entry_at table_after table_round iterate
    after_is_iterate zero s o = get_or-replicate (state_count t.sizes p) (index t.sizes p s) (fin 0) inf (index_below t.sizes p s o.0)
    after_is_iterate (suc n) s o = get_or_tabulate _ 0 (state_count t.sizes p) (index t.sizes p s) inf (index_below t.sizes p s o.0)
        ∙ rw (zero-add (index t.sizes p s), state_at-index t.sizes p s o.0, o.1)
        (bellman_ext (system (abstraction p q t)) (AbstractState t p) (abstraction_invariant t w p q positive) _ _ (after_is_iterate n) s o)

    entry_within : (s : List ℕ) → AbstractState t p s → entry_at t.sizes p (weighted_table t p q) s ≡ cost_within (system (abstraction p q t)) (rounds_enough t p q) s
    unfolding entry_at weighted_table cost_within
    entry_within s o = get_or_map (infinite_from (rounds_enough t p q)) (table_after t p q (rounds_enough t p q)) (index t.sizes p s) inf inf
        (rw (after-length (rounds_enough t p q)) (index_below t.sizes p s o.0))
        ∙ ap (infinite_from (rounds_enough t p q)) (after_is_iterate (rounds_enough t p q) s o)

    weight_light : (m : ℕ) → m < (system (abstraction p q t)).actions → (system (abstraction p q t)).weight m ≤ largest_weight t.actions q
    unfolding system mask_action
    weight_light m l = let k = rw (abstraction_actions p q t) at l in rw (action_masked p q t m k)
        (all_at (λ a. q a ≤ largest_weight t.actions q) t.actions no_action (weights_at_most_largest t.actions q) m k)

    -- Every entry is the cost of its abstract state.
    pub table_is_cost : (s : List ℕ) → AbstractState t p s → IsCost (system (abstraction p q t)) s (entry_at t.sizes p (weighted_table t p q) s)
    unfolding system rounds_enough
    table_is_cost s o = let all = tabulate (state_at t.sizes p) 0 (state_count t.sizes p) in rw (entry_within s o)
        (cost_is_limit (system (abstraction p q t)) (AbstractState t p) (abstraction_invariant t w p q positive) all (states_cover t p)
        (task_filled (abstraction p q t) (abstraction-well_formed t w p q positive)) (largest_weight t.actions q) weight_light
        (state_count t.sizes p - 1) (rounds_enough t p q) s o (omega (arith, length-tabulate (state_at t.sizes p) 0 (state_count t.sizes p))) (omega arith))

    -- Entry i is the cost of the abstract state with index i.
    pub table_entry : (i : ℕ) → i < state_count t.sizes p → IsCost (system (abstraction p q t)) (state_at t.sizes p i) (get_or (weighted_table t p q) i inf)
    unfolding entry_at
    table_entry i l = rw (index_at_state t.sizes p w.sizes_positive i l) at (table_is_cost (state_at t.sizes p i) (state_at_abstract t w p i))

finite_below : (n : ℕ) (x : ℕ∞) (k : ℕ) → infinite_from (suc n) x ≡ fin k → k < suc n
finite_below n x k e = by_test (leb k n)
    (λ b. let l : k ≤ n = leb→le k n (rw b tt) in omega arith)
    (λ b. let l : n < k = nleb→lt k n (rw b tt) in
    let a : leb k k ≡ leb k n = rw e at (infinite_above n x k (omega arith) ∙ sym (infinite_below (suc n) x n (omega arith))) in
    absurd (false_not_T (a ∙ b) (le→leb k k (omega arith))))

-- A finite entry is at most (number of abstract states - 1) times the largest weight; where every action counts `most_weight` at most and the
-- pattern has at most 4,096 states, at most `most_cost`.
pub entries_bounded : (t : Task) (p : List ℕ) (q : Action → ℕ) → EntriesBelow (suc ((state_count t.sizes p - 1) * largest_weight t.actions q)) (weighted_table t p q)
unfolding weighted_table rounds_enough infinite_from
entries_bounded t p q i k e = finite_below ((state_count t.sizes p - 1) * largest_weight t.actions q) (get_or (table_after t p q (rounds_enough t p q)) i inf) k
    (sym (ListN.get_or-map (infinite_from (rounds_enough t p q)) (table_after t p q (rounds_enough t p q)) i inf) ∙ e)

largest_weight_at_most : (rest : List Action) (q : Action → ℕ) (n : ℕ) → All (λ a. q a ≤ n) rest → largest_weight rest q ≤ n
unfolding largest_weight
largest_weight_at_most [] q n h = omega arith
largest_weight_at_most (a ∷ rest) q n h = omega (arith, h.0, largest_weight_at_most rest q n h.1)

pub light_entries_bounded : (t : Task) → All (λ a. a.weight ≤ most_weight) t.actions → (p : List ℕ) → state_count t.sizes p ≤ 4096 → EntriesBelow (suc most_cost) (table t p)
unfolding table
light_entries_bounded t u p h i k e = let l = entries_bounded t p (λ a. a.weight) i k e in
    let b = mul-le-mul_left (state_count t.sizes p - 1) (largest_weight_at_most t.actions (λ a. a.weight) most_weight u) in omega arith

-- An entry holds a value below the infinite one, or infinity.
pub cost_of_entry : (v : ℕ∞) → ((k : ℕ) → v ≡ fin k → k < infinite_entry) → cost_of (entry_of v) ≡ v
unfolding cost_of entry_of
cost_of_entry (fin k) h = let l : k < infinite_entry = h k refl in rw (not_equal k infinite_entry (λ e. omega arith))
cost_of_entry inf h = refl

module _ (t : Task) (s : List ℕ) (o : State t s) where
  -- The entry of a state, read from the first of some tables.
  value_entry : (p : List ℕ) → EntriesBelow infinite_entry (table t p) → (more : List ℕ) →
      cost_of (get_or (map entry_of (table t p) ++ more) (index t.sizes p s) infinite_entry) ≡ entry_at t.sizes p (table t p) (project p s)
  unfolding entry_at entry_of table
  value_entry p h more = rw (
    index_projected t.sizes p s,
    get_or-append (map entry_of (table t p)) more infinite_entry (index t.sizes p s) (rw (length-map (table t p) entry_of, table-length t p (λ a. a.weight)) (index_below t.sizes p s o)),
    ListN.get_or-map entry_of (table t p) (index t.sizes p s) inf,
  )
      (cost_of_entry (get_or (table t p) (index t.sizes p s) inf) (h (index t.sizes p s)))

  value-drop : (p more : List ℕ) → drop (state_count t.sizes p) (map entry_of (table t p) ++ more) ≡ more
  unfolding table
  value-drop p more = let l : length (map entry_of (table t p)) ≡ state_count t.sizes p = length-map (table t p) entry_of ∙ table-length t p (λ a. a.weight) in
      rw (← l) (drop-append_seam (map entry_of (table t p)) more)

  -- The value read from tables whose finite entries are below the infinite one, whatever follows them, is the summed estimate.
  pub value_of_entries_below : (ps : List (List ℕ)) → All (λ p. EntriesBelow infinite_entry (table t p)) ps → (rest : List ℕ) → value t.sizes ps (tables t ps ++ rest) s ≡ estimate t ps s
  unfolding value tables estimate chain
  value_of_entries_below [] h rest = refl
  value_of_entries_below (p ∷ ps) h rest = rw (append_assoc (map entry_of (table t p)) (tables t ps) rest, value_entry p h.0 (tables t ps ++ rest), value-drop p (tables t ps ++ rest), value_of_entries_below ps h.1 rest)

  -- So it is where each pattern has at most 4,096 states and each action counts `most_weight` at most.
  pub value_of_built : All (λ a. a.weight ≤ most_weight) t.actions → (ps : List (List ℕ)) → Small t ps → (rest : List ℕ) → value t.sizes ps (tables t ps ++ rest) s ≡ estimate t ps s
  unfolding Small
  value_of_built u ps h rest = value_of_entries_below ps (all_imp (λ p l i k e. let b = light_entries_bounded t u p l i k e in omega arith) ps h) rest
