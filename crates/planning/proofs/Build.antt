-- What a builder of a table needs that lowers entries in place, in any order: laws by index, over lists of entries. It starts with no entry below
-- the built table, and replaces entries by the operator's value. Assumes nothing.
use mathlib.Core.Path.{◌≡◌, sym, ◌∙◌, subst}
use mathlib.Core.List.{List}
use Prim.Native.Nat.{ℕ, ◌≤◌, ◌<◌}
use lib.Dec.{T}
use lib.ListN.{get_or}
use Rattle.planning.specs.Finite.{All}
use Rattle.planning.specs.Extended.{ℕ∞, fin, inf, ◌≤∞◌}
use Rattle.planning.specs.System.{bellman}
use Rattle.planning.specs.Task.{Action, Task, system, WellFormed}
use Rattle.planning.specs.Pattern.{abstraction, AbstractState}
use Rattle.planning.specs.Table.{index, state_count, state_at, entry_at, weighted_table}
use Rattle.planning.proofs.System.{bellman_goal, cost_is_fixed_point}
use Rattle.planning.proofs.Bound.{upper_bound_step}
use Rattle.planning.proofs.Pattern.{abstraction_invariant}
use Rattle.planning.proofs.Table.{index_below, state_at-index, index_at_state, state_at_abstract, table_is_cost}

module _ (t : Task) (p : List ℕ) (q : Action → ℕ) where
  abbrev pub entries : ℕ
  entries = state_count t.sizes p

  abbrev pub built : ℕ → ℕ∞
  built i = get_or (weighted_table t p q) i inf

  -- The operator's value for entry i, from the entries of tab.
  abbrev pub lowered : List ℕ∞ → ℕ → ℕ∞
  lowered tab i = bellman (system (abstraction p q t)) (entry_at t.sizes p tab) (state_at t.sizes p i)

  -- No entry is below the built table's.
  abbrev pub NotBelow : List ℕ∞ → Type 0
  NotBelow tab = (i : ℕ) → i < entries → built i ≤∞ get_or tab i inf

  -- What holds by index holds by abstract state.
  by_state : (P : List ℕ → ℕ∞ → Type 0) (tab : List ℕ∞) → ((i : ℕ) → i < entries → P (state_at t.sizes p i) (get_or tab i inf)) → (s : List ℕ) → AbstractState t p s → P s (entry_at t.sizes p tab s)
  unfolding entry_at
  by_state P tab h s o = subst (λ x. P x (get_or tab (index t.sizes p s) inf)) (state_at-index t.sizes p s o.0 ∙ o.1) (h (index t.sizes p s) (index_below t.sizes p s o.0))

  module _ (w : WellFormed t) (positive : All (λ a. 1 ≤ q a) t.actions) where
    state_entry : (tab : List ℕ∞) (i : ℕ) → i < entries → entry_at t.sizes p tab (state_at t.sizes p i) ≡ get_or tab i inf
    unfolding entry_at
    state_entry tab i l = rw (index_at_state t.sizes p w.sizes_positive i l)

    not_below_by_state : (tab : List ℕ∞) → NotBelow tab → (s : List ℕ) → AbstractState t p s → entry_at t.sizes p (weighted_table t p q) s ≤∞ entry_at t.sizes p tab s
    not_below_by_state tab h = by_state (λ s v. entry_at t.sizes p (weighted_table t p q) s ≤∞ v) tab (λ i l. rw (state_entry (weighted_table t p q) i l) (h i l))

    -- An entry of a goal is 0; so a start with 0 at goals and infinity elsewhere is not below.
    pub built_at_goal : (i : ℕ) → i < entries → T ((system (abstraction p q t)).goal (state_at t.sizes p i)) → built i ≡ fin 0
    built_at_goal i l g = sym (state_entry (weighted_table t p q) i l)
        ∙ cost_is_fixed_point (system (abstraction p q t)) (AbstractState t p) (abstraction_invariant t w p q positive) _ (table_is_cost t p q w positive) (state_at t.sizes p i) (state_at_abstract t w p i)
        ∙ bellman_goal (system (abstraction p q t)) _ (state_at t.sizes p i) g

    -- A lowered entry is not below.
    pub lowered_not_below : (tab : List ℕ∞) → NotBelow tab → (i : ℕ) → i < entries → built i ≤∞ lowered tab i
    lowered_not_below tab h i l = rw (← state_entry (weighted_table t p q) i l) (upper_bound_step (system (abstraction p q t)) (AbstractState t p) (abstraction_invariant t w p q positive)
        (entry_at t.sizes p (weighted_table t p q)) (table_is_cost t p q w positive) (entry_at t.sizes p tab) (not_below_by_state tab h) (state_at t.sizes p i) (state_at_abstract t w p i))
