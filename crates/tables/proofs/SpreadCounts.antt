-- What the call `spread` says of a pattern's abstract states where it answers `Ok n`: the counts add up to n, each is the number of
-- states with its cost, and the last is the number of those that no strong plan leads out of. Assumes nothing.
use Rattle.std.proofs.Common.{◌≡◌, ℕ, suc, ◌<◌, ◌≤◌, true, cond, ltb, List, [], ◌++◌, length, get_or, take, drop, replicate, sym, refl, ap, ◌∙◌, zero-add, arith, take_at, drop_at, ltb-false, ltb-true, lt-ltb, Result, Ok, Err}
use lib.ListN.{get_or-append}
use Rattle.planning.specs.Finite.{All, total, HowMany}
use Rattle.planning.specs.Extended.{ℕ∞, fin, inf}
use Rattle.planning.specs.System.{System, IsCost, Invariant}
use Rattle.planning.specs.Plan.{Plan, Strong}
use Rattle.planning.specs.Task.{WellFormed, system}
use Rattle.planning.specs.Pattern.{abstraction, AbstractState}
use Rattle.planning.specs.Table.{state_count, state_at, table, EntriesBelow, Small, most_cost}
use Rattle.planning.specs.Spread.{states_with, row_size, spread}
use Rattle.planning.proofs.Test.{by_test}
use Rattle.planning.proofs.Finite.{all_imp, all_at}
use Rattle.planning.proofs.System.{cost_unique}
use Rattle.planning.proofs.Plan.{cost_infinite_iff_no_plan}
use Rattle.planning.proofs.Pattern.{abstraction_invariant}
use Rattle.planning.proofs.Table.{table-length, table_entry, state_at_abstract, light_entries_bounded}
use Rattle.planning.proofs.Spread as law
use Rattle.task_record.specs.Numbers.{pattern_count}
use Rattle.task_record.specs.TaskOf.{task_of, patterns_of}
use Rattle.task_record.proofs.SoundTask.{sound_well_formed}
use Rattle.patterns.specs.Space.{table_check}
use Rattle.task_record.specs.Refusals.{after, where_ok}
use Rattle.task_record.specs.declared.refusal.Refusal.{Refusal}
use Rattle.task_record.specs.declared.refusal.Refusal.TheVariants.{ShortRow}
use Rattle.patterns.proofs.Built.{light_weights}
use Rattle.patterns.proofs.Reading.{patterns_length}
use Rattle.tables.specs.RecordTables.{Buildable, built_over, tables_built}
use Rattle.tables.specs.Spread.{costs_named, states_named, table_spread, tables_spread, row_spread}
use Rattle.tables.proofs.BuiltTables.{fits_buildable}
use Rattle.tables.proofs.Spreading.{none_named}

-- What a spread that refuses nothing has found.
counted_by : (t : Result ℕ Refusal) (row states n : ℕ) → after t (λ k. cond (ltb row row_size) (Err (ShortRow row)) (Ok states)) ≡ Ok n →
    ((k : ℕ) × (t ≡ Ok k)) × (row_size ≤ row) × (states ≡ n)
counted_by (Ok k) row states n h = by_test (ltb row row_size)
    (λ e. let g = rw e at h in let z : ◌≡◌ {A = ℕ} 0 1 = cc in absurd (omega arith))
    (λ e. let g = rw e at h in let s : states ≡ n = cc in ((k, refl), ltb-false row row_size e, s))
counted_by (Err refused) row states n h = let z : ◌≡◌ {A = ℕ} 0 1 = cc in absurd (omega arith)

module _ (r tabs row : List ℕ) (p n : ℕ) (counted : table_spread r p (length tabs) (length row) ≡ Ok n) where
  found : ((k : ℕ) × (table_check r (length tabs) ≡ Ok k)) × (row_size ≤ length row) × (states_named r p ≡ n)
  found = counted_by (table_check r (length tabs)) (length row) (states_named r p) n counted

  buildable : Buildable r (length tabs)
  buildable = fits_buildable r (length tabs) found.0.0 found.0.1

  -- "From tables it builds in lent entries and leaves so": as a build leaves them.
  pub tables_as_built : tables_spread r p tabs (length row) ≡ tables_built r tabs
  tables_as_built = ap (λ x. where_ok x (built_over r tabs) tabs) counted ∙ sym (ap (λ t. where_ok t (built_over r tabs) tabs) found.0.1)

  -- The row that is left.
  abbrev pub left : List ℕ
  left = row_spread r p (length tabs) row

  row_left : left ≡ spread (costs_named r p) ++ drop row_size row
  row_left = ap (λ x. where_ok x (spread (costs_named r p) ++ drop row_size row) row) counted

  counts_left : take row_size left ≡ spread (costs_named r p)
  counts_left = rw row_left (take_at (spread (costs_named r p)) (drop row_size row) row_size (law.spread-length (costs_named r p)))

  -- "The rest of a longer row stays untouched."
  pub rest_untouched : drop row_size left ≡ drop row_size row
  rest_untouched = rw row_left (drop_at (spread (costs_named r p)) (drop row_size row) row_size (law.spread-length (costs_named r p)))

  count_left : (i : ℕ) → i < row_size → get_or left i 0 ≡ get_or (spread (costs_named r p)) i 0
  count_left i l = rw row_left (get_or-append (spread (costs_named r p)) (drop row_size row) 0 i (rw (law.spread-length (costs_named r p)) l))

  -- "A pattern number not below P names no states, so its counts are all 0."
  pub none_counted : pattern_count r ≤ p → take row_size left ≡ replicate row_size 0
  none_counted l = counts_left ∙ ap spread (none_named r p l) ∙ law.spread_of_none

  below-number : ltb p (pattern_count r) ≡ true → p < length (patterns_of r)
  below-number e = rw (patterns_length r) (ltb-true p (pattern_count r) e)

  few : p < length (patterns_of r) → state_count (task_of r).sizes (get_or (patterns_of r) p []) ≤ 4096
  unfolding Small
  few l = all_at (λ q. state_count (task_of r).sizes q ≤ 4096) (patterns_of r) [] buildable.small p l

  costs_bounded : EntriesBelow (suc most_cost) (costs_named r p)
  unfolding costs_named
  costs_bounded = by_test (ltb p (pattern_count r))
      (λ e. rw e (light_entries_bounded (task_of r) (light_weights r buildable.sound) (get_or (patterns_of r) p []) (few (below-number e))))
      (λ e. rw e (λ i k f. let z : ◌≡◌ {A = ℕ} 0 1 = cc in absurd (omega arith)))

  costs_counted : length (costs_named r p) ≡ n
  unfolding costs_named states_named table
  costs_counted = by_test (ltb p (pattern_count r))
      (λ e. rw e (table-length (task_of r) (get_or (patterns_of r) p []) (λ a. a.weight))) (λ e. rw e) ∙ found.2

  -- "The counts add up to the pattern's number of states", which is what the call answers.
  pub counts_add_up : total (take row_size left) ≡ n
  counts_add_up = rw counts_left (law.counts_add_up (costs_named r p) costs_bounded ∙ costs_counted)

  -- A number that names a pattern.
  module _ (l : p < pattern_count r) where
    abbrev pub pattern : List ℕ
    pattern = get_or (patterns_of r) p []

    -- "The pattern's number of states".
    pub states_counted : n ≡ state_count (task_of r).sizes pattern
    unfolding states_named
    states_counted = sym found.2 ∙ rw (lt-ltb p (pattern_count r) l)

    abbrev pub abstracted : System (List ℕ)
    abstracted = system (abstraction pattern (λ a. a.weight) (task_of r))

    abbrev pub state_of : ℕ → List ℕ
    state_of i = state_at (task_of r).sizes pattern i

    well_formed_lem : WellFormed (task_of r)
    well_formed_lem = sound_well_formed r buildable.sound

    weights_positive : All (λ a. 1 ≤ a.weight) (task_of r).actions
    weights_positive = all_imp (λ a w. w.weight_positive) (task_of r).actions well_formed_lem.actions_well_formed

    sound : Invariant abstracted (AbstractState (task_of r) pattern)
    sound = abstraction_invariant (task_of r) well_formed_lem pattern (λ a. a.weight) weights_positive

    counted_states : (c : ℕ∞) → HowMany (λ i. IsCost abstracted (state_of i) c) 0 n (states_with c (costs_named r p))
    unfolding costs_named table
    counted_states c = let e = costs_counted in rw (← e, lt-ltb p (pattern_count r) l)
        (law.how_many (λ i. IsCost abstracted (state_of i)) (λ i a b. cost_unique abstracted _ sound (state_of i) (state_at_abstract (task_of r) well_formed_lem pattern i) a b)
        c 0 (table (task_of r) pattern)
        (λ i h. rw (zero-add i) (table_entry (task_of r) pattern (λ a. a.weight) well_formed_lem weights_positive i (rw (table-length (task_of r) pattern (λ a. a.weight)) at h))))

    -- "How many abstract states have each value": count v is the number of those whose cost, the limit of Definition 2.9, is v.
    pub count_of_cost : (v : ℕ) → v ≤ most_cost → HowMany (λ i. IsCost abstracted (state_of i) (fin v)) 0 n (get_or left v 0)
    unfolding row_size
    count_of_cost v h = rw (count_left v (omega arith), law.finite_count (costs_named r p) v h) (counted_states (fin v))

    -- "And how many are infinite": the last count is the number of those from which there is no strong plan.
    pub count_of_infinite : HowMany (λ i. (q : Plan) → Strong abstracted q (state_of i) → ⊥) 0 n (get_or left (suc most_cost) 0)
    unfolding row_size
    count_of_infinite = rw (count_left (suc most_cost) (omega arith), law.infinite_count (costs_named r p))
        (law.how_many_iff _ _ (λ i. cost_infinite_iff_no_plan abstracted _ sound (state_of i) (state_at_abstract (task_of r) well_formed_lem pattern i)) 0 n _ (counted_states inf))
