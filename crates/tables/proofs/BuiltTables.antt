-- The tables that a build of a record leaves where it answers `Built n`: every entry is the cost of its abstract state, and the value call on
-- them answers the summed estimate, so that demand 3 holds of it. Assumes nothing.
use Rattle.std.proofs.Common.{◌≡◌, ℕ, zero, suc, ◌+◌, ◌<◌, ◌≤◌, List, [], ◌∷◌, ◌++◌, map, length, get_or, take, drop, sym, refl, ap, ◌∙◌, append_assoc, arith, length-append, length-drop, get_or-drop, get_or-take, take_at, Result, Ok, Err, Option, Some, None}
use lib.Seq.{drop-append_seam, drop-append-add}
use Rattle.planning.specs.Extended.{ℕ∞, inf}
use Rattle.planning.specs.Finite.{All, chain}
use Rattle.planning.specs.System.{IsCost}
use Rattle.planning.specs.Plan.{Plan, Strong, cost}
use Rattle.planning.specs.Task.{Task, WellFormed, system}
use Rattle.planning.specs.Pattern.{Additive, abstraction}
use Rattle.planning.specs.Table.{state_count, state_at, table, tables, entry_of, cost_of, estimate, Small, infinite_entry}
use Rattle.planning.proofs.Finite.{all_imp, all_at, get_or_map}
use Rattle.planning.proofs.Table.{table-length, table_entry, light_entries_bounded, cost_of_entry}
use Rattle.task_record.specs.Record.{Sound}
use Rattle.task_record.specs.State.{state_check}
use Rattle.task_record.specs.TaskOf.{task_of, patterns_of, values_of}
use Rattle.task_record.proofs.SoundTask.{sound_well_formed}
use Rattle.task_record.proofs.States.{checked_good}
use Rattle.patterns.specs.Space.{entries_needed, judge_tables, table_check}
use Rattle.patterns.specs.Estimate.{judge_estimate, estimate_check}
use Rattle.task_record.specs.Refusals.{where_ok}
use Rattle.task_record.specs.declared.refusal.Refusal.{Refusal}
use Rattle.tables.specs.RecordTables.{table_build, Fits, Buildable, built_over, tables_built, tables_prepared}
use Rattle.patterns.specs.Value.{value_of, state_value}
use Rattle.patterns.proofs.Built.{built_length, light_weights, call_on_built, finite_answer_admissible, infinite_answer_no_plan}
use Rattle.patterns.proofs.Refusals.{ready_means, fits_means, checked_ready, answered_means}
use Rattle.patterns.proofs.Room.{fits_small, fits_room, small_fits}
use Rattle.tables.proofs.TableChain.{entries-length}

-- A call that refuses nothing can build.
judged_buildable : (r : List ℕ) (lent n : ℕ) → Sound r → judge_tables (task_of r).sizes (patterns_of r) lent ≡ Ok n →
    Buildable r lent
unfolding Small
judged_buildable r lent n s h = let k = fits_room (task_of r).sizes (patterns_of r) lent n h in
    record { sound = s; small = fits_small (task_of r).sizes (patterns_of r) lent n h; room = omega (arith, k.0, k.1) }

judged_built : (r : List ℕ) (lent n : ℕ) → Sound r → judge_tables (task_of r).sizes (patterns_of r) lent ≡ Ok n →
    table_build r lent ≡ Ok n
unfolding Sound
judged_built r lent n s h = rw (s, h)

pub buildable_fits : {r : List ℕ} {lent : ℕ} → Buildable r lent → Fits r lent
buildable_fits b = record { small = b.small; room = b.room }

-- Where nothing is to be refused, the build refuses nothing.
pub buildable_built : (r : List ℕ) (lent : ℕ) → Buildable r lent → table_build r lent ≡ Ok (entries_needed (task_of r).sizes (patterns_of r))
unfolding Small
buildable_built r lent b = judged_built r lent (entries_needed (task_of r).sizes (patterns_of r)) b.sound
    (small_fits (task_of r).sizes (patterns_of r) lent b.small b.room)

pub fits_buildable : (r : List ℕ) (lent n : ℕ) → table_check r lent ≡ Ok n → Buildable r lent
fits_buildable r lent n h = let k = fits_means r lent n h in judged_buildable r lent n k.0 k.1

pub ready_buildable : (r : List ℕ) (lent : ℕ) → estimate_check r lent ≡ Ok tt → Buildable r lent
ready_buildable r lent h = let k = checked_ready r lent h in let m = ready_means r lent k.1 in judged_buildable r lent m.0.0 k.0 m.0.1

-- The table of pattern number k in tables that follow each other, and its entry i.
module _ (t : Task) where
  pub chained_table : (ps : List (List ℕ)) (rest : List ℕ) (k : ℕ) → k < length ps →
      take (state_count t.sizes (get_or ps k [])) (drop (entries_needed t.sizes (take k ps)) (tables t ps ++ rest)) ≡ map entry_of (table t (get_or ps k []))
  unfolding tables chain entries_needed
  chained_table [] rest k l = absurd (omega arith)
  chained_table (p ∷ ps) rest zero l = rw (append_assoc (map entry_of (table t p)) (tables t ps) rest)
      (take_at (map entry_of (table t p)) (tables t ps ++ rest) (state_count t.sizes p) (entries-length t p))
  chained_table (p ∷ ps) rest (suc k) l =
      rw (append_assoc (map entry_of (table t p)) (tables t ps) rest, ← (entries-length t p), drop-append-add (map entry_of (table t p)) (tables t ps ++ rest) (entries_needed t.sizes (take k ps)))
      (chained_table ps rest k (omega arith))

  pub chained_entry : (ps : List (List ℕ)) (rest : List ℕ) (k i : ℕ) → k < length ps → i < state_count t.sizes (get_or ps k []) →
      get_or (tables t ps ++ rest) (entries_needed t.sizes (take k ps) + i) infinite_entry ≡ entry_of (get_or (table t (get_or ps k [])) i inf)
  unfolding table
  chained_entry ps rest k i l h = let begin = entries_needed t.sizes (take k ps) in let states = state_count t.sizes (get_or ps k []) in
      sym (get_or-take states (drop begin (tables t ps ++ rest)) i infinite_entry h ∙ get_or-drop begin (tables t ps ++ rest) i infinite_entry)
      ∙ ap (λ l. get_or l i infinite_entry) (chained_table ps rest k l)
      ∙ get_or_map entry_of (table t (get_or ps k [])) i inf infinite_entry (rw (table-length t (get_or ps k []) (λ a. a.weight)) h)

module _ (r tabs : List ℕ) where
  -- A build that refuses nothing.
  module _ (n : ℕ) (built : table_build r (length tabs) ≡ Ok n) where
    buildable : Buildable r (length tabs)
    buildable = fits_buildable r (length tabs) n built

    pub entries-written : entries_needed (task_of r).sizes (patterns_of r) ≡ n
    entries-written = (fits_room (task_of r).sizes (patterns_of r) (length tabs) n (fits_means r (length tabs) n built).1).0

    pub tables_left_lem : tables_built r tabs ≡ built_over r tabs
    tables_left_lem = ap (λ t. where_ok t (built_over r tabs) tabs) built

    -- "Entries after the last stay untouched", and nothing else is kept: n entries are written.
    pub rest_untouched : drop n (tables_built r tabs) ≡ drop n tabs
    unfolding built_over
    rest_untouched = let new = tables (task_of r) (patterns_of r) in let rest = drop (entries_needed (task_of r).sizes (patterns_of r)) tabs in
        rw (tables_left_lem, ← entries-written)
        (ap (λ k. drop k (new ++ rest)) (sym (built_length (task_of r) (patterns_of r))) ∙ drop-append_seam new rest)

    module _ (k i : ℕ) (l : k < length (patterns_of r)) (inside : i < state_count (task_of r).sizes (get_or (patterns_of r) k [])) where
      -- Pattern number k, and its entry i: the tables of the patterns before it come first.
      abbrev pub pattern : List ℕ
      pattern = get_or (patterns_of r) k []

      abbrev pub entry : ℕ
      entry = get_or (tables_built r tabs) (entries_needed (task_of r).sizes (take k (patterns_of r)) + i) infinite_entry

      well_formed_lem : WellFormed (task_of r)
      well_formed_lem = sound_well_formed r buildable.sound

      weights_positive : All (λ a. 1 ≤ a.weight) (task_of r).actions
      weights_positive = all_imp (λ a w. w.weight_positive) (task_of r).actions well_formed_lem.actions_well_formed

      entry_is : entry ≡ entry_of (get_or (table (task_of r) pattern) i inf)
      unfolding built_over
      entry_is = rw tables_left_lem (chained_entry (task_of r) (patterns_of r) (drop (entries_needed (task_of r).sizes (patterns_of r)) tabs) k i l inside)

      -- It is the limit of Definition 2.9 at the abstract state with index i, "reachable or not", in 32 bits.
      pub entry_is_cost : (c : ℕ∞)
          × IsCost (system (abstraction pattern (λ a. a.weight) (task_of r))) (state_at (task_of r).sizes pattern i) c
          × (entry ≡ entry_of c)
      unfolding table
      entry_is_cost = (
        get_or (table (task_of r) pattern) i inf,
        table_entry (task_of r) pattern (λ a. a.weight) well_formed_lem weights_positive i inside,
        entry_is,
      )

      -- The same read back: "infinite 4,294,967,295".
      pub entry_read_is_cost : IsCost (system (abstraction pattern (λ a. a.weight) (task_of r))) (state_at (task_of r).sizes pattern i) (cost_of entry)
      unfolding table Small
      entry_read_is_cost =
          let h = all_at (λ p. state_count (task_of r).sizes p ≤ 4096) (patterns_of r) [] buildable.small k l in
          rw (
            entry_is,
            cost_of_entry (get_or (table (task_of r) pattern) i inf)
                (λ c e. let b = light_entries_bounded (task_of r) (light_weights r buildable.sound) pattern h i c e in omega arith),
          )
          (table_entry (task_of r) pattern (λ a. a.weight) well_formed_lem weights_positive i inside)

  -- A build keeps the length of what it is lent, whatever it answers.
  pub built_over-length : Fits r (length tabs) → length (built_over r tabs) ≡ length tabs
  unfolding built_over
  built_over-length b =
      let a = length-append (tables (task_of r) (patterns_of r)) (drop (entries_needed (task_of r).sizes (patterns_of r)) tabs) in
      let e = built_length (task_of r) (patterns_of r) in let d = length-drop (entries_needed (task_of r).sizes (patterns_of r)) tabs in omega (arith, b.room)

  left_length : (t : Result ℕ Refusal) → table_check r (length tabs) ≡ t → length (where_ok t (built_over r tabs) tabs) ≡ length tabs
  left_length (Ok n) h = built_over-length (buildable_fits (fits_buildable r (length tabs) n h))
  left_length (Err refused) h = refl

  pub build_keeps_length : length (tables_built r tabs) ≡ length tabs
  build_keeps_length = left_length (table_check r (length tabs)) refl

  -- "A search that answers .. leaves its tables as a build does."
  pub prepared_as_built : estimate_check r (length tabs) ≡ Ok tt → tables_prepared r tabs ≡ tables_built r tabs
  prepared_as_built h = let k = checked_ready r (length tabs) h in let m = ready_means r (length tabs) k.1 in
      ap (λ e. where_ok e (built_over r tabs) tabs) h ∙ sym (tables_left_lem m.0.0 (judged_built r (length tabs) m.0.0 k.0 m.0.1))

  module _ (s : List ℕ) where
    -- Where the value call refuses nothing on what a build left, the build has refused nothing.
    answered_built : (v : Option ℕ) → state_value r s (tables_built r tabs) ≡ Ok v → tables_built r tabs ≡ built_over r tabs
    answered_built v h = let a = answered_means r s (tables_built r tabs) v h in
        let e : judge_estimate r (length tabs) ≡ Ok tt = rw build_keeps_length at a.1 in let m = ready_means r (length tabs) e in
        tables_left_lem m.0.0 (judged_built r (length tabs) m.0.0 (checked_good r s a.0).0 m.0.1)

    -- "It is the summed estimate of demand 3."
    pub value-after_build : (n : ℕ) → table_build r (length tabs) ≡ Ok n → state_check r s ≡ Ok tt →
        Additive (task_of r) (patterns_of r) →
        state_value r s (tables_built r tabs) ≡ Ok (value_of (estimate (task_of r) (patterns_of r) (values_of r s)))
    unfolding built_over
    value-after_build n built good add = rw (tables_left_lem n built)
        (call_on_built r s (drop (entries_needed (task_of r).sizes (patterns_of r)) tabs) good (buildable n built).small add)

    -- "Demand 3 holds of it for tables just as the build of the same task left them": a finite value is at most the cost of every strong
    -- plan from the state, and an infinite one means that there is none.
    pub finite_after_build : (n : ℕ) → state_value r s (tables_built r tabs) ≡ Ok (Some n) →
        (p : Plan) → Strong (system (task_of r)) p (values_of r s) → n ≤ cost (system (task_of r)) p
    unfolding built_over
    finite_after_build n h p q = let rest = drop (entries_needed (task_of r).sizes (patterns_of r)) tabs in
        finite_answer_admissible r s rest n (rw (answered_built (Some n) h) at h) p q

    pub infinite_after_build : state_value r s (tables_built r tabs) ≡ Ok None →
        (p : Plan) → Strong (system (task_of r)) p (values_of r s) → ⊥
    unfolding built_over
    infinite_after_build h p q = let rest = drop (entries_needed (task_of r).sizes (patterns_of r)) tabs in
        infinite_answer_no_plan r s rest (rw (answered_built None h) at h) p q
