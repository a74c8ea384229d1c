-- The search of a sound record's compiled task with built tables is the search of the task itself, and what the code asks of the record
-- holds. Assumes nothing.
use Rattle.std.proofs.Common.{◌≡◌, ℕ, ◌+◌, ◌*◌, ◌/◌, ◌<◌, ◌≤◌, leb, List, Result, Ok, Err, length, drop, refl, ap, ◌∙◌, arith, leb-true}
use Rattle.planning.specs.Plan.{encode}
use Rattle.planning.specs.Search.{found, over, spent, none, search, answer}
use Rattle.planning.specs.Search as planning
use Rattle.planning.specs.Task.{system}
use Rattle.planning.specs.Table.{estimate, tables, Small}
use Rattle.planning.proofs.Table.{value_of_built}
use Rattle.planning.proofs.Test.{by_test}
use Rattle.planning.proofs.Simulation.{same_search}
use Rattle.task_record.specs.Layout.{at_limit, at_budget}
use Rattle.task_record.specs.Numbers.{variable_count, action_count, pattern_count, limit_of, budget_of}
use Rattle.task_record.specs.Record.{head_ok, cell_ok, Sound}
use Rattle.task_record.specs.TaskOf.{task_of, patterns_of, start_of}
use Rattle.task_record.proofs.Soundness.{sound_cell}
use Rattle.task_record.proofs.SoundTask.{variables_right, actions_right, costs_right, patterns_right, sound_well_formed, sound_start}
use Rattle.packed_task.specs.Packed.{pack_by, low, cells_of, action_weight, packed_system, compiled}
use Rattle.patterns.proofs.Built.{light_weights}
use Rattle.packed_task.proofs.Packing.{cells_pack}
use Rattle.patterns.proofs.Reading.{patterns_length, actions_length}
use Rattle.packed_task.specs.Sets.{met_bytes, SetsOf, sets_filled}
use Rattle.packed_task.proofs.ApplyingSets.{applying_enabled, met_bytes-wide}
use Rattle.packed_task.proofs.SetsFilled.{filled-sets}
use Rattle.packed_task.proofs.Simulating.{PackedState, packed_state, packed_simulates}
use Rattle.packed_task.proofs.SoundPacked.{sound_packable, compiled_weight, compiled_outcomes_few}
use Rattle.search.specs.Value.{packed_value}
use Rattle.search.specs.Weights.{WeightsOf}
use Rattle.search.specs.Examination.{Ready, Applying}
use Rattle.search.specs.Answer.{answer_of, packed_search}
use Rattle.search.specs.Entry.{HoldsTables, answer_within, search_of}
use Rattle.search.specs.declared.entry.SearchAnswer.{SearchAnswer}
use Rattle.search.specs.declared.entry.SearchAnswer.TheVariants as outcome
use Rattle.search.specs.declared.rounds.TooLong.{TooLong}
use Rattle.task_record.specs.declared.refusal.Refusal.TheVariants.{ShortPlan}
use Rattle.search.proofs.WeightsFilled.{sizes_number}
use Rattle.search.proofs.WeightValues.{packed_value_lem}

module _ (r : List ℕ) (sound : Sound r) where
  pub limit_right : limit_of r ≤ 255
  unfolding cell_ok head_ok
  limit_right = leb-true (limit_of r) 255 (sound_cell r sound at_limit (omega arith))

  pub budget_right : budget_of r ≤ 1000000
  unfolding cell_ok head_ok
  budget_right = leb-true (budget_of r) 1000000 (sound_cell r sound at_budget (omega arith))

  -- The compiled task can be examined.
  pub sound_ready : (budget : ℕ) → budget ≤ 1000000 → Ready (compiled (task_of r)) (action_count r) (pattern_count r) (variable_count r) budget
  sound_ready budget b = record {
    few_actions = actions_right r sound;
    few_patterns = patterns_right r sound;
    few_variables = (variables_right r sound).1;
    small_budget = b;
    weights = λ m l. rw (compiled_weight r sound m l) (costs_right r sound m l).0;
    few_outcomes = λ m l. compiled_outcomes_few r sound m l;
  }

  -- No action weighs more than 255.
  pub weights_light : (m : ℕ) → m < action_count r → action_weight (compiled (task_of r)) m ≤ 255
  weights_light m l = rw (compiled_weight r sound m l) (costs_right r sound m l).1

  -- Sets that are filled for its words hold the actions that apply.
  pub sets-applying : (old : List ℕ) {task sets : List ℕ} → task ≡ compiled (task_of r) →
      sets ≡ sets_filled (compiled (task_of r)) 18446744073709551615 (action_count r) ((variable_count r + 1) / 2) old →
      Applying task sets (action_count r) ((variable_count r + 1) / 2)
  sets-applying old {task} {sets} e f = record {
    set_is = λ s. rw (e, ← actions_length r) (applying_enabled (task_of r) (sound_packable r sound)
        (2 * met_bytes ((variable_count r + 1) / 2)) wide ((variable_count r + 1) / 2) sets refl filled s);
  }
    where
      wide : length (task_of r).sizes ≤ 2 * met_bytes ((variable_count r + 1) / 2)
      wide = let n = sizes_number r sound in let k = (variables_right r sound).1 in
          let h = met_bytes-wide ((variable_count r + 1) / 2) (variable_count r) (omega arith) k in omega arith

      filled : SetsOf (compiled (task_of r)) 18446744073709551615 (length (task_of r).actions) (met_bytes ((variable_count r + 1) / 2)) sets
      filled = let g : SetsOf (compiled (task_of r)) 18446744073709551615 (action_count r) (met_bytes ((variable_count r + 1) / 2)) sets =
          rw f (filled-sets (compiled (task_of r)) old 18446744073709551615 (action_count r) ((variable_count r + 1) / 2) (actions_right r sound)) in
          rw (actions_length r) g

  module _ (small : Small (task_of r) (patterns_of r)) (weights : List (List ℕ)) (offsets tabs : List ℕ) (f : WeightsOf (task_of r).sizes (patterns_of r) weights offsets)
      (b : HoldsTables r tabs) where
    -- The value of a word from weights and built tables is the summed estimate of its state.
    pub packed_estimate : (s : ℕ) → PackedState (task_of r) s →
        packed_value weights offsets tabs (length (patterns_of r)) s ≡ estimate (task_of r) (patterns_of r)
        (cells_of (length (task_of r).sizes) s)
    packed_estimate s o = packed_value_lem (task_of r) (sound_packable r sound) (patterns_of r) weights offsets f tabs s o
        ∙ rw b.built (value_of_built (task_of r) (cells_of (length (task_of r).sizes) s) o.0 (light_weights r sound) (patterns_of r) small (drop (length (tables (task_of r) (patterns_of r))) tabs))

    -- So the search of words is the search of the task.
    pub packed_search_lem : (budget : ℕ) → packed_search (compiled (task_of r)) weights offsets tabs (action_count r) (pattern_count r) budget
        (limit_of r) (pack_by low (start_of r)) ≡ answer_within budget r
    unfolding answer
    packed_search_lem budget = rw (← actions_length r, ← patterns_length r)
        (same_search (packed_system (compiled (task_of r)) (length (task_of r).actions)) (system (task_of r)) (cells_of (length (task_of r).sizes))
        (PackedState (task_of r))
        (packed_simulates (task_of r) (sound_well_formed r sound) (sound_packable r sound)) (estimate (task_of r) (patterns_of r))
        (packed_value weights offsets tabs (length (patterns_of r))) packed_estimate budget (limit_of r)
        (pack_by low (start_of r))
        (packed_state (task_of r) (sound_well_formed r sound) (sound_packable r sound) (start_of r) (sound_start r sound))
        ∙ ap (search (system (task_of r)) (estimate (task_of r) (patterns_of r)) budget (limit_of r))
        (cells_pack (task_of r).sizes (start_of r) (sound_packable r sound).values_few (sound_start r sound)))

    -- The same for numbers and words that are known to be the record's.
    pub searched : {task : List ℕ} {actions patterns budget given limit s : ℕ} → task ≡ compiled (task_of r) → actions ≡ action_count r →
        patterns ≡ pattern_count r → budget ≡ given → limit ≡ limit_of r → s ≡ pack_by low (start_of r) →
        packed_search task weights offsets tabs actions patterns budget limit s ≡ answer_within given r
    searched {given = given} e a p b l s = rw (e, a, p, b, l, s) (packed_search_lem given)

-- The rounds' answer, as the search gives it.
pub answered_so : (n : ℕ) (a : planning.Answer) {x : SearchAnswer} → answer_of n a ≡ Ok x → search_of n a ≡ Ok x
unfolding search_of answer_of
answered_so n (found p d c) {x} h = by_test (leb (length (encode p)) n)
    (λ e. let g : ◌≡◌ {A = Result SearchAnswer TooLong} (Ok (outcome.Found d c (length (encode p)))) (Ok x) = rw e at h in let k : outcome.Found d c (length (encode p)) ≡ x = cc in rw (e, k))
    (λ e. let g = rw e at h in let z : ◌≡◌ {A = ℕ} 0 1 = cc in absurd (omega arith))
answered_so n (over c) {x} h = let k : outcome.Over c ≡ x = cc in ap (λ (y : SearchAnswer). Ok y) k
answered_so n (spent d c) {x} h = let k : outcome.Spent d c ≡ x = cc in ap (λ (y : SearchAnswer). Ok y) k
answered_so n (none c) {x} h = let k : outcome.None c ≡ x = cc in ap (λ (y : SearchAnswer). Ok y) k

pub refused_so : (n : ℕ) (a : planning.Answer) {e : TooLong} → answer_of n a ≡ Err e → search_of n a ≡ Err (ShortPlan e.bytes)
unfolding search_of answer_of
refused_so n (found p d c) {e} h = by_test (leb (length (encode p)) n)
    (λ t. let g = rw t at h in let z : ◌≡◌ {A = ℕ} 0 1 = cc in absurd (omega arith))
    (λ t. let g : ◌≡◌ {A = Result SearchAnswer TooLong} (Err (record { count = c; bytes = length (encode p) })) (Err e) = rw t at h in let k : record { count = c; bytes = length (encode p) } ≡ e = cc in rw (t, ← k))
refused_so n (over c) h = let z : ◌≡◌ {A = ℕ} 0 1 = cc in absurd (omega arith)
refused_so n (spent d c) h = let z : ◌≡◌ {A = ℕ} 0 1 = cc in absurd (omega arith)
refused_so n (none c) h = let z : ◌≡◌ {A = ℕ} 0 1 = cc in absurd (omega arith)
