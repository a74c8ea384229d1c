-- The loop over a plan's bytes against planning's check: what stands between two bytes, what stands after a byte is read, and what each
-- step does. Assumes nothing.
use Rattle.std.proofs.Common.{◌≡◌, ℕ, suc, ◌+◌, ◌*◌, ◌≤◌, ◌<◌, max, ltb, List, [], ◌∷◌, ◌++◌, length, get_or, drop, ap, ◌∙◌, arith, Ok, Err}
use native.Mathlib.Numerals.{add-one}
use borrow.Author.Tests.{ltb-true, ltb-false}
use lib.ListN.{drop_of_length-le}
use lib.Seq.{drop-cons}
use Rattle.planning.specs.Table.{most_weight}
use Rattle.planning.specs.Task.{apply}
use Rattle.planning.specs.PlanCheck.{Checked, refused, check_bytes, check_plan}
use Rattle.planning.proofs.PlanCheck.{check_begins, check_ends, check_ends_early, check_goes_on}
use Rattle.planning.proofs.Test.{by_test}
use Rattle.task_record.specs.Layout.{record_size}
use Rattle.task_record.specs.Numbers.{action_count}
use Rattle.task_record.specs.Record.{Sound}
use Rattle.task_record.specs.TaskOf.{cells_at, values_of}
use Rattle.task_record.specs.declared.refusal.Refusal.{Refusal}
use Rattle.task_record.proofs.SoundTask.{actions_right, outcomes_right}
use Rattle.plan_check.specs.declared.frames.Frame.{Frame}
use Rattle.plan_check.specs.Tower.{tower}
use Rattle.plan_check.specs.Refusal.{byte_judged}
use Rattle.plan_check.specs.Stack.{begun_frame, rest_frame, reached, awaited, waiting_of}
use Rattle.plan_check.specs.Check.{answer_of, end_of}
use Rattle.plan_check.proofs.Refusals.{byte-refused, byte_arrives, byte_acts}
use Rattle.plan_check.proofs.Tower.{tower_actions, tower_few, tower_light}
use Rattle.plan_check.proofs.Waiting.{begun_awaits, next_awaited, none_awaited}

-- A frame on i others: the path to its outcomes has more than i moves, as each frame below it has taken one, and no move cost more than an action
-- may; an outcome is to come, and all that are stand in the record.
pub record Waits (most i : ℕ) (f : Frame) : Type 0 where
  pub deep : i < f.depth
  pub shallow : f.depth ≤ most
  pub light : f.paid ≤ most_weight * f.depth
  pub some : 1 ≤ f.left
  pub inside : f.next + 16 * f.left ≤ record_size

-- Each frame of a stack, which the topmost begins.
abbrev pub Stacked : ℕ → List Frame → Type 0
Stacked most [] = Unit {0}
Stacked most (f ∷ frames) = Waits most (length frames) f × Stacked most frames

-- Before the byte at offset `at`: it plans for `state`, and then come what the frames await.
pub record Reading (most : ℕ) (r plan : List ℕ) (answer : Checked) (frames : List Frame) (state : List ℕ) (depth paid worst at : ℕ) : Type 0 where
  pub same : answer ≡ check_bytes (tower r) most (drop at plan) (reached r state depth paid ∷ waiting_of r frames) at worst
  pub stacked : Stacked most frames
  pub below : length frames ≤ depth
  pub shallow : depth ≤ most
  pub light : paid ≤ most_weight * depth

-- After it: the outcomes of frame f are to come first.
pub record Taken (most : ℕ) (r plan : List ℕ) (answer : Checked) (frames : List Frame) (f : Frame) (worst at : ℕ) : Type 0 where
  pub same : answer ≡ check_bytes (tower r) most (drop (at + 1) plan) (awaited r f ++ waiting_of r frames) (at + 1) worst
  pub stacked : Stacked most frames
  pub frame : Waits most (length frames) f

module _ (most : ℕ) (r plan : List ℕ) (sound : Sound r) where
  -- Where nothing is pending, the plan passes, or 16 "bytes after the plan".
  end_of_plan : (end worst : ℕ) → check_bytes (tower r) most (drop end plan) [] end worst ≡ end_of plan end worst
  unfolding end_of
  end_of_plan end worst = by_test (ltb end (length plan))
      (λ e. rw (e, drop-cons plan end 0 (ltb-true end (length plan) e)) (check_goes_on (tower r) most _ _ end worst))
      (λ e. rw (e, drop_of_length-le plan (ltb-false end (length plan) e)) (check_ends (tower r) most end worst))

  pub reading_begins : (state : List ℕ) → Reading most r plan (check_plan (tower r) most (values_of r state) plan) [] state 0 0 0 0
  unfolding waiting_of reached
  reading_begins state = record {
    same = check_begins (tower r) most (values_of r state) plan;
    stacked = tt;
    below = omega arith;
    shallow = omega arith;
    light = omega arith;
  }

  module _ (answer : Checked) (frames : List Frame) (state : List ℕ) (depth paid worst at : ℕ)
      (reading : Reading most r plan answer frames state depth paid worst at) where
    -- 12 "plan ends early"
    pub reading_ends_early : length plan ≤ at → answer ≡ refused 12 at
    reading_ends_early l = reading.same ∙ rw (drop_of_length-le plan l) (check_ends_early (tower r) most _ _ at worst)

    module _ (inside : at < length plan) where
      byte_read : answer ≡ check_bytes (tower r) most (get_or plan at 0 ∷ drop (at + 1) plan) (reached r state depth paid ∷ waiting_of r frames) at worst
      byte_read = reading.same ∙ rw (drop-cons plan at 0 inside, add-one at)

      pub reading_refused : (e : Refusal) → byte_judged (tower r) most (get_or plan at 0) depth (values_of r state) at ≡ Err e → answer_of answer ≡ Err e
      unfolding reached
      reading_refused e h = ap answer_of byte_read
          ∙ byte-refused (tower r) most (tower_few r sound) (drop (at + 1) plan) (reached r state depth paid) (waiting_of r frames) at worst (get_or plan at 0) e h

      module _ (good : byte_judged (tower r) most (get_or plan at 0) depth (values_of r state) at ≡ Ok tt) where
        arrival_read : (tower r).actions ≤ get_or plan at 0 → answer ≡ check_bytes (tower r) most (drop (at + 1) plan) (waiting_of r frames) (at + 1) (max worst paid)
        unfolding reached
        arrival_read l = byte_read ∙ rw (add-one at)
            (byte_arrives (tower r) most (tower_few r sound) (drop (suc at) plan) (reached r state depth paid) (waiting_of r frames) at worst (get_or plan at 0) l good)

        -- Nothing waits, and the plan ends; or the next outcome of the topmost frame comes.
        pub reading_ends : (tower r).actions ≤ get_or plan at 0 → frames ≡ [] → answer ≡ end_of plan (at + 1) (max worst paid)
        unfolding waiting_of
        reading_ends l z = arrival_read l ∙ rw z (end_of_plan (at + 1) (max worst paid))

        pub reading_arrives : (f : Frame) (others : List Frame) → (tower r).actions ≤ get_or plan at 0 → frames ≡ f ∷ others → Taken most r plan answer others f (max worst paid) at
        unfolding waiting_of
        reading_arrives f others l e =
            let s = rw e at reading.stacked in
            record { same = arrival_read l ∙ rw e; stacked = s.1; frame = s.0 }

        pub reading_acts : get_or plan at 0 < (tower r).actions → (depth < most) × Taken most r plan answer frames (begun_frame r (get_or plan at 0) state depth paid) worst at
        unfolding reached begun_frame
        reading_acts a =
            let b = get_or plan at 0 in
            let x = reached r state depth paid in
            let t = byte_acts (tower r) most (tower_few r sound) (drop (at + 1) plan) x (waiting_of r frames) at worst b a good in
            let m : b < action_count r = rw (tower_actions r) at a in
            let few = actions_right r sound in
            let outcomes = outcomes_right r sound b m in
            let l = reading.below in
            let light = tower_light r sound b a in
            let k : depth < most = t.0 in (
              k,
              record {
                same = byte_read ∙ t.1 ∙ rw (← add-one at, begun_awaits r state b depth paid a);
                stacked = reading.stacked;
                frame = record {
                  deep = omega arith;
                  shallow = omega arith;
                  light = omega (arith, reading.light);
                  some = outcomes.0;
                  inside = omega (arith, outcomes.1);
                };
              },
            )

  module _ (answer : Checked) (frames : List Frame) (f : Frame) (worst at : ℕ) (taken : Taken most r plan answer frames f worst at) where
    rest_waits : (f.left ≡ 1 → ⊥) → Waits most (length frames) (rest_frame f)
    unfolding rest_frame
    rest_waits n = let w = taken.frame in
        record { deep = w.deep; shallow = w.shallow; light = w.light; some = omega (arith, n, w.some); inside = omega (arith, w.some, w.inside) }

    -- The last outcome of the frame; and one after which others come.
    pub taken_last : f.left ≡ 1 → Reading most r plan answer frames (apply (cells_at r f.next) f.state) f.depth f.paid worst (at + 1)
    taken_last e = record {
      same = taken.same ∙ rw (next_awaited r f taken.frame.some, none_awaited r f e);
      stacked = taken.stacked;
      below = omega (arith, taken.frame.deep);
      shallow = taken.frame.shallow;
      light = taken.frame.light;
    }

    pub taken_first : (f.left ≡ 1 → ⊥) → Reading most r plan answer (rest_frame f ∷ frames) (apply (cells_at r f.next) f.state) f.depth f.paid worst (at + 1)
    unfolding waiting_of
    taken_first n =
        let w = taken.frame in
        record {
          same = taken.same ∙ rw (next_awaited r f w.some);
          stacked = (rest_waits n, taken.stacked);
          below = omega (arith, w.deep);
          shallow = w.shallow;
          light = w.light;
        }
