-- The words of a sound record's task, action after action, then 0 and the goal: the compiled task. Assumes nothing.
use Rattle.std.proofs.Common.{◌≡◌, ℕ, ◌+◌, ◌*◌, ◌<◌, ◌≤◌, List, length, get_or, take, set, sym, refl, ap, ◌∙◌, inl, inr, arith, length-set, length-take, get_or-set_other, get_or-set_same}
use native.Mathlib.Decide.{dec_lt}
use Rattle.task_record.specs.Layout.{at_goal}
use Rattle.task_record.specs.Numbers.{action_count}
use Rattle.task_record.specs.Record.{Sound}
use Rattle.task_record.specs.TaskOf.{cells_at, action_of, task_of}
use Rattle.task_record.proofs.SoundTask.{actions_right}
use Rattle.packed_task.specs.Packed.{pack_by, naming, setting, task_words, action_stride, actions_size, at_goal_mask, at_goal_value, action_words, compiled}
use Rattle.packed_task.specs.Compiling.{ActionCompiled, ActionsCompiled, compiled_over}
use Rattle.packed_task.proofs.Compiled.{words_are_over, over_cleared}
use Rattle.patterns.proofs.Reading.{actions_length, action_at_lem}

-- A part of sixteen cells can be packed.
pub part_few : (c : List ℕ) → length (take 16 c) ≤ 16
part_few c = rw length-take (omega arith)

pub no_actions : (r old : List ℕ) → ActionsCompiled r old old 0
no_actions r old = record { long = refl; words = λ m i l k. absurd (omega arith); others = λ i l. refl }

pub next_action : (r old now new : List ℕ) (m : ℕ) → ActionsCompiled r old now m → ActionCompiled now new m (action_of r m) → ActionsCompiled r old new (m + 1)
next_action r old now new m h a = record { long = a.long ∙ h.long; words = λ j i l k. word j i (dec_lt j m) l k; others = λ i l. a.others i (inr (omega arith)) ∙ h.others i (omega arith) }
  where
    word : (j i : ℕ) → Dec (j < m) → j < m + 1 → i < action_stride →
        get_or new (action_stride * j + i) 0 ≡ get_or (action_words (action_of r j)) i 0
    word j i (yes b) l k = a.others (action_stride * j + i) (inl (omega arith)) ∙ h.words j i b k
    word j i (no b) l k = let e : j ≡ m = omega arith in rw e (a.words i k)

module _ (r : List ℕ) (sound : Sound r) (old actions new : List ℕ) (whole : length old ≡ task_words)
    (a : ActionsCompiled r old actions (action_count r))
    (e : new ≡ set (set actions at_goal_mask (pack_by naming (cells_at r at_goal))) at_goal_value (pack_by setting (cells_at r at_goal))) where
  long : length actions ≡ task_words
  long = a.long ∙ whole

  kept : (i : ℕ) → i < actions_size → get_or new i 0 ≡ get_or actions i 0
  kept i l = rw e (get_or-set_other (set actions at_goal_mask (pack_by naming (cells_at r at_goal))) at_goal_value i
      (pack_by setting (cells_at r at_goal)) 0 (λ q. omega arith)
      ∙ get_or-set_other actions at_goal_mask i (pack_by naming (cells_at r at_goal)) 0 (λ q. omega arith))

  pub record_over : new ≡ compiled_over (task_of r) old
  unfolding task_of
  record_over = let n = actions_right r sound in let c = actions_length r in
      words_are_over (task_of r) (rw c n) old new
      (rw e (length-set (set actions at_goal_mask _) at_goal_value _ ∙ length-set actions at_goal_mask _ ∙ long))
      (λ m i l k. let b : m < action_count r = rw c at l in kept (action_stride * m + i) (omega arith) ∙ a.words m i b k
      ∙ sym (ap (λ x. get_or (action_words x) i 0) (action_at_lem r m b)))
      (λ i k l. kept i l ∙ a.others i (rw c at k))
      (rw e (get_or-set_other (set actions at_goal_mask _) at_goal_value at_goal_mask _ 0 (λ q. omega arith)
      ∙ get_or-set_same actions at_goal_mask _ 0 (omega (arith, long))))
      (rw e (get_or-set_same (set actions at_goal_mask _) at_goal_value _ 0 (rw length-set (omega (arith, long)))))

-- Over words that are 0 after those of its actions.
pub record_cleared : (r : List ℕ) → Sound r → (old : List ℕ) →
    ((i : ℕ) → action_stride * action_count r ≤ i → i < actions_size → get_or old i 0 ≡ 0) →
    compiled_over (task_of r) old ≡ compiled (task_of r)
record_cleared r sound old z = let n = actions_right r sound in let c = actions_length r in
    over_cleared (task_of r) (rw c n) old (λ i k l. z i (rw c at k) l)
