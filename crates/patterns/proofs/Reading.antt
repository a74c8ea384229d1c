-- The scan for a conflict over the cells of a record: the laws of the scan, of the task and the patterns that the record holds.
-- Assumes nothing.
use mathlib.Core.Path.{◌≡◌, ap, ◌∙◌}
use mathlib.Core.Bool.{Bool, true, false}
use mathlib.Core.List.{List, [], ◌∷◌}
use Prim.Native.Nat.{ℕ, ◌+◌, ◌≤◌, ◌<◌}
use native.Mathlib.Nat.{zero-add}
use lib.ListN.{length, get_or}
use Rattle.planning.specs.Task.{action_at, no_action}
use Rattle.planning.specs.Pattern.{affects_pattern, Verdict, additive, conflict}
use Rattle.planning.proofs.Finite.{length-tabulate, get_or_tabulate}
use Rattle.task_record.specs.Layout.{at_pattern}
use Rattle.task_record.specs.Numbers.{action_count, pattern_count}
use Rattle.task_record.specs.TaskOf.{cells_at, action_of, task_of, patterns_of}
use Rattle.patterns.proofs.Affected.{affected_after, affected_none_left, affected_passed, affected_first, verdict_after, verdict_at_end, none_affected, one_affected, two_affected}

module _ (r : List ℕ) where
  pub patterns_length : length (patterns_of r) ≡ pattern_count r
  unfolding patterns_of
  patterns_length = length-tabulate (λ p. cells_at r (at_pattern p)) 0 (pattern_count r)

  pub pattern_at : (p : ℕ) → p < pattern_count r → get_or (patterns_of r) p [] ≡ cells_at r (at_pattern p)
  unfolding patterns_of
  pattern_at p l = get_or_tabulate (λ p. cells_at r (at_pattern p)) 0 (pattern_count r) p [] l ∙ ap (λ k. cells_at r (at_pattern k)) (zero-add p)

  pub actions_length : length (task_of r).actions ≡ action_count r
  unfolding task_of
  actions_length = length-tabulate (action_of r) 0 (action_count r)

  pub action_at_lem : (m : ℕ) → m < action_count r → action_at (task_of r) m ≡ action_of r m
  unfolding task_of
  action_at_lem m l = get_or_tabulate (action_of r) 0 (action_count r) m no_action l ∙ ap (action_of r) (zero-add m)

  -- The affected patterns of action m from number p on, and the verdict on the actions from number m on.
  abbrev pub affected_from : ℕ → ℕ → List ℕ
  affected_from m p = affected_after (patterns_of r) (action_of r m) p

  abbrev pub verdict_from : ℕ → Verdict
  verdict_from m = verdict_after (task_of r) (patterns_of r) m

  abbrev pub affects_at : ℕ → ℕ → Bool
  affects_at m p = affects_pattern (action_of r m) (cells_at r (at_pattern p))

  module _ (m p : ℕ) where
    pub patterns_passed : pattern_count r ≤ p → affected_from m p ≡ []
    patterns_passed l = affected_none_left (patterns_of r) (action_of r m) p (rw patterns_length l)

    pub pattern_spared : p < pattern_count r → affects_at m p ≡ false → affected_from m p ≡ affected_from m (p + 1)
    pattern_spared l e = affected_passed (patterns_of r) (action_of r m) p (rw patterns_length l) (rw (pattern_at p l) e)

    pub pattern_affected : p < pattern_count r → affects_at m p ≡ true → affected_from m p ≡ p ∷ affected_from m (p + 1)
    pattern_affected l e = affected_first (patterns_of r) (action_of r m) p (rw patterns_length l) (rw (pattern_at p l) e)

  pub actions_passed : (m : ℕ) → action_count r ≤ m → verdict_from m ≡ additive
  actions_passed m l = verdict_at_end (task_of r) (patterns_of r) m (rw actions_length l)

  module _ (m : ℕ) (l : m < action_count r) where
    pub no_pattern : affected_from m 0 ≡ [] → verdict_from m ≡ verdict_from (m + 1)
    no_pattern e = none_affected (task_of r) (patterns_of r) m (rw actions_length l) (rw (action_at_lem m l) e)

    pub one_pattern : (p : ℕ) → affected_from m 0 ≡ p ∷ [] → verdict_from m ≡ verdict_from (m + 1)
    one_pattern p e = one_affected (task_of r) (patterns_of r) m (rw actions_length l) p (rw (action_at_lem m l) e)

    pub two_patterns : (p q : ℕ) (others : List ℕ) → affected_from m 0 ≡ p ∷ (q ∷ others) → verdict_from m ≡ conflict m p q
    two_patterns p q others e = two_affected (task_of r) (patterns_of r) m (rw actions_length l) p q others (rw (action_at_lem m l) e)
