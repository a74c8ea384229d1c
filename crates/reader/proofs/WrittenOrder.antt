-- The lines of a record's text follow each other as they are due, and each cell that is used is in one of them. Assumes nothing.
use mathlib.Core.Path.{◌≡◌, refl}
use mathlib.Core.Bool.{false}
use mathlib.Core.List.{List, [], ◌∷◌}
use mathlib.Core.Logic.{inl, inr}
use Prim.Native.Nat.{ℕ, zero, suc, ◌+◌, ◌≤◌, ◌<◌}
use native.Mathlib.Omega.{arith}
use borrow.Author.Tests.{lt-ltb, le-ltb}
use Rattle.planning.specs.Finite.{Some}
use Rattle.task_record.specs.Numbers.{variable_count, action_count, pattern_count, outcome_count}
use Rattle.task_record.specs.Record.{Sound}
use Rattle.reader.specs.Grammar.{action_from, pattern_from, next_due, ended}
use Rattle.reader.specs.Written.{sizes_from, outcomes_from, actions_from, patterns_from, dues_of}
use Rattle.reader.specs.declared.order.Due.{Due}
use Rattle.reader.specs.declared.order.Due.TheVariants.{Vars, Size, Moves, Need, Outcomes, Eff, Goal, Start, Patterns, Pattern, Limit, Budget, End, Cost}
use Rattle.planning.proofs.Test.{split_le}
use Rattle.task_record.proofs.SoundTask.{variables_right, outcomes_right}
use Rattle.reader.proofs.WrittenLines.{Valid}

-- The lines from one that is due to the end of a text of t.
pub data Run (t : List ℕ) : Due → List Due → Type 0 where
  over : Run t End []
  line : (due : Due) (dues : List Due) → ended due ≡ false → Valid t due → Run t (next_due t due) dues → Run t due (due ∷ dues)

abbrev pub last_lines : List Due
last_lines = Limit ∷ Budget ∷ []

abbrev pub goal_lines : List ℕ → List Due
goal_lines t = Goal ∷ Start ∷ Patterns ∷ patterns_from 0 (pattern_count t) last_lines

module _ (t : List ℕ) where
  last_run : Run t Limit last_lines
  unfolding next_due
  last_run = line Limit (Budget ∷ []) refl tt (line Budget [] refl tt over)

  patterns_run : (n p : ℕ) → p + n ≡ pattern_count t → Run t (pattern_from t p) (patterns_from p n last_lines)
  unfolding next_due patterns_from
  patterns_run zero p e = rw (le-ltb p (pattern_count t) (omega arith)) last_run
  patterns_run (suc n) p e =
      rw (lt-ltb p (pattern_count t) (omega arith))
      (line (Pattern p) (patterns_from (p + 1) n last_lines) refl (omega arith) (patterns_run n (p + 1) (omega arith)))

  goal_run : Run t Goal (goal_lines t)
  unfolding next_due
  goal_run = line Goal _ refl tt (line Start _ refl tt (line Patterns _ refl tt (patterns_run (pattern_count t) 0 (omega arith))))

  outcomes_run : (m : ℕ) (rest : List Due) → m < action_count t → Run t (action_from t (m + 1)) rest → (n k : ℕ) → 1 ≤ n → k + n ≡ outcome_count t m
      → Run t (Eff m k) (outcomes_from m k n rest)
  unfolding next_due outcomes_from
  outcomes_run m rest l run zero k h e = absurd (omega arith)
  outcomes_run m rest l run (suc zero) k h e = line (Eff m k) rest refl (l, omega arith) (rw (le-ltb (k + 1) (outcome_count t m) (omega arith)) run)
  outcomes_run m rest l run (suc (suc n)) k h e =
      line (Eff m k) (outcomes_from m (k + 1) (suc n) rest) refl (l, omega arith)
      (rw (lt-ltb (k + 1) (outcome_count t m) (omega arith)) (outcomes_run m rest l run (suc n) (k + 1) (omega arith) (omega arith)))

  module _ (sound : Sound t) where
    actions_run : (n m : ℕ) → m + n ≡ action_count t → Run t (action_from t m) (actions_from t m n (goal_lines t))
    unfolding next_due actions_from
    actions_run zero m e = rw (le-ltb m (action_count t) (omega arith)) goal_run
    actions_run (suc n) m e =
        let l : m < action_count t = omega arith in
        let o = outcomes_right t sound m l in
        rw (lt-ltb m (action_count t) l)
        (line (Need m) _ refl l (line (Cost m) _ refl l (line (Outcomes m) _ refl l
        (outcomes_run m (actions_from t (m + 1) n (goal_lines t)) l (actions_run n (m + 1) (omega arith)) (outcome_count t m) 0 o.0 (omega arith)))))

    abbrev move_lines : List Due
    move_lines = Moves ∷ actions_from t 0 (action_count t) (goal_lines t)

    sizes_run : (n i : ℕ) → 1 ≤ n → i + n ≡ variable_count t → Run t (Size i) (sizes_from i n move_lines)
    unfolding next_due sizes_from
    sizes_run zero i h e = absurd (omega arith)
    sizes_run (suc zero) i h e =
        line (Size i) move_lines refl (omega arith)
        (rw (le-ltb (i + 1) (variable_count t) (omega arith)) (line Moves _ refl tt (actions_run (action_count t) 0 (omega arith))))
    sizes_run (suc (suc n)) i h e =
        line (Size i) (sizes_from (i + 1) (suc n) move_lines) refl (omega arith)
        (rw (lt-ltb (i + 1) (variable_count t) (omega arith)) (sizes_run (suc n) (i + 1) (omega arith) (omega arith)))

    -- All lines of the text.
    pub dues_run : Run t Vars (dues_of t)
    unfolding next_due dues_of
    dues_run = let n = variables_right t sound in line Vars _ refl tt (sizes_run (variable_count t) 0 n.0 (omega arith))

-- A line is among those of its kind, or among those after them.
module _ (P : Due → Type 0) (rest : List Due) where
  pub among_sizes : (n i j : ℕ) → i ≤ j → j < i + n → P (Size j) → Some P (sizes_from i n rest)
  unfolding sizes_from
  among_sizes zero i j a b p = absurd (omega arith)
  among_sizes (suc n) i j a b p = split_le i j a (λ e. inl (rw e p)) (λ l. inr (among_sizes n (i + 1) j (omega arith) (omega arith) p))

  pub after_sizes : (n i : ℕ) → Some P rest → Some P (sizes_from i n rest)
  unfolding sizes_from
  after_sizes zero i h = h
  after_sizes (suc n) i h = inr (after_sizes n (i + 1) h)

  pub among_outcomes : (m n k j : ℕ) → k ≤ j → j < k + n → P (Eff m j) → Some P (outcomes_from m k n rest)
  unfolding outcomes_from
  among_outcomes m zero k j a b p = absurd (omega arith)
  among_outcomes m (suc n) k j a b p = split_le k j a (λ e. inl (rw e p)) (λ l. inr (among_outcomes m n (k + 1) j (omega arith) (omega arith) p))

  pub after_outcomes : (m n k : ℕ) → Some P rest → Some P (outcomes_from m k n rest)
  unfolding outcomes_from
  after_outcomes m zero k h = h
  after_outcomes m (suc n) k h = inr (after_outcomes m n (k + 1) h)

  pub among_patterns : (n p j : ℕ) → p ≤ j → j < p + n → P (Pattern j) → Some P (patterns_from p n rest)
  unfolding patterns_from
  among_patterns zero p j a b h = absurd (omega arith)
  among_patterns (suc n) p j a b h = split_le p j a (λ e. inl (rw e h)) (λ l. inr (among_patterns n (p + 1) j (omega arith) (omega arith) h))

  pub after_patterns : (n p : ℕ) → Some P rest → Some P (patterns_from p n rest)
  unfolding patterns_from
  after_patterns zero p h = h
  after_patterns (suc n) p h = inr (after_patterns n (p + 1) h)

-- The lines of action j are among those of the actions.
module _ (P : Due → Type 0) (t : List ℕ) (rest : List Due) where
  pub among_actions : (n m j : ℕ) → m ≤ j → j < m + n → ((more : List Due) → Some P (Need j ∷ Cost j ∷ Outcomes j ∷ outcomes_from j 0 (outcome_count t j) more))
      → Some P (actions_from t m n rest)
  unfolding actions_from
  among_actions zero m j a b h = absurd (omega arith)
  among_actions (suc n) m j a b h =
      split_le m j a
      (λ e. rw e (h (actions_from t (j + 1) n rest)))
      (λ l. inr (inr (inr (after_outcomes P (actions_from t (m + 1) n rest) m (outcome_count t m) 0
      (among_actions n (m + 1) j (omega arith) (omega arith) h)))))

  pub after_actions : (n m : ℕ) → Some P rest → Some P (actions_from t m n rest)
  unfolding actions_from
  after_actions zero m h = h
  after_actions (suc n) m h = inr (inr (inr (after_outcomes P (actions_from t (m + 1) n rest) m (outcome_count t m) 0 (after_actions n (m + 1) h))))

-- Where each line stands in the whole text.
module _ (P : Due → Type 0) (t : List ℕ) where
  pub from_moves : Some P (Moves ∷ actions_from t 0 (action_count t) (goal_lines t)) → Some P (dues_of t)
  unfolding dues_of
  from_moves h = inr (after_sizes P (Moves ∷ actions_from t 0 (action_count t) (goal_lines t)) (variable_count t) 0 h)

  pub from_goal : Some P (goal_lines t) → Some P (dues_of t)
  from_goal h = from_moves (inr (after_actions P t (goal_lines t) (action_count t) 0 h))

  pub from_last : Some P last_lines → Some P (dues_of t)
  from_last h = from_goal (inr (inr (inr (after_patterns P last_lines (pattern_count t) 0 h))))

  pub size_line : (i : ℕ) → i < variable_count t → P (Size i) → Some P (dues_of t)
  unfolding dues_of
  size_line i l p = inr (among_sizes P (Moves ∷ actions_from t 0 (action_count t) (goal_lines t)) (variable_count t) 0 i (omega arith) (omega arith) p)

  pub pattern_line : (p : ℕ) → p < pattern_count t → P (Pattern p) → Some P (dues_of t)
  pattern_line p l h = from_goal (inr (inr (inr (among_patterns P last_lines (pattern_count t) 0 p (omega arith) (omega arith) h))))

  pub action_lines : (m : ℕ) → m < action_count t → ((more : List Due) → Some P (Need m ∷ Cost m ∷ Outcomes m ∷ outcomes_from m 0 (outcome_count t m) more))
      → Some P (dues_of t)
  action_lines m l h = from_moves (inr (among_actions P t (goal_lines t) (action_count t) 0 m (omega arith) (omega arith) h))
