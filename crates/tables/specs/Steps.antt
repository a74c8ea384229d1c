-- The build of one pattern's table over packed words: entries fall one by one, each to the Bellman value of an action, and when none is above
-- such a value the build is over. The order of the steps is free. Assumes nothing.
use Rattle.std.specs.Prelude.{◌≡◌, ℕ, zero, suc, ◌+◌, ◌*◌, ◌/◌, ◌%◌, ◌<◌, ◌≤◌, max, Bool, true, false, cond, List, [], ◌∷◌, length, take, ◌==◌, nat_lt, slice_index, slice_index_or, slice_set}
use Rattle.planning.specs.Finite.{All, tabulate}
use Rattle.planning.specs.Table.{state_count, infinite_entry}
use Rattle.packed_task.specs.Within.{is_goal, permitted, after, idles}
use Rattle.packed_task.specs.Packed.{outcome_count, action_weight}

-- The index of a word: each digit times its weight.
unfoldable pub weigh : List ℕ → ℕ → ℕ
weigh [] s = 0
weigh (w ∷ ws) s = s % 16 * w + weigh ws (s / 16)

-- The weights of the variables, 0 outside the pattern; w is the weight of the next one in it.
unfoldable pub weights_from : ℕ → List ℕ → List ℕ → List ℕ
weights_from w [] p = []
weights_from w (z ∷ zs) [] = 0 ∷ weights_from w zs []
weights_from w (z ∷ zs) (b ∷ p) = cond (b == 1) w 0 ∷ weights_from (cond (b == 1) (w * z) w) zs p

-- What a build works on: compiled task, mask of the pattern, weights of the variables, words of the abstract states by index, and number
-- of actions.
pub record Space : Type 0 where
  pub task : List ℕ
  pub mask : ℕ
  pub weights : List ℕ
  pub states : List ℕ
  pub actions : ℕ

abbrev pub space : List ℕ → ℕ → List ℕ → List ℕ → ℕ → Space
space a k w s n = record { task = a; mask = k; weights = w; states = s; actions = n }

-- The largest of f o, f (o + 1), ..., n of them; a sum that reaches the infinite entry counts as that.
unfoldable pub worst : (ℕ → ℕ) → ℕ → ℕ → ℕ
worst f o zero = 0
worst f o (suc n) = max (f o) (worst f (suc o) n)

unfoldable pub raised : ℕ → ℕ → ℕ
raised w v = cond (nat_lt (w + v) infinite_entry) (w + v) infinite_entry

-- The entry after outcome o of action m in state s, and the action's Bellman value there: its weight and the largest of these entries.
unfoldable pub outcome_entry : List ℕ → ℕ → List ℕ → List ℕ → ℕ → ℕ → ℕ → ℕ
outcome_entry a k w entries m s o = slice_index_or entries (weigh w (after a k m o s)) infinite_entry

unfoldable pub bellman_value : List ℕ → ℕ → List ℕ → List ℕ → ℕ → ℕ → ℕ
bellman_value a k w entries m s = raised (action_weight a m) (worst (outcome_entry a k w entries m s) 0 (outcome_count a m))

unfoldable pub bellman_value_at : Space → List ℕ → ℕ → ℕ → ℕ
bellman_value_at x entries m i = bellman_value x.task x.mask x.weights entries m (slice_index x.states i)

unfoldable pub permitted_at : Space → ℕ → ℕ → Bool
permitted_at x m i = permitted x.task x.mask m (slice_index x.states i)

-- The second list comes from the first by entries that were lowered, each to an action's Bellman value as it then was.
pub data Steps (x : Space) : List ℕ → List ℕ → Type 0 where
  none : {t : List ℕ} → Steps x t t
  more : {t u : List ℕ} (m i : ℕ) → m < x.actions → i < length u → permitted_at x m i ≡ true → bellman_value_at x u m i < slice_index u i → Steps x t u → Steps x t (slice_set u i (bellman_value_at x u m i))

-- No entry is above an action's Bellman value, those actions aside that may leave the state as it is.
pub record Stable (x : Space) (t : List ℕ) : Type 0 where
  pub low : (m i : ℕ) → m < x.actions → i < length t → idles x.task x.mask m ≡ false → permitted_at x m i ≡ true → slice_index t i ≤ bellman_value_at x t m i

-- The entries before the first step: 0 at goals, infinite elsewhere.
unfoldable pub started : List ℕ → ℕ → List ℕ → ℕ → List ℕ
started a k states n = tabulate (λ i. cond (is_goal a k (slice_index states i)) 0 infinite_entry) 0 n

-- Steps from the first list until no entry is above an action's Bellman value.
pub record Settled (x : Space) (t new : List ℕ) : Type 0 where
  pub steps : Steps x t new
  pub stable : Stable x new

-- Sizes and pattern of at most 16 variables, n of them, with 1 to 16 values each and at most 4,096 abstract states.
pub record Bounded (sizes p : List ℕ) (n : ℕ) : Type 0 where
  pub variables_few : n ≤ 16
  pub values_some : All (λ z. 1 ≤ z) (take n sizes)
  pub values_few : All (λ z. z ≤ 16) (take n sizes)
  pub states_few : state_count (take n sizes) p ≤ 4096

-- The words below `end` after those from w on were made, w at a time: they are those of any function that gives the first w and grows by
-- `place` from each word to the one w further.
pub record Extended (old new : List ℕ) (w end place : ℕ) : Type 0 where
  pub long : length new ≡ length old
  pub words : (f : ℕ → ℕ) → ((k : ℕ) → k < w → slice_index old k ≡ f k) → ((k : ℕ) → k + w < end → f (k + w) ≡ f k + place) → ((k : ℕ) → f k < 18446744073709551616) → w ≤ end → (k : ℕ) → k < end → slice_index new k ≡ f k
