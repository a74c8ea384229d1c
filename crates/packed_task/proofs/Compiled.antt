-- What stands where in a compiled task. Assumes nothing.
use Rattle.std.proofs.Common.{◌≡◌, ℕ, zero, suc, ◌+◌, ◌-◌, ◌*◌, ◌/◌, ◌%◌, ◌<◌, ◌≤◌, List, [], ◌∷◌, ◌++◌, length, get_or, take, replicate, sym, refl, ap, ◌∙◌, zero-add, arith, length-append, length-take, get_or-take, get_or-append-add, ext_get_or, le-ltb, lt-ltb}
use native.Mathlib.Decide.{dec_lt}
use lib.ListN.{length-replicate, get_or-replicate, get_or-append}
use Rattle.planning.specs.Finite.{chain}
use Rattle.planning.specs.Task.{Action, Task, no_action, action_at}
use Rattle.planning.specs.Pattern.{counted}
use Rattle.planning.proofs.Finite.{length-tabulate, get_or_tabulate}
use Rattle.packed_task.specs.Packed.{pack_by, naming, leaving, setting, task_words, action_stride, in_value, in_count, in_weight, in_keep, in_set, outcome_stride, outcomes_size, actions_size, at_goal_mask, at_goal_value, pre_mask, pre_value, outcome_count, action_weight, keep_mask, set_value, goal_mask, goal_value, outcome_words, action_words, compiled}
use Rattle.packed_task.specs.Compiling.{word_over, compiled_over}

-- Blocks of one length after each other: where each stands.
module _ {A B : Type 0} (f : A → List B) (w : ℕ) (even : (x : A) → length (f x) ≡ w) where
  pub length-chain : (xs : List A) → length (chain f xs) ≡ w * length xs
  unfolding chain
  length-chain [] = omega arith
  length-chain (x ∷ xs) = rw (length-append, even x, length-chain xs) (omega arith)

  chain_at : (xs : List A) (m i : ℕ) (x : A) (d : B) → m < length xs → i < w → get_or (chain f xs) (w * m + i) d ≡ get_or (f (get_or xs m x)) i d
  unfolding chain
  chain_at [] m i x d l k = absurd (omega arith)
  chain_at (y ∷ xs) zero i x d l k = let e : w * 0 + i ≡ i = omega arith in rw e (get_or-append (f y) (chain f xs) d i (rw (even y) k))
  chain_at (y ∷ xs) (suc m) i x d l k = let e : w * suc m + i ≡ length (f y) + (w * m + i) = omega (arith, even y) in
      rw e (get_or-append-add (f y) (chain f xs) (w * m + i) d ∙ chain_at xs m i x d (omega arith) k)

-- Words, and 0 after them as far as there is room.
abbrev pub padded : ℕ → List ℕ → List ℕ
padded n xs = take n (xs ++ replicate n 0)

padded_length : (n : ℕ) (xs : List ℕ) → length (padded n xs) ≡ n
padded_length n xs = rw (length-take, length-append, length-replicate) (omega arith)

length-action_words : (a : Action) → length (action_words a) ≡ action_stride
unfolding action_words
length-action_words a = omega (arith, padded_length outcomes_size (chain (outcome_words a.precondition) a.outcomes))

pub outcome_word_lem : (a : Action) (k i : ℕ) → length a.outcomes ≤ 8 → k < length a.outcomes → i < outcome_stride →
    get_or (action_words a) (in_keep + (outcome_stride * k + i)) 0 ≡ get_or (outcome_words a.precondition (get_or a.outcomes k [])) i 0
unfolding action_words
outcome_word_lem a k i b l h =
    get_or-append-add (pack_by naming a.precondition ∷ pack_by setting a.precondition ∷ length a.outcomes ∷ a.weight ∷ [])
    (padded outcomes_size (chain (outcome_words a.precondition) a.outcomes)) (outcome_stride * k + i) 0
    ∙ get_or-take outcomes_size (chain (outcome_words a.precondition) a.outcomes ++ replicate outcomes_size 0) (outcome_stride * k + i) 0 (omega arith)
    ∙ get_or-append (chain (outcome_words a.precondition) a.outcomes) (replicate outcomes_size 0) 0 (outcome_stride * k + i)
    (rw (length-chain (outcome_words a.precondition) outcome_stride (λ o. refl) a.outcomes) (omega arith))
    ∙ chain_at (outcome_words a.precondition) outcome_stride (λ o. refl) a.outcomes k i [] 0 l h

module _ (t : Task) (few : length t.actions ≤ 64) where
  -- The words of the actions that there are, and how many; and those of the goal.
  abbrev filled : List ℕ
  filled = chain action_words t.actions

  abbrev used : ℕ
  used = action_stride * length t.actions

  abbrev goal_words : List ℕ
  goal_words = pack_by naming t.goal ∷ pack_by setting t.goal ∷ []

  length-filled : length filled ≡ used
  length-filled = length-chain action_words action_stride length-action_words t.actions

  action_word : (m i : ℕ) → m < length t.actions → i < action_stride →
      get_or (compiled t) (action_stride * m + i) 0 ≡ get_or (action_words (action_at t m)) i 0
  unfolding compiled
  action_word m i l k =
      get_or-append (padded actions_size filled) goal_words 0 (action_stride * m + i) (rw (padded_length actions_size filled) (omega arith))
      ∙ get_or-take actions_size (filled ++ replicate actions_size 0) (action_stride * m + i) 0 (omega arith)
      ∙ get_or-append filled (replicate actions_size 0) 0 (action_stride * m + i) (rw length-filled (omega arith))
      ∙ chain_at action_words action_stride length-action_words t.actions m i no_action 0 l k

  goal_word : (i : ℕ) → get_or (compiled t) (at_goal_mask + i) 0 ≡ get_or goal_words i 0
  unfolding compiled
  goal_word i = let e : at_goal_mask + i ≡ length (padded actions_size filled) + i = omega (arith, padded_length actions_size filled) in
      rw e (get_or-append-add (padded actions_size filled) goal_words i 0)

  pub goal_mask_is : goal_mask (compiled t) ≡ pack_by naming t.goal
  goal_mask_is = goal_word 0

  pub goal_value_is : goal_value (compiled t) ≡ pack_by setting t.goal
  goal_value_is = goal_word 1

  module _ (m : ℕ) (l : m < length t.actions) where
    pub pre_mask_is : pre_mask (compiled t) m ≡ pack_by naming (action_at t m).precondition
    unfolding action_words
    pre_mask_is = let e : action_stride * m ≡ action_stride * m + 0 = omega arith in rw e (action_word m 0 l (omega arith))

    pub pre_value_is : pre_value (compiled t) m ≡ pack_by setting (action_at t m).precondition
    unfolding action_words
    pre_value_is = action_word m in_value l (omega arith)

    pub outcome_count_is : outcome_count (compiled t) m ≡ length (action_at t m).outcomes
    unfolding action_words
    outcome_count_is = action_word m in_count l (omega arith)

    pub action_weight_is : action_weight (compiled t) m ≡ (action_at t m).weight
    unfolding action_words
    action_weight_is = action_word m in_weight l (omega arith)

    module _ (small : length (action_at t m).outcomes ≤ 8) (k : ℕ) (b : k < length (action_at t m).outcomes) where
      pub keep_mask_is : keep_mask (compiled t) m k ≡ pack_by leaving (counted (action_at t m).precondition (get_or (action_at t m).outcomes k []))
      keep_mask_is = let e : action_stride * m + in_keep + outcome_stride * k
          ≡ action_stride * m + (in_keep + (outcome_stride * k + 0)) = omega arith in
          rw e (action_word m (in_keep + (outcome_stride * k + 0)) l (omega arith) ∙ outcome_word_lem (action_at t m) k 0 small b (omega arith))

      pub set_value_is : set_value (compiled t) m k ≡ pack_by setting (counted (action_at t m).precondition (get_or (action_at t m).outcomes k []))
      set_value_is = let e : action_stride * m + in_set + outcome_stride * k
          ≡ action_stride * m + (in_keep + (outcome_stride * k + 1)) = omega arith in
          rw e (action_word m (in_keep + (outcome_stride * k + 1)) l (omega arith) ∙ outcome_word_lem (action_at t m) k 1 small b (omega arith))

  length-compiled : length (compiled t) ≡ task_words
  unfolding compiled
  length-compiled = rw (length-append, padded_length actions_size filled)

  no_action_word : (j : ℕ) → used ≤ j → j < actions_size → get_or (compiled t) j 0 ≡ 0
  unfolding compiled
  no_action_word j b l = let n = length-filled in let e : j ≡ length filled + (j - length filled) = omega arith in
      get_or-append (padded actions_size filled) goal_words 0 j (rw (padded_length actions_size filled) l)
      ∙ get_or-take actions_size (filled ++ replicate actions_size 0) j 0 l
      ∙ ap (λ z. get_or (filled ++ replicate actions_size 0) z 0) e ∙ get_or-append-add filled (replicate actions_size 0) (j - length filled) 0
      ∙ get_or-replicate actions_size (j - length filled) 0 0 (omega arith)

  -- The compiled task over other words, word by word.
  word_of_action : (old : List ℕ) (j : ℕ) → j < task_words → j < used → get_or (compiled_over t old) j 0 ≡ get_or (compiled t) j 0
  unfolding compiled_over word_over
  word_of_action old j l a = get_or_tabulate (word_over t old) 0 task_words j 0 l ∙ rw (zero-add, lt-ltb j used a)

  word_between : (old : List ℕ) (j : ℕ) → j < task_words → used ≤ j → j < actions_size → get_or (compiled_over t old) j 0 ≡ get_or old j 0
  unfolding compiled_over word_over
  word_between old j l a b = get_or_tabulate (word_over t old) 0 task_words j 0 l ∙ rw (zero-add, le-ltb j used a, lt-ltb j actions_size b)

  word_of_goal : (old : List ℕ) (j : ℕ) → j < task_words → used ≤ j → actions_size ≤ j → get_or (compiled_over t old) j 0 ≡ get_or (compiled t) j 0
  unfolding compiled_over word_over
  word_of_goal old j l a b = get_or_tabulate (word_over t old) 0 task_words j 0 l ∙ rw (zero-add, le-ltb j used a, le-ltb j actions_size b)

  length-over : (old : List ℕ) → length (compiled_over t old) ≡ task_words
  unfolding compiled_over
  length-over old = length-tabulate (word_over t old) 0 task_words

  -- A list with the words of every action, those of another list after them, and the words of the goal is the compiled task over that list.
  pub words_are_over : (old new : List ℕ) → length new ≡ task_words
      → ((m i : ℕ) → m < length t.actions → i < action_stride →
      get_or new (action_stride * m + i) 0 ≡ get_or (action_words (action_at t m)) i 0)
      → ((i : ℕ) → used ≤ i → i < actions_size → get_or new i 0 ≡ get_or old i 0)
      → get_or new at_goal_mask 0 ≡ pack_by naming t.goal → get_or new at_goal_value 0 ≡ pack_by setting t.goal → new ≡ compiled_over t old
  words_are_over old new n actions rest mask value = ext_get_or 0 new (compiled_over t old) (n ∙ sym (length-over old))
      (λ j l. place j (dec_lt j used) (dec_lt j actions_size) (dec_lt j at_goal_value) (omega arith))
    where
      place : (j : ℕ) → Dec (j < used) → Dec (j < actions_size) → Dec (j < at_goal_value) → j < task_words →
          get_or new j 0 ≡ get_or (compiled_over t old) j 0
      place j (yes a) b c l = let m = j / action_stride in let i = j % action_stride in let e : action_stride * m + i ≡ j = omega arith in
          let d : m < length t.actions = omega arith in let f : i < action_stride = omega arith in
          rw e at (actions m i d f ∙ sym (action_word m i d f)) ∙ sym (word_of_action old j l a)
      place j (no a) (yes b) c l = rest j (omega arith) b ∙ sym (word_between old j l (omega arith) b)
      place j (no a) (no b) (yes c) l = let e : j ≡ at_goal_mask = omega arith in
          rw e (mask ∙ sym (word_of_goal old at_goal_mask (omega arith) (omega arith) (omega arith) ∙ goal_mask_is))
      place j (no a) (no b) (no c) l = let e : j ≡ at_goal_value = omega arith in
          rw e (value ∙ sym (word_of_goal old at_goal_value (omega arith) (omega arith) (omega arith) ∙ goal_value_is))

  -- Over words that are 0 it is the compiled task.
  pub over_cleared : (old : List ℕ) → ((i : ℕ) → used ≤ i → i < actions_size → get_or old i 0 ≡ 0) → compiled_over t old ≡ compiled t
  over_cleared old z = ext_get_or 0 (compiled_over t old) (compiled t) (length-over old ∙ sym length-compiled)
      (λ j l. place j (dec_lt j used) (dec_lt j actions_size) (omega (arith, l, length-over old)))
    where
      place : (j : ℕ) → Dec (j < used) → Dec (j < actions_size) → j < task_words → get_or (compiled_over t old) j 0 ≡ get_or (compiled t) j 0
      place j (yes a) b l = word_of_action old j l a
      place j (no a) (yes b) l = word_between old j l (omega arith) b ∙ z j (omega arith) b ∙ sym (no_action_word j (omega arith) b)
      place j (no a) (no b) l = word_of_goal old j l (omega arith) (omega arith)
