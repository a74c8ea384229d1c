-- A line that was written is taken, and stores what the record has there. Assumes nothing.
use mathlib.Core.Path.{◌≡◌, refl, sym, ◌∙◌}
use mathlib.Core.Bool.{true, false, false≢true}
use mathlib.Core.List.{List, [], ◌∷◌, ◌++◌}
use Prim.Native.Nat.{ℕ, ◌+◌, ◌*◌, ◌/◌, ◌%◌, ◌≤◌, ◌<◌}
use native.Mathlib.Nat.{zero-add}
use native.Mathlib.Omega.{arith}
use lib.ListN.{length, get_or, set}
use lib.Seq.{sets, drop-append_seam}
use borrow.Author.Tests.{le-leb, eq-eqb, leb-true}
use Rattle.task_record.specs.Layout.{at_variables, at_actions, at_patterns, at_limit, at_budget, at_sizes, at_goal, at_start, at_pattern, at_action, at_precondition, at_outcome, at_cost}
use Rattle.task_record.specs.Numbers.{byte, variable_count, action_count, pattern_count, limit_of, budget_of, size_of, outcome_count, action_cost}
use Rattle.task_record.specs.Record.{cell_ok, head_ok, state_ok, pattern_ok, Sound}
use Rattle.task_record.specs.TaskOf.{cells_at}
use Rattle.reader.specs.Bytes.{bytes}
use Rattle.reader.specs.Text.{line_break, has_key}
use Rattle.reader.specs.Lists.{is_values, whole_list}
use Rattle.reader.specs.Grammar.{key_vars, key_size, key_moves, key_need, key_cost, key_outcomes, key_eff, key_goal, key_start, key_patterns, key_pattern, key_limit, key_budget, ended, go_on, take_number, budget_bytes, take_budget, take_list, number_line, budget_line, list_line, take_due, take_line}
use Rattle.reader.specs.Written.{decimal, items_of, list_text, line_of}
use Rattle.reader.specs.declared.lists.Kind.{Kind}
use Rattle.reader.specs.declared.lists.Kind.TheVariants.{Pairs, Values, Members}
use Rattle.reader.specs.declared.order.Due.{Due}
use Rattle.reader.specs.declared.order.Due.TheVariants.{Vars, Size, Moves, Need, Outcomes, Eff, Goal, Start, Patterns, Pattern, Limit, Budget, End, Cost}
use Rattle.task_record.proofs.Offsets.{start_at, pattern_at}
use Rattle.task_record.proofs.Soundness.{sound_length, sound_cell}
use Rattle.task_record.proofs.SoundTask.{Assigns, cell_of_part, length_of_part, variables_right, actions_right, patterns_right, size_right, outcomes_right, costs_right, goal_assigns, precondition_assigns, outcome_assigns}
use Rattle.reader.proofs.WrittenNumbers.{number_read}
use Rattle.reader.proofs.WrittenPieces.{lacks, lacks_append, decimal_lacks}
use Rattle.reader.proofs.WrittenLists.{Listable, list_read_back, list_text_breaks}
use Rattle.reader.proofs.WrittenCells.{items_some, pairs_listable, members_listable, values_listable}

-- A line with a key has it, and the rest after it.
pub key_had : (key s : List ℕ) → has_key key (key ++ s) ≡ true
unfolding has_key
key_had [] s = refl
key_had (k ∷ ks) s = rw (eq-eqb k k refl) (key_had ks s)

-- The line with a number, with the budget, with a list.
module _ (r : List ℕ) (due : Due) (key : List ℕ) where
  pub number_line_read : (lo hi at n : ℕ) → lo ≤ n → n ≤ hi → n ≤ 1000000 → number_line r due (key ++ decimal n) key lo hi at ≡ go_on due (set r at n)
  unfolding number_line take_number
  number_line_read lo hi at n a b l = rw (key_had key (decimal n), drop-append_seam key (decimal n), number_read n l, le-leb lo n a, le-leb n hi b)

  pub budget_line_read : (n : ℕ) → n ≤ 1000000 → budget_line r due (key ++ decimal n) key ≡ go_on due (sets r at_budget (budget_bytes n))
  unfolding budget_line take_budget
  budget_line_read n l = rw (key_had key (decimal n), drop-append_seam key (decimal n), number_read n l, le-leb n 1000000 l)

  pub list_line_read : (kind : Kind) (at : ℕ) (c : List ℕ) (last : ℕ) → length c ≡ 16 → Listable r kind 0 0 c last
      → (is_values kind ≡ true → 1 ≤ length (items_of kind 0 c))
      → whole_list (variable_count r) kind last ≡ true → list_line r due (key ++ list_text kind c) key kind at ≡ go_on due (sets r at c)
  unfolding list_line take_list
  list_line_read kind at c last whole good some all =
      rw (key_had key (list_text kind c), drop-append_seam key (list_text kind c), list_read_back r kind c last whole good some, all)

-- What r has as t has it.
abbrev pub Same : List ℕ → List ℕ → ℕ → Type 0
Same t r k = byte r k ≡ byte t k

pub record Base (t r : List ℕ) : Type 0 where
  pub variables : Same t r at_variables
  pub sizes : (v : ℕ) → v < variable_count t → Same t r (at_sizes + v)

-- the lines that a text of t has
abbrev pub Valid : List ℕ → Due → Type 0
Valid t Vars = Unit {0}
Valid t (Size i) = i < variable_count t
Valid t Moves = Unit {0}
Valid t (Need m) = m < action_count t
Valid t (Cost m) = m < action_count t
Valid t (Outcomes m) = m < action_count t
Valid t (Eff m k) = (m < action_count t) × (k < outcome_count t m)
Valid t Goal = Unit {0}
Valid t Start = Unit {0}
Valid t Patterns = Unit {0}
Valid t (Pattern p) = p < pattern_count t
Valid t Limit = Unit {0}
Valid t Budget = Unit {0}
Valid t End = Unit {0}

-- what must have been read before a line
abbrev pub Known : List ℕ → Due → List ℕ → Type 0
Known t Vars r = Unit {0}
Known t (Size i) r = Same t r at_variables × ((v : ℕ) → v < i → Same t r (at_sizes + v))
Known t Moves r = Base t r
Known t (Need m) r = Base t r × Same t r at_actions
Known t (Cost m) r = Base t r × Same t r at_actions
Known t (Outcomes m) r = Base t r × Same t r at_actions
Known t (Eff m k) r = Base t r × Same t r at_actions × Same t r (at_action m)
Known t Goal r = Base t r
Known t Start r = Base t r
Known t Patterns r = Base t r
Known t (Pattern p) r = Base t r × Same t r at_patterns
Known t Limit r = Unit {0}
Known t Budget r = Unit {0}
Known t End r = Unit {0}

-- where a line stores, and what
abbrev pub place_of : Due → ℕ
place_of Vars = at_variables
place_of (Size i) = at_sizes + i
place_of Moves = at_actions
place_of (Need m) = at_precondition m
place_of (Cost m) = at_cost m
place_of (Outcomes m) = at_action m
place_of (Eff m k) = at_outcome m k
place_of Goal = at_goal
place_of Start = at_start
place_of Patterns = at_patterns
place_of (Pattern p) = at_pattern p
place_of Limit = at_limit
place_of Budget = at_budget
place_of End = 0

abbrev pub row_of : List ℕ → Due → List ℕ
row_of t Vars = byte t at_variables ∷ []
row_of t (Size i) = byte t (at_sizes + i) ∷ []
row_of t Moves = byte t at_actions ∷ []
row_of t (Need m) = cells_at t (at_precondition m)
row_of t (Cost m) = action_cost t m ∷ []
row_of t (Outcomes m) = byte t (at_action m) ∷ []
row_of t (Eff m k) = cells_at t (at_outcome m k)
row_of t Goal = cells_at t at_goal
row_of t Start = cells_at t at_start
row_of t Patterns = byte t at_patterns ∷ []
row_of t (Pattern p) = cells_at t (at_pattern p)
row_of t Limit = byte t at_limit ∷ []
row_of t Budget = budget_bytes (budget_of t)
row_of t End = []

abbrev pub stored : List ℕ → Due → List ℕ → List ℕ
stored t due r = sets r (place_of due) (row_of t due)

module _ (t : List ℕ) (sound : Sound t) where
  limit_right : limit_of t ≤ 255
  unfolding cell_ok head_ok
  limit_right = leb-true (limit_of t) 255 (sound_cell t sound at_limit (omega arith))

  budget_right : budget_of t ≤ 1000000
  unfolding cell_ok head_ok
  budget_right = leb-true (budget_of t) 1000000 (sound_cell t sound at_budget (omega arith))

  -- The cells of start and patterns.
  start_whole : length (cells_at t at_start) ≡ 16
  start_whole = let n = sound_length t sound in length_of_part t 16 at_start (omega arith)

  start_cell : (i : ℕ) → i < 16 → state_ok t (0 + i) (get_or (cells_at t at_start) i 0) ≡ true
  start_cell i l = rw (cell_of_part t 16 at_start i l, zero-add) (sym (start_at t i l) ∙ sound_cell t sound (at_start + i) (omega arith))

  pattern_whole : (p : ℕ) → p < pattern_count t → length (cells_at t (at_pattern p)) ≡ 16
  pattern_whole p h = let n = sound_length t sound in let k = patterns_right t sound in length_of_part t 16 (at_pattern p) (omega arith)

  pattern_cell : (p : ℕ) → p < pattern_count t → (i : ℕ) → i < 16 → pattern_ok t p (0 + i) (get_or (cells_at t (at_pattern p)) i 0) ≡ true
  pattern_cell p h i l =
      let k = patterns_right t sound in
      let a : at_pattern p + i ≡ at_pattern 0 + (16 * p + i) = omega arith in
      let q : (16 * p + i) / 16 ≡ p = omega arith in
      let w : (16 * p + i) % 16 ≡ 0 + i = omega arith in
      rw (cell_of_part t 16 (at_pattern p) i l, a)
      (rw (q, w) at (sym (pattern_at t (16 * p + i) (omega arith)) ∙ sound_cell t sound (at_pattern 0 + (16 * p + i)) (omega arith)))

  module _ (r : List ℕ) where
    assigns_listable : (c : List ℕ) → Base t r → Assigns t c → (last : ℕ) × Listable r Pairs 0 0 c last
    assigns_listable c b a =
        pairs_listable t r sound b.variables b.sizes c 0 0 (omega arith)
        (λ i l. let w = a.whole in rw zero-add (a.cell i (omega arith)))

    pairs_line : (due : Due) (key : List ℕ) (at : ℕ) (c : List ℕ) → Base t r → Assigns t c
        → list_line r due (key ++ list_text Pairs c) key Pairs at ≡ go_on due (sets r at c)
    pairs_line due key at c b a =
        let g = assigns_listable c b a in
        list_line_read r due key Pairs at c g.0 a.whole g.1 (λ e. let z : ◌≡◌ {A = ℕ} 0 1 = cc in absurd (omega arith)) refl

    -- Each line is taken.
    pub line_taken : (due : Due) → ended due ≡ false → Valid t due → Known t due r → take_line r due (line_of t due) ≡ go_on due (stored t due r)
    unfolding take_line take_due line_of
    line_taken Vars e v k =
        let n = variables_right t sound in number_line_read r Vars key_vars 1 16 at_variables (variable_count t) n.0 n.1 (omega arith)
    line_taken (Size i) e v k =
        let n = size_right t sound i v in number_line_read r (Size i) key_size 2 16 (at_sizes + i) (size_of t i) n.0 n.1 (omega arith)
    line_taken Moves e v k =
        let n = actions_right t sound in number_line_read r Moves key_moves 0 64 at_actions (action_count t) (omega arith) n (omega arith)
    line_taken (Need m) e v k =
        pairs_line (Need m) key_need (at_precondition m) (cells_at t (at_precondition m)) k.0 (precondition_assigns t sound m v)
    line_taken (Cost m) e v k =
        let n = costs_right t sound m v in
        rw (key_had key_cost (decimal (action_cost t m)))
        (number_line_read r (Cost m) key_cost 1 255 (at_cost m) (action_cost t m) n.0 n.1 (omega arith))
    line_taken (Outcomes m) e v k =
        let n = outcomes_right t sound m v in
        number_line_read r (Outcomes m) key_outcomes 1 8 (at_action m) (outcome_count t m) n.0 n.1 (omega arith)
    line_taken (Eff m j) e v k =
        pairs_line (Eff m j) key_eff (at_outcome m j) (cells_at t (at_outcome m j)) k.0 (outcome_assigns t sound m j v.0 v.1)
    line_taken Goal e v k = pairs_line Goal key_goal at_goal (cells_at t at_goal) k (goal_assigns t sound)
    line_taken Start e v k =
        let w = start_whole in
        let n = variables_right t sound in
        let g = values_listable t r sound k.variables k.sizes (cells_at t at_start) 0 (omega arith) (omega arith)
        (λ i l. start_cell i (omega arith)) in
        list_line_read r Start key_start Values at_start (cells_at t at_start) (variable_count t) w g
        (λ q. items_some r Values 0 0 (cells_at t at_start) (variable_count t) g (omega arith))
        (eq-eqb (variable_count t) (variable_count r) (sym k.variables))
    line_taken Patterns e v k =
        let n = patterns_right t sound in number_line_read r Patterns key_patterns 0 8 at_patterns (pattern_count t) (omega arith) n (omega arith)
    line_taken (Pattern p) e v k =
        let w = pattern_whole p v in
        let b = k.0 in
        let g = members_listable t r sound b.variables b.sizes p (cells_at t (at_pattern p)) 0 0 (omega arith)
        (λ i l. pattern_cell p v i (omega arith)) in
        list_line_read r (Pattern p) key_pattern Members (at_pattern p) (cells_at t (at_pattern p)) g.0 w g.1
        (λ q. let z : ◌≡◌ {A = ℕ} 0 1 = cc in absurd (omega arith)) refl
    line_taken Limit e v k = number_line_read r Limit key_limit 0 255 at_limit (limit_of t) (omega arith) limit_right (let l = limit_right in omega arith)
    line_taken Budget e v k = budget_line_read r Budget key_budget (budget_of t) budget_right
    line_taken End e v k = absurd (false≢true (sym e))

  number_breaks : (key : List ℕ) (n : ℕ) → lacks line_break key ≡ true → n ≤ 1000000 → lacks line_break (key ++ decimal n) ≡ true
  number_breaks key n h l = lacks_append line_break key (decimal n) h (decimal_lacks line_break n (λ x a b e. omega arith) l)

  pairs_breaks : (key c : List ℕ) → lacks line_break key ≡ true → Assigns t c → lacks line_break (key ++ list_text Pairs c) ≡ true
  pairs_breaks key c h a =
      let g = assigns_listable t c (record { variables = refl; sizes = λ v l. refl }) a in
      lacks_append line_break key (list_text Pairs c) h (list_text_breaks t Pairs c g.0 a.whole g.1)

  -- No line has a line break.
  pub line_breaks : (due : Due) → ended due ≡ false → Valid t due → lacks line_break (line_of t due) ≡ true
  unfolding line_of lacks bytes
  line_breaks Vars e v = let n = variables_right t sound in number_breaks key_vars (variable_count t) refl (omega arith)
  line_breaks (Size i) e v = let n = size_right t sound i v in number_breaks key_size (size_of t i) refl (omega arith)
  line_breaks Moves e v = let n = actions_right t sound in number_breaks key_moves (action_count t) refl (omega arith)
  line_breaks (Need m) e v = pairs_breaks key_need (cells_at t (at_precondition m)) refl (precondition_assigns t sound m v)
  line_breaks (Cost m) e v = let n = costs_right t sound m v in number_breaks key_cost (action_cost t m) refl (omega arith)
  line_breaks (Outcomes m) e v = let n = outcomes_right t sound m v in number_breaks key_outcomes (outcome_count t m) refl (omega arith)
  line_breaks (Eff m j) e v = pairs_breaks key_eff (cells_at t (at_outcome m j)) refl (outcome_assigns t sound m j v.0 v.1)
  line_breaks Goal e v = pairs_breaks key_goal (cells_at t at_goal) refl (goal_assigns t sound)
  line_breaks Start e v =
      let w = start_whole in
      let n = variables_right t sound in
      let g = values_listable t t sound refl (λ v l. refl) (cells_at t at_start) 0 (omega arith) (omega arith) (λ i l. start_cell i (omega arith)) in
      lacks_append line_break key_start (list_text Values (cells_at t at_start)) refl (list_text_breaks t Values (cells_at t at_start) (variable_count t) w g)
  line_breaks Patterns e v = let n = patterns_right t sound in number_breaks key_patterns (pattern_count t) refl (omega arith)
  line_breaks (Pattern p) e v =
      let w = pattern_whole p v in
      let g = members_listable t t sound refl (λ v l. refl) p (cells_at t (at_pattern p)) 0 0 (omega arith) (λ i l. pattern_cell p v i (omega arith)) in
      lacks_append line_break key_pattern (list_text Members (cells_at t (at_pattern p))) refl
      (list_text_breaks t Members (cells_at t (at_pattern p)) g.0 w g.1)
  line_breaks Limit e v = let l = limit_right in number_breaks key_limit (limit_of t) refl (omega arith)
  line_breaks Budget e v = number_breaks key_budget (budget_of t) refl budget_right
  line_breaks End e v = absurd (false≢true (sym e))
