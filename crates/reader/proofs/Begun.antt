-- What holds of a record before each line that is due; and that a line keeps it where the store that it makes does. Assumes nothing.
use mathlib.Core.Path.{◌≡◌, refl}
use mathlib.Core.Bool.{Bool, true, false, cond, ◌&&◌}
use mathlib.Core.List.{List}
use Prim.Native.Nat.{ℕ, ◌+◌, ◌≤◌, ◌<◌}
use lib.Dec.{leb}
use lib.ListN.{length, drop, set}
use lib.Seq.{sets}
use borrow.Author.Tests.{leb-true}
use Rattle.task_record.specs.Layout.{at_budget}
use Rattle.task_record.specs.Numbers.{variable_count, action_count, pattern_count, outcome_count}
use Rattle.reader.specs.Text.{has_key, number_of}
use Rattle.reader.specs.Lists.{list_of, whole_list}
use Rattle.reader.specs.Grammar.{Line, taken, faulty, go_on, take_number, budget_bytes, take_budget, take_list, number_line, budget_line, list_line}
use Rattle.std.proofs.Common.{Option, Some, None}
use Rattle.reader.specs.declared.lists.Gathered.{Gathered}
use Rattle.reader.specs.declared.grammar.LineFault.TheVariants as of-line
use Rattle.reader.specs.declared.lists.Kind.{Kind}
use Rattle.reader.specs.declared.order.Due.{Due}
use Rattle.reader.specs.declared.order.Due.TheVariants.{Vars, Size, Moves, Need, Outcomes, Eff, Goal, Start, Patterns, Pattern, Limit, Budget, End, Cost}
use Rattle.task_record.proofs.Tests.{both_left, both_right}
use Rattle.reader.proofs.Filling.{Filled, Started}

-- Up to the start, no pattern is given; N is known and every size is given.
pub record Sized (r : List ℕ) (a q : ℕ) : Type 0 where
  pub filled : Filled r (variable_count r) a q
  pub some : 1 ≤ variable_count r
  pub plain : pattern_count r ≡ 0

-- From the start on, everything is given but rows and numbers of the header.
pub record Settled (r : List ℕ) : Type 0 where
  pub filled : Filled r (variable_count r) (action_count r) (action_count r)
  pub some : 1 ≤ variable_count r
  pub started : Started r

-- What holds of the record before the line that is due.
abbrev pub Begun : Due → List ℕ → Type 0
Begun Vars r = Filled r 0 0 0 × (variable_count r ≡ 0) × (action_count r ≡ 0) × (pattern_count r ≡ 0)
Begun (Size i) r = Filled r i 0 0 × (i < variable_count r) × (action_count r ≡ 0) × (pattern_count r ≡ 0)
Begun Moves r = Sized r 0 0 × (action_count r ≡ 0)
Begun (Need m) r = Sized r m m × (m < action_count r)
Begun (Cost m) r = Sized r m m × (m < action_count r)
Begun (Outcomes m) r = Sized r m (m + 1) × (m < action_count r)
Begun (Eff m k) r = Sized r (m + 1) (m + 1) × (m < action_count r) × (k < outcome_count r m)
Begun Goal r = Sized r (action_count r) (action_count r)
Begun Start r = Sized r (action_count r) (action_count r)
Begun Patterns r = Settled r × (pattern_count r ≡ 0)
Begun (Pattern p) r = Settled r × (p < pattern_count r)
Begun Limit r = Settled r
Begun Budget r = Settled r
Begun End r = Settled r

-- The same of what a line does.
abbrev pub Kept : Line → Type 0
Kept (taken due r) = Begun due r
Kept (faulty fault) = Unit {0}

-- A line is kept where the store that it makes is.
pub kept_where : (t : Bool) (x y : Line) → (t ≡ true → Kept x) → Kept y → Kept (cond t x y)
kept_where true x y h k = h refl
kept_where false x y h k = k

module _ (r : List ℕ) (due : Due) where
  -- a number in its range is stored
  pub number_kept : (lo hi at : ℕ) (d : Option ℕ) → ((n : ℕ) → lo ≤ n → n ≤ hi → Kept (go_on due (set r at n))) → Kept (take_number r due lo hi at d)
  unfolding take_number
  number_kept lo hi at None h = tt
  number_kept lo hi at (Some n) h =
      kept_where (leb lo n && leb n hi) (go_on due (set r at n)) (faulty of-line.Range)
      (λ t. h n (leb-true lo n (both_left (leb lo n) (leb n hi) t)) (leb-true n hi (both_right (leb lo n) (leb n hi) t))) tt

  -- a budget in its range is stored
  pub budget_kept : (d : Option ℕ) → ((n : ℕ) → n ≤ 1000000 → Kept (go_on due (sets r at_budget (budget_bytes n)))) → Kept (take_budget r due d)
  unfolding take_budget
  budget_kept None h = tt
  budget_kept (Some n) h = kept_where (leb n 1000000) (go_on due (sets r at_budget (budget_bytes n))) (faulty of-line.Range) (λ t. h n (leb-true n 1000000 t)) tt

  -- the cells of a list without fault are stored; a list of values has N of them
  pub list_kept : (kind : Kind) (at : ℕ) (g : Gathered) → (whole_list (variable_count r) kind g.next ≡ true → Kept (go_on due (sets r at g.cells))) → Kept (take_list r due kind at g)
  unfolding take_list
  list_kept kind at g h =
      kept_where g.form (cond (g.list && whole_list (variable_count r) kind g.next) (go_on due (sets r at g.cells)) (faulty of-line.List)) (faulty of-line.Form)
      (λ t. kept_where (g.list && whole_list (variable_count r) kind g.next) (go_on due (sets r at g.cells)) (faulty of-line.List)
      (λ u. h (both_right g.list (whole_list (variable_count r) kind g.next) u)) tt) tt

  module _ (line key : List ℕ) where
    -- a line with a number
    pub number_line_kept : (lo hi at : ℕ) → ((n : ℕ) → lo ≤ n → n ≤ hi → Kept (go_on due (set r at n))) → Kept (number_line r due line key lo hi at)
    unfolding number_line
    number_line_kept lo hi at h =
        kept_where (has_key key line) (take_number r due lo hi at (number_of (drop (length key) line))) (faulty of-line.Unexpected)
        (λ t. number_kept lo hi at (number_of (drop (length key) line)) h) tt

    -- the line with the budget
    pub budget_line_kept : ((n : ℕ) → n ≤ 1000000 → Kept (go_on due (sets r at_budget (budget_bytes n)))) → Kept (budget_line r due line key)
    unfolding budget_line
    budget_line_kept h =
        kept_where (has_key key line) (take_budget r due (number_of (drop (length key) line))) (faulty of-line.Unexpected)
        (λ t. budget_kept (number_of (drop (length key) line)) h) tt

    -- a line with a list
    pub list_line_kept : (kind : Kind) (at : ℕ)
        → ((text : List ℕ) → whole_list (variable_count r) kind (list_of r kind text).next ≡ true → Kept (go_on due (sets r at (list_of r kind text).cells)))
        → Kept (list_line r due line key kind at)
    unfolding list_line
    list_line_kept kind at h =
        kept_where (has_key key line) (take_list r due kind at (list_of r kind (drop (length key) line))) (faulty of-line.Unexpected)
        (λ t. list_kept kind at (list_of r kind (drop (length key) line)) (h (drop (length key) line))) tt
