-- Document 01, "Text" and refusals 1 to 5, and document 02, item 3: which line is due, what a line does to the record, and the whole text.
-- `read_answer` and `read_leaves` are what a call answers and what the lent record holds after it. Assumes nothing.
use Rattle.std.specs.Prelude.{ℕ, zero, suc, ◌+◌, ◌-◌, ◌/◌, ◌%◌, Bool, true, false, cond, ◌&&◌, List, [], ◌∷◌, ◌++◌, length, get_or, drop, set, replicate, ltb, leb, Option, Some, None, Result, Ok, Err}
use Rattle.std.proofs.lemmas.List.Edits.{sets}
use Rattle.task_record.specs.Layout.{record_size, at_variables, at_actions, at_patterns, at_limit, at_budget, at_sizes, at_goal, at_start, at_pattern, at_action, at_precondition, at_outcome, at_cost}
use Rattle.reader.specs.Bytes.{bytes}
use Rattle.reader.specs.Text.{lines_of, has_key, number_of}
use Rattle.reader.specs.Lists.{list_of, whole_list}
use Rattle.reader.specs.declared.lists.Kind.{Kind}
use Rattle.reader.specs.declared.lists.Kind.TheVariants.{Pairs, Values, Members}
use Rattle.reader.specs.declared.order.Due.{Due}
use Rattle.reader.specs.declared.order.Due.TheVariants.{Vars, Size, Moves, Need, Outcomes, Eff, Goal, Start, Patterns, Pattern, Limit, Budget, End, Cost}
use Rattle.reader.specs.declared.grammar.LineFault.{LineFault}
use Rattle.reader.specs.declared.grammar.LineFault.TheVariants as of-line
use Rattle.reader.specs.declared.lists.Gathered.{Gathered}
use Rattle.task_record.specs.declared.refusal.Refusal.{Refusal}
use Rattle.task_record.specs.declared.refusal.Refusal.TheVariants.{UnexpectedLine, WrongForm, OutOfRange, WrongList, ShortRecord}

-- The order of the lines. "in this order: vars; size per variable; moves; per move need, outcomes, then eff per outcome; goal; start; patterns;
-- pattern each; limit; budget."; "a line cost= .. after each need". The record r has the counts that were read.
-- the lines of action m, or the goal after the last
abbrev pub action_from : List ℕ → ℕ → Due
action_from r m = cond (ltb m (get_or r at_actions 0)) (Need m) Goal

-- the line of pattern p, or the limit after the last
abbrev pub pattern_from : List ℕ → ℕ → Due
pattern_from r p = cond (ltb p (get_or r at_patterns 0)) (Pattern p) Limit

-- what is due after a line
unfoldable pub next_due : List ℕ → Due → Due
next_due r Vars = Size 0
next_due r (Size i) = cond (ltb (i + 1) (get_or r at_variables 0)) (Size (i + 1)) Moves
next_due r Moves = action_from r 0
next_due r (Need m) = Cost m
next_due r (Cost m) = Outcomes m
next_due r (Outcomes m) = Eff m 0
next_due r (Eff m k) = cond (ltb (k + 1) (get_or r (at_action m) 0)) (Eff m (k + 1)) (action_from r (m + 1))
next_due r Goal = Start
next_due r Start = Patterns
next_due r Patterns = pattern_from r 0
next_due r (Pattern p) = pattern_from r (p + 1)
next_due r Limit = Budget
next_due r Budget = End
next_due r End = End

-- whether nothing is due
abbrev pub ended : Due → Bool
ended Vars = false
ended (Size i) = false
ended Moves = false
ended (Need m) = false
ended (Cost m) = false
ended (Outcomes m) = false
ended (Eff m k) = false
ended Goal = false
ended Start = false
ended Patterns = false
ended (Pattern p) = false
ended Limit = false
ended Budget = false
ended End = true

-- What a line does: it is taken, with what is due next and the record with what the line says; or it is faulty, with what is wrong with it.
pub data Line : Type 0 where
  taken : Due → List ℕ → Line
  faulty : LineFault → Line

-- a line that was due is taken and leaves the record r
abbrev pub go_on : Due → List ℕ → Line
go_on due r = taken (next_due r due) r

-- the same, of the code's answer and the record that it was lent
abbrev pub told : Result Due LineFault → List ℕ → Line
told (Ok due) r = taken due r
told (Err fault) r = faulty fault

-- Refusal 2, "form of number or list", then 3, "a single number outside its range": a number from lo to hi goes to an offset.
unfoldable pub take_number : List ℕ → Due → ℕ → ℕ → ℕ → Option ℕ → Line
take_number r due lo hi at None = faulty of-line.Form
take_number r due lo hi at (Some n) = cond (leb lo n && leb n hi) (go_on due (set r at n)) (faulty of-line.Range)

-- "4 to 7 budget, lowest byte first"; "budget 0 to 1,000,000"
unfoldable pub budget_bytes : ℕ → List ℕ
budget_bytes n = n % 256 ∷ n / 256 % 256 ∷ n / 65536 % 256 ∷ n / 16777216 % 256 ∷ []

unfoldable pub take_budget : List ℕ → Due → Option ℕ → Line
take_budget r due None = faulty of-line.Form
take_budget r due (Some n) = cond (leb n 1000000) (go_on due (sets r at_budget (budget_bytes n))) (faulty of-line.Range)

-- Refusal 2, "form of number or list", then 4, "list: ..": the list's cells go to an offset.
unfoldable pub take_list : List ℕ → Due → Kind → ℕ → Gathered → Line
take_list r due kind at g =
    cond g.form
    (cond (g.list && whole_list (get_or r at_variables 0) kind g.next) (go_on due (sets r at g.cells)) (faulty of-line.List))
    (faulty of-line.Form)

-- "within it the key, then form, then range or list": refusal 1 for "a line without the due key and =", else what the value after the key says
unfoldable pub number_line : List ℕ → Due → List ℕ → List ℕ → ℕ → ℕ → ℕ → Line
number_line r due line key lo hi at = cond (has_key key line) (take_number r due lo hi at (number_of (drop (length key) line))) (faulty of-line.Unexpected)

unfoldable pub budget_line : List ℕ → Due → List ℕ → List ℕ → Line
budget_line r due line key = cond (has_key key line) (take_budget r due (number_of (drop (length key) line))) (faulty of-line.Unexpected)

unfoldable pub list_line : List ℕ → Due → List ℕ → List ℕ → Kind → ℕ → Line
list_line r due line key kind at = cond (has_key key line) (take_list r due kind at (list_of r kind (drop (length key) line))) (faulty of-line.Unexpected)

-- the keys with their `=`
abbrev pub key_vars : List ℕ
key_vars = bytes "vars="

abbrev pub key_size : List ℕ
key_size = bytes "size="

abbrev pub key_moves : List ℕ
key_moves = bytes "moves="

abbrev pub key_need : List ℕ
key_need = bytes "need="

abbrev pub key_cost : List ℕ
key_cost = bytes "cost="

abbrev pub key_outcomes : List ℕ
key_outcomes = bytes "outcomes="

abbrev pub key_eff : List ℕ
key_eff = bytes "eff="

abbrev pub key_goal : List ℕ
key_goal = bytes "goal="

abbrev pub key_start : List ℕ
key_start = bytes "start="

abbrev pub key_patterns : List ℕ
key_patterns = bytes "patterns="

abbrev pub key_pattern : List ℕ
key_pattern = bytes "pattern="

abbrev pub key_limit : List ℕ
key_limit = bytes "limit="

abbrev pub key_budget : List ℕ
key_budget = bytes "budget="

-- A line that must be the one that is due: its key, its range or kind, its place. "Ranges: N 1 to 16, size 2 to 16, moves M 0 to 64, patterns P 0 to
-- 8", "1 to 8 outcomes"; "cost= of 1 to 255"; "Limit is a cost from 0 to 255"; a line after the last is "extra".
unfoldable pub take_due : List ℕ → Due → List ℕ → Line
take_due r Vars l = number_line r Vars l key_vars 1 16 at_variables
take_due r (Size i) l = number_line r (Size i) l key_size 2 16 (at_sizes + i)
take_due r Moves l = number_line r Moves l key_moves 0 64 at_actions
take_due r (Need m) l = list_line r (Need m) l key_need Pairs (at_precondition m)
take_due r (Cost m) l = number_line r (Cost m) l key_cost 1 255 (at_cost m)
take_due r (Outcomes m) l = number_line r (Outcomes m) l key_outcomes 1 8 (at_action m)
take_due r (Eff m k) l = list_line r (Eff m k) l key_eff Pairs (at_outcome m k)
take_due r Goal l = list_line r Goal l key_goal Pairs at_goal
take_due r Start l = list_line r Start l key_start Values at_start
take_due r Patterns l = number_line r Patterns l key_patterns 0 8 at_patterns
take_due r (Pattern p) l = list_line r (Pattern p) l key_pattern Members (at_pattern p)
take_due r Limit l = number_line r Limit l key_limit 0 255 at_limit
take_due r Budget l = budget_line r Budget l key_budget
take_due r End l = faulty of-line.Unexpected

-- The line that comes. "The line may be left out, and that move then costs 1": where a cost is due, a line without its key is the one after it.
unfoldable pub take_line : List ℕ → Due → List ℕ → Line
take_line r (Cost m) l = cond (has_key key_cost l) (take_due r (Cost m) l) (take_due (set r (at_cost m) 1) (Outcomes m) l)
take_line r Vars l = take_due r Vars l
take_line r (Size i) l = take_due r (Size i) l
take_line r Moves l = take_due r Moves l
take_line r (Need m) l = take_due r (Need m) l
take_line r (Outcomes m) l = take_due r (Outcomes m) l
take_line r (Eff m k) l = take_due r (Eff m k) l
take_line r Goal l = take_due r Goal l
take_line r Start l = take_due r Start l
take_line r Patterns l = take_due r Patterns l
take_line r (Pattern p) l = take_due r (Pattern p) l
take_line r Limit l = take_due r Limit l
take_line r Budget l = take_due r Budget l
take_line r End l = take_due r End l

-- refusals 1 to 4, of a line: what is wrong with it, and its number
abbrev pub fault_at : LineFault → ℕ → Refusal
fault_at of-line.Unexpected line = UnexpectedLine line
fault_at of-line.Form line = WrongForm line
fault_at of-line.Range line = OutOfRange line
fault_at of-line.List line = WrongList line

-- What a text says: a record, or a refusal of one of its lines.
pub data Whole : Type 0 where
  complete : List ℕ → Whole
  refused : Refusal → Whole

-- the same, of the code's answer and the record that it was lent
abbrev pub whole_of : Result Unit Refusal → List ℕ → Whole
whole_of (Ok done) r = complete r
whole_of (Err refusal) r = refused refusal

-- line number n is done; where it was taken, the rest goes on
abbrev pub proceed : ℕ → Line → (Due → List ℕ → Whole) → Whole
proceed n (taken due r) rest = rest due r
proceed n (faulty fault) rest = refused (fault_at fault n)

-- The lines from number n on. "The lowest faulty line is reported"; refusal 1 for "line missing or extra", a missing one at the number it
-- would have had.
unfoldable pub read_from : ℕ → Due → List ℕ → List (List ℕ) → Whole
read_from n due r [] = cond (ended due) (complete r) (refused (UnexpectedLine n))
read_from n due r (l ∷ ls) = proceed n (take_line r due l) (λ d x. read_from (n + 1) d x ls)

-- "Unused cells: size, pattern and outcome number 0, all others 255": an action that is not used, n of them, a record with nothing used, with
-- "64 bytes at its end, 0 for unused moves" (every cell of the header is set by its line)
unfoldable pub unused_action : List ℕ
unused_action = 0 ∷ replicate (at_action 1 - at_precondition 0) 255

unfoldable pub unused_actions : ℕ → List ℕ
unused_actions zero = []
unused_actions (suc n) = unused_action ++ unused_actions n

unfoldable pub blank : List ℕ
blank = replicate at_goal 0 ++ (replicate (at_pattern 0 - at_goal) 255 ++ (replicate (at_action 0 - at_pattern 0) 0 ++ (unused_actions 64 ++ replicate 64 0)))

-- "line, from 1"
unfoldable pub read_whole : List ℕ → Whole
read_whole text = read_from 1 Vars blank (lines_of text)

abbrev pub answer_of : Whole → Result Unit Refusal
answer_of (complete r) = Ok tt
answer_of (refused refusal) = Err refusal

-- "The reader writes 9,464 bytes and nothing after", which are now 9,528; "refused calls leave every lent slice as found"
abbrev pub record_left_by : List ℕ → Whole → List ℕ
record_left_by record₀ (complete r) = r ++ drop record_size record₀
record_left_by record₀ (refused refusal) = record₀

-- What the call answers, and what the lent record holds after it. "the reader tests 5 first": "lent record below 9,464 bytes", now
-- 9,528, "its length".
unfoldable pub read_answer : List ℕ → List ℕ → Result Unit Refusal
read_answer text record₀ = cond (ltb (length record₀) record_size) (Err (ShortRecord (length record₀))) (answer_of (read_whole text))

unfoldable pub read_leaves : List ℕ → List ℕ → List ℕ
read_leaves text record₀ = cond (ltb (length record₀) record_size) record₀ (record_left_by record₀ (read_whole text))
