-- An answer as numbers, the form in which every entry's answer is compared with the document's table and handed to C: the refusal's
-- number (0 where the call answers), the kind of answer, and its values; a value that an answer does not have is 0. Assumes nothing.
use Rattle.std.specs.Prelude.{Bool, cond, ℕ}

pub record Numbers : Type 0 where
  pub number : ℕ
  pub kind : ℕ
  pub first : ℕ
  pub second : ℕ
  pub third : ℕ

-- "Where a call can say no": number and second number of a refusal.
unfoldable pub refusal : ℕ → ℕ → Numbers
refusal number second = record { number = number; kind = 0; first = second; second = 0; third = 0 }

unfoldable pub answered : ℕ → ℕ → ℕ → ℕ → Numbers
answered kind first second third = record { number = 0; kind = kind; first = first; second = second; third = third }

-- A line of "Where a call can say no": its condition, number and second number; where the condition does not hold, what the lines below say.
-- "A call tests top to bottom the lines that concern it": what a call says in numbers is those lines, one around the other, the first outermost.
unfoldable pub refused_if : Bool → ℕ → ℕ → Numbers → Numbers
refused_if condition number second below = cond condition (refusal number second) below
