-- What the fast pass tells of the front of a text that it has read. It tells only of what is good; the definitions of Grammar say the rest.
-- Nothing above the reader cites these. Assumes nothing.
use Rattle.std.specs.Prelude.{ℕ, ◌+◌, ◌≤◌, ◌<◌, true, List, ◌∷◌, ◌++◌, ◌≡◌, length, get_or, set}
use Rattle.std.proofs.lemmas.List.Edits.{sets}
use Rattle.task_record.specs.Layout.{at_variables}
use Rattle.reader.specs.Text.{lines_of}
use Rattle.reader.specs.Lists.{pair_named, item_of, list_of, whole_list}
use Rattle.reader.specs.Grammar.{read_from}
use Rattle.reader.specs.Written.{decimal, item_text}
use Rattle.reader.specs.declared.lists.Kind.{Kind}
use Rattle.reader.specs.declared.lists.Gathered.{Gathered}
use Rattle.reader.specs.declared.order.Due.{Due}

-- variable v with value x stands in front of `rest` as an item of a list, where `next` is the variable that comes next
pub record ItemAt (s : List ℕ) (kind : Kind) (next v x : ℕ) (rest : List ℕ) : Type 0 where
  pub stands : s ≡ item_text kind v x ++ rest
  pub says : item_of kind next (item_text kind v x) ≡ pair_named v x
  pub small : (v < 256) × (x < 256)

-- what has been read when the cells are c and `next` comes next
abbrev pub good_so_far : ℕ → List ℕ → Gathered
good_so_far next c = record { form = true; list = true; next = next; cells = c }

-- the rest of a line is a list that the record r allows, and r' is r with its cells in the row; the lines in `rest` follow
pub record ListAt (s : List ℕ) (kind : Kind) (r : List ℕ) (row : ℕ) (r' rest : List ℕ) : Type 0 where
  pub text : List ℕ
  pub last : ℕ
  pub cells : List ℕ
  pub line : lines_of s ≡ text ∷ lines_of rest
  pub says : list_of r kind text ≡ good_so_far last cells
  pub whole : whole_list (get_or r at_variables 0) kind last ≡ true
  pub sixteen : length cells ≡ 16
  pub stored : r' ≡ sets r row cells

-- the rest of a line is a number from low to high, and r' is r with it in a cell; the lines in `rest` follow
pub record NumberAt (s : List ℕ) (low high : ℕ) (r : List ℕ) (cell : ℕ) (r' rest : List ℕ) : Type 0 where
  pub number : ℕ
  pub line : lines_of s ≡ decimal number ∷ lines_of rest
  pub least : low ≤ number
  pub most : number ≤ high
  pub stored : r' ≡ set r cell number
  pub held : get_or r' cell 0 ≡ number

-- the same of whole lines, with their key in front
pub record ListLine (s key : List ℕ) (kind : Kind) (r : List ℕ) (row : ℕ) (r' rest : List ℕ) : Type 0 where
  pub value : List ℕ
  pub had : s ≡ key ++ value
  pub list : ListAt value kind r row r' rest

pub record NumberLine (s key : List ℕ) (low high : ℕ) (r : List ℕ) (cell : ℕ) (r' rest : List ℕ) : Type 0 where
  pub value : List ℕ
  pub had : s ≡ key ++ value
  pub stands : NumberAt value low high r cell r' rest

-- The lines of s that do not stand in s' are good: to read on at s with the line due and the record of the one is to read on at s' with those of the
-- other.
pub record Leads (due : Due) (r s : List ℕ) (due' : Due) (r' s' : List ℕ) : Type 0 where
  pub lines : ℕ
  pub same : (n : ℕ) → read_from n due r (lines_of s) ≡ read_from (n + lines) due' r' (lines_of s')
