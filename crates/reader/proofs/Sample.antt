-- The sample tower of document 01, without costs and with some, and the readings of its text, by computation: the list `samples` shows each text
-- beside the answer and the record that are expected of it, and one theorem says that all of it holds. Assumes nothing.
use mathlib.Core.Path.{◌≡◌, refl}
use mathlib.Core.List.{List, [], ◌∷◌, ◌++◌, map}
use Prim.Native.Nat.{ℕ, ◌+◌}
use lib.ListN.{take, replicate}
use Rattle.task_record.specs.Layout.{record_size}
use Rattle.reader.specs.Bytes.{bytes}
use Rattle.reader.specs.Text.{index_of, lines_of, pieces, has_key, digits, value, well_formed, number_of}
use Rattle.reader.specs.Lists.{pair_of, item_of, pair_fits, pair_step, list_from, listed, no_items, list_of}
use Rattle.reader.specs.Grammar.{next_due, take_number, budget_bytes, take_budget, take_list, number_line, budget_line, list_line, take_due, take_line, read_from, unused_action, unused_actions, blank, read_whole, read_answer, read_leaves}
use Rattle.std.specs.Prelude.{Result, Ok, Err}
use Rattle.task_record.specs.declared.refusal.Refusal.{Refusal}
use Rattle.task_record.specs.declared.refusal.Refusal.TheVariants.{UnexpectedLine, WrongForm, OutOfRange, WrongList, ShortRecord}

-- What a call answers and what it leaves in the record; a sample is a text with a lent record, and what is expected of the call.
pub record Call : Type 0 where
  pub answer : Result Unit Refusal
  pub leaves : List ℕ

pub record Sample : Type 0 where
  pub text : List ℕ
  pub lent : List ℕ
  pub expected : Call

pub called : List ℕ → List ℕ → Call
called text lent = record { answer = read_answer text lent; leaves = read_leaves text lent }

-- 16 cells of which the first are given and the others are `rest`
row : ℕ → List ℕ → List ℕ
row rest cells = take 16 (cells ++ replicate 16 rest)

-- "0 for unused moves": 64 costs of which the first are given
costs_of : List ℕ → List ℕ
costs_of costs = take 64 (costs ++ replicate 64 0)

-- The sample's record with a limit and costs: header and sizes, goal and start, patterns, four actions with their preconditions and outcomes, and 60 that are not used; costs.
sample_record : ℕ → List ℕ → List ℕ
sample_record limit costs =
    (2 ∷ 4 ∷ 2 ∷ limit ∷ 100 ∷ 0 ∷ 0 ∷ 0 ∷ row 0 (4 ∷ 2 ∷ []))
    ++ (row 255 (2 ∷ 1 ∷ []) ++ row 255 (0 ∷ 0 ∷ []))
    ++ (row 0 (1 ∷ []) ++ row 0 (0 ∷ 1 ∷ []) ++ replicate 96 0)
    ++ (1 ∷ row 255 (0 ∷ []) ++ row 255 (1 ∷ []) ++ replicate 112 255)
    ++ (2 ∷ row 255 (1 ∷ []) ++ row 255 (2 ∷ []) ++ row 255 (3 ∷ []) ++ replicate 96 255)
    ++ (1 ∷ row 255 (3 ∷ []) ++ row 255 (2 ∷ []) ++ replicate 112 255)
    ++ (1 ∷ row 255 (255 ∷ 0 ∷ []) ++ row 255 (255 ∷ 1 ∷ []) ++ replicate 112 255)
    ++ unused_actions 60
    ++ costs_of costs

-- the sample's text up to its limit
sample_head : List ℕ
sample_head = bytes "vars=2\nsize=4\nsize=2\nmoves=4\nneed=0:0\noutcomes=1\neff=0:1\nneed=0:1\noutcomes=2\neff=0:2\neff=0:3\nneed=0:3\noutcomes=1\neff=0:2\nneed=1:0\noutcomes=1\neff=1:1\ngoal=0:2,1:1\nstart=0,0\npatterns=2\npattern=0\npattern=1\n"

-- the same with costs, of which the one of move 2 is left out
dear_head : List ℕ
dear_head = bytes "vars=2\nsize=4\nsize=2\nmoves=4\nneed=0:0\ncost=1\noutcomes=1\neff=0:1\nneed=0:1\ncost=3\noutcomes=2\neff=0:2\neff=0:3\nneed=0:3\noutcomes=1\neff=0:2\nneed=1:0\ncost=255\noutcomes=1\neff=1:1\ngoal=0:2,1:1\nstart=0,0\npatterns=2\npattern=0\npattern=1\n"

-- one variable and one move, up to its need
move_head : List ℕ
move_head = bytes "vars=1\nsize=2\nmoves=1\nneed=0:0\n"

-- two variables of sizes 4 and 2 and no move, up to the goal
short_head : List ℕ
short_head = bytes "vars=2\nsize=4\nsize=2\nmoves=0\n"

-- a lent record with two bytes more than it needs, all 7
lent : List ℕ
lent = replicate (record_size + 2) 7

reads : List ℕ → List ℕ → Sample
reads text record₀ = record { text = text; lent = lent; expected = record { answer = Ok tt; leaves = record₀ ++ (7 ∷ 7 ∷ []) } }

-- the text is refused
refuses : List ℕ → Refusal → Sample
refuses text refusal = record { text = text; lent = lent; expected = record { answer = Err refusal; leaves = lent } }

pub samples : List Sample
samples =
    reads (sample_head ++ bytes "limit=32\nbudget=100") (sample_record 32 (1 ∷ 1 ∷ 1 ∷ 1 ∷ []))
    ∷ reads (sample_head ++ bytes "limit=32\nbudget=100\n") (sample_record 32 (1 ∷ 1 ∷ 1 ∷ 1 ∷ []))
    ∷ reads (sample_head ++ bytes "limit=255\nbudget=100") (sample_record 255 (1 ∷ 1 ∷ 1 ∷ 1 ∷ []))
    ∷ refuses (sample_head ++ bytes "limit=256\nbudget=100") (OutOfRange 23)
    ∷ reads (dear_head ++ bytes "limit=32\nbudget=100") (sample_record 32 (1 ∷ 3 ∷ 1 ∷ 255 ∷ []))
    ∷ refuses (move_head ++ bytes "cost=0\noutcomes=1") (OutOfRange 5)
    ∷ refuses (move_head ++ bytes "cost=256\noutcomes=1") (OutOfRange 5)
    ∷ refuses (move_head ++ bytes "cost=\noutcomes=1") (WrongForm 5)
    ∷ refuses (move_head ++ bytes "cost=01\noutcomes=1") (WrongForm 5)
    ∷ refuses (move_head ++ bytes "cost=2\ncost=2\noutcomes=1") (UnexpectedLine 6)
    ∷ refuses (move_head ++ bytes "outcomes=1\ncost=2\neff=") (UnexpectedLine 6)
    ∷ refuses (move_head ++ bytes "cost\noutcomes=1") (UnexpectedLine 5)
    ∷ refuses (move_head ++ bytes "eff=0:1") (UnexpectedLine 5)
    ∷ refuses (move_head ++ bytes "outcomes=9") (OutOfRange 5)
    ∷ refuses move_head (UnexpectedLine 5)
    ∷ refuses (sample_head ++ bytes "limit=32\nbudget=100\n\n") (UnexpectedLine 25)
    ∷ refuses (sample_head ++ bytes "limit=32") (UnexpectedLine 24)
    ∷ refuses (bytes "") (UnexpectedLine 1)
    ∷ refuses (bytes "vars==2") (WrongForm 1)
    ∷ refuses (bytes "vars=") (WrongForm 1)
    ∷ refuses (bytes "varss=2") (UnexpectedLine 1)
    ∷ refuses (bytes "vars") (UnexpectedLine 1)
    ∷ refuses (bytes "Vars=2") (UnexpectedLine 1)
    ∷ refuses (bytes "vars=02") (WrongForm 1)
    ∷ refuses (bytes "vars=+2") (WrongForm 1)
    ∷ refuses (bytes "vars= 2") (WrongForm 1)
    ∷ refuses (bytes "vars=2\r") (WrongForm 1)
    ∷ refuses (bytes "vars=12345678") (WrongForm 1)
    ∷ refuses (bytes "vars=1234567") (OutOfRange 1)
    ∷ refuses (bytes "vars=0") (OutOfRange 1)
    ∷ refuses (bytes "vars=17") (OutOfRange 1)
    ∷ refuses (bytes "vars=2\n\n") (UnexpectedLine 2)
    ∷ refuses (bytes "vars=2\nsize=1") (OutOfRange 2)
    ∷ refuses (short_head ++ bytes "goal=0:3,1:1\n") (UnexpectedLine 6)
    ∷ refuses (short_head ++ bytes "goal=\n") (UnexpectedLine 6)
    ∷ refuses (short_head ++ bytes "goal=1:0,0:0") (WrongList 5)
    ∷ refuses (short_head ++ bytes "goal=0:0,0:1") (WrongList 5)
    ∷ refuses (short_head ++ bytes "goal=0:4") (WrongList 5)
    ∷ refuses (short_head ++ bytes "goal=2:0") (WrongList 5)
    ∷ refuses (short_head ++ bytes "goal=0:4,1") (WrongForm 5)
    ∷ refuses (short_head ++ bytes "goal=0:0,") (WrongForm 5)
    ∷ refuses (short_head ++ bytes "goal=0:01") (WrongForm 5)
    ∷ refuses (short_head ++ bytes "goal=9:9999999") (WrongList 5)
    ∷ refuses (short_head ++ bytes "goal=\nstart=") (WrongForm 6)
    ∷ refuses (short_head ++ bytes "goal=\nstart=0") (WrongList 6)
    ∷ refuses (short_head ++ bytes "goal=\nstart=0,0,0") (WrongList 6)
    ∷ refuses (short_head ++ bytes "goal=\nstart=0,2") (WrongList 6)
    ∷ refuses (short_head ++ bytes "goal=\nstart=0,0\npatterns=9") (OutOfRange 7)
    ∷ refuses (short_head ++ bytes "goal=\nstart=0,0\npatterns=1\npattern=1,0") (WrongList 8)
    ∷ record { text = []; lent = 1 ∷ 2 ∷ 3 ∷ []; expected = record { answer = Err (ShortRecord 3); leaves = 1 ∷ 2 ∷ 3 ∷ [] } }
    ∷ []

pub samples_as_expected : map (λ s. called s.text s.lent) samples ≡ map (λ s. s.expected) samples
unfolding bytes index_of lines_of pieces has_key digits value well_formed number_of pair_of item_of pair_fits pair_step list_from listed no_items list_of next_due take_number budget_bytes take_budget take_list number_line budget_line list_line take_due take_line read_from unused_action unused_actions blank read_whole read_answer read_leaves called row costs_of sample_record sample_head dear_head move_head short_head lent reads refuses samples
samples_as_expected = refl
