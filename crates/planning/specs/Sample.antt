-- The sample tower of document 01 and its starred examples, each with the reply that the document gives; at the end what its search
-- examines. Assumes nothing.
use Rattle.std.specs.Prelude.{List, [], ◌∷◌, ℕ}
use Rattle.planning.specs.Extended.{ℕ∞, fin}
use Rattle.planning.specs.Plan.{encode}
use Rattle.planning.specs.Task.{Task, system}
use Rattle.planning.specs.Pattern.{Verdict, additive, conflict, verdict}
use Rattle.planning.specs.Table.{infinite_entry, tables, estimate}
use Rattle.planning.specs.Search.{Answer, found, over, spent, none, answer}
use Rattle.planning.specs.Examinations.{Examined}
use Rattle.planning.specs.PlanCheck.{Checked, passed, refused, check_plan, most_moves}

-- "Variable 0 is the pallet (store, lift, bay, edge), 1 the door (shut, open)." The cost and the last outcome of action 1 and the outcome of
-- action 3 are parameters: the examples change them.
unfoldable pub tower : ℕ → List ℕ → List ℕ → Task
tower cost slip door = record {
  sizes = 4 ∷ 2 ∷ [];
  goal = 2 ∷ 1 ∷ [];
  actions =
      record { precondition = 0 ∷ 255 ∷ []; outcomes = (1 ∷ 255 ∷ []) ∷ []; weight = 1 } ∷
      record { precondition = 1 ∷ 255 ∷ []; outcomes = (2 ∷ 255 ∷ []) ∷ slip ∷ []; weight = cost } ∷
      record { precondition = 3 ∷ 255 ∷ []; outcomes = (2 ∷ 255 ∷ []) ∷ []; weight = 1 } ∷
      record { precondition = 255 ∷ 0 ∷ []; outcomes = door ∷ []; weight = 1 } ∷ [];
}

unfoldable pub sample : Task
sample = tower 1 (3 ∷ 255 ∷ []) (255 ∷ 1 ∷ [])

-- "eff=0:0 for eff=0:3"
unfoldable pub slipping : Task
slipping = tower 1 (0 ∷ 255 ∷ []) (255 ∷ 1 ∷ [])

-- "eff=0:2,1:1 for eff=1:1"
unfoldable pub coupled : Task
coupled = tower 1 (3 ∷ 255 ∷ []) (2 ∷ 1 ∷ [])

-- A line cost=3 after the need of action 1: the example with unequal costs.
unfoldable pub costly : Task
costly = tower 3 (3 ∷ 255 ∷ []) (255 ∷ 1 ∷ [])

-- "patterns=2/pattern=0/pattern=1", "start=0,0"
unfoldable pub sample_patterns : List (List ℕ)
sample_patterns = (1 ∷ 0 ∷ []) ∷ (0 ∷ 1 ∷ []) ∷ []

unfoldable pub sample_start : List ℕ
sample_start = 0 ∷ 0 ∷ []

-- What an example asks: the tables; the search with a budget and a limit; the check of plan bytes at the start.
pub data Question : Type 0 where
  tables_of : Task → Question
  search_of : Task → ℕ → ℕ → Question
  check_of : Task → List ℕ → Question

-- What the document says to it. A search tells the value of the start first, a refusal its number and second number.
pub data Reply : Type 0 where
  entries : List ℕ → Reply
  found_reply : ℕ∞ → ℕ → ℕ → List ℕ → Reply
  over_reply : ℕ∞ → ℕ → Reply
  spent_reply : ℕ∞ → ℕ → ℕ → Reply
  none_reply : ℕ → Reply
  passed_reply : ℕ → ℕ → Reply
  refused_reply : ℕ → ℕ → Reply

unfoldable pub answer_reply : ℕ∞ → Answer → Reply
answer_reply v (found p d c) = found_reply v d c (encode p)
answer_reply v (over c) = over_reply v c
answer_reply v (spent d c) = spent_reply v d c
answer_reply v (none c) = none_reply c

-- Patterns that are not additive are refusal 9 at the action.
unfoldable pub search_reply : Verdict → (Unit {0} → Reply) → Reply
search_reply additive k = k tt
search_reply (conflict m p q) k = refused_reply 9 m

unfoldable pub check_reply : Checked → Reply
check_reply (passed c n) = passed_reply c n
check_reply (refused n i) = refused_reply n i

unfoldable pub reply_to : Question → Reply
reply_to (tables_of t) = entries (tables t sample_patterns)
reply_to (search_of t budget limit) = search_reply (verdict t sample_patterns)
    (λ u. answer_reply (estimate t sample_patterns sample_start) (answer t sample_patterns budget limit sample_start))
reply_to (check_of t bs) = check_reply (check_plan (system t) most_moves sample_start bs)

pub record Example : Type 0 where
  pub question : Question
  pub expected : Reply

abbrev is : Question → Reply → Example
is q r = record { question = q; expected = r }

-- "The starred ones are shown of the definitions as a list with one theorem for the list" (proofs/Sample, starred_examples).
unfoldable pub starred : List Example
starred =
    -- "Tables 3,2,0,1 and 1,0." "The output above."
    is (tables_of sample) (entries (3 ∷ 2 ∷ 0 ∷ 1 ∷ 1 ∷ 0 ∷ [])) ∷
    is (search_of sample 100 32) (found_reply (fin 4) 4 7 (0 ∷ 1 ∷ 3 ∷ 254 ∷ 2 ∷ 3 ∷ 254 ∷ [])) ∷
    -- "Budget 6: spent, round 4, count 6." "limit=3: over, count 0."
    is (search_of sample 6 32) (spent_reply (fin 4) 4 6) ∷
    is (search_of sample 100 3) (over_reply (fin 4) 0) ∷
    -- "eff=0:0 for eff=0:3: table 65535,65535,0,1; none." Its count is 0; infinite is now 4,294,967,295.
    is (tables_of slipping) (entries (infinite_entry ∷ infinite_entry ∷ 0 ∷ 1 ∷ 1 ∷ 0 ∷ [])) ∷
    is (search_of slipping 100 32) (none_reply 0) ∷
    -- "eff=0:2,1:1 for eff=1:1: 9 at 3."
    is (search_of coupled 100 32) (refused_reply 9 3) ∷
    -- "Check at start: 0,1,3,254: 12 at 4. 254: 15 at 0. 3,3: 14 at 1. 4: 13 at 0. The plan with 254 added: 16 at 7."
    is (check_of sample (0 ∷ 1 ∷ 3 ∷ 254 ∷ [])) (refused_reply 12 4) ∷
    is (check_of sample (254 ∷ [])) (refused_reply 15 0) ∷
    is (check_of sample (3 ∷ 3 ∷ [])) (refused_reply 14 1) ∷
    is (check_of sample (4 ∷ [])) (refused_reply 13 0) ∷
    is (check_of sample (0 ∷ 1 ∷ 3 ∷ 254 ∷ 2 ∷ 3 ∷ 254 ∷ 254 ∷ [])) (refused_reply 16 7) ∷
    -- The plan itself passes, with its cost and length.
    is (check_of sample (0 ∷ 1 ∷ 3 ∷ 254 ∷ 2 ∷ 3 ∷ 254 ∷ [])) (passed_reply 4 7) ∷
    -- With cost 3 at action 1 the first table, the value and the plan's cost are 2 higher at the lift and before it; a limit of 5 is too low.
    is (tables_of costly) (entries (5 ∷ 4 ∷ 0 ∷ 1 ∷ 1 ∷ 0 ∷ [])) ∷
    is (search_of costly 100 255) (found_reply (fin 6) 6 7 (0 ∷ 1 ∷ 3 ∷ 254 ∷ 2 ∷ 3 ∷ 254 ∷ [])) ∷
    is (search_of costly 100 5) (over_reply (fin 6) 0) ∷
    is (check_of costly (0 ∷ 1 ∷ 3 ∷ 254 ∷ 2 ∷ 3 ∷ 254 ∷ [])) (passed_reply 6 7) ∷ []

abbrev at : ℕ → ℕ → ℕ → Examined (List ℕ)
at pallet door d = record { state = pallet ∷ door ∷ []; depth = d }

-- The seven examinations that "count=7" counts: pallet and door, with the depth. The lift (1, 0) may end at the bay (2, 0) or at the edge
-- (3, 0), and from both the door is opened at the bay.
unfoldable pub sample_examinations : List (Examined (List ℕ))
sample_examinations = at 0 0 4 ∷ at 1 0 3 ∷ at 2 0 2 ∷ at 2 1 1 ∷ at 3 0 2 ∷ at 2 0 1 ∷ at 2 1 0 ∷ []

-- Without patterns every value is 0. With limit 1 there are two rounds, of depth 0 and of depth 1; the second tries actions 0 and 3, and
-- both fail.
unfoldable pub blind_examinations : List (Examined (List ℕ))
blind_examinations = at 0 0 0 ∷ at 0 0 1 ∷ at 1 0 0 ∷ at 0 1 0 ∷ []
