-- The sample tower's text and the starred examples of the plan check, each plan beside the answer that document 01 gives. Assumes nothing.
use Rattle.std.specs.Prelude.{List, [], ◌∷◌, ℕ, Result, Ok, Err}
use Rattle.task_record.specs.declared.refusal.Refusal.{Refusal}
use Rattle.task_record.specs.declared.refusal.Refusal.TheVariants.{UnfinishedPlan, UnknownByte, Inapplicable, EarlyArrival, TrailingBytes}
use Rattle.reader.specs.Bytes.{bytes}
use Rattle.tables.specs.Sample.{tower}
use Rattle.plan_check.specs.declared.check.Passed.{Passed}

-- The sample tower as the examples of the tables have it.
unfoldable pub sample_text : List ℕ
sample_text = tower (bytes "eff=0:3") (bytes "eff=1:1") (bytes "limit=32") (bytes "budget=100")

pub record Check : Type 0 where
  pub plan : List ℕ
  pub expected : Result Passed Refusal

abbrev gives : List ℕ → Result Passed Refusal → Check
gives bs a = record { plan = bs; expected = a }

-- One theorem for the list: proofs/Samples, checks_of_text.
unfoldable pub checks : List Check
checks =
    -- "Check at start: 0,1,3,254: 12 at 4. 254: 15 at 0. 3,3: 14 at 1. 4: 13 at 0. The plan with 254 added: 16 at 7."
    gives (0 ∷ 1 ∷ 3 ∷ 254 ∷ []) (Err (UnfinishedPlan 4)) ∷
    gives (254 ∷ []) (Err (EarlyArrival 0)) ∷
    gives (3 ∷ 3 ∷ []) (Err (Inapplicable 1)) ∷
    gives (4 ∷ []) (Err (UnknownByte 0)) ∷
    gives (0 ∷ 1 ∷ 3 ∷ 254 ∷ 2 ∷ 3 ∷ 254 ∷ 254 ∷ []) (Err (TrailingBytes 7)) ∷
    -- The plan itself passes, with its cost and length.
    gives (0 ∷ 1 ∷ 3 ∷ 254 ∷ 2 ∷ 3 ∷ 254 ∷ []) (Ok (record { cost = 4; length = 7 })) ∷ []
