-- The tests at a byte of a plan, of any system. Assumes nothing.
use Rattle.std.specs.Prelude.{cond, ℕ, eqb, leb, ltb, Result, Ok, Err}
use Rattle.planning.specs.System.{System, applies}
use Rattle.task_record.specs.declared.refusal.Refusal.{Refusal}
use Rattle.task_record.specs.declared.refusal.Refusal.TheVariants.{UnknownByte, Inapplicable, EarlyArrival, TooDeep}

-- Whether byte b, at offset `at`, plans for state s after `moves` moves: 17 "a move after 32 moves on the path", where the check now "allows 255
-- moves", 14 "move does not apply", 15 "254 at a state that is no goal", 13 "byte neither 254 nor below M". An action's number is asked first; it is never 254.
unfoldable pub byte_judged : {S : Type 0} → System S → ℕ → ℕ → ℕ → S → ℕ → Result Unit Refusal
byte_judged Y most b moves s at =
    cond (ltb b Y.actions)
    (cond (leb most moves) (Err (TooDeep at)) (cond (applies Y b s) (Ok tt) (Err (Inapplicable at))))
    (cond (eqb b 254) (cond (Y.goal s) (Ok tt) (Err (EarlyArrival at))) (Err (UnknownByte at)))
