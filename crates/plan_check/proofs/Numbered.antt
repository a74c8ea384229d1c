-- What the check says in numbers: planning's refusals have the numbers 12 to 17, and each is the number of its case. Assumes nothing.
use Rattle.std.proofs.Common.{◌≡◌, ℕ, suc, max, eqb, ltb, List, [], ◌∷◌, ◌++◌, refl}
use Rattle.planning.specs.Finite.{choose}
use Rattle.planning.specs.Numbers.{answered}
use Rattle.planning.specs.System.{System, applies}
use Rattle.planning.specs.PlanCheck.{Checked, Pending, demand, pending_after, check_byte, check_bytes, check_plan}
use Rattle.planning.proofs.Test.{by_test}
use Rattle.plan_check.specs.Check.{refusal_of, answer_of}
use Rattle.task_record.specs.Refusals.{answer_numbers}
use Rattle.plan_check.specs.ForC.{bytes_numbers}

-- An answer of planning, told as it is and as the case that it becomes. The word of specs/ForC.antt on the cases is not named here, so that the
-- call is held to it itself.
abbrev Told : Checked → Type 0
Told v = answer_numbers (λ p. answered 0 p.cost p.length 0) (answer_of v) ≡ bytes_numbers v

module _ {S : Type 0} (Y : System S) (most : ℕ) where
  pub bytes_told : (bs : List ℕ) (rest : List (Pending S)) (i worst : ℕ) → Told (check_bytes Y most bs rest i worst)
  unfolding check_bytes check_byte demand choose answer_of refusal_of bytes_numbers
  bytes_told [] [] i worst = refl
  bytes_told [] (x ∷ rest) i worst = refl
  bytes_told (b ∷ bs) [] i worst = refl
  bytes_told (b ∷ bs) (x ∷ rest) i worst = by_test (eqb b 254)
      (λ e. by_test (Y.goal x.state)
      (λ g. rw (e, g) (bytes_told bs rest (suc i) (max worst x.paid)))
      (λ g. rw (e, g)))
      (λ e. by_test (ltb b Y.actions)
      (λ a. by_test (ltb x.moves most)
      (λ l. by_test (applies Y b x.state)
      (λ t. rw (e, a, l, t) (bytes_told bs (pending_after Y x b ++ rest) (suc i) worst))
      (λ t. rw (e, a, l, t)))
      (λ l. rw (e, a, l)))
      (λ a. rw (e, a)))

  pub plan_told : (s : S) (plan : List ℕ) → Told (check_plan Y most s plan)
  unfolding check_plan
  plan_told s plan = bytes_told plan _ 0 0
