-- A check that allows more moves answers the same, but where the check that allows fewer says that a move is too deep. Assumes nothing.
use Rattle.std.proofs.Common.{◌≡◌, ◌≢◌, true, ℕ, suc, ◌≤◌, max, eqb, ltb, List, [], ◌∷◌, ◌++◌, refl, arith, Result, Err}
use borrow.Author.Tests.{lt-ltb, ltb-true}
use Rattle.planning.specs.Finite.{choose}
use Rattle.planning.specs.System.{System, applies}
use Rattle.planning.specs.PlanCheck.{refused, Pending, demand, pending_after, check_byte, check_bytes, check_plan}
use Rattle.planning.proofs.Test.{by_test}
use Rattle.task_record.specs.declared.refusal.Refusal.{Refusal}
use Rattle.task_record.specs.declared.refusal.Refusal.TheVariants.{TooDeep}
use Rattle.plan_check.specs.declared.check.Passed.{Passed}
use Rattle.plan_check.specs.Check.{refusal_of, answer_of}

module _ {S : Type 0} (Y : System S) (most more : ℕ) (within : most ≤ more) where
  bytes_deeper : (bs : List ℕ) (rest : List (Pending S)) (i worst : ℕ) → ((at : ℕ) → check_bytes Y most bs rest i worst ≢ refused 17 at) →
      check_bytes Y more bs rest i worst ≡ check_bytes Y most bs rest i worst
  unfolding check_bytes check_byte demand choose
  bytes_deeper [] [] i worst h = refl
  bytes_deeper [] (x ∷ rest) i worst h = refl
  bytes_deeper (b ∷ bs) [] i worst h = refl
  bytes_deeper (b ∷ bs) (x ∷ rest) i worst h = by_test (eqb b 254)
      (λ e. by_test (Y.goal x.state)
      (λ g. rw (e, g) (bytes_deeper bs rest (suc i) (max worst x.paid) (rw (e, g) at h)))
      (λ g. rw (e, g)))
      (λ e. by_test (ltb b Y.actions)
      (λ a. by_test (ltb x.moves most)
      (λ l. let d : ltb x.moves more ≡ true = lt-ltb x.moves more (let k = ltb-true x.moves most l in omega arith) in
      by_test (applies Y b x.state)
      (λ t. rw (e, a, l, d, t) (bytes_deeper bs (pending_after Y x b ++ rest) (suc i) worst (rw (e, a, l, t) at h)))
      (λ t. rw (e, a, l, d, t)))
      (λ l. let z = rw (e, a, l) at h in absurd (z i refl)))
      (λ a. rw (e, a)))

  plan_deeper : (s : S) (plan : List ℕ) → ((at : ℕ) → check_plan Y most s plan ≢ refused 17 at) → check_plan Y more s plan ≡ check_plan Y most s plan
  unfolding check_plan
  plan_deeper s plan h = bytes_deeper plan _ 0 0 h

  -- The same of the answer.
  pub answer_deeper : (s : S) (plan : List ℕ) (x : Result Passed Refusal) → x ≡ answer_of (check_plan Y most s plan) → ((at : ℕ) → x ≢ Err (TooDeep at)) →
      x ≡ answer_of (check_plan Y more s plan)
  unfolding answer_of refusal_of
  answer_deeper s plan x e n = rw (plan_deeper s plan (λ at q. n at (rw q at e))) e
