-- What C may conclude from the first two numbers of the search: no refusal has the number 0, so number 0 and kind 0 mean that a plan was found.
-- Assumes nothing.
use Rattle.std.proofs.Common.{◌≡◌, ℕ, List, refl, arith, Result, Ok, Err}
use Rattle.planning.specs.Numbers.{answered}
use Rattle.task_record.specs.declared.refusal.Refusal.{Refusal}
use Rattle.plan_check.proofs.ZeroNumber.{refusal_numbered}
use Rattle.search.specs.Entry.{search_answer, search_numbers}
use Rattle.search.specs.declared.entry.SearchAnswer.{SearchAnswer}
use Rattle.search.specs.declared.entry.SearchAnswer.TheVariants as outcome

module _ (r : List ℕ) (lent : ℕ) where
  pub zeros_mean_found : (size : ℕ) → (search_numbers (search_answer r lent size)).number ≡ 0 → (search_numbers (search_answer r lent size)).kind ≡ 0 →
      (d : ℕ) × (c : ℕ) × (k : ℕ) × (search_answer r lent size ≡ Ok (outcome.Found d c k))
  unfolding answered
  zeros_mean_found size h g = by (search_answer r lent size) refl h g
    where
      by : (a : Result SearchAnswer Refusal) → search_answer r lent size ≡ a → (search_numbers a).number ≡ 0 → (search_numbers a).kind ≡ 0 →
          (d : ℕ) × (c : ℕ) × (k : ℕ) × (search_answer r lent size ≡ Ok (outcome.Found d c k))
      by (Ok (outcome.Found d c k)) e h g = (d, c, k, e)
      by (Ok (outcome.Over c)) e h g = absurd (omega arith)
      by (Ok (outcome.Spent d c)) e h g = absurd (omega arith)
      by (Ok (outcome.None c)) e h g = absurd (omega arith)
      by (Err x) e h g = let l = refusal_numbered x in absurd (omega arith)
