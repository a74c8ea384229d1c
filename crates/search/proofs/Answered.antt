-- What an answer of the search that is no refusal says: the preparation has passed, and planning's search of the task has that answer.
-- Assumes nothing.
use Rattle.std.proofs.Common.{◌≡◌, ℕ, zero, suc, ◌+◌, ◌-◌, ◌≤◌, leb, List, ◌∷◌, ◌++◌, length, take, replicate, Result, Ok, Err, refl, ap, ◌∙◌, arith, le-leb, leb-true}
use lib.Seq.{take-append-add}
use Rattle.planning.specs.Plan.{Plan, encode}
use Rattle.planning.specs.Search.{found, over, spent, none, plan_bytes, plan_buffer}
use Rattle.planning.specs.Search as planning
use Rattle.planning.proofs.Test.{by_test}
use Rattle.task_record.specs.declared.refusal.Refusal.{Refusal}
use Rattle.task_record.specs.declared.refusal.Refusal.TheVariants.{ShortPlan}
use Rattle.patterns.specs.Estimate.{estimate_check}
use Rattle.patterns.proofs.Refusals.{after_ok}
use Rattle.search.specs.Answer.{buffer_of}
use Rattle.search.specs.Entry.{task_answer, search_of, search_answer}
use Rattle.search.specs.declared.entry.SearchAnswer.{SearchAnswer}
use Rattle.search.specs.declared.entry.SearchAnswer.TheVariants as outcome

pub answered_means : (r : List ℕ) (lent n : ℕ) (a : SearchAnswer) → search_answer r lent n ≡ Ok a →
    (estimate_check r lent ≡ Ok tt) × (search_of n (task_answer r) ≡ Ok a)
unfolding search_answer
answered_means r lent n a h = let k = after_ok (estimate_check r lent) (λ u. search_of n (task_answer r)) a h in (k.1, k.2)

-- Which answer of planning's search it is.
pub answer-found : (n : ℕ) (a : planning.Answer) (d c k : ℕ) → search_of n a ≡ Ok (outcome.Found d c k) →
    (p : Plan) × ((a ≡ found p d c) × (length (encode p) ≡ k) × (k ≤ n))
unfolding search_of
answer-found n (found p e b) d c k h = by_test (leb (length (encode p)) n)
    (λ t. let g : ◌≡◌ {A = Result SearchAnswer Refusal} (Ok (outcome.Found e b (length (encode p)))) (Ok (outcome.Found d c k)) = rw t at h in
    let x : e ≡ d = cc in let y : b ≡ c = cc in let z : length (encode p) ≡ k = cc in let l = leb-true (length (encode p)) n t in
    (p, (rw (x, y), z, omega arith)))
    (λ t. let g : ◌≡◌ {A = Result SearchAnswer Refusal} (Err (ShortPlan (length (encode p)))) (Ok (outcome.Found d c k)) = rw t at h in let z : ◌≡◌ {A = ℕ} 0 1 = cc in absurd (omega arith))
answer-found n (over b) d c k h = let z : ◌≡◌ {A = ℕ} 0 1 = cc in absurd (omega arith)
answer-found n (spent e b) d c k h = let z : ◌≡◌ {A = ℕ} 0 1 = cc in absurd (omega arith)
answer-found n (none b) d c k h = let z : ◌≡◌ {A = ℕ} 0 1 = cc in absurd (omega arith)

-- A found answer or refusal 11 is none of the others.
pub not_found : {C : Type 0} (n : ℕ) (p : Plan) (d c : ℕ) (a : Result SearchAnswer Refusal) → (Ok (outcome.Found d c (length (encode p))) ≡ a → C) →
    (Err (ShortPlan (length (encode p))) ≡ a → C) → search_of n (found p d c) ≡ a → C
unfolding search_of
not_found n p d c a f g h = by_test (leb (length (encode p)) n) (λ t. f (rw t at h)) (λ t. g (rw t at h))

pub answer-over : (n : ℕ) (a : planning.Answer) (c : ℕ) → search_of n a ≡ Ok (outcome.Over c) → a ≡ over c
unfolding search_of
answer-over n (found p e b) c h = not_found n p e b (Ok (outcome.Over c)) (λ g. let z : ◌≡◌ {A = ℕ} 0 1 = cc in absurd (omega arith))
    (λ g. let z : ◌≡◌ {A = ℕ} 0 1 = cc in absurd (omega arith)) h
answer-over n (over b) c h = let z : b ≡ c = cc in ap over z
answer-over n (spent e b) c h = let z : ◌≡◌ {A = ℕ} 0 1 = cc in absurd (omega arith)
answer-over n (none b) c h = let z : ◌≡◌ {A = ℕ} 0 1 = cc in absurd (omega arith)

pub answer-spent : (n : ℕ) (a : planning.Answer) (d c : ℕ) → search_of n a ≡ Ok (outcome.Spent d c) → a ≡ spent d c
unfolding search_of
answer-spent n (found p e b) d c h = not_found n p e b (Ok (outcome.Spent d c)) (λ g. let z : ◌≡◌ {A = ℕ} 0 1 = cc in absurd (omega arith))
    (λ g. let z : ◌≡◌ {A = ℕ} 0 1 = cc in absurd (omega arith)) h
answer-spent n (over b) d c h = let z : ◌≡◌ {A = ℕ} 0 1 = cc in absurd (omega arith)
answer-spent n (spent e b) d c h = let x : e ≡ d = cc in let y : b ≡ c = cc in rw (x, y)
answer-spent n (none b) d c h = let z : ◌≡◌ {A = ℕ} 0 1 = cc in absurd (omega arith)

pub answer_none : (n : ℕ) (a : planning.Answer) (c : ℕ) → search_of n a ≡ Ok (outcome.None c) → a ≡ none c
unfolding search_of
answer_none n (found p e b) c h = not_found n p e b (Ok (outcome.None c)) (λ g. let z : ◌≡◌ {A = ℕ} 0 1 = cc in absurd (omega arith))
    (λ g. let z : ◌≡◌ {A = ℕ} 0 1 = cc in absurd (omega arith)) h
answer_none n (over b) c h = let z : ◌≡◌ {A = ℕ} 0 1 = cc in absurd (omega arith)
answer_none n (spent e b) c h = let z : ◌≡◌ {A = ℕ} 0 1 = cc in absurd (omega arith)
answer_none n (none b) c h = let z : b ≡ c = cc in ap none z

-- The buffer of a found plan that fits.
take-replicate : (m n x : ℕ) → m ≤ n → take m (replicate n x) ≡ replicate m x
take-replicate zero n x l = refl
take-replicate (suc m) zero x l = absurd (omega arith)
take-replicate (suc m) (suc n) x l = ap (λ xs. x ∷ xs) (take-replicate m n x (omega arith))

pub buffer_found : (n : ℕ) (p : Plan) (d c : ℕ) → length (encode p) ≤ n → buffer_of n (found p d c) ≡ encode p ++ replicate (n - length (encode p)) 255
unfolding buffer_of plan_buffer plan_bytes
buffer_found n p d c l = let e : n ≡ length (encode p) + (n - length (encode p)) = omega arith in rw (le-leb (length (encode p)) n l)
    (ap (λ m. take m (encode p ++ replicate n 255)) e ∙ take-append-add (encode p) (replicate n 255) (n - length (encode p))
    ∙ ap (λ xs. encode p ++ xs) (take-replicate (n - length (encode p)) n 255 (omega arith)))
