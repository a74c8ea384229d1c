-- Refusal 11, "found plan longer than buffer: bytes needed": a buffer of as many bytes gets the plan, and the one lent holds 255 alone.
-- Assumes nothing.
use Rattle.std.proofs.Common.{◌≡◌, ℕ, ◌<◌, ltb, leb, List, length, replicate, Ok, Err, refl, ap, ◌∙◌, le_refl, arith, le-leb, leb-false, leb-true}
use Rattle.planning.specs.Pattern.{Verdict, additive, conflict, verdict}
use Rattle.planning.specs.Plan.{Plan, encode}
use Rattle.planning.specs.Search.{found, over, spent, none}
use Rattle.planning.specs.Search as planning
use Rattle.planning.proofs.Test.{by_test}
use mathlib.Core.Logic.{⊎_elim}
use Rattle.planning.specs.Numbers.{refusal}
use Rattle.task_record.specs.Record.{record_check}
use Rattle.task_record.specs.declared.refusal.Refusal.TheVariants.{ShortPlan}
use Rattle.task_record.specs.TaskOf.{task_of, patterns_of}
use Rattle.patterns.specs.Additivity.{additivity_of}
use Rattle.patterns.specs.Space.{first_large, entries_needed, judge_tables}
use Rattle.patterns.specs.Estimate.{after_verdict, judge_estimate, estimate_check}
use Rattle.patterns.proofs.Refusals.{after_err, record_number}
use Rattle.search.specs.Answer.{buffer_of}
use Rattle.search.specs.Entry.{task_answer, search_of, search_answer, plan_after}
use Rattle.search.specs.declared.entry.SearchAnswer.TheVariants as outcome
use Rattle.search.proofs.Prepared.{search_ready, plan_ready}

-- The refusals before the search are others.
tables-refusal : (zs : List ℕ) (ps : List (List ℕ)) (lent k : ℕ) → judge_tables zs ps lent ≡ Err (ShortPlan k) → ⊥
unfolding judge_tables
tables-refusal zs ps lent k h = by_test (ltb (first_large 0 zs ps) (length ps))
    (λ e. let g = rw e at h in let z : ◌≡◌ {A = ℕ} 0 1 = cc in absurd (omega arith))
    (λ e. by_test (ltb lent (entries_needed zs ps))
    (λ f. let g = rw (e, f) at h in let z : ◌≡◌ {A = ℕ} 0 1 = cc in absurd (omega arith))
    (λ f. let g = rw (e, f) at h in let z : ◌≡◌ {A = ℕ} 0 1 = cc in absurd (omega arith)))

verdict-refusal : (v : Verdict) (k : ℕ) → after_verdict (additivity_of v) ≡ Err (ShortPlan k) → ⊥
unfolding additivity_of
verdict-refusal additive k h = let z : ◌≡◌ {A = ℕ} 0 1 = cc in absurd (omega arith)
verdict-refusal (conflict m p q) k h = let z : ◌≡◌ {A = ℕ} 0 1 = cc in absurd (omega arith)

record-refusal : (r : List ℕ) (k : ℕ) → record_check r ≡ Err (ShortPlan k) → ⊥
unfolding refusal
record-refusal r k h = let n = record_number r (ShortPlan k) h in omega (arith, n)

pub estimate-refusal : (r : List ℕ) (lent k : ℕ) → estimate_check r lent ≡ Err (ShortPlan k) → ⊥
unfolding judge_estimate
estimate-refusal r lent k h = ⊎_elim (λ a. record-refusal r k a)
    (λ a. ⊎_elim (λ b. tables-refusal (task_of r).sizes (patterns_of r) lent k b) (λ b. verdict-refusal (verdict (task_of r) (patterns_of r)) k b.2)
    (after_err (judge_tables (task_of r).sizes (patterns_of r) lent) (λ n. after_verdict (additivity_of (verdict (task_of r) (patterns_of r)))) (ShortPlan k) a.2))
    (after_err (record_check r) (λ u. judge_estimate r lent) (ShortPlan k) h)

-- So 11 comes from the search, and planning's search has found.
answer_too_long : (n : ℕ) (a : planning.Answer) (k : ℕ) → search_of n a ≡ Err (ShortPlan k) →
    (p : Plan) × ((d : ℕ) × ((c : ℕ) × ((a ≡ found p d c) × (length (encode p) ≡ k) × (n < k))))
unfolding search_of
answer_too_long n (found p d c) k h = by_test (leb (length (encode p)) n)
    (λ t. let g = rw t at h in let z : ◌≡◌ {A = ℕ} 0 1 = cc in absurd (omega arith))
    (λ t. let g = rw t at h in let e : length (encode p) ≡ k = cc in
    let l = leb-false (length (encode p)) n t in (p, (d, (c, (refl, e, omega arith)))))
answer_too_long n (over c) k h = let z : ◌≡◌ {A = ℕ} 0 1 = cc in absurd (omega arith)
answer_too_long n (spent d c) k h = let z : ◌≡◌ {A = ℕ} 0 1 = cc in absurd (omega arith)
answer_too_long n (none b) k h = let z : ◌≡◌ {A = ℕ} 0 1 = cc in absurd (omega arith)

search_with_room : (p : Plan) (d c k : ℕ) → length (encode p) ≡ k → search_of k (found p d c) ≡ Ok (outcome.Found d c k)
unfolding search_of
search_with_room p d c k e = rw (e, le-leb k k (le_refl k))

buffer_too_short : (n : ℕ) (p : Plan) (d c : ℕ) → n < length (encode p) → buffer_of n (found p d c) ≡ replicate n 255
unfolding buffer_of
buffer_too_short n p d c l = by_test (leb (length (encode p)) n) (λ t. absurd (omega (arith, leb-true (length (encode p)) n t))) (λ t. rw t)

module _ (r tabs buffer : List ℕ) (k : ℕ) (h : search_answer r (length tabs) (length buffer) ≡ Err (ShortPlan k)) where
  refused_by_search : (estimate_check r (length tabs) ≡ Ok tt) × (search_of (length buffer) (task_answer r) ≡ Err (ShortPlan k))
  unfolding search_answer
  refused_by_search = ⊎_elim (λ a. absurd (estimate-refusal r (length tabs) k a)) (λ a. (a.1, a.2))
      (after_err (estimate_check r (length tabs)) (λ u. search_of (length buffer) (task_answer r)) (ShortPlan k) h)

  -- "bytes needed": more than were lent, and with as many the same search answers found.
  pub too_long_needs : (length buffer < k) × ((d : ℕ) × ((c : ℕ) × (search_answer r (length tabs) k ≡ Ok (outcome.Found d c k))))
  too_long_needs = let a = refused_by_search in let b = answer_too_long (length buffer) (task_answer r) k a.1 in (
    b.1.1.1.2,
    (
      b.1.0,
      (
        b.1.1.0,
        search_ready r (length tabs) a.0 k ∙ ap (search_of k) b.1.1.1.0
            ∙ search_with_room b.0 b.1.0 b.1.1.0 k b.1.1.1.1,
      ),
    ),
  )

  -- "with refusal 11, the whole buffer holds 255".
  pub too_long_blank : plan_after r (length tabs) buffer ≡ replicate (length buffer) 255
  too_long_blank = let a = refused_by_search in let b = answer_too_long (length buffer) (task_answer r) k a.1 in
      plan_ready r (length tabs) a.0 buffer ∙ ap (buffer_of (length buffer)) b.1.1.1.0
      ∙ buffer_too_short (length buffer) b.0 b.1.0 b.1.1.0 (omega (arith, b.1.1.1.1, b.1.1.1.2))
