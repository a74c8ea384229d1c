-- What a call says in numbers after room and patterns were judged: the lines 7 and 8, or 7, 8 and 9, of "Where a call can say no", and below
-- them what it judges; and what each call of this crate says, line by line. Assumes nothing.
use Rattle.std.proofs.Common.{◌≡◌, ℕ, ltb, List, length, refl, sym, ap, ◌∙◌, Result, Ok}
use Rattle.planning.specs.Numbers.{Numbers, answered, refused_if}
use Rattle.planning.specs.Pattern.{Verdict, additive, conflict, verdict}
use Rattle.task_record.specs.Answers.{short_record, bad_cell}
use Rattle.task_record.specs.Refusals.{answer_numbers, after}
use Rattle.task_record.specs.TaskOf.{task_of, patterns_of}
use Rattle.task_record.specs.declared.refusal.Refusal.{Refusal}
use Rattle.task_record.specs.declared.refusal.Refusal.TheVariants.{LargePattern, ShortTables}
use Rattle.task_record.proofs.ByLines.{line-told, after_record_lem, after_after, told_alone}
use Rattle.patterns.specs.Space.{first_large, judge_tables, table_check}
use Rattle.patterns.specs.Additivity.{additivity_of, additivity}
use Rattle.patterns.specs.Estimate.{after_verdict, judge_estimate, estimate_check}
use Rattle.patterns.specs.Answers.{large_pattern, table_entries, short_tables, unless_conflict, not_additive, conflict_numbers, tables_by_lines, estimate_by_lines, verdict_numbers, additivity_by_lines}

-- Lines 7 and 8.
pub after_tables_lem : {B : Type 0} → (f : B → Numbers) → (r : List ℕ) → (lent : ℕ) → (next : ℕ → Result B Refusal)
    → answer_numbers f (after (judge_tables (task_of r).sizes (patterns_of r) lent) next) ≡ large_pattern r (short_tables r lent (answer_numbers f (next (table_entries r))))
unfolding judge_tables large_pattern short_tables table_entries refused_if
after_tables_lem f r lent next = let k = first_large 0 (task_of r).sizes (patterns_of r) in
    line-told f (ltb k (length (patterns_of r))) (LargePattern k) _ next _
    (line-told f (ltb lent (table_entries r)) (ShortTables (table_entries r)) (Ok (table_entries r)) next _ refl)

-- Line 9.
verdict-told : {B : Type 0} → (f : B → Numbers) → (next : Unit {0} → Result B Refusal) → (v : Verdict)
    → answer_numbers f (after (after_verdict (additivity_of v)) next) ≡ unless_conflict v (answer_numbers f (next tt))
unfolding additivity_of unless_conflict
verdict-told f next additive = refl
verdict-told f next (conflict m p q) = refl

-- Lines 7, 8 and 9.
pub after_estimate_lem : {B : Type 0} → (f : B → Numbers) → (r : List ℕ) → (lent : ℕ) → (next : Unit {0} → Result B Refusal)
    → answer_numbers f (after (judge_estimate r lent) next) ≡ large_pattern r (short_tables r lent (not_additive r (answer_numbers f (next tt))))
unfolding judge_estimate not_additive
after_estimate_lem f r lent next = let v = verdict (task_of r) (patterns_of r) in
    ap (answer_numbers f) (after_after (judge_tables (task_of r).sizes (patterns_of r) lent) (λ n. after_verdict (additivity_of v)) next)
    ∙ after_tables_lem f r lent (λ n. after (after_verdict (additivity_of v)) next)
    ∙ ap (λ t. large_pattern r (short_tables r lent t)) (verdict-told f next v)

-- What each call says, line by line. The words of specs/Answers.antt on the cases are not named here, so that each call is held to them itself.
pub tables_told : (r : List ℕ) (lent : ℕ) → tables_by_lines r lent ≡ answer_numbers (λ needed. answered 0 needed 0 0) (table_check r lent)
unfolding tables_by_lines
tables_told r lent = let f = (λ (n : ℕ). answered 0 n 0 0) in sym
    (after_record_lem f r (λ u. judge_tables (task_of r).sizes (patterns_of r) lent)
    ∙ ap (λ t. short_record r (bad_cell r t)) (told_alone f (judge_tables (task_of r).sizes (patterns_of r) lent) ∙ after_tables_lem f r lent (λ n. Ok n)))

pub estimate_told : (r : List ℕ) (lent : ℕ) → estimate_by_lines r lent ≡ answer_numbers (λ ready. answered 0 0 0 0) (estimate_check r lent)
unfolding estimate_by_lines
estimate_told r lent = let f = (λ (u : Unit {0}). answered 0 0 0 0) in sym
    (after_record_lem f r (λ u. judge_estimate r lent)
    ∙ ap (λ t. short_record r (bad_cell r t)) (told_alone f (judge_estimate r lent) ∙ after_estimate_lem f r lent (λ u. Ok u)))

conflict_told : (v : Verdict) → conflict_numbers (additivity_of v) ≡ verdict_numbers v
unfolding additivity_of verdict_numbers
conflict_told additive = refl
conflict_told (conflict m p q) = refl

pub additivity_told : (r : List ℕ) → additivity_by_lines r ≡ answer_numbers conflict_numbers (additivity r)
unfolding additivity_by_lines
additivity_told r = let v = verdict (task_of r) (patterns_of r) in sym
    (after_record_lem conflict_numbers r (λ u. Ok (additivity_of v)) ∙ ap (λ t. short_record r (bad_cell r t)) (conflict_told v))
