-- Laws of the order of refusals: what a test answers decides, or hands on to the next. Assumes nothing.
use Rattle.std.proofs.Common.{◌≡◌, ℕ, ◌<◌, ltb, List, length, refl, ap, arith, Result, Ok, Err, Option, Some, None}
use mathlib.Core.Logic.{◌⊎◌, inl, inr}
use Rattle.planning.specs.Extended.{ℕ∞, fin, inf}
use Rattle.planning.specs.Numbers.{refusal}
use Rattle.planning.specs.Pattern.{Verdict, additive, conflict, verdict}
use Rattle.planning.proofs.Test.{by_test}
use Rattle.task_record.specs.Layout.{record_size}
use Rattle.task_record.specs.Record.{record_check, first_bad, Sound}
use Rattle.task_record.specs.Refusals.{refusal_numbers, after}
use Rattle.task_record.specs.State.{judge_state, state_check, GoodState}
use Rattle.task_record.specs.TaskOf.{task_of, patterns_of}
use Rattle.task_record.specs.declared.refusal.Refusal.{Refusal}
use Rattle.task_record.specs.declared.refusal.Refusal.TheVariants.{ShortRecord, WrongCell}
use Rattle.task_record.proofs.States.{checked_good}
use Rattle.patterns.specs.Space.{judge_tables, table_check}
use Rattle.patterns.specs.Additivity.{additivity_of}
use Rattle.patterns.specs.Estimate.{after_verdict, judge_estimate, estimate_check}
use Rattle.patterns.specs.Value.{value_of, read_value, state_value}
use Rattle.patterns.specs.declared.verdict.Conflict.{Conflict}

-- An answer that comes after another: what it says of both.
pub after_ok : {A B : Type 0} (x : Result A Refusal) (next : A → Result B Refusal) (b : B) → after x next ≡ Ok b → (a : A) × (x ≡ Ok a) × (next a ≡ Ok b)
after_ok (Ok a) next b h = (a, refl, h)
after_ok (Err e) next b h = let z : ◌≡◌ {A = ℕ} 0 1 = cc in absurd (omega arith)

pub after_err : {A B : Type 0} (x : Result A Refusal) (next : A → Result B Refusal) (e : Refusal) → after x next ≡ Err e → (x ≡ Err e) ⊎ ((a : A) × (x ≡ Ok a) × (next a ≡ Err e))
after_err (Ok a) next e h = inr (a, refl, h)
after_err (Err f) next e h = let k : f ≡ e = cc in inl (ap (λ t. Err t) k)

-- 7 and 8, then 9.
module _ (r : List ℕ) (lent : ℕ) where
  pub tables-refuse : {e : Refusal} → judge_tables (task_of r).sizes (patterns_of r) lent ≡ Err e → judge_estimate r lent ≡ Err e
  unfolding judge_estimate
  tables-refuse h = rw h

  module _ {k : ℕ} (fits : judge_tables (task_of r).sizes (patterns_of r) lent ≡ Ok k) where
    pub verdict_decides : {v : Option Conflict} → additivity_of (verdict (task_of r) (patterns_of r)) ≡ v → judge_estimate r lent ≡ after_verdict v
    unfolding judge_estimate
    verdict_decides e = rw (fits, e)

-- Ready: the tables fit and the patterns are additive.
verdict_additive : (v : Verdict) → after_verdict (additivity_of v) ≡ Ok tt → v ≡ additive
unfolding additivity_of
verdict_additive additive h = refl
verdict_additive (conflict m p q) h = let z : ◌≡◌ {A = ℕ} 0 1 = cc in absurd (omega arith)

pub ready_means : (r : List ℕ) (lent : ℕ) → judge_estimate r lent ≡ Ok tt →
    ((n : ℕ) × (judge_tables (task_of r).sizes (patterns_of r) lent ≡ Ok n)) × (verdict (task_of r) (patterns_of r) ≡ additive)
unfolding judge_estimate
ready_means r lent h =
    let k = after_ok (judge_tables (task_of r).sizes (patterns_of r) lent) (λ n. after_verdict (additivity_of (verdict (task_of r) (patterns_of r)))) tt h in
    ((k.0, k.1), verdict_additive (verdict (task_of r) (patterns_of r)) k.2)

-- What it means that the check of the tables, or that of estimates too, refuses nothing: the record is sound, and the rest was judged.
pub fits_means : (r : List ℕ) (lent n : ℕ) → table_check r lent ≡ Ok n → Sound r × (judge_tables (task_of r).sizes (patterns_of r) lent ≡ Ok n)
unfolding Sound
fits_means r lent n h = let k = after_ok (record_check r) (λ u. judge_tables (task_of r).sizes (patterns_of r) lent) n h in (k.1, k.2)

pub checked_ready : (r : List ℕ) (lent : ℕ) → estimate_check r lent ≡ Ok tt → Sound r × (judge_estimate r lent ≡ Ok tt)
unfolding Sound
checked_ready r lent h = let k = after_ok (record_check r) (λ u. judge_estimate r lent) tt h in (k.1, k.2)

-- The numbers of a record's refusals.
pub record_number : (r : List ℕ) (e : Refusal) → record_check r ≡ Err e → (refusal_numbers e).number < 10
unfolding record_check refusal
record_number r e h = by_test (ltb (length r) record_size)
    (λ s. let g = rw s at h in let k : ShortRecord (length r) ≡ e = cc in rw (← k) (omega arith))
    (λ s. by_test (ltb (first_bad r) record_size)
    (λ f. let g = rw (s, f) at h in let k : WrongCell (first_bad r) ≡ e = cc in rw (← k) (omega arith))
    (λ f. let g = rw (s, f) at h in let z : ◌≡◌ {A = ℕ} 0 1 = cc in absurd (omega arith)))

-- What it means that a state of a sound record passes its check, and what is then answered of its value.
pub state_good : (r s : List ℕ) → Sound r → judge_state r s ≡ Ok tt → Sound r × GoodState r s
unfolding Sound
state_good r s sound h = checked_good r s (rw (sound, h))

pub value_of_good : (r s tabs : List ℕ) → state_check r s ≡ Ok tt → state_value r s tabs ≡ after (judge_estimate r (length tabs)) (λ u. Ok (value_of (read_value r s tabs)))
value_of_good r s tabs h = let k = after_ok (record_check r) (λ u. judge_state r s) tt h in rw (k.1, k.2)

-- An answer that is no refusal is the value that was read, of a good state, and every test has passed.
pub answered_means : (r s tabs : List ℕ) (v : Option ℕ) → state_value r s tabs ≡ Ok v →
    (state_check r s ≡ Ok tt) × (judge_estimate r (length tabs) ≡ Ok tt) × (value_of (read_value r s tabs) ≡ v)
answered_means r s tabs v h =
    let answer = λ (u : Unit {0}). Ok (value_of (read_value r s tabs)) in
    let k = after_ok (record_check r) (λ u. after (judge_estimate r (length tabs)) (λ u. after (judge_state r s) answer)) v h in
    let m = after_ok (judge_estimate r (length tabs)) (λ u. after (judge_state r s) answer) v k.2 in
    let n = after_ok (judge_state r s) answer v m.2 in
    (rw k.1 n.1, m.1, cc)

pub read_finite : (h : ℕ∞) (n : ℕ) → value_of h ≡ Some n → h ≡ fin n
unfolding value_of
read_finite (fin m) n e = let k : m ≡ n = cc in ap fin k
read_finite inf n e = let z : ◌≡◌ {A = ℕ} 0 1 = cc in absurd (omega arith)

pub read_infinite : (h : ℕ∞) → value_of h ≡ None → h ≡ inf
unfolding value_of
read_infinite (fin m) e = let z : ◌≡◌ {A = ℕ} 0 1 = cc in absurd (omega arith)
read_infinite inf e = refl
