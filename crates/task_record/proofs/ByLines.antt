-- What a call says in numbers after its record, or record and state, was checked: the lines 5 and 6, or 5, 6 and 10, of "Where a call can say
-- no", and below them what it judges. Assumes nothing.
use Rattle.std.proofs.Common.{◌≡◌, ℕ, Bool, true, false, cond, not, eqb, ltb, List, length, refl, sym, ap, ◌∙◌, Result, Ok, Err}
use Rattle.planning.specs.Numbers.{Numbers, answered, refused_if}
use Rattle.task_record.specs.Layout.{record_size}
use Rattle.task_record.specs.Record.{first_bad, record_check}
use Rattle.task_record.specs.State.{first_bad_value, judge_state, state_check}
use Rattle.task_record.specs.Refusals.{refusal_numbers, answer_numbers, after}
use Rattle.task_record.specs.Answers.{short_record, bad_cell, bad_state, record_by_lines, judged_by_lines}
use Rattle.task_record.specs.declared.refusal.Refusal.{Refusal}
use Rattle.task_record.specs.declared.refusal.Refusal.TheVariants.{ShortRecord, WrongCell, WrongState}

-- One line: a test with its refusal before what is judged.
pub line-told : {A B : Type 0} → (f : B → Numbers) → (b : Bool) → (e : Refusal) → (x : Result A Refusal) → (next : A → Result B Refusal) → (judged : Numbers)
    → answer_numbers f (after x next) ≡ judged → answer_numbers f (after (cond b (Err e) x) next) ≡ cond b (refusal_numbers e) judged
line-told f true e x next judged p = refl
line-told f false e x next judged p = p

-- Lines 5 and 6.
pub after_record_lem : {B : Type 0} → (f : B → Numbers) → (r : List ℕ) → (next : Unit {0} → Result B Refusal)
    → answer_numbers f (after (record_check r) next) ≡ short_record r (bad_cell r (answer_numbers f (next tt)))
unfolding record_check short_record bad_cell refused_if
after_record_lem f r next = line-told f (ltb (length r) record_size) (ShortRecord (length r)) _ next _
    (line-told f (ltb (first_bad r) record_size) (WrongCell (first_bad r)) (Ok tt) next _ refl)

cond_not : {A : Type 0} → (b : Bool) → (x y : A) → cond b x y ≡ cond (not b) y x
cond_not true x y = refl
cond_not false x y = refl

-- Line 10.
pub after_state_lem : {B : Type 0} → (f : B → Numbers) → (r s : List ℕ) → (next : Unit {0} → Result B Refusal)
    → answer_numbers f (after (judge_state r s) next) ≡ bad_state r s (answer_numbers f (next tt))
unfolding judge_state bad_state refused_if
after_state_lem f r s next = ap (λ t. answer_numbers f (after t next)) (cond_not (eqb (length s) 16) _ _)
    ∙ line-told f (not (eqb (length s) 16)) (WrongState 16) _ next _
    (line-told f (ltb (first_bad_value r s) 16) (WrongState (first_bad_value r s)) (Ok tt) next _ refl)

-- What comes after one answer and then another.
pub after_after : {A B C : Type 0} → (x : Result A Refusal) → (next : A → Result B Refusal) → (last : B → Result C Refusal)
    → after (after x next) last ≡ after x (λ a. after (next a) last)
after_after (Ok a) next last = refl
after_after (Err e) next last = refl

-- Lines 5, 6 and 10.
pub after_check : {B : Type 0} → (f : B → Numbers) → (r s : List ℕ) → (next : Unit {0} → Result B Refusal)
    → answer_numbers f (after (state_check r s) next) ≡ short_record r (bad_cell r (bad_state r s (answer_numbers f (next tt))))
after_check f r s next = ap (answer_numbers f) (after_after (record_check r) (λ u. judge_state r s) next)
    ∙ after_record_lem f r (λ u. after (judge_state r s) next) ∙ ap (λ t. short_record r (bad_cell r t)) (after_state_lem f r s next)

-- An answer that is told as it is comes after nothing else.
pub told_alone : {A : Type 0} → (f : A → Numbers) → (x : Result A Refusal) → answer_numbers f x ≡ answer_numbers f (after x (λ a. Ok a))
told_alone f (Ok a) = refl
told_alone f (Err e) = refl

-- What the two checks say, line by line. The words of specs/Answers.antt on cases and calls are not named where a call can be held to them itself.
pub record_told : (r : List ℕ) → record_by_lines r ≡ answer_numbers (λ u. answered 0 0 0 0) (record_check r)
unfolding record_by_lines
record_told r = sym (told_alone _ (record_check r) ∙ after_record_lem (λ u. answered 0 0 0 0) r (λ u. Ok tt))

pub judged_told : (r s : List ℕ) → judged_by_lines r s ≡ answer_numbers (λ u. answered 0 0 0 0) (judge_state r s)
unfolding judged_by_lines
judged_told r s = sym (told_alone _ (judge_state r s) ∙ after_state_lem (λ u. answered 0 0 0 0) r s (λ u. Ok tt))

pub state_told : (r s : List ℕ) → short_record r (bad_cell r (bad_state r s (answered 0 0 0 0))) ≡ answer_numbers (λ u. answered 0 0 0 0) (state_check r s)
state_told r s = sym (told_alone _ (state_check r s) ∙ after_check (λ u. answered 0 0 0 0) r s (λ u. Ok tt))
