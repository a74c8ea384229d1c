-- What the call says in numbers, by the lines that concern it: the old 5 and 6, then 5 for the target. Assumes nothing.
use Rattle.std.proofs.Common.{◌≡◌, ℕ, Bool, true, false, cond, ltb, List, length, refl, Result, Ok, Err}
use Rattle.planning.specs.Numbers.{Numbers, answered, refused_if}
use Rattle.task_record.specs.Layout.{record_size}
use Rattle.task_record.specs.Refusals.{refusal_numbers, answer_numbers}
use Rattle.task_record.specs.declared.refusal.Refusal.{Refusal}
use Rattle.task_record.specs.declared.refusal.Refusal.TheVariants.{ShortRecord, WrongCell}
use Rattle.task_record.proofs.ByLines.{line-told}
use Rattle.stored.specs.FirstLayout.{first_size}
use Rattle.stored.specs.FirstRecord.{first_wrong, first_check}
use Rattle.stored.specs.Upgrade.{target_check, upgrade_answer}
use Rattle.stored.specs.Answers.{upgrade_numbers, first_short, first_bad_cell, short_target, upgrade_by_lines}

last_told : {A : Type 0} → (f : A → Numbers) → (b : Bool) → (e : Refusal) → (a : A) → answer_numbers f (cond b (Err e) (Ok a)) ≡ cond b (refusal_numbers e) (f a)
last_told f true e a = refl
last_told f false e a = refl

pub upgrade_told : (stored : List ℕ) → (n : ℕ) → upgrade_numbers (upgrade_answer stored n) ≡ upgrade_by_lines stored n
unfolding upgrade_numbers upgrade_answer first_check target_check upgrade_by_lines first_short first_bad_cell short_target refused_if
upgrade_told stored n =
    let f : Unit {0} → Numbers = λ u. answered 0 0 0 0 in
    let next : Unit {0} → Result Unit Refusal = λ u. target_check n in
    line-told f (ltb (length stored) first_size) (ShortRecord (length stored)) _ next _
    (line-told f (ltb (first_wrong stored) first_size) (WrongCell (first_wrong stored)) (Ok tt) next _ (last_told f (ltb n record_size) (ShortRecord n) tt))
