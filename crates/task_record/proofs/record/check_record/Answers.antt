-- `check_record`: the length, then all cells at once, then one by one; in numbers lines 5 and 6. Assumes nothing.
use Rattle.std.proofs.Common.{◌≡◌, ℕ, ◌<◌, true, false, length, List, sym, ap, ◌∙◌, arith, rules, tests, le-ltb, lt-ltb, Result}
use Rattle.std.proofs.lemmas.Iterator.{first_from_Range}
use Rattle.std.specs.Option.{MatchOption}
use Rattle.task_record.specs.Record.{cell_ok, first_bad, record_check, Sound}
use Rattle.task_record.specs.Layout.{record_size}
use Rattle.task_record.specs.Answers.{record_numbers, record_by_lines}
use Rattle.task_record.specs.declared.refusal.Refusal.{Refusal}
use Rattle.task_record.proofs.ByLines.{record_told}
use Rattle.task_record.proofs.Scanning.{first_found}
use Rattle.task_record.proofs.record.check_record.Goals.{After-find}
use Rattle.task_record.proofs.record.check_record.Goals as goal

told : (r : List ℕ) → (x : Result Unit Refusal) → x ≡ record_check r → (x ≡ record_check r) × (record_numbers x ≡ record_by_lines r)
told r x e = (e, ap record_numbers e ∙ sym (record_told r))

pub returns-then-rec-lt-RECORD_SIZE : goal.returns-then-rec-lt-RECORD_SIZE
unfolding record_check
returns-then-rec-lt-RECORD_SIZE c = let both = let if1 = c.if-rec-lt-RECORD_SIZE in
    told _ _ (simp (lt-ltb _ _ if1.true)) in record { value = both.0; numbers = both.1 }

pub invariant_of-long : goal.invariant_of-long
invariant_of-long c = record { long = omega (arith, c.if-rec-lt-RECORD_SIZE.false); byte = λ k. omega (arith, c.shared_slice_known-1.given k) }

pub returns-then-is_sound : goal.returns-then-is_sound
unfolding Sound
returns-then-is_sound c = let both = let is-sound = c.is_sound in
    let if2 = c.if-is_sound in
    told _ _ (sym (is-sound.ensures if2.true)) in record { value = both.0; numbers = both.1 }

-- What the search for the lowest wrong cell found.
found : (c : After-find) → MatchOption c.find.result (first_bad c.args.rec.now ≡ record_size) (λ i. (i < record_size) × (first_bad c.args.rec.now ≡ i))
unfolding first_bad
found c =
    let ok = cell_ok c.args.rec.now in
    first_found ok record_size c.find.result (first_from_Range _ _ _ _ (λ k. ok k ≡ false) (λ k. ok k ≡ true) c.find.ensures.ran (λ k q l. search (rules, tests)) (λ k q l. (search rules, search (rules, tests))))

pub returns-in-Some : goal.returns-in-Some
unfolding record_check
returns-in-Some c =
    let r = c.args.rec.now in
    let f = rw c.in-Some.is at (found (goal.at.returns-in-Some c).After-find) in
    let both = told r _ (rw (le-ltb (length r) record_size c.if-rec-lt-RECORD_SIZE.false, f.1, lt-ltb _ _ f.0)) in record { value = both.0; numbers = both.1 }

pub returns-in-None : goal.returns-in-None
unfolding record_check
returns-in-None c =
    let r = c.args.rec.now in
    let f = rw c.in-None.is at (found (goal.at.returns-in-None c).After-find) in
    let both = told r _ (rw (le-ltb (length r) record_size c.if-rec-lt-RECORD_SIZE.false, f)) in record { value = both.0; numbers = both.1 }
