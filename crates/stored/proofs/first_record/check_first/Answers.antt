-- `check_first`: the length, then cell by cell. Assumes nothing.
use Rattle.std.proofs.Common.{◌≡◌, ◌<◌, true, false, length, rules, tests, le-ltb, lt-ltb}
use Rattle.std.proofs.lemmas.Iterator.{first_from_Range}
use Rattle.std.specs.Option.{MatchOption}
use Rattle.task_record.proofs.Scanning.{first_found}
use Rattle.stored.specs.FirstLayout.{first_size}
use Rattle.stored.specs.FirstRecord.{first_cell_ok, first_wrong, first_check}
use Rattle.stored.proofs.first_record.check_first.Goals.{After-find}
use Rattle.stored.proofs.first_record.check_first.Goals as goal

pub returns-then-rec-lt-FIRST_SIZE : goal.returns-then-rec-lt-FIRST_SIZE
unfolding first_check
returns-then-rec-lt-FIRST_SIZE c = simp (lt-ltb _ _ c.if-rec-lt-FIRST_SIZE.true)

-- What the search for the lowest wrong cell found.
found : (c : After-find) → MatchOption c.find.result (first_wrong c.args.rec.now ≡ first_size) (λ i. (i < first_size) × (first_wrong c.args.rec.now ≡ i))
unfolding first_wrong
found c =
    let ok = first_cell_ok c.args.rec.now in
    first_found ok first_size c.find.result (first_from_Range _ _ _ _ (λ k. ok k ≡ false) (λ k. ok k ≡ true) c.find.ensures.ran (λ k q l. search (rules, tests)) (λ k q l. (search rules, search (rules, tests))))

pub returns-in-Some : goal.returns-in-Some
unfolding first_check
returns-in-Some c =
    let f = rw c.in-Some.is at (found (goal.at.returns-in-Some c).After-find) in
    rw (le-ltb (length c.args.rec.now) first_size c.if-rec-lt-FIRST_SIZE.false, f.1, lt-ltb _ _ f.0)

pub returns-in-None : goal.returns-in-None
unfolding first_check
returns-in-None c =
    let f = rw c.in-None.is at (found (goal.at.returns-in-None c).After-find) in
    rw (le-ltb (length c.args.rec.now) first_size c.if-rec-lt-FIRST_SIZE.false, f)
