-- `judge_state`: the length, then all cells at once, then one by one. Assumes nothing.
use Rattle.std.proofs.Common.{◌≡◌, ℕ, ◌<◌, Bool, true, false, get_or, arith, rules, tests, lt-ltb, eq-eqb, ne_eqb}
use Rattle.std.proofs.lemmas.Iterator.{first_from_Range}
use Rattle.std.specs.Option.{MatchOption}
use Rattle.task_record.specs.Record.{state_ok}
use Rattle.task_record.specs.State.{judge_state, first_bad_value}
use Rattle.task_record.proofs.Scanning.{first_found}
use Rattle.task_record.proofs.Soundness.{sound_length, sound_sizes}
use Rattle.task_record.proofs.ColumnLaws.{state_passes}
use Rattle.task_record.proofs.record.judge_state.Goals.{After-find}
use Rattle.task_record.proofs.record.judge_state.Goals as goal

pub returns-then-state-ne16 : goal.returns-then-state-ne16
unfolding judge_state
returns-then-state-ne16 c = simp (ne_eqb _ _ c.if-state-ne16.true)

pub invariant_of-long : goal.invariant_of-long
invariant_of-long c = record { long = sound_length c.args.rec.now c.requires; byte = λ k. omega (arith, c.shared_slice_known-1.given k) }

pub returns-then-state_fits : goal.returns-then-state_fits
unfolding judge_state
returns-then-state_fits c =
    let r = c.args.rec.now in let s = c.args.state.now in let z = c.sizes_of-sizes.ensures in
    let e : first_bad_value r s ≡ 16 = state_passes r (λ k. omega (arith, c.shared_slice_known-1.given k)) (sound_sizes r c.requires) s (λ k. omega (arith, c.shared_slice_known-2-1.given k)) (λ v l. rw (z.cell v l) at (c.state_fits.ensures c.if-state_fits.true v l)) in
    rw (eq-eqb _ _ c.if-state-ne16.false, e)

-- What the search for the lowest wrong cell found.
found : (c : After-find) → MatchOption c.find.result (first_bad_value c.args.rec.now c.args.state.now ≡ 16) (λ v. (v < 16) × (first_bad_value c.args.rec.now c.args.state.now ≡ v))
unfolding first_bad_value
found c =
    let ok : ℕ → Bool = λ v. state_ok c.args.rec.now v (get_or c.args.state.now v 0) in
    first_found ok 16 c.find.result (first_from_Range _ _ _ _ (λ v. ok v ≡ false) (λ v. ok v ≡ true) c.find.ensures.ran (λ v q l. search (rules, tests)) (λ v q l. (search rules, search (rules, tests))))

pub returns-in-Some : goal.returns-in-Some
unfolding judge_state
returns-in-Some c =
    let f = rw c.in-Some.is at (found (goal.at.returns-in-Some c).After-find) in
    rw (eq-eqb _ _ c.if-state-ne16.false, f.1, lt-ltb _ _ f.0)

pub returns-in-None : goal.returns-in-None
unfolding judge_state
returns-in-None c =
    let f = rw c.in-None.is at (found (goal.at.returns-in-None c).After-find) in
    rw (eq-eqb _ _ c.if-state-ne16.false, f)
