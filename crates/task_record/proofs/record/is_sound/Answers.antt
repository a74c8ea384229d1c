-- `is_sound`: head, front, patterns, actions and costs passed in a row. Assumes nothing.
use Rattle.std.proofs.Common.{◌≡◌, ℕ, arith}
use borrow.Author.Tests.{not-false}
use Rattle.task_record.proofs.Parts.{head_passes, head_actions, head_variables}
use Rattle.task_record.proofs.Soundness.{parts_sound}
use Rattle.task_record.proofs.record.is_sound.Goals as goal

pub front_fits-requires : goal.front_fits-requires
front_fits-requires c = (c.sizes_of-sizes.ensures, head_variables c.args.record.now.cells.now (c.head_fits.ensures (not-false _ c.if-not-head_fits.false-raw)))

pub returns-then-not-head_fits : goal.returns-then-not-head_fits
returns-then-not-head_fits c = λ t. let z : ◌≡◌ {A = ℕ} 0 1 = cc in absurd (omega arith)

pub returns-then-not-front_fits : goal.returns-then-not-front_fits
returns-then-not-front_fits c = λ t. let z : ◌≡◌ {A = ℕ} 0 1 = cc in absurd (omega arith)

pub returns-then-not-patterns_fit : goal.returns-then-not-patterns_fit
returns-then-not-patterns_fit c = λ t. let z : ◌≡◌ {A = ℕ} 0 1 = cc in absurd (omega arith)

pub actions_fit-requires : goal.actions_fit-requires
actions_fit-requires c = head_actions c.args.record.now.cells.now (c.head_fits.ensures (not-false _ c.if-not-head_fits.false-raw))

pub returns-then-not-actions_fit : goal.returns-then-not-actions_fit
returns-then-not-actions_fit c = λ t. let z : ◌≡◌ {A = ℕ} 0 1 = cc in absurd (omega arith)

pub returns : goal.returns
returns c =
    let r = c.args.record.now in
    λ t. parts_sound r.cells.now r.long (head_passes r.cells.now (c.head_fits.ensures (not-false _ c.if-not-head_fits.false-raw))) (c.front_fits.ensures (not-false _ c.if-not-front_fits.false-raw))
    (c.patterns_fit.ensures (not-false _ c.if-not-patterns_fit.false-raw)) (c.actions_fit.ensures (not-false _ c.if-not-actions_fit.false-raw)) (c.costs_fit.ensures t)
