-- `actions_fit`: the scan of the actions passed found nothing. Assumes nothing.
use Rattle.std.proofs.Common.{◌≡◌, ℕ, ◌+◌, ◌*◌, sym, ◌∙◌, arith}
use borrow.Author.Tests.{not-false}
use Rattle.task_record.specs.Layout.{at_action, action_size}
use Rattle.task_record.specs.Record.{cell_ok}
use Rattle.task_record.proofs.Scanning.{first_on, first_none_left}
use Rattle.task_record.proofs.columns.actions_fit.Goals as goal

pub loop-m-init : goal.loop-m-init
loop-m-init c =
    let args = c.args in
    (omega arith, first_none_left (cell_ok args.record.now.rec.now) (at_action 0) (action_size * 0) (omega arith))

pub used_fits-requires : goal.used_fits-requires
used_fits-requires c =
    let pre = c.requires in
    let action-count = c.action_count-used in
    let loop-test = c.loop-m-test in
    let t = loop-test.true in let n = action-count.ensures in
    (omega arith, omega arith)

pub returns-then-not-used_fits : goal.returns-then-not-used_fits
returns-then-not-used_fits c = λ t. let z : ◌≡◌ {A = ℕ} 0 1 = cc in absurd (omega arith)

pub loop-m-preserved : goal.loop-m-preserved
loop-m-preserved c =
    let args = c.args in
    let loop = c.loop-m in
    let loop-test = c.loop-m-test in
    let used-fits = c.used_fits in
    let if1 = c.if-not-used_fits in
    let m = loop.m in let t = loop-test.true in
    let e : at_action 0 + action_size * m ≡ at_action m = omega arith in
    let f : action_size * m + action_size ≡ action_size * (m + 1) = omega arith in
    let g : at_action m + action_size ≡ at_action (m + 1) = omega arith in
    (omega arith, rw (e, f, g) at (first_on (cell_ok args.record.now.rec.now) (at_action 0) (action_size * m) action_size (loop.invariant.1 ∙ sym e) (rw e (used-fits.ensures (not-false _ if1.false-raw) ∙ sym g))))

pub loop-m-2-init : goal.loop-m-2-init
loop-m-2-init c =
    let pre = c.requires in
    let action-count = c.action_count-used in
    let loop = c.loop-m in
    let loop-test = c.loop-m-test in
    let t = loop-test.false in let n = action-count.ensures in let few = pre in
    let e : loop.m ≡ c.action_count-used.result = omega arith in
    (omega arith, omega arith, rw e at loop.invariant.1)

pub unused_fits-requires : goal.unused_fits-requires
unused_fits-requires c =
    let pre = c.requires in
    let action-count = c.action_count-used in
    let loop2-test = c.loop-m-2-test in
    let t = loop2-test.true in let n = action-count.ensures in
    (omega arith, omega arith)

pub returns-then-not-unused_fits : goal.returns-then-not-unused_fits
returns-then-not-unused_fits c = λ t. let z : ◌≡◌ {A = ℕ} 0 1 = cc in absurd (omega arith)

pub loop-m-2-preserved : goal.loop-m-2-preserved
loop-m-2-preserved c =
    let args = c.args in
    let loop2 = c.loop-m-2 in
    let loop2-test = c.loop-m-2-test in
    let unused-fits = c.unused_fits in
    let if2 = c.if-not-unused_fits in
    let m = loop2.m in let t = loop2-test.true in
    let e : at_action 0 + action_size * m ≡ at_action m = omega arith in
    let f : action_size * m + action_size ≡ action_size * (m + 1) = omega arith in
    let g : at_action m + action_size ≡ at_action (m + 1) = omega arith in
    (omega arith, omega arith, rw (e, f, g) at (first_on (cell_ok args.record.now.rec.now) (at_action 0) (action_size * m) action_size (loop2.invariant.2 ∙ sym e) (rw e (unused-fits.ensures (not-false _ if2.false-raw) ∙ sym g))))

pub returns : goal.returns
returns c =
    let loop2 = c.loop-m-2 in
    let loop2-test = c.loop-m-2-test in
    let t = loop2-test.false in
    let e : loop2.m ≡ 64 = omega arith in
    λ h. rw e at loop2.invariant.2
