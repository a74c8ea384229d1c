-- `tables::worklist::incoming::meet_digits` meets its contract. The loop's invariant: digits below v are met. Assumes nothing.
use Rattle.std.proofs.Common.{◌∙◌}
use Rattle.tables.proofs.Rowing.{meeting_starts, meeting_goes_on, digit_out, digit_in, meeting_ends, meeting_early}
use Rattle.tables.proofs.worklist.incoming.meet_digits.Goals as goal
use Rattle.tables.proofs.worklist.incoming.meet_digits.Goals.{then-rest-ne0, else-rest-ne0}

pub loop-v-init : goal.loop-v-init
loop-v-init c = meeting_starts

pub returns-then-rest-eq0 : goal.returns-then-rest-eq0
returns-then-rest-eq0 c = meeting_early c.loop-v.invariant c.if-rest-eq0.true

pub loop-v-preserved : goal.loop-v-preserved
loop-v-preserved c = let l = c.loop-v in meeting_goes_on l.invariant c.if-rest-ne0.set c.loop-v-test.true (elim c.if-rest-ne0.branch [ then-rest-ne0 w ↦ w.set-is ∙ digit_in l.invariant w.if-rest-ne0.true | else-rest-ne0 w ↦ w.set-is ∙ digit_out l.invariant w.if-rest-ne0.false ])

pub returns : goal.returns
returns c = meeting_ends c.loop-v.invariant c.loop-v-test.false
