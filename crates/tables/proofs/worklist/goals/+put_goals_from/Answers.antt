-- `put_goals_from` meets its contract. Assumes nothing.
use Rattle.std.proofs.Common.{inl, inr, arith}
use Rattle.tables.proofs.Entering.{entered_one, entered_skip, through_next, through_end}
use Rattle.tables.proofs.worklist.goals.+put_goals_from.Goals as goal
use Rattle.tables.proofs.worklist.goals.+put_goals_from.Goals.{then-free-eq0-via-then-free-eq0, then-free-eq0-via-else-free-eq0+then-v-ge16, then-free-lt16, else-free-lt16}

pub returns-then-free-eq0 : goal.returns-then-free-eq0
returns-then-free-eq0 g t c = let e = c.put_goal.ensures in (
  entered_one (omega arith) (elim c.then-free-eq0.branch [ then-free-eq0-via-then-free-eq0 w ↦ inl w.if-free-eq0.true | then-free-eq0-via-else-free-eq0+then-v-ge16 w ↦ inr w.if-v-ge16.true ]) e.0,
  e.1,
)

pub returns-then-free-eq0-2 : goal.returns-then-free-eq0-2
returns-then-free-eq0-2 g t c = let e = c.put_goals_from.ensures in (entered_skip c.if-free-eq0-2.true e.0, e.1)

pub loop-d-preserved : goal.loop-d-preserved
loop-d-preserved g t c = let v = c.loop-d.invariant in let d = c.loop-d-test.true in let m = c.min-end.ensures in let o = c.from.ensures in
    elim c.if-free-lt16.branch [
      | then-free-lt16 w ↦ (let e = w.put_goal-then-free-lt16.ensures in rw (w.entries-is, w.queue-is) (
        through_next v.0 _ (omega (arith, c.times.ensures.0)) c.if-free-eq0-2.false (omega (arith, d, m)) (omega (arith, d, m, o)) (entered_one (omega arith) (inl (omega (arith, w.if-free-lt16.true))) e.0),
        omega (arith, d),
        e.1,
      ))
      | else-free-lt16 w ↦ (let e = w.put_goals_from-else-free-lt16.ensures in rw (w.entries-is, w.queue-is) (
        through_next v.0 _ (omega (arith, c.times.ensures.0)) c.if-free-eq0-2.false (omega (arith, d, m)) (omega (arith, d, m, o)) e.0,
        omega (arith, d),
        e.1,
      ))
    ]

pub returns : goal.returns
returns g t c = let v = c.loop-d.invariant in (through_end v.0 c.if-free-eq0-2.false (omega (arith, c.if-v-ge16.false)) (λ d b s. omega (arith, c.loop-d-test.false, c.min-end.ensures, c.from.ensures)), v.2)
