-- `set_of`: the set of the numbers from q on that pass. Assumes nothing.
use Rattle.std.proofs.Common.{◌≡◌, ◌-◌, arith}
use Rattle.tables.proofs.Gathering.{set_of_none, set_joins}
use Rattle.tables.proofs.sets.set_of.Goals as goal

pub loop-q-init : goal.loop-q-init
loop-q-init g c = λ f h. let z : c.args.n - c.args.n ≡ 0 = omega arith in rw z (set_of_none f c.args.n)

pub loop-q-preserved : goal.loop-q-preserved
loop-q-preserved g c = let l = c.loop-q in let t = c.loop-q-test.true in let n = c.args.n in
    λ f h. rw c.from.ensures (set_joins f l.q n l.set c.passes.result t l.auto.q c.requires.few (h (l.q - 1) c.passes.result (omega (arith, t, l.auto.q)) c.passes.ensures) (l.invariant f h))

pub returns : goal.returns
returns g c = let l = c.loop-q in λ f h. let z : l.q ≡ 0 = omega (arith, c.loop-q-test.false) in let y : c.args.n - 0 ≡ c.args.n = omega arith in rw y at (rw z at (l.invariant f h))
