-- `search::weights::weights_of` meets its contract. The loop's invariant: variables below v have their weights. Assumes nothing.
use Rattle.std.proofs.Common.{◌*◌, ◌<◌, ◌≤◌, arith, eq-eqb, ne_eqb}
use Rattle.task_record.specs.Numbers.{variable_count}
use Rattle.patterns.proofs.Sizes.{variables_few, pattern_whole}
use Rattle.search.proofs.WeightsFilled.{filling_begins, filling_in, filling_out, weight_small, filling_ends, states_counted}
use Rattle.search.proofs.Props.{known}
use Rattle.search.proofs.weights.weights_of.Goals.{then-cells-from-eq1, else-cells-from-eq1}
use Rattle.search.proofs.weights.weights_of.Goals as goal

pub loop-v-init : goal.loop-v-init
loop-v-init c = let b = c.args.built.now in let q = known b.prepared in filling_begins b.rec.now q.sound q.small c.args.p c.requires

pub bounds-cells-from : goal.bounds-cells-from
bounds-cells-from c = let b = c.args.built.now in let r = b.rec.now in let w = pattern_whole r (known b.prepared).sound c.args.p c.requires in let n = variables_few r (known b.prepared).sound in
    rw c.pattern_cells-cells.ensures (omega (arith, c.variable_count-v-end.ensures, c.loop-v-test.true, c.from.ensures))

pub overflow_mul-w : goal.overflow_mul-w
overflow_mul-w c = let b = c.args.built.now in let q = known b.prepared in let r = b.rec.now in let t : c.loop-v.v < variable_count r = rw c.variable_count-v-end.ensures at c.loop-v-test.true in
    let g = eq-eqb _ _ (rw (c.from.ensures, c.pattern_cells-cells.ensures) at c.if-cells-from-eq1.true) in
    let m : c.loop-v.w * c.from-w.result ≤ 4096 = rw (c.from-w.ensures, c.size_of.ensures) (weight_small r q.sound q.small c.args.p c.requires (filling_in r q.sound q.small c.args.p c.requires c.loop-v.invariant t g)) in record { fits = omega arith }

pub loop-v-preserved : goal.loop-v-preserved
loop-v-preserved c = let b = c.args.built.now in let q = known b.prepared in let r = b.rec.now in let t : c.loop-v.v < variable_count r = rw c.variable_count-v-end.ensures at c.loop-v-test.true in elim c.if-cells-from-eq1.branch [
  | then-cells-from-eq1 w ↦ let g = eq-eqb _ _ (rw (c.from.ensures, c.pattern_cells-cells.ensures) at w.if-cells-from-eq1.true) in
      rw (w.weights-is, w.w-is, w.from-then-cells-from-eq1.ensures, w.from-w.ensures, w.size_of.ensures) (filling_in r q.sound q.small c.args.p c.requires c.loop-v.invariant t g)
  | else-cells-from-eq1 w ↦ let g = ne_eqb _ _ (rw (c.from.ensures, c.pattern_cells-cells.ensures) at w.if-cells-from-eq1.false) in
      rw (w.weights-is, w.w-is) (filling_out r q.sound q.small c.args.p c.requires c.loop-v.invariant t g)
]

pub returns-clause-weights : goal.returns-clause-weights
returns-clause-weights c = let b = c.args.built.now in let q = known b.prepared in
    filling_ends b.rec.now q.sound q.small c.args.p c.requires c.loop-v.invariant (omega (arith, c.variable_count-v-end.ensures, c.loop-v-test.false))

pub returns-clause-states : goal.returns-clause-states
returns-clause-states c = let b = c.args.built.now in let q = known b.prepared in
    states_counted b.rec.now q.sound q.small c.args.p c.requires c.loop-v.invariant (omega (arith, c.variable_count-v-end.ensures, c.loop-v-test.false))
