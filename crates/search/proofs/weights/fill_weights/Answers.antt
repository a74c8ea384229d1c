-- `search::weights::fill_weights` meets its contract. The loop's invariant: patterns below p have their weights and offsets. Assumes nothing.
use Rattle.std.proofs.Common.{◌<◌, arith, rules}
use Rattle.task_record.specs.Numbers.{pattern_count}
use Rattle.task_record.specs.TaskOf.{task_of, patterns_of}
use Rattle.task_record.proofs.SoundTask.{patterns_right}
use Rattle.patterns.proofs.Reading.{patterns_length, pattern_at}
use Rattle.search.proofs.WeightsFilled.{all_begin, all-go_on, all_end, pattern_small}
use Rattle.search.proofs.Props.{known}
use Rattle.search.proofs.weights.fill_weights.Goals as goal

pub loop-p-init : goal.loop-p-init
loop-p-init c = let r = c.args.built.now.rec.now in all_begin (task_of r).sizes (patterns_of r) c.args.weights.now c.args.offsets.now (search rules) (search rules)

pub bounds-weights-from : goal.bounds-weights-from
bounds-weights-from c = let k = patterns_right c.args.built.now.rec.now (known c.args.built.now.prepared).sound in omega (arith, c.loop-p.invariant.wide, c.pattern_count-p-end.ensures, c.loop-p-test.true, c.from.ensures)

pub bounds-offsets-from : goal.bounds-offsets-from
bounds-offsets-from c = let k = patterns_right c.args.built.now.rec.now (known c.args.built.now.prepared).sound in omega (arith, c.loop-p.invariant.long, c.pattern_count-p-end.ensures, c.loop-p-test.true, c.from-in-loop-p.ensures)

pub loop-p-preserved : goal.loop-p-preserved
loop-p-preserved c = let b = c.args.built.now in let r = b.rec.now in let q = known b.prepared in let l = c.loop-p in let t : l.p < pattern_count r = rw c.pattern_count-p-end.ensures at c.loop-p-test.true in
    let k = patterns_right r q.sound in let h = pattern_small r q.sound q.small l.p t in let e = c.weights_of-states.ensures in
    rw (c.from.ensures, c.from-in-loop-p.ensures, c.from-begin.ensures) (all-go_on (task_of r).sizes (patterns_of r) l.invariant (rw (patterns_length r) t) (omega arith)
    (rw (pattern_at r l.p t) e.weights) (rw (pattern_at r l.p t) e.states) (omega (arith, e.states)))

pub returns : goal.returns
returns c = let r = c.args.built.now.rec.now in all_end (task_of r).sizes (patterns_of r) c.loop-p.invariant (omega (arith, patterns_length r, c.pattern_count-p-end.ensures, c.loop-p-test.false))
