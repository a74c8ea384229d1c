-- `search::owners::mark` meets its contract. The loop's invariant: actions below m are marked. Assumes nothing.
use Rattle.std.proofs.Common.{◌<◌, sym, ◌∙◌, arith}
use Rattle.task_record.specs.Numbers.{action_count}
use Rattle.task_record.proofs.SoundTask.{actions_right}
use Rattle.packed_task.proofs.SoundPacked.{compiled_outcomes_few}
use Rattle.search.proofs.Owning.{marking_begins, marking_hit, marking_miss, marking_ends}
use Rattle.search.proofs.Props.{known}
use Rattle.search.proofs.owners.mark.Goals.{then-names_under, else-names_under}
use Rattle.search.proofs.owners.mark.Goals as goal

pub loop-m-init : goal.loop-m-init
loop-m-init c = (marking_begins _ _ _ _, omega arith)

pub names_under-requires : goal.names_under-requires
names_under-requires c = let b = c.args.built.now in let q = known b.prepared in
    let t : c.loop-m.m < action_count b.rec.now = omega (arith, c.loop-m-test.true, c.from-m-end.ensures, c.action_count.ensures) in
    rw q.words (compiled_outcomes_few b.rec.now q.sound c.loop-m.m t)

pub invariant_of-names_under : goal.invariant_of-names_under
invariant_of-names_under c = let b = c.args.built.now in let k = actions_right b.rec.now (known b.prepared).sound in
    record { below = omega (arith, k, c.loop-m-test.true, c.from-m-end.ensures, c.action_count.ensures) }

pub bounds-owners-m : goal.bounds-owners-m
bounds-owners-m c = let b = c.args.built.now in let k = actions_right b.rec.now (known b.prepared).sound in
    omega (arith, c.loop-m-test.true, c.from-m-end.ensures, c.action_count.ensures, c.loop-m.invariant.0.long)

pub loop-m-preserved : goal.loop-m-preserved
loop-m-preserved c = let b = c.args.built.now in let k = actions_right b.rec.now (known b.prepared).sound in let l = c.loop-m in elim c.if-names_under.branch [
  | then-names_under w ↦ rw w.owners-is (marking_hit l.invariant.0 (omega (arith, k, l.invariant.0.long, c.from-m-end.ensures, c.action_count.ensures)) (rw c.mask_of-mask.ensures at (sym c.names_under.ensures ∙ w.if-names_under.true)), omega arith)
  | else-names_under w ↦ rw w.owners-is (marking_miss l.invariant.0 (rw c.mask_of-mask.ensures at (sym c.names_under.ensures ∙ w.if-names_under.false)), omega arith)
]

pub returns : goal.returns
returns c = marking_ends c.loop-m.invariant.0 _ (omega (arith, c.loop-m-test.false, c.from-m-end.ensures, c.action_count.ensures))
