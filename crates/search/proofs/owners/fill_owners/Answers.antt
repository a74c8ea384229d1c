-- `search::owners::fill_owners` meets its contract. The loop's invariant: every affected pattern below p is the owner. Assumes nothing.
use Rattle.std.proofs.Common.{◌<◌, arith, rules}
use Rattle.task_record.specs.Numbers.{pattern_count}
use Rattle.search.proofs.Owning.{owning_begins, owning_goes_on, owning_ends}
use Rattle.search.proofs.Props.{known}
use Rattle.search.proofs.owners.fill_owners.Goals as goal

pub loop-p-init : goal.loop-p-init
loop-p-init c = (owning_begins _ (known c.args.built.now.prepared).sound _ (search rules), omega arith)

pub loop-p-preserved : goal.loop-p-preserved
loop-p-preserved c = let b = c.args.built.now in let q = known b.prepared in let r = b.rec.now in let l = c.loop-p in
    let t : l.p < pattern_count r = rw c.pattern_count-p-end.ensures at c.loop-p-test.true in
    (owning_goes_on r q.sound q.additive _ _ l.p t c.mark.array_long l.invariant.0 (rw q.words at c.mark.ensures), omega arith)

pub returns : goal.returns
returns c = let b = c.args.built.now in let q = known b.prepared in let l = c.loop-p in
    λ weights offsets f. rw q.words (owning_ends _ q.sound _ _ (omega (arith, c.loop-p-test.false, c.pattern_count-p-end.ensures)) l.invariant.0 weights offsets f)
