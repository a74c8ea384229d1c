-- `build_all`: the patterns passed have their tables, and the rest of the slice is as lent. Assumes nothing.
use Rattle.std.proofs.Common.{◌≡◌, ◌+◌, ◌<◌, ◌≤◌, [], length, get_or, arith}
use Rattle.planning.specs.Table.{state_count, Small}
use Rattle.planning.proofs.Finite.{all_at}
use Rattle.task_record.specs.Numbers.{pattern_count}
use Rattle.task_record.specs.TaskOf.{task_of, patterns_of}
use Rattle.patterns.proofs.Sizes.{sixteen_sizes}
use Rattle.patterns.proofs.Reading.{patterns_length, pattern_at}
use Rattle.tables.proofs.TableChain.{chaining_start, next_inside, chaining_next, chaining_end}
use Rattle.tables.proofs.record_tables.build_all.Goals as goal

pub loop-p-init : goal.loop-p-init
loop-p-init c = let a = c.args in chaining_start a.record.now a.tables.now

pub build_one-begin-requires : goal.build_one-begin-requires
unfolding Small
build_one-begin-requires c = let r = c.args.record.now in let l = c.loop-p in
    let t : l.p < pattern_count r = rw (c.pattern_count-p-end.ensures, c.record.view_is) at c.loop-p-test.true in
    let m : l.p < length (patterns_of r) = rw (patterns_length r) t in let q = pattern_at r l.p t in
    let k = rw q at (all_at (λ x. state_count (task_of r).sizes x ≤ 4096) (patterns_of r) [] c.requires.0.small l.p m) in
    let n = rw q at (next_inside r c.args.tables.now l.tables l.begin l.p l.invariant m c.requires.0.room) in
    (record { task_is = c.requires.1; sixteen = sixteen_sizes _ _ (rw c.record.view_is at c.sizes_of-sizes.ensures); known = t; few = k }, n)

pub loop-p-smaller : goal.loop-p-smaller
loop-p-smaller c = let e = rw c.record.view_is at c.pattern_count-p-end.ensures in rw (← e) (omega arith)

pub loop-p-preserved : goal.loop-p-preserved
loop-p-preserved c = let r = c.args.record.now in let l = c.loop-p in
    let t : l.p < pattern_count r = rw (c.pattern_count-p-end.ensures, c.record.view_is) at c.loop-p-test.true in
    let m : l.p < length (patterns_of r) = rw (patterns_length r) t in let q = pattern_at r l.p t in
    let e : c.build_one-begin.result ≡ l.begin + state_count (task_of r).sizes (get_or (patterns_of r) l.p []) = rw q c.build_one-begin.ensures.0 in
    let n = next_inside r c.args.tables.now l.tables l.begin l.p l.invariant m c.requires.0.room in
    rw c.build_one-begin.ensures.1 (rw q at (chaining_next r c.args.tables.now l.tables l.begin l.p l.invariant m c.build_one-begin.result e (omega arith)))

pub shape_of-tables : goal.shape_of-tables
shape_of-tables c = c.loop-p.invariant.long

pub returns : goal.returns
returns c = let r = c.args.record.now in let l = c.loop-p in
    let t : pattern_count r ≤ l.p = rw (c.pattern_count-p-end.ensures, c.record.view_is) at c.loop-p-test.false in
    chaining_end r c.args.tables.now l.tables l.begin l.p l.invariant (rw (patterns_length r) t)
