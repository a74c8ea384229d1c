-- `judge_room`: the patterns passed are small, and their entries are counted. Assumes nothing.
use mathlib.Core.Path.{◌≡◌, sym, ◌∙◌}
use mathlib.Core.List.{[]}
use Prim.Native.Nat.{◌≤◌, ◌<◌}
use native.Mathlib.Omega.{arith}
use lib.ListN.{get_or}
use Rattle.task_record.specs.Numbers.{pattern_count}
use Rattle.task_record.specs.TaskOf.{task_of, patterns_of}
use Rattle.task_record.proofs.SoundTask.{patterns_right}
use Rattle.patterns.proofs.Reading.{patterns_length, pattern_at}
use Rattle.patterns.proofs.Room.{adding_small, judged_large, judged_short, judged_fits}
use Rattle.patterns.proofs.Sizes.{sizes_few, sizes_positive, pattern_whole}
use Rattle.patterns.proofs.space.judge_room.Goals as goal

pub state_count-requires : goal.state_count-requires
state_count-requires c = let r = c.args.record.now in let h = rw c.record.view_is at c.record.invariant in let l = c.loop-p in
    let t : l.p < pattern_count r = rw (c.pattern_count-p-end.ensures, c.record.view_is) at c.loop-p-test.true in
    let f = sizes_few r h in let w = pattern_whole r h l.p t in
    rw (c.requires, c.pattern_cells.ensures, c.record.view_is) (sizes_positive r h, omega arith)

pub returns-in_default : goal.returns-in_default
returns-in_default c = let r = c.args.record.now in let l = c.loop-p in
    let t : l.p < pattern_count r = rw (c.pattern_count-p-end.ensures, c.record.view_is) at c.loop-p-test.true in
    let q : c.pattern_cells.result.now ≡ get_or (patterns_of r) l.p [] = rw c.record.view_is at c.pattern_cells.ensures ∙ sym (pattern_at r l.p t) in
    let k = rw (c.requires, q) at c.in_default.ensures.large in
    rw c.from.ensures (sym (judged_large (task_of r).sizes (patterns_of r) l.needed l.p l.invariant c.args.lent (rw (patterns_length r) t) k))

pub overflow_add-needed : goal.overflow_add-needed
overflow_add-needed c = let r = c.args.record.now in let h = rw c.record.view_is at c.record.invariant in let l = c.loop-p in let k = patterns_right r h in
    let t : l.p < pattern_count r = rw (c.pattern_count-p-end.ensures, c.record.view_is) at c.loop-p-test.true in omega (arith, l.invariant.bounded, c.in-Some.ensures.small)

pub loop-p-preserved : goal.loop-p-preserved
loop-p-preserved c = let r = c.args.record.now in let l = c.loop-p in
    let t : l.p < pattern_count r = rw (c.pattern_count-p-end.ensures, c.record.view_is) at c.loop-p-test.true in
    let q : c.pattern_cells.result.now ≡ get_or (patterns_of r) l.p [] = rw c.record.view_is at c.pattern_cells.ensures ∙ sym (pattern_at r l.p t) in
    let k = rw (c.requires, q) at c.in-Some.ensures.small in
    rw k.0 (adding_small (task_of r).sizes (patterns_of r) l.needed l.p l.invariant (rw (patterns_length r) t) (omega (arith, k)))

pub returns-then-lent-needed : goal.returns-then-lent-needed
returns-then-lent-needed c = let r = c.args.record.now in let l = c.loop-p in
    let t : pattern_count r ≤ l.p = rw (c.pattern_count-p-end.ensures, c.record.view_is) at c.loop-p-test.false in
    sym (judged_short (task_of r).sizes (patterns_of r) l.needed l.p l.invariant c.args.lent (rw (patterns_length r) t) c.if-lent-needed.true)

pub returns : goal.returns
returns c = let r = c.args.record.now in let l = c.loop-p in
    let t : pattern_count r ≤ l.p = rw (c.pattern_count-p-end.ensures, c.record.view_is) at c.loop-p-test.false in
    sym (judged_fits (task_of r).sizes (patterns_of r) l.needed l.p l.invariant c.args.lent (rw (patterns_length r) t) c.if-lent-needed.false)
