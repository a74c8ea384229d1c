-- `sum_entries`: the sum so far, and the value of the patterns left, are the whole value. Assumes nothing.
use mathlib.Core.Path.{◌≡◌, sym, ap, ap₂, ◌∙◌}
use mathlib.Core.List.{[]}
use Prim.Native.Nat.{◌+◌, ◌≤◌, ◌<◌}
use native.Mathlib.Omega.{arith}
use borrow.Author.Tests.{ne_eqb}
use lib.ListN.{length, get_or}
use Rattle.planning.specs.Table.{index, state_count, infinite_entry, Small}
use Rattle.planning.proofs.Finite.{all_at}
use Rattle.task_record.specs.Numbers.{pattern_count}
use Rattle.task_record.specs.TaskOf.{task_of, patterns_of}
use Rattle.task_record.proofs.SoundTask.{patterns_right}
use Rattle.patterns.specs.Value.{value_of}
use Rattle.patterns.proofs.Reading.{patterns_length, pattern_at}
use Rattle.patterns.proofs.Sizes.{state_length, sizes_few, sizes_positive, pattern_whole}
use Rattle.patterns.proofs.Summing.{summing_start, summing_done, place_inside, table_inside, summing_finite, summing_infinite}
use Rattle.patterns.proofs.value.sum_entries.Goals.{After-place_of-place}
use Rattle.patterns.proofs.value.sum_entries.Goals as goal

pub loop-p-init : goal.loop-p-init
loop-p-init c = let r = c.args.record.now in summing_start (task_of r).sizes (patterns_of r) c.args.state.now c.args.tables.now c.requires.3

pub place_of-place-requires : goal.place_of-place-requires
unfolding Small
place_of-place-requires c = let r = c.args.record.now in let h = rw c.record.view_is at c.record.invariant in let s = c.args.state.now in let l = c.loop-p in
    let t : l.p < pattern_count r = rw (c.pattern_count-p-end.ensures, c.record.view_is) at c.loop-p-test.true in
    let m : l.p < length (patterns_of r) = rw (patterns_length r) t in
    let f = sizes_few r h in let w = pattern_whole r h l.p t in let n = state_length (task_of r).sizes s c.requires.1 in
    let k = rw (pattern_at r l.p t) at (all_at (λ x. state_count (task_of r).sizes x ≤ 4096) (patterns_of r) [] c.requires.2 l.p m) in
    rw (c.requires.0, c.pattern_cells.ensures, c.record.view_is) (sizes_positive r h, f, omega arith, omega arith, k)

-- The pattern in hand, and where its entry stands.
inside : (c : After-place_of-place) → c.loop-p.p < length (patterns_of c.args.record.now)
inside c = rw (patterns_length c.args.record.now) (rw (c.pattern_count-p-end.ensures, c.record.view_is) at c.loop-p-test.true)

cells_read : (c : After-place_of-place) → c.pattern_cells.result.now ≡ get_or (patterns_of c.args.record.now) c.loop-p.p []
cells_read c = rw c.record.view_is at c.pattern_cells.ensures ∙ sym (pattern_at c.args.record.now c.loop-p.p (rw (c.pattern_count-p-end.ensures, c.record.view_is) at c.loop-p-test.true))

place_index : (c : After-place_of-place) → c.place_of-place.result.index ≡ index (task_of c.args.record.now).sizes (get_or (patterns_of c.args.record.now) c.loop-p.p []) c.args.state.now
place_index c = c.place_of-place.ensures.0 ∙ ap₂ (λ z x. index z x c.args.state.now) c.requires.0 (cells_read c)

place_states : (c : After-place_of-place) → c.place_of-place.result.states ≡ state_count (task_of c.args.record.now).sizes (get_or (patterns_of c.args.record.now) c.loop-p.p [])
place_states c = c.place_of-place.ensures.1 ∙ ap₂ state_count c.requires.0 (cells_read c)

pub overflow_add-at : goal.overflow_add-at
overflow_add-at c = let r = c.args.record.now in let s = c.args.state.now in let l = c.loop-p in
    let m = inside (goal.at.overflow_add-at c).After-place_of-place in
    let i = place_index (goal.at.overflow_add-at c).After-place_of-place in
    let n = place_inside (task_of r).sizes (patterns_of r) s c.args.tables.now l.sum l.begin l.p l.invariant m c.requires.1 in omega arith

pub returns-then-entry : goal.returns-then-entry
unfolding value_of
returns-then-entry c = let r = c.args.record.now in let s = c.args.state.now in let l = c.loop-p in
    let m = inside (goal.at.returns-then-entry c).After-place_of-place in
    let i = place_index (goal.at.returns-then-entry c).After-place_of-place in
    sym (ap value_of (summing_infinite (task_of r).sizes (patterns_of r) s c.args.tables.now l.sum l.begin l.p l.invariant m c.requires.1 (rw i at (sym c.entry_at-entry.ensures ∙ c.if-entry.true))))

pub overflow_add-sum : goal.overflow_add-sum
overflow_add-sum c = let r = c.args.record.now in let h = rw c.record.view_is at c.record.invariant in let l = c.loop-p in let k = patterns_right r h in
    let t : l.p < pattern_count r = rw (c.pattern_count-p-end.ensures, c.record.view_is) at c.loop-p-test.true in omega (arith, l.invariant.bounded, c.from-sum.ensures)

pub overflow_add-begin : goal.overflow_add-begin
overflow_add-begin c = let r = c.args.record.now in let s = c.args.state.now in let l = c.loop-p in
    let m = inside (goal.at.overflow_add-begin c).After-place_of-place in
    let j = place_states (goal.at.overflow_add-begin c).After-place_of-place in
    let n = table_inside (task_of r).sizes (patterns_of r) s c.args.tables.now l.sum l.begin l.p l.invariant m c.requires.1 in omega arith

pub loop-p-preserved : goal.loop-p-preserved
loop-p-preserved c = let r = c.args.record.now in let s = c.args.state.now in let l = c.loop-p in
    let m = inside (goal.at.loop-p-preserved c).After-place_of-place in
    let i = place_index (goal.at.loop-p-preserved c).After-place_of-place in
    let j = place_states (goal.at.loop-p-preserved c).After-place_of-place in
    let e : c.from-sum.result ≡ get_or c.args.tables.now (l.begin + index (task_of r).sizes (get_or (patterns_of r) l.p []) s) infinite_entry =
    c.from-sum.ensures ∙ c.entry_at-entry.ensures ∙ ap (λ x. get_or c.args.tables.now (l.begin + x) infinite_entry) i in
    let f : c.from-sum.result < infinite_entry = omega (arith, c.if-entry.false, c.from-sum.ensures) in
    let g = ne_eqb c.from-sum.result infinite_entry (λ q. omega arith) in
    rw (j, e) (summing_finite (task_of r).sizes (patterns_of r) s c.args.tables.now l.sum l.begin l.p l.invariant m c.requires.1 (rw e at f) (rw e at g))

pub returns : goal.returns
unfolding value_of
returns c = let r = c.args.record.now in let l = c.loop-p in
    let t : pattern_count r ≤ l.p = rw (c.pattern_count-p-end.ensures, c.record.view_is) at c.loop-p-test.false in
    sym (ap value_of (summing_done (task_of r).sizes (patterns_of r) c.args.state.now c.args.tables.now l.sum l.begin l.p l.invariant (rw (patterns_length r) t)))
