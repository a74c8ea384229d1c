-- `count_pattern`: the row is cleared, and the pattern's part of the tables counted, where the number names one. Assumes nothing.
use Rattle.std.proofs.Common.{◌≡◌, ℕ, ◌+◌, ◌-◌, ◌<◌, ◌≤◌, List, [], length, get_or, take, drop, sym, ap, ◌∙◌, ap₂, arith}
use Rattle.planning.specs.Table.{state_count}
use Rattle.planning.specs.Spread.{spread}
use Rattle.task_record.specs.Numbers.{pattern_count}
use Rattle.task_record.specs.Record.{Sound}
use Rattle.task_record.specs.TaskOf.{task_of, patterns_of}
use Rattle.patterns.specs.Space.{entries_needed}
use Rattle.tables.proofs.Spreading.{cleared, states_of_pattern, pattern_ends, part_costs, part_few, part_bounded, states_named_lem, none_named, no_states}
use Rattle.tables.proofs.spread.count_pattern.Goals as goal
use Rattle.tables.proofs.spread.count_pattern.Goals.{After-part_of-part}

-- A number that names a pattern: where its table begins and ends.

module _ (c : After-part_of-part) where
  abbrev rec : List ℕ
  rec = c.args.record.now

  abbrev number : ℕ
  number = c.in-Ok.p

  abbrev tabs : List ℕ
  tabs = c.args.tables.now

  below : number < pattern_count rec
  below = omega (arith, c.if-p-patterns.false, rw c.record.view_is at c.pattern_count-patterns.ensures)

  sound : Sound rec
  sound = rw c.record.view_is at c.record.invariant

  begins : c.part_of-part.result.start ≡ entries_needed (task_of rec).sizes (take number (patterns_of rec))
  begins = c.part_of-part.ensures.0

  abbrev states : ℕ
  states = state_count (task_of rec).sizes (get_or (patterns_of rec) number [])

  ends-known : c.part_of-part.result.end ≡ entries_needed (task_of rec).sizes (take (number + 1) (patterns_of rec))
  ends-known = c.part_of-part.ensures.1

  ends : c.part_of-part.result.end ≡ c.part_of-part.result.start + states
  ends = ends-known ∙ states_of_pattern rec tabs sound c.requires.0 c.requires.1 number below ∙ ap (λ k. k + states) (sym begins)

  inside : c.part_of-part.result.end ≤ length tabs
  inside = let h = pattern_ends rec tabs sound c.requires.0 c.requires.1 number below in let e = ends-known in omega arith

  abbrev part : List ℕ
  part = take (c.part_of-part.result.end - c.part_of-part.result.start) (drop c.part_of-part.result.start tabs)

  part-is : part ≡ take states (drop (entries_needed (task_of rec).sizes (take number (patterns_of rec))) tabs)
  part-is = let e : c.part_of-part.result.end - c.part_of-part.result.start ≡ states = omega (arith, ends) in ap₂ (λ k b. take k (drop b tabs)) e begins

pub offset_bounds-tables-part : goal.offset_bounds-tables-part
offset_bounds-tables-part c = let w = (goal.at.offset_bounds-tables-part c).After-part_of-part in let h = inside w in let e = ends w in omega arith

pub slice_bounds-count_entries-count : goal.slice_bounds-count_entries-count
slice_bounds-count_entries-count c = let w = (goal.at.slice_bounds-count_entries-count c).After-part_of-part in let e = ends w in omega arith

pub slice_bounds-count_entries-start : goal.slice_bounds-count_entries-start
slice_bounds-count_entries-start c = let w = (goal.at.slice_bounds-count_entries-start c).After-part_of-part in let e = ends w in omega arith

pub slice_bounds-count_entries-end : goal.slice_bounds-count_entries-end
slice_bounds-count_entries-end c = let w = (goal.at.slice_bounds-count_entries-end c).After-part_of-part in inside w

pub count_entries-requires : goal.count_entries-requires
count_entries-requires c = let w = (goal.at.count_entries-requires c).After-part_of-part in let p = c.requires in let l = below w in
    (part_few (rec w) (tabs w) (sound w) p.0 p.1 (number w) l (part w) (part-is w), part_bounded (rec w) (tabs w) (sound w) p.0 p.1 (number w) l (part w) (part-is w), cleared c.args.row.now _ p.2 (c.fill.ensures.after (λ y e. e)))

pub overflow_sub-result : goal.overflow_sub-result
overflow_sub-result c = let w = (goal.at.overflow_sub-result c).After-part_of-part in let e = ends w in omega arith

pub returns-in_default : goal.returns-in_default
returns-in_default c = let l : pattern_count c.args.record.now ≤ c.args.pattern = omega (arith, rw c.record.view_is at c.pattern_count-patterns.ensures, c.in_default.ensures) in
    (sym (no_states c.args.record.now c.args.pattern l), cleared c.args.row.now _ c.requires.2 (c.fill.ensures.after (λ y e. e)) ∙ ap spread (sym (none_named c.args.record.now c.args.pattern l)))

pub returns-then-p-patterns : goal.returns-then-p-patterns
returns-then-p-patterns c = let l : pattern_count c.args.record.now ≤ c.args.pattern = omega (arith, c.if-p-patterns.true, rw c.record.view_is at c.pattern_count-patterns.ensures, c.in-Ok.ensures.1) in
    (sym (no_states c.args.record.now c.args.pattern l), cleared c.args.row.now _ c.requires.2 (c.fill.ensures.after (λ y e. e)) ∙ ap spread (sym (none_named c.args.record.now c.args.pattern l)))

pub returns : goal.returns
returns c = let w = (goal.at.returns c).After-part_of-part in let p = c.requires in let l = below w in let e = ends w in
    rw (← c.in-Ok.ensures.1)
    (omega (arith, states_named_lem (rec w) (tabs w) (sound w) p.0 p.1 (number w) l), c.count_entries.ensures ∙ ap spread (part_costs (rec w) (tabs w) (sound w) p.0 p.1 (number w) l (part w) (part-is w)))
