-- `part_of`: the entries of the patterns passed are added; the last of them begins where those before it end. Assumes nothing.
use Rattle.std.proofs.Common.{◌≡◌, ℕ, ◌+◌, ◌-◌, ◌<◌, ◌≤◌, List, [], get_or, take, sym, refl, ap, ◌∙◌, ap₂, arith}
use Rattle.planning.specs.Table.{state_count, Small}
use Rattle.planning.proofs.Finite.{all_at}
use Rattle.task_record.specs.Cells.{state_cells}
use Rattle.task_record.specs.Layout.{at_pattern}
use Rattle.task_record.specs.Numbers.{variable_count, pattern_count, size_of}
use Rattle.task_record.specs.Record.{Sound}
use Rattle.task_record.specs.TaskOf.{cells_at, task_of, patterns_of}
use Rattle.task_record.specs.Window.{Sixteen}
use Rattle.task_record.proofs.Cellwise.{state_cells_whole}
use Rattle.task_record.proofs.SoundTask.{patterns_right}
use Rattle.patterns.proofs.Reading.{patterns_length, pattern_at}
use Rattle.patterns.proofs.Sizes.{sixteen_sizes, sizes_taken, pattern_whole}
use Rattle.tables.specs.Steps.{Bounded}
use Rattle.tables.proofs.TableChain.{pattern_bounded}
use Rattle.tables.proofs.Spreading.{needed_next}
use Rattle.patterns.specs.Space.{entries_needed}
use Rattle.tables.proofs.spread.part_of.Goals as goal
use Rattle.tables.proofs.spread.part_of.Goals.{After-state_of-pattern}

-- What was read of the record: its sizes, the number of its variables, and the pattern.

module _ (c : After-state_of-pattern) where
  abbrev rec : List ℕ
  rec = c.args.record.now

  abbrev number : ℕ
  number = c.loop-q.q

  abbrev sizes : List ℕ
  sizes = c.sizes_of-sizes.result

  sound : Sound rec
  sound = rw c.record.view_is at c.record.invariant

  below : number < pattern_count rec
  below = omega (arith, c.loop-q-test.true, c.requires.1)

  sixteen : Sixteen (size_of rec) sizes
  sixteen = sixteen_sizes _ _ (rw c.record.view_is at c.sizes_of-sizes.ensures)

  variables-known : c.from-n.result ≡ variable_count rec
  variables-known = c.from-n.ensures ∙ rw c.record.view_is at c.variable_count.ensures

  pattern_known : c.state_of-pattern.result ≡ cells_at rec (at_pattern number)
  pattern_known = c.state_of-pattern.ensures ∙ ap state_cells (rw c.record.view_is at c.pattern_cells.ensures) ∙ sym (state_cells_whole (cells_at rec (at_pattern number)) (pattern_whole rec sound number below))

  few : state_count (task_of rec).sizes (get_or (patterns_of rec) number []) ≤ 4096
  unfolding Small
  few = all_at (λ x. state_count (task_of rec).sizes x ≤ 4096) (patterns_of rec) [] c.requires.0 number (rw (patterns_length rec) below)

  states-known : state_count (take c.from-n.result sizes) c.state_of-pattern.result ≡ state_count (task_of rec).sizes (get_or (patterns_of rec) number [])
  states-known = ap₂ state_count (ap (λ k. take k sizes) variables-known ∙ sizes_taken rec sound sizes sixteen) (pattern_known ∙ sym (pattern_at rec number below))

same-bounded : (zs p q : List ℕ) (n m : ℕ) → p ≡ q → n ≡ m → Bounded zs q m → Bounded zs p n
same-bounded zs p q n m e f s = rw (e, f) s

pub overflow_add-q-end : goal.overflow_add-q-end
overflow_add-q-end c = let k = patterns_right c.args.record.now (rw c.record.view_is at c.record.invariant) in omega (arith, c.requires.1)

pub loop-q-init : goal.loop-q-init
unfolding entries_needed
loop-q-init c = (omega arith, refl, refl, omega arith)

pub state_count-requires : goal.state_count-requires
state_count-requires c = let w = (goal.at.state_count-requires c).After-state_of-pattern in same-bounded _ _ _ _ _ (pattern_known w) (variables-known w)
    (pattern_bounded (rec w) (sound w) (sizes w) (sixteen w) (cells_at (rec w) (at_pattern (number w))) (rw (pattern_at (rec w) (number w) (below w)) at (few w)))

pub overflow_add-end : goal.overflow_add-end
overflow_add-end c = let w = (goal.at.overflow_add-end c).After-state_of-pattern in let e = c.state_count.ensures ∙ states-known w in let k = patterns_right (rec w) (sound w) in
    omega (arith, few w, below w, c.loop-q.invariant.3)

pub overflow_step-q : goal.overflow_step-q
overflow_step-q c = let w = (goal.at.overflow_step-q c).After-state_of-pattern in let k = patterns_right (rec w) (sound w) in omega (arith, below w)

pub loop-q-smaller : goal.loop-q-smaller
loop-q-smaller c = omega (arith, c.loop-q-test.true)

pub loop-q-preserved : goal.loop-q-preserved
loop-q-preserved c = let w = (goal.at.loop-q-preserved c).After-state_of-pattern in let e = c.state_count.ensures ∙ states-known w in let l = c.loop-q in
    let t = c.loop-q-test.true in
    let n = needed_next (task_of (rec w)).sizes (patterns_of (rec w)) l.q (rw (patterns_length (rec w)) (below w)) in
    let k : l.q ≡ (l.q + 1) - 1 = omega arith in
    (omega arith, l.invariant.2 ∙ ap (λ k. entries_needed (task_of (rec w)).sizes (take k (patterns_of (rec w)))) k, omega (arith, l.invariant.2), omega (arith, few w, l.invariant.3))

pub returns : goal.returns
returns c = let l = c.loop-q in let a = c.args in let t = c.loop-q-test.false in let i = l.invariant.0 in
    let e : l.q ≡ a.p + 1 = omega arith in let f : l.q - 1 ≡ a.p = omega arith in
    let needed : ℕ → ℕ = λ k. entries_needed (task_of a.record.now).sizes (take k (patterns_of a.record.now)) in (l.invariant.1 ∙ ap needed f, l.invariant.2 ∙ ap needed e)
