-- `count_entries`: the row is the spread of the entries passed. Assumes nothing.
use Rattle.std.proofs.Common.{◌≡◌, ◌<◌, [], map, length, get_or, take, sym, ap, ◌∙◌, arith, take_all}
use lib.ListN.{length-map}
use Rattle.planning.specs.Table.{cost_of}
use Rattle.planning.specs.Spread.{row_size, spread, place_of}
use Rattle.planning.proofs.Spread.{spread-length}
use Rattle.tables.proofs.Spreading.{place_in_row, cut_place, counting_small, counting_next}
use Rattle.tables.proofs.spread.count_entries.Goals as goal
use Rattle.tables.proofs.spread.count_entries.Goals.{After-place_of}

-- The entry's place is in the row, and its count is small.

place_is : (c : After-place_of) → c.place_of.result ≡ place_of (cost_of (get_or c.args.entries.now c.loop-e.e-index 0))
place_is c = c.place_of.ensures ∙ cut_place c.args.entries.now c.requires.1 c.loop-e.e-index c.loop-e-test.true

place-known : (c : After-place_of) → c.place_of.result < row_size
place-known c = rw (place_is c) (place_in_row c.args.entries.now c.requires.1 c.loop-e.e-index c.loop-e-test.true)

place_inside : (c : After-place_of) → c.place_of.result < length c.loop-e.row
place_inside c = rw (c.loop-e.invariant.1, spread-length (take c.loop-e.e-index (map cost_of c.args.entries.now))) (place-known c)

pub loop-e-init : goal.loop-e-init
loop-e-init c = (omega arith, c.requires.2)

pub bounds-row-place_of : goal.bounds-row-place_of
bounds-row-place_of c = let w = (goal.at.bounds-row-place_of c).After-place_of in place_inside w

pub overflow_add-row : goal.overflow_add-row
overflow_add-row c = let w = (goal.at.overflow_add-row c).After-place_of in let l = c.loop-e in
    let h = counting_small c.args.entries.now c.requires.0 l.e-index l.row l.invariant.1 c.place_of.result (place-known w) in omega arith

pub bounds-row-place_of-in-loop-e : goal.bounds-row-place_of-in-loop-e
bounds-row-place_of-in-loop-e c = let w = (goal.at.bounds-row-place_of-in-loop-e c).After-place_of in place_inside w

pub loop-e-smaller : goal.loop-e-smaller
loop-e-smaller c = omega (arith, c.loop-e-test.true)

pub loop-e-preserved : goal.loop-e-preserved
loop-e-preserved c = let w = (goal.at.loop-e-preserved c).After-place_of in let l = c.loop-e in
    let t = c.loop-e-test.true in
    (omega arith, rw (l.invariant.1, place_is w) (sym (counting_next c.args.entries.now c.requires.1 l.e-index t)))

pub shape_of-row : goal.shape_of-row
shape_of-row c = let l = c.loop-e in
    ap length l.invariant.1 ∙ spread-length (take l.e-index (map cost_of c.args.entries.now)) ∙ sym (ap length c.requires.2 ∙ spread-length [])

pub returns : goal.returns
returns c = let l = c.loop-e in let costs = map cost_of c.args.entries.now in
    l.invariant.1 ∙ ap spread (take_all l.e-index costs (rw (length-map c.args.entries.now cost_of) c.loop-e-test.false))
