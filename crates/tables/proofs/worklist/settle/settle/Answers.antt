-- `settle`: edges, sets, the start, and the loop over waiting states. Assumes nothing.
use Rattle.std.proofs.Common.{sym, arith, rules}
use Rattle.tables.proofs.Rounds.{rows_as}
use Rattle.tables.proofs.Standing.{weights_short, parted_as}
use Rattle.tables.proofs.worklist.settle.settle.Goals as goal

pub nonzero_div-upper : goal.nonzero_div-upper
nonzero_div-upper g c = omega (arith, c.requires.1.lower_some)

pub fill_edges-k-requires : goal.fill_edges-k-requires
fill_edges-k-requires g c = let r = c.requires.2 in (r.few, r.edges_room)

pub overflow_sub-halves : goal.overflow_sub-halves
overflow_sub-halves g c = let p = rw (← c.pattern.view_is) at c.requires in omega (arith, p.1.inside)

pub fill_sets-requires : goal.fill_sets-requires
fill_sets-requires g c = let p = rw (← c.pattern.view_is) at c.requires in let l = rw (← c.pattern.view_is) at c.args.states.now.listed in let e = rw (← c.pattern.view_is) at c.fill_edges-k.ensures in let s = p.1 in (
  e.1,
  record { parted = rw p.0 (parted_as (sym s.whole) (s.parted _ l.words_are)); long = rw p.0 (rw s.whole l.long); upper_few = rw p.0 (omega (arith, s.upper_few, c.pattern.invariant.bounded.states_few)) },
  rw p.0 (λ some d b. p.2.sets_room.rows some _ d s.lower_some s.lower_few s.upper_few (omega (arith, b, e.2))),
)

pub nonzero_div-graph : goal.nonzero_div-graph
nonzero_div-graph g c = omega (arith, c.requires.1.lower_some)

pub invariant_of-graph : goal.invariant_of-graph
invariant_of-graph g c = let p = rw (← c.pattern.view_is) at c.requires in let l = rw (← c.pattern.view_is) at c.args.states.now.listed in let e = rw (← c.pattern.view_is) at c.fill_edges-k.ensures in let i = c.pattern.invariant in let s = p.1 in
    record {
      readable = i.readable;
      edges_of = rw p.0 e.0;
      room = rw p.0 l.long;
      few = rw p.0 i.bounded.states_few;
      weights_few = weights_short _ _ _ _ i.bounded.variables_few l.weights_are;
      plain = e.1;
      incoming = rows_as (rw p.0 s.whole) c.fill_sets.ensures;
      lower_few = s.lower_few;
      upper_few = rw p.0 (omega (arith, s.upper_few, i.bounded.states_few));
      inverse_few = search rules;
    }

pub returns : goal.returns
returns g c = rw (← c.pattern.view_is) c.settle_started.ensures
