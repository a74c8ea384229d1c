-- `tables::worklist::incoming::edges_into` meets its contract. Assumes nothing.
use Rattle.std.proofs.Common.{◌+◌, ◌<◌, ◌≤◌, sym, ◌∙◌, mul-le-mul, arith}
use Rattle.tables.proofs.Rowing.{filled, row_offsets, row_there}
use Rattle.tables.proofs.worklist.incoming.edges_into.Goals as goal

pub overflow_mul-base : goal.overflow_mul-base
overflow_mul-base c = let p = rw (← c.graph.view_is) at c.requires in let w = c.graph.invariant in let g = row_offsets w.plain w.incoming c.args.j c.args.h c.args.c (filled _ (sym c.is_empty.ensures ∙ c.if-is_empty.false)) p.0 p.1 p.2 in
    let l : c.graph.inside.lower ≤ 64 = w.lower_few in let u : c.graph.inside.upper ≤ 1024 = w.upper_few in let s : c.graph.inside.lower + c.graph.inside.upper ≤ 1088 = omega (arith, l, u) in let m = mul-le-mul s g.3 in record { fits = omega (arith, m) }

pub overflow_mul-result : goal.overflow_mul-result
overflow_mul-result c = let p = rw (← c.graph.view_is) at c.requires in let w = c.graph.invariant in let g = row_offsets w.plain w.incoming c.args.j c.args.h c.args.c (filled _ (sym c.is_empty.ensures ∙ c.if-is_empty.false)) p.0 p.1 p.2 in let f : c.graph.inside.n ≤ 4096 = w.few in let b : c.args.j < c.graph.inside.n = p.0 in record { fits = omega (arith, g.0, b, f) }

pub overflow_sub-result : goal.overflow_sub-result
overflow_sub-result c = let p = rw (← c.graph.view_is) at c.requires in let w = c.graph.invariant in let g = row_offsets w.plain w.incoming c.args.j c.args.h c.args.c (filled _ (sym c.is_empty.ensures ∙ c.if-is_empty.false)) p.0 p.1 p.2 in g.0

pub overflow_add-result : goal.overflow_add-result
overflow_add-result c = let p = rw (← c.graph.view_is) at c.requires in let w = c.graph.invariant in let g = row_offsets w.plain w.incoming c.args.j c.args.h c.args.c (filled _ (sym c.is_empty.ensures ∙ c.if-is_empty.false)) p.0 p.1 p.2 in
    let l : c.graph.inside.lower ≤ 64 = w.lower_few in let u : c.graph.inside.upper ≤ 1024 = w.upper_few in let s : c.graph.inside.lower + c.graph.inside.upper ≤ 1088 = omega (arith, l, u) in let m = mul-le-mul s g.3 in omega (arith, m, g.1, l)

pub offset_bounds-sets-base : goal.offset_bounds-sets-base
offset_bounds-sets-base c = let p = rw (← c.graph.view_is) at c.requires in let w = c.graph.invariant in let g = row_offsets w.plain w.incoming c.args.j c.args.h c.args.c (filled _ (sym c.is_empty.ensures ∙ c.if-is_empty.false)) p.0 p.1 p.2 in
    let l : c.graph.inside.lower ≤ 64 = w.lower_few in let u : c.graph.inside.upper ≤ 1024 = w.upper_few in let s : c.graph.inside.lower + c.graph.inside.upper ≤ 1088 = omega (arith, l, u) in let m = mul-le-mul s g.3 in omega (arith, m, g.1, l)

pub bounds-sets-base : goal.bounds-sets-base
bounds-sets-base c = let p = rw (← c.graph.view_is) at c.requires in let w = c.graph.invariant in let g = row_offsets w.plain w.incoming c.args.j c.args.h c.args.c (filled _ (sym c.is_empty.ensures ∙ c.if-is_empty.false)) p.0 p.1 p.2 in omega (arith, g.1, g.4)

pub overflow_add-result-2 : goal.overflow_add-result-2
overflow_add-result-2 c = let p = rw (← c.graph.view_is) at c.requires in let w = c.graph.invariant in let g = row_offsets w.plain w.incoming c.args.j c.args.h c.args.c (filled _ (sym c.is_empty.ensures ∙ c.if-is_empty.false)) p.0 p.1 p.2 in
    let l : c.graph.inside.lower ≤ 64 = w.lower_few in let u : c.graph.inside.upper ≤ 1024 = w.upper_few in let s : c.graph.inside.lower + c.graph.inside.upper ≤ 1088 = omega (arith, l, u) in let m = mul-le-mul s g.3 in omega (arith, m, l)

pub overflow_add-result-3 : goal.overflow_add-result-3
overflow_add-result-3 c = let p = rw (← c.graph.view_is) at c.requires in let w = c.graph.invariant in let g = row_offsets w.plain w.incoming c.args.j c.args.h c.args.c (filled _ (sym c.is_empty.ensures ∙ c.if-is_empty.false)) p.0 p.1 p.2 in
    let l : c.graph.inside.lower ≤ 64 = w.lower_few in let u : c.graph.inside.upper ≤ 1024 = w.upper_few in let s : c.graph.inside.lower + c.graph.inside.upper ≤ 1088 = omega (arith, l, u) in let m = mul-le-mul s g.3 in omega (arith, m, l, u, g.2)

pub offset_bounds-sets-base-2 : goal.offset_bounds-sets-base-2
offset_bounds-sets-base-2 c = let p = rw (← c.graph.view_is) at c.requires in let w = c.graph.invariant in let g = row_offsets w.plain w.incoming c.args.j c.args.h c.args.c (filled _ (sym c.is_empty.ensures ∙ c.if-is_empty.false)) p.0 p.1 p.2 in
    let l : c.graph.inside.lower ≤ 64 = w.lower_few in let u : c.graph.inside.upper ≤ 1024 = w.upper_few in let s : c.graph.inside.lower + c.graph.inside.upper ≤ 1088 = omega (arith, l, u) in let m = mul-le-mul s g.3 in omega (arith, m, l, u, g.2)

pub bounds-sets-base-2 : goal.bounds-sets-base-2
bounds-sets-base-2 c = let p = rw (← c.graph.view_is) at c.requires in let w = c.graph.invariant in let g = row_offsets w.plain w.incoming c.args.j c.args.h c.args.c (filled _ (sym c.is_empty.ensures ∙ c.if-is_empty.false)) p.0 p.1 p.2 in omega (arith, g.2, g.4)

pub returns : goal.returns
returns c = let p = rw (← c.graph.view_is) at c.requires in let w = c.graph.invariant in
    rw (← c.graph.view_is) (row_there w.plain w.incoming c.args.j c.args.h c.args.c (filled _ (sym c.is_empty.ensures ∙ c.if-is_empty.false)) p.0 p.1 p.2)
