-- `build_one`: the part of the slice that the pattern's table takes. Assumes nothing.
use Rattle.std.proofs.Common.{◌≡◌, ◌∙◌, arith}
use Rattle.tables.specs.Patterned.{states_at}
use Rattle.tables.proofs.TableChain.{part_back, part_length}
use Rattle.tables.proofs.record_tables.build_one.Goals as goal
use Rattle.tables.proofs.record_tables.build_one.Goals.{After-states}

states-known : (c : After-states) → c.states.result ≡ states_at c.args.record.now c.args.p
states-known c = c.states.ensures ∙ c.of-pattern.ensures.states

pub overflow_add-end : goal.overflow_add-end
overflow_add-end c = let e = states-known (goal.at.overflow_add-end c).After-states in omega (arith, c.requires.1)

pub slice_bounds-build_table-end : goal.slice_bounds-build_table-end
slice_bounds-build_table-end c = let e = states-known (goal.at.slice_bounds-build_table-end c).After-states in omega (arith, c.requires.1)

pub build_table-requires : goal.build_table-requires
build_table-requires c = let e = states-known (goal.at.build_table-requires c).After-states in
    part_length c.args.tables.now c.args.begin c.states.result (omega (arith, c.requires.1)) ∙ c.states.ensures

pub returns : goal.returns
returns c = let e = states-known (goal.at.returns c).After-states in (
  omega arith,
  part_back c.args.tables.now _ _ c.args.begin c.states.result (c.of-pattern.ensures.table_is _ c.build_table.ensures),
)
