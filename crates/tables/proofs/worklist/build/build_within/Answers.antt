-- `build_within`: what was settled is the table of the pattern. Assumes nothing.
use Rattle.std.proofs.Common.{ℕ, ap, arith, rules}
use lib.ListN.{length-replicate}
use Rattle.tables.specs.Steps.{started}
use Rattle.tables.proofs.Building.{parts_settled}
use Rattle.tables.proofs.worklist.build.build_within.Goals as goal

pub invariant_of-listed : goal.invariant_of-listed
invariant_of-listed g c = record { listed = record { weights_are = c.weights_of-weights.ensures; words_are = c.fill_states.ensures; long = search rules } }

pub settle-requires : goal.settle-requires
settle-requires g c = let p = c.requires in let r = p.1 in (
  p.0,
  c.parts_of-parts.ensures.split,
  record {
    few = omega (arith, r.edges_room, r.edges_few);
    edges_room = search rules;
    sets_room = record { rows = rw (length-replicate {A = ℕ} g.row.SETS 0) (λ some lower d l f u b. r.sets_room.rows some lower d l f u (omega (arith, b, r.edges_room))) };
  },
  omega (arith, p.0, r.states_room),
  r.states_some,
  r.states_few,
)

pub returns : goal.returns
returns g c = let i = c.args.pattern.now in
    parts_settled i.task i.actions i.variables i.mask i.sizes i.picked c.weights_of-weights.result _ _ c.parts_of-parts.ensures.masked c.weights_of-weights.ensures c.fill_states.ensures _ (ap (started i.task i.mask _) c.requires.0) c.settle.ensures
