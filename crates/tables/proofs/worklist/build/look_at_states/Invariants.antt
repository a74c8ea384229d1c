-- `look_at_states`: the states passed have 0 at the goals, and are infinite elsewhere. Assumes nothing.
use Rattle.std.proofs.Common.{◌≡◌, ℕ, ◌<◌, cond, bit_and, ◌==◌, length, get_or}
use Rattle.planning.specs.Table.{infinite_entry}
use Rattle.tables.proofs.worklist.build.look_at_states.Given as goal

abbrev pub invariant-loop-i : goal.invariant-loop-i
invariant-loop-i g l = (length l.entries ≡ length l.initial.entries) × ((j : ℕ) → j < l.i → get_or l.entries j 0 ≡ cond (bit_and (get_or l.words j 0) l.need == l.value) 0 infinite_entry)
