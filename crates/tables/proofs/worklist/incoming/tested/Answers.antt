-- `tables::worklist::incoming::tested` meets its contract. Assumes nothing.
use Rattle.std.proofs.Common.{◌+◌, ◌*◌, eqb, arith, rules}
use lib.Bits.{bit_and}
use Rattle.tables.specs.Edges.{edge_mask, edge_value}
use Rattle.tables.proofs.Rowing.{row_tested}
use Rattle.tables.proofs.worklist.incoming.tested.Goals as goal

pub returns : goal.returns
returns c = let a = c.args in row_tested a.edges.now a.word a.k a.c _ _ (omega (arith, c.min-count.ensures)) c.requires.1
    (c.set_of.ensures (λ q. eqb (bit_and a.word (edge_mask a.edges.now (64 * a.c + q))) (edge_value a.edges.now (64 * a.c + q))) (λ q b l p. search rules))
