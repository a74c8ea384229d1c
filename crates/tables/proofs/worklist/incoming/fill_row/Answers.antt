-- `tables::worklist::incoming::fill_row` meets its contract. Assumes nothing.
use Rattle.std.proofs.Common.{true, arith, rules}
use Rattle.task_record.proofs.Sixteens.{zeros}
use Rattle.tables.proofs.Rowing.{row_made}
use Rattle.tables.proofs.worklist.incoming.fill_row.Goals as goal

pub enter_edges-requires : goal.enter_edges-requires
enter_edges-requires c = let p = c.requires in (p.0, p.1, p.2, zeros 272)

pub returns : goal.returns
returns c = row_made c.enter_edges.ensures (c.set_of.ensures (λ q. true) (λ q b l p. search rules)) (omega (arith, c.fill_part.auto.sets, c.split_at_mut-lows.ensures.front_len)) (omega (arith, c.fill_part-2.auto.sets, c.split_at_mut-lows.ensures.back_len, c.requires.5)) c.fill_part.ensures c.fill_part-2.ensures
