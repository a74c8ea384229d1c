-- `settle_by`: the goals wait, and then the loop over waiting states. Assumes nothing.
use Rattle.std.proofs.Common.{length, sym, ap, ◌∙◌, arith}
use Rattle.tables.specs.Steps.{started}
use Rattle.tables.proofs.Starting.{start_kept}
use Rattle.tables.proofs.worklist.settle.settle_by.Goals as goal

pub run-requires : goal.run-requires
run-requires g c = let p = rw (← c.graph.view_is) at c.requires in let s = c.args.states.now in
    rw (← c.graph.view_is) (
      omega (arith, p.5, p.7),
      (
        start_kept _ _ _ _ _ c.graph.invariant.readable.outcomes_some (c.put_goals.ensures.started s.words.now s.listed.words_are ∙ ap (λ x. started x.task x.mask x.states (length c.args.entries.now)) (sym p.0)) c.put_goals.ensures.held.wait,
        p.8,
      ),
    )
