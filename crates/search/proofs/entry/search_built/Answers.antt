-- `search::entry::search_built` meets its contract: the search of words is the search of the task. Assumes nothing.
use Rattle.std.proofs.Common.{length, ap, ◌∙◌, arith}
use Rattle.task_record.proofs.Sixteens.{zeros}
use Rattle.task_record.proofs.SoundTask.{patterns_right, actions_right}
use Rattle.search.specs.Answer.{answer_of, buffer_of}
use Rattle.search.proofs.RecordSearch.{limit_right, searched, sound_ready, weights_light}
use Rattle.search.proofs.Props.{known}
use Rattle.search.proofs.entry.search_built.Goals as goal

pub fill_blocks-requires : goal.fill_blocks-requires
fill_blocks-requires c = let p = known c.args.built.now.prepared in let b = patterns_right c.args.built.now.rec.now p.sound in omega (arith, b, c.constants_of-constants.ensures.numbers.patterns)

pub fill_affordable-requires : goal.fill_affordable-requires
fill_affordable-requires c = let p = known c.args.built.now.prepared in let r = c.args.built.now.rec.now in let z = c.constants_of-constants.ensures.numbers in
    (rw z.actions (actions_right r p.sound), rw (p.words, z.actions) (weights_light r p.sound), zeros 256)

pub invariant_of-instance : goal.invariant_of-instance
invariant_of-instance c = let p = known c.args.built.now.prepared in let r = c.args.built.now.rec.now in let z = c.constants_of-constants.ensures.numbers in record {
  matching = record {
    ready = rw (p.words, z.actions, z.patterns, z.variables, z.spends) (sound_ready r p.sound _ p.budgeted);
    applying = rw (z.actions, z.variables) p.applying;
    affords = c.fill_affordable.ensures;
    placed = c.fill_blocks.ensures;
    owned = c.constants_of-constants.ensures.owned _ _ c.fill_weights.ensures;
  };
}

pub run_rounds-requires : goal.run_rounds-requires
run_rounds-requires c = omega (arith, limit_right c.args.built.now.rec.now (known c.args.built.now.prepared).sound, c.constants_of-constants.ensures.numbers.limit)

pub returns : goal.returns
returns c = let a = c.args in let b = a.built.now in let p = known b.prepared in let r = b.rec.now in let z = c.constants_of-constants.ensures.numbers in
    let e = searched r p.sound p.small _ _ b.tables.now (rw (← c.constants_of-constants.ensures.offsets) at c.fill_weights.ensures) p.holds p.words z.actions z.patterns z.spends z.limit p.started in
    let w = c.run_rounds.ensures in record {
      answer = w.answer ∙ ap (answer_of (length a.plan.now)) e;
      buffer = w.buffer ∙ ap (buffer_of (length a.plan.now)) e;
    }
