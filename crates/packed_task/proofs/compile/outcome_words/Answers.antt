-- `outcome_words`: an outcome that is there, and one that is not. Assumes nothing.
use Rattle.std.proofs.Common.{◌≡◌, length, refl, ap, ap₂, ◌∙◌, arith, le-ltb, lt-ltb}
use Rattle.planning.specs.Pattern.{counted}
use Rattle.planning.proofs.Pattern.{length_counted}
use Rattle.task_record.specs.Layout.{at_precondition, at_outcome}
use Rattle.task_record.specs.Numbers.{outcome_count}
use Rattle.task_record.specs.TaskOf.{cells_at}
use Rattle.task_record.proofs.SoundTask.{length_of_part}
use Rattle.packed_task.specs.Packed.{pack_by, leaving, setting}
use Rattle.packed_task.specs.Compiling.{outcome_word}
use Rattle.packed_task.proofs.compile.outcome_words.Goals as goal

pub counted_cells-requires : goal.counted_cells-requires
counted_cells-requires c = let a = c.args in (c.requires.1, rw c.outcome_cells.ensures (length_of_part a.rec.now 16 (at_outcome a.m a.k) c.requires.2))

pub words_of-requires : goal.words_of-requires
words_of-requires c = let a = c.args in let n = length_counted a.need.now c.outcome_cells.result.now in
    let w : length c.outcome_cells.result.now ≡ 16 = rw c.outcome_cells.ensures (length_of_part a.rec.now 16 (at_outcome a.m a.k) c.requires.2) in
    rw c.counted_cells.ensures (omega (arith, n, w))

pub returns-then-k-outcome_count : goal.returns-then-k-outcome_count
unfolding outcome_word
returns-then-k-outcome_count c = let a = c.args in
    let e : c.counted_cells.result ≡ counted (cells_at a.rec.now (at_precondition a.m)) (cells_at a.rec.now (at_outcome a.m a.k)) =
    c.counted_cells.ensures ∙ ap₂ counted c.requires.0 c.outcome_cells.ensures in
    rw (lt-ltb a.k (outcome_count a.rec.now a.m) (rw c.outcome_count.ensures at c.if-k-outcome_count.true))
    (c.words_of.ensures.0 ∙ ap (pack_by leaving) e, c.words_of.ensures.1 ∙ ap (pack_by setting) e)

pub returns : goal.returns
unfolding outcome_word
returns c = let a = c.args in
    rw (le-ltb a.k (outcome_count a.rec.now a.m) (rw c.outcome_count.ensures at c.if-k-outcome_count.false)) (refl, refl)
