-- `build_checked`: nothing to build without patterns, else the task is compiled for the build. Assumes nothing.
use Rattle.std.proofs.Common.{sym, ◌∙◌}
use Rattle.task_record.proofs.Sixteens.{zeros}
use Rattle.packed_task.specs.Packed.{task_words}
use Rattle.packed_task.proofs.CompiledRecord.{record_cleared}
use Rattle.tables.proofs.TableChain.{none_to_build}
use Rattle.tables.proofs.record_tables.build_checked.Goals as goal

pub returns-then-pattern_count-eq0 : goal.returns-then-pattern_count-eq0
returns-then-pattern_count-eq0 c = let a = c.args in none_to_build a.record.now a.tables.now (sym (rw c.record.view_is at c.pattern_count.ensures) ∙ c.if-pattern_count-eq0.true)

pub build_all-requires : goal.build_all-requires
build_all-requires c = let r = c.args.record.now in (c.requires, c.compile_over.ensures ∙ record_cleared r (rw c.record.view_is at c.record.invariant) _ (λ i k l. zeros task_words i))
