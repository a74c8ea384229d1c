-- `prepare`: where nothing is refused, the record is sound and its tables have room. Assumes nothing.
use Rattle.std.proofs.Common.{length, sym, ◌∙◌}
use Rattle.tables.proofs.BuiltTables.{buildable_fits, ready_buildable}
use Rattle.tables.proofs.record_tables.prepare.Goals as goal

pub invariant_of-record : goal.invariant_of-record
invariant_of-record c = let a = c.args in (ready_buildable a.rec.now (length a.tables.now) (sym c.check_estimate.ensures.value ∙ c.in_ok-check_estimate.was)).sound

pub build_all-requires : goal.build_all-requires
build_all-requires c = let a = c.args in (buildable_fits (ready_buildable a.rec.now (length a.tables.now) (sym c.check_estimate.ensures.value ∙ c.in_ok-check_estimate.was)), c.compile_record.ensures)
