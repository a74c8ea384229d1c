-- `build_tables`: where the test of the room refuses nothing the record is sound, and there is room. Assumes nothing.
use Rattle.std.proofs.Common.{length, sym, ◌∙◌}
use Rattle.tables.proofs.BuiltTables.{buildable_fits, fits_buildable}
use Rattle.tables.proofs.record_tables.build_tables.Goals as goal

pub invariant_of-record : goal.invariant_of-record
invariant_of-record c = let a = c.args in (fits_buildable a.rec.now (length a.tables.now) _ (sym c.check_tables.ensures.value ∙ c.in_ok-entries.was)).sound

pub build_checked-requires : goal.build_checked-requires
build_checked-requires c = let a = c.args in buildable_fits (fits_buildable a.rec.now (length a.tables.now) _ (sym c.check_tables.ensures.value ∙ c.in_ok-entries.was))
