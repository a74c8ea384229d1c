-- `spread`: what is counted where nothing is refused, and what is then said in numbers. Assumes nothing.
use Rattle.std.proofs.Common.{length, sym, ap, ◌∙◌, length-take-le, Ok}
use Rattle.planning.specs.Spread.{row_size}
use Rattle.tables.specs.Answers.{spread_numbers}
use Rattle.tables.proofs.BuiltTables.{buildable_fits, fits_buildable}
use Rattle.tables.proofs.Spreading.{built_again, spread_told, counted_states}
use Rattle.tables.proofs.spread.spread.Goals as goal

pub invariant_of-record : goal.invariant_of-record
invariant_of-record c = let a = c.args in (fits_buildable a.rec.now (length a.tables.now) _ (sym c.check_tables.ensures.value ∙ c.in_ok-check_tables.was)).sound

pub build_checked-requires : goal.build_checked-requires
build_checked-requires c = let a = c.args in buildable_fits (fits_buildable a.rec.now (length a.tables.now) _ (sym c.check_tables.ensures.value ∙ c.in_ok-check_tables.was))

pub count_pattern-requires : goal.count_pattern-requires
unfolding row_size
count_pattern-requires c = let a = c.args in
    let b = buildable_fits (fits_buildable a.rec.now (length a.tables.now) _ (sym c.check_tables.ensures.value ∙ c.in_ok-check_tables.was)) in
    let k = built_again a.rec.now a.tables.now _ b c.build_checked.ensures in (k.0, k.1, length-take-le row_size a.row.now c.if-row-lt-ROW.false)

pub returns-clause-numbers : goal.returns-clause-numbers
unfolding row_size
returns-clause-numbers c = let a = c.args in
    ap spread_numbers (ap Ok c.count_pattern.ensures.0 ∙ counted_states a.rec.now a.pattern (length a.tables.now) (length a.row.now) _ (sym c.check_tables.ensures.value ∙ c.in_ok-check_tables.was) c.if-row-lt-ROW.false)
    ∙ sym (spread_told a.rec.now a.pattern (length a.tables.now) (length a.row.now))
