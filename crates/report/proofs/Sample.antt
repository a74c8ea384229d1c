-- The examples of document 01 from the text to the printed bytes, by computation. A record that was read is sound, so its cells need not be
-- checked again. Assumes nothing.
use mathlib.Core.Path.{◌≡◌, refl, ap, ◌∙◌}
use mathlib.Core.List.{List, map}
use Prim.Native.Nat.{ℕ}
use Rattle.planning.specs.Finite.{choose, tabulate, chain}
use Rattle.planning.specs.Extended.{max∞, min∞, add∞, infinite_from}
use Rattle.planning.specs.System.{applies, bellman}
use Rattle.planning.specs.Numbers.{refusal}
use Rattle.planning.specs.Plan.{encode}
use Rattle.planning.specs.Task.{meets, apply, permits, system}
use Rattle.planning.specs.Pattern.{keep, mask_action, abstraction, counted, affects, affects_pattern, affected_from, judge, verdict_from, verdict}
use Rattle.planning.specs.Table.{index_from, index, state_count, state_at, entry_at, largest_weight, table_round, table_after, rounds_enough, weighted_table, table, estimate}
use Rattle.planning.specs.Search.{and_then, or_else, examine_outcomes, try_actions, try_action, examine, examine_with, examination, end_round, rounds, search_from, search, answer, plan_bytes}
use Rattle.reader.specs.Bytes.{bytes}
use Rattle.reader.specs.Text.{index_of, lines_of, pieces, has_key, digits, value, well_formed, number_of}
use Rattle.reader.specs.Lists.{pair_of, item_of, pair_fits, pair_step, list_from, listed, no_items, list_of}
use Rattle.reader.specs.Grammar.{Whole, complete, refused, next_due, take_number, budget_bytes, take_budget, take_list, number_line, budget_line, list_line, take_due, take_line, read_from, unused_action, unused_actions, blank, read_whole}
use Rattle.task_record.specs.Numbers.{budget_of}
use Rattle.task_record.specs.Record.{Sound}
use Rattle.task_record.specs.Refusals.{after}
use Rattle.task_record.specs.TaskOf.{action_of, task_of, patterns_of, start_of}
use Rattle.reader.proofs.ReadSound.{read_sound}
use Rattle.patterns.specs.Additivity.{additivity_of}
use Rattle.patterns.specs.Estimate.{judge_estimate}
use Rattle.patterns.specs.Space.{first_large, entries_needed, judge_tables}
use Rattle.tables.specs.Sample.{tower}
use Rattle.search.specs.Entry.{task_answer, search_of, search_answer}
use Rattle.report.specs.Decimal.{digits_of, decimal}
use Rattle.report.specs.Lines as printing
use Rattle.report.specs.Report.{refusal_lines, refused_lines, value_line, found_lines, spent_lines, over_lines, none_lines, answer_lines, record_lines, printed}
use Rattle.report.specs.Report as report
use Rattle.report.specs.Samples.{table_entries, plan_size, Sample, samples}

-- The lines of a record that is known to be sound.
unfoldable sound_lines : ℕ → ℕ → Whole → List ℕ
sound_lines lent n (complete r) = answer_lines (estimate (task_of r) (patterns_of r) (start_of r)) (plan_bytes (task_answer r)) (after (judge_estimate r lent) (λ ready. search_of n (task_answer r)))
sound_lines lent n (refused e) = refused_lines e

whole_sound : (lent n : ℕ) (text : List ℕ) (w : Whole) → read_whole text ≡ w → report.lines_of lent n w ≡ sound_lines lent n w
unfolding report.lines_of record_lines sound_lines search_answer Sound
whole_sound lent n text (complete r) e = rw (read_sound text r e)
whole_sound lent n text (refused x) e = refl

printed_sound : (lent n : ℕ) (text : List ℕ) → printed lent n text ≡ sound_lines lent n (read_whole text)
unfolding printed
printed_sound lent n text = whole_sound lent n text (read_whole text) refl

computed : map (λ s. sound_lines table_entries plan_size (read_whole s.text)) samples ≡ map (λ s. s.lines) samples
unfolding choose tabulate chain max∞ min∞ add∞ infinite_from applies bellman encode meets apply permits system keep mask_action abstraction counted affects affects_pattern affected_from judge verdict_from verdict index_from index state_count state_at entry_at largest_weight table_round table_after rounds_enough weighted_table table estimate and_then or_else examine_outcomes try_actions try_action examine examine_with examination end_round rounds search_from search answer plan_bytes bytes index_of lines_of pieces has_key digits value well_formed number_of pair_of item_of pair_fits pair_step list_from listed no_items list_of next_due take_number budget_bytes take_budget take_list number_line budget_line list_line take_due take_line read_from unused_action unused_actions blank read_whole budget_of action_of task_of patterns_of start_of additivity_of judge_estimate first_large entries_needed judge_tables task_answer search_of digits_of decimal printing.line printing.number_line printing.comma_before printing.comma_list printing.plan_line refusal_lines refused_lines value_line found_lines spent_lines over_lines none_lines answer_lines tower samples sound_lines refusal
computed = refl

pub samples_print : map (λ s. printed table_entries plan_size s.text) samples ≡ map (λ s. s.lines) samples
samples_print = ap (λ (f : Sample → List ℕ). map f samples) (λ i s. printed_sound table_entries plan_size s.text i) ∙ computed
