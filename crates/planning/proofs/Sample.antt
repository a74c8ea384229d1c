-- The starred examples of document 01 hold of the definitions, and the sample's search examines what is listed, by computation. Assumes
-- nothing.
use mathlib.Core.Path.{◌≡◌, refl}
use mathlib.Core.List.{[], map}
use lib.ListN.{take}
use Rattle.planning.specs.Finite.{choose, tabulate, chain}
use Rattle.planning.specs.Extended.{max∞, min∞, add∞, infinite_from}
use Rattle.planning.specs.System.{applies, bellman}
use Rattle.planning.specs.Plan.{encode}
use Rattle.planning.specs.Task.{meets, apply, permits, system}
use Rattle.planning.specs.Pattern.{keep, mask_action, abstraction, counted, affects, affects_pattern, affected_from, judge, verdict_from, verdict}
use Rattle.planning.specs.Table.{index_from, index, state_count, state_at, entry_at, largest_weight, table_round, table_after, rounds_enough, weighted_table, table, entry_of, tables, estimate}
use Rattle.planning.specs.Search.{and_then, or_else, examine_outcomes, try_actions, try_action, examine, examine_with, examination, end_round, rounds, search_from, search, answer}
use Rattle.planning.specs.Examinations.{after_success, after_failure, outcomes_examined, actions_examined, action_examined, state_examined, examined_with, examined, rounds_examined, search_examined_from, search_examined, examinations}
use Rattle.planning.specs.PlanCheck.{demand, check_byte, check_bytes, check_plan}
use Rattle.planning.specs.Sample.{tower, sample, slipping, coupled, costly, sample_patterns, sample_start, answer_reply, search_reply, check_reply, reply_to, starred, sample_examinations, blind_examinations}

pub starred_examples : map (λ e. reply_to e.question) starred ≡ map (λ e. e.expected) starred
unfolding choose tabulate chain max∞ min∞ add∞ infinite_from applies bellman encode meets apply permits system keep mask_action abstraction counted affects affects_pattern affected_from judge verdict_from verdict index_from index state_count state_at entry_at largest_weight table_round table_after rounds_enough weighted_table table entry_of tables estimate and_then or_else examine_outcomes try_actions try_action examine examine_with examination end_round rounds search_from search answer demand check_byte check_bytes check_plan tower sample slipping coupled costly sample_patterns sample_start answer_reply search_reply check_reply reply_to starred
starred_examples = refl

-- The examinations of the sample's search; with budget 6 the first six; without patterns and with limit 1 those of two rounds that fail.
pub sample-examined : (examinations sample sample_patterns 100 32 sample_start ≡ sample_examinations) × (examinations sample sample_patterns 6 32 sample_start ≡ take 6 sample_examinations) × (examinations sample [] 100 1 sample_start ≡ blind_examinations)
unfolding choose tabulate chain max∞ min∞ add∞ infinite_from applies bellman meets apply permits system keep mask_action abstraction index_from index state_count state_at entry_at largest_weight table_round table_after rounds_enough weighted_table table estimate and_then or_else examine_outcomes try_actions try_action examine examine_with examination tower sample sample_patterns sample_start after_success after_failure outcomes_examined actions_examined action_examined state_examined examined_with examined rounds_examined search_examined_from search_examined examinations sample_examinations blind_examinations
sample-examined = (refl, refl, refl)
