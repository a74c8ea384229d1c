-- The starred examples of document 01 that speak of tables, of the calls themselves: the record that the reader leaves for the sample's text, and
-- what a build of it answers and leaves, in any lent record and tables that have room. Assumes nothing.
use Rattle.std.proofs.Common.{◌≡◌, ℕ, ◌≤◌, List, [], ◌∷◌, ◌++◌, map, length, drop, refl, ap, ◌∙◌, arith, le-ltb, Result, Ok, Err}
use Rattle.planning.specs.Finite.{All, choose, tabulate, chain}
use Rattle.planning.specs.Extended.{max∞, min∞, add∞, infinite_from}
use Rattle.planning.specs.System.{applies, bellman}
use Rattle.planning.specs.Task.{meets, apply, permits, system}
use Rattle.planning.specs.Pattern.{keep, mask_action, abstraction}
use Rattle.planning.specs.Table.{index_from, index, state_count, state_at, entry_at, largest_weight, table_round, table_after, rounds_enough, weighted_table, table, tables, entry_of, Small}
use Rattle.task_record.specs.Layout.{record_size}
use Rattle.task_record.specs.TaskOf.{action_of, task_of, patterns_of}
use Rattle.reader.specs.Bytes.{bytes}
use Rattle.reader.specs.Text.{index_of, lines_of, pieces, has_key, digits, value, well_formed, number_of}
use Rattle.reader.specs.Lists.{pair_of, item_of, pair_fits, pair_step, list_from, listed, no_items, list_of}
use Rattle.reader.specs.Grammar.{Whole, complete, refused, next_due, take_number, budget_bytes, take_budget, take_list, number_line, budget_line, list_line, take_due, take_line, read_from, unused_action, unused_actions, blank, read_whole, read_answer, read_leaves}
use Rattle.reader.proofs.ReadSound.{record_left_sound}
use Rattle.reader.proofs.TaskLeft.{task_left, patterns_left}
use Rattle.patterns.specs.Space.{first_large, entries_needed, judge_tables}
use Rattle.task_record.specs.declared.refusal.Refusal.{Refusal}
use Rattle.patterns.proofs.Room.{fits_small, fits_room}
use Rattle.tables.specs.RecordTables.{table_build, tables_built}
use Rattle.tables.specs.Sample.{tower, Sample, samples}
use Rattle.tables.proofs.BuiltTables.{buildable_built}
use Rattle.tables.proofs.FromText.{tables_of_text}

-- What a text says of its tables: whether six entries hold them, and the entries.
record Answer : Type 0 where
  check : Result ℕ Refusal
  entries : List ℕ

unfoldable answer_of : Whole → Answer
answer_of (complete r) = record { check = judge_tables (task_of r).sizes (patterns_of r) 6; entries = tables (task_of r) (patterns_of r) }
answer_of (refused fault) = record { check = Err fault; entries = [] }

abbrev six : List ℕ → Answer
six entries = record { check = Ok 6; entries = entries }

computed : map (λ s. answer_of (read_whole s.text)) samples ≡ map (λ s. six s.entries) samples
unfolding choose tabulate chain max∞ min∞ add∞ infinite_from applies bellman meets apply permits system keep mask_action abstraction index_from index state_count state_at entry_at largest_weight table_round table_after rounds_enough weighted_table table tables entry_of bytes index_of lines_of pieces has_key digits value well_formed number_of pair_of item_of pair_fits pair_step list_from listed no_items list_of next_due take_number budget_bytes take_budget take_list number_line budget_line list_line take_due take_line read_from unused_action unused_actions blank read_whole action_of task_of patterns_of first_large entries_needed judge_tables tower samples answer_of
computed = refl

module _ (record₀ tabs : List ℕ) (whole : record_size ≤ length record₀) (room : 6 ≤ length tabs) where
  -- The build answers six entries, leaves these, and what was lent after them.
  abbrev pub Builds : List ℕ → List ℕ → Type 0
  Builds text entries = (table_build (read_leaves text record₀) (length tabs) ≡ Ok 6) ×
      (tables_built (read_leaves text record₀) tabs ≡ entries ++ drop 6 tabs)

  text_builds : (text entries : List ℕ) (w : Whole) → read_whole text ≡ w → answer_of w ≡ six entries → Builds text entries
  unfolding answer_of read_answer Small
  text_builds text entries (refused fault) says h = let e = ap (λ (x : Answer). x.check) h in let z : ◌≡◌ {A = ℕ} 0 1 = cc in absurd (omega arith)
  text_builds text entries (complete r) says h =
      let left = read_leaves text record₀ in
      let read : read_answer text record₀ ≡ Ok tt = rw (le-ltb (length record₀) record_size whole, says) in
      let t = task_left text record₀ read r says in let p = patterns_left text record₀ read r says in
      let fits : judge_tables (task_of left).sizes (patterns_of left) 6 ≡ Ok 6 = rw (t, p) (ap (λ (x : Answer). x.check) h) in
      let k = fits_room (task_of left).sizes (patterns_of left) 6 6 fits in
      let built : table_build left (length tabs) ≡ Ok 6 = buildable_built left (length tabs) (record {
        sound = record_left_sound text record₀ read;
        small = fits_small (task_of left).sizes (patterns_of left) 6 6 fits;
        room = omega (arith, k.0);
      }) ∙ ap Ok k.0 in
      (built, tables_of_text text record₀ tabs read r 6 says built ∙ ap (λ e. e ++ drop 6 tabs) (ap (λ (x : Answer). x.entries) h))

  each_builds : (ss : List Sample) → map (λ s. answer_of (read_whole s.text)) ss ≡ map (λ s. six s.entries) ss → All (λ s. Builds s.text s.entries) ss
  each_builds [] h = tt
  each_builds (s ∷ ss) h = (text_builds s.text s.entries (read_whole s.text) refl cc, each_builds ss cc)

  pub samples_build : All (λ s. Builds s.text s.entries) samples
  samples_build = each_builds samples computed
