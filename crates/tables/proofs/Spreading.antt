-- Laws of counting the entries of one pattern among built tables: where they stand, and that they read back as its costs. Assumes nothing.
use Rattle.std.proofs.Common.{◌≡◌, ℕ, zero, suc, ◌+◌, ◌<◌, ◌≤◌, min, cond, eqb, ltb, List, [], ◌∷◌, ◌++◌, map, length, get_or, take, drop, replicate, sym, refl, ap, ◌∙◌, add-one, arith, length-take, drop_at, le-ltb, lt-ltb, eqb-true, Result, Ok, Err}
use lib.ListN.{length-map}
use Rattle.planning.specs.Extended.{ℕ∞, fin, inf}
use Rattle.planning.specs.Table.{state_count, table, tables, entry_of, cost_of, EntriesBelow, Small, most_cost, infinite_entry}
use Rattle.planning.specs.Spread.{row_size, spread, place_of}
use Rattle.planning.proofs.Test.{by_test}
use Rattle.planning.proofs.Finite.{all_at, get_or_map}
use Rattle.planning.proofs.Table.{light_entries_bounded, cost_of_entry}
use Rattle.planning.proofs.Spread.{place_inside, counts_few, raised_at, spread_of_none, spread_next}
use Rattle.task_record.specs.Numbers.{pattern_count}
use Rattle.task_record.specs.TaskOf.{task_of, patterns_of}
use Rattle.task_record.specs.Answers.{short_record, bad_cell}
use Rattle.task_record.specs.Refusals.{answer_numbers, after}
use Rattle.task_record.specs.declared.refusal.Refusal.{Refusal}
use Rattle.task_record.specs.declared.refusal.Refusal.TheVariants.{ShortRow}
use Rattle.task_record.proofs.ByLines.{line-told, after_record_lem, after_after, told_alone}
use Rattle.planning.specs.Numbers.{answered, refused_if}
use Rattle.task_record.specs.Record.{record_check, Sound}
use Rattle.patterns.specs.Answers.{large_pattern, short_tables}
use Rattle.patterns.specs.Space.{entries_needed, judge_tables, table_check}
use Rattle.patterns.proofs.Built.{built_length, light_weights}
use Rattle.patterns.proofs.ByLines.{after_tables_lem}
use Rattle.patterns.proofs.Reading.{patterns_length}
use Rattle.tables.specs.Answers.{spread_numbers, short_row, spread_by_lines}
use Rattle.tables.specs.RecordTables.{Fits, built_over}
use Rattle.tables.specs.Spread.{costs_named, states_named, table_spread}
use Rattle.tables.proofs.TableChain.{entries-length}
use Rattle.tables.proofs.BuiltTables.{built_over-length, chained_table}

-- A row that is cleared counts nothing.
pub cleared : (row new : List ℕ) → length row ≡ row_size → new ≡ replicate (length row) 0 → new ≡ spread []
cleared row new l h = h ∙ ap (λ n. replicate {A = ℕ} n 0) l ∙ sym spread_of_none

-- A row that counts the first i entries of a table.
pub counting_small : (entries : List ℕ) → length entries ≤ 4096 → (i : ℕ) (row : List ℕ) → row ≡ spread (take i (map cost_of entries)) → (k : ℕ) → k < row_size → get_or row k 0 ≤ 4096
counting_small entries few i row e k l = let h = counts_few (take i (map cost_of entries)) k l in
    let m = length-take i (map cost_of entries) in let n = length-map entries cost_of in rw e (omega arith)

entry_place : (e : ℕ) → ((k : ℕ) → cost_of e ≡ fin k → k < suc most_cost) → min e (suc most_cost) ≡ place_of (cost_of e)
unfolding cost_of place_of
entry_place e h = by_test (eqb e infinite_entry)
    (λ t. rw (eqb-true e infinite_entry t))
    (λ t. let l = h e (rw t) in rw t (omega arith))

module _ (entries : List ℕ) (bounded : EntriesBelow (suc most_cost) (map cost_of entries)) (i : ℕ) (l : i < length entries) where
  entry_cost : get_or (map cost_of entries) i inf ≡ cost_of (get_or entries i 0)
  entry_cost = get_or_map cost_of entries i 0 inf l

  inside : i < length (map cost_of entries)
  inside = rw (length-map entries cost_of) l

  pub place_in_row : place_of (cost_of (get_or entries i 0)) < row_size
  place_in_row = rw entry_cost at (place_inside (get_or (map cost_of entries) i inf) (bounded i))

  pub cut_place : min (get_or entries i 0) (suc most_cost) ≡ place_of (cost_of (get_or entries i 0))
  cut_place = entry_place (get_or entries i 0) (λ k e. bounded i k (entry_cost ∙ e))

  pub counting_next : spread (take (i + 1) (map cost_of entries)) ≡ raised_at (spread (take i (map cost_of entries))) (place_of (cost_of (get_or entries i 0)))
  counting_next = rw (add-one i, ← entry_cost) (spread_next (map cost_of entries) bounded i inside)

-- Built tables have room for the tables, and stay as they are when they are built again.
pub built_again : (r tabs new : List ℕ) → Fits r (length tabs) → new ≡ built_over r tabs → Fits r (length new) × (new ≡ built_over r new)
unfolding built_over
built_again r tabs new b e = let t = task_of r in let n = entries_needed t.sizes (patterns_of r) in
    rw e (rw (built_over-length r tabs b) b, ap (λ rest. tables t (patterns_of r) ++ rest) (sym (drop_at (tables t (patterns_of r)) (drop n tabs) n (built_length t (patterns_of r)))))

-- The entries of the patterns before number k.
module _ (zs : List ℕ) where
  pub needed_next : (ps : List (List ℕ)) (k : ℕ) → k < length ps → entries_needed zs (take (k + 1) ps) ≡ entries_needed zs (take k ps) + state_count zs (get_or ps k [])
  unfolding entries_needed
  needed_next [] k l = absurd (omega arith)
  needed_next (p ∷ ps) zero l = omega arith
  needed_next (p ∷ ps) (suc k) l = let e : suc k + 1 ≡ suc (k + 1) = omega arith in rw e (let h = needed_next ps k (omega arith) in omega arith)

  pub needed_within : (ps : List (List ℕ)) (k : ℕ) → entries_needed zs (take k ps) ≤ entries_needed zs ps
  unfolding entries_needed
  needed_within [] zero = omega arith
  needed_within [] (suc k) = omega arith
  needed_within (p ∷ ps) zero = omega arith
  needed_within (p ∷ ps) (suc k) = let h = needed_within ps k in omega arith

-- Entries of 32 bits read back as the costs that they are made of.
read_back : (tab : List ℕ∞) → EntriesBelow (suc most_cost) tab → map cost_of (map entry_of tab) ≡ tab
read_back [] b = refl
read_back (c ∷ tab) b = rw (cost_of_entry c (λ k e. let h = b 0 k e in omega arith), read_back tab (λ i k e. b (suc i) k e))

-- The pattern of a number below P: its part of the tables, and what counting it gives.
module _ (r tabs : List ℕ) (sound : Sound r) (b : Fits r (length tabs)) (built : tabs ≡ built_over r tabs) (p : ℕ) (l : p < pattern_count r) where
  abbrev pattern : List ℕ
  pattern = get_or (patterns_of r) p []

  abbrev begin : ℕ
  begin = entries_needed (task_of r).sizes (take p (patterns_of r))

  below : p < length (patterns_of r)
  below = rw (patterns_length r) l

  pub states_of_pattern : entries_needed (task_of r).sizes (take (p + 1) (patterns_of r)) ≡ begin + state_count (task_of r).sizes pattern
  states_of_pattern = needed_next (task_of r).sizes (patterns_of r) p below

  pub pattern_ends : entries_needed (task_of r).sizes (take (p + 1) (patterns_of r)) ≤ length tabs
  pattern_ends = let h = needed_within (task_of r).sizes (patterns_of r) (p + 1) in omega (arith, b.room)

  few : state_count (task_of r).sizes pattern ≤ 4096
  unfolding Small
  few = all_at (λ q. state_count (task_of r).sizes q ≤ 4096) (patterns_of r) [] b.small p below

  part : take (state_count (task_of r).sizes pattern) (drop begin tabs) ≡ map entry_of (table (task_of r) pattern)
  unfolding built_over
  part = rw built (chained_table (task_of r) (patterns_of r) (drop (entries_needed (task_of r).sizes (patterns_of r)) tabs) p below)

  bounded : EntriesBelow (suc most_cost) (table (task_of r) pattern)
  bounded = light_entries_bounded (task_of r) (light_weights r sound) pattern few

  -- What `count_entries` asks of the part, and what it then counts.
  module _ (entries : List ℕ) (is : entries ≡ take (state_count (task_of r).sizes pattern) (drop begin tabs)) where
    pub part_costs : map cost_of entries ≡ costs_named r p
    unfolding costs_named
    part_costs = rw (is, part, lt-ltb p (pattern_count r) l) (read_back (table (task_of r) pattern) bounded)

    pub part_few : length entries ≤ 4096
    part_few = rw (is, part, entries-length (task_of r) pattern) few

    pub part_bounded : EntriesBelow (suc most_cost) (map cost_of entries)
    part_bounded = rw (is, part, read_back (table (task_of r) pattern) bounded) bounded

  pub states_named_lem : states_named r p ≡ state_count (task_of r).sizes pattern
  unfolding states_named
  states_named_lem = rw (lt-ltb p (pattern_count r) l)

-- A number that names no pattern.
module _ (r : List ℕ) (p : ℕ) (l : pattern_count r ≤ p) where
  pub none_named : costs_named r p ≡ []
  unfolding costs_named
  none_named = rw (le-ltb p (pattern_count r) l)

  pub no_states : states_named r p ≡ 0
  unfolding states_named
  no_states = rw (le-ltb p (pattern_count r) l)

-- What the call says in numbers.
pub spread_told : (r : List ℕ) (p lent row : ℕ) → spread_by_lines r p lent row ≡ spread_numbers (table_spread r p lent row)
unfolding spread_by_lines short_row refused_if
spread_told r p lent row = let f = (λ (n : ℕ). answered 0 n 0 0) in let tables = judge_tables (task_of r).sizes (patterns_of r) lent in
    let judged : Result ℕ Refusal = cond (ltb row row_size) (Err (ShortRow row)) (Ok (states_named r p)) in
    sym (ap (answer_numbers f) (after_after (record_check r) (λ u. tables) (λ n. judged))
    ∙ after_record_lem f r (λ u. after tables (λ n. judged))
    ∙ ap (λ t. short_record r (bad_cell r t)) (after_tables_lem f r lent (λ n. judged)
    ∙ ap (λ t. large_pattern r (short_tables r lent t)) (told_alone f judged
    ∙ line-told f (ltb row row_size) (ShortRow row) (Ok (states_named r p)) (λ n. Ok n) _ refl)))

-- What it answers where nothing is refused.
pub counted_states : (r : List ℕ) (p lent row n : ℕ) → table_check r lent ≡ Ok n → row_size ≤ row → Ok (states_named r p) ≡ table_spread r p lent row
counted_states r p lent row n h l = sym (ap (λ t. after t (λ n. cond (ltb row row_size) (Err (ShortRow row)) (Ok (states_named r p)))) h ∙ rw (le-ltb row row_size l))
