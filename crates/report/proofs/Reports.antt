-- Laws of what is printed: the lines of each answer of the search, and of a text that is refused or read. Assumes nothing.
use mathlib.Core.Path.{◌≡◌, refl, sym, ap, ◌∙◌}
use mathlib.Core.List.{List, ◌++◌, append-nil}
use Prim.Native.Nat.{ℕ, ◌≤◌}
use native.Mathlib.Omega.{arith}
use borrow.Author.Tests.{le-ltb, le-leb, leb-true}
use lib.Dec.{leb}
use lib.ListN.{length, take, replicate, drop_of_length-le}
use lib.Seq.{take-take, take_at}
use Rattle.planning.specs.Extended.{ℕ∞, fin, inf}
use Rattle.planning.specs.Numbers.{refusal}
use Rattle.planning.specs.Plan.{Plan, encode}
use Rattle.planning.specs.Search.{found, over, spent, none, plan_bytes, plan_buffer}
use Rattle.planning.specs.Search as planning
use Rattle.planning.specs.Table.{estimate}
use Rattle.planning.proofs.Test.{by_test}
use Rattle.std.proofs.Common.{Result, Ok, Err, Option, Some, None as nothing}
use Rattle.reader.specs.Bytes.{bytes}
use Rattle.reader.specs.Grammar.{Whole, complete, refused, read_whole, answer_of, read_answer, read_leaves}
use Rattle.task_record.specs.Layout.{record_size, at_start}
use Rattle.task_record.specs.Numbers.{budget_of, limit_of}
use Rattle.task_record.specs.Refusals.{refusal_numbers}
use Rattle.task_record.specs.TaskOf.{cells_at, task_of, patterns_of, start_of}
use Rattle.task_record.specs.declared.refusal.Refusal.{Refusal}
use Rattle.task_record.specs.declared.refusal.Refusal.TheVariants.{ShortPlan}
use Rattle.reader.proofs.ReadSound.{answered_record, read_leaves_lem}
use Rattle.patterns.specs.Estimate.{estimate_check}
use Rattle.patterns.specs.Value.{value_of, state_value}
use Rattle.patterns.proofs.Refusals.{after_ok}
use Rattle.tables.specs.RecordTables.{tables_prepared}
use Rattle.search.specs.Answer.{buffer_of}
use Rattle.search.specs.Entry.{task_answer, search_of, search_answer, plan_after}
use Rattle.search.specs.declared.entry.SearchAnswer.{SearchAnswer}
use Rattle.search.specs.declared.entry.SearchAnswer.TheVariants.{Found, Over, Spent, None}
use Rattle.report.specs.Lines.{line, number_line}
use Rattle.report.specs.Report.{refusal_lines, refused_lines, value_line, found_lines, spent_lines, over_lines, none_lines, answer_lines, record_lines, lines_of, printed, tables_of, plan_of, tables_left, plan_left}
use Rattle.report.proofs.PlanLengths.{found_plan_short}
use Rattle.report.proofs.StartValues.{ready_budget, value_of-start}

-- The lines of a refusal, by its two numbers.
pub refusal_told : (e : Refusal) (n x : ℕ) → refusal n x ≡ refusal_numbers e → refused_lines e ≡ refusal_lines n x
unfolding refused_lines refusal
refusal_told e n x h = rw (← h)

-- The line of a value.
pub finite_line : (v : ℕ∞) (n : ℕ) (x : Option ℕ) → x ≡ Some n → ◌≡◌ {A = Result (Option ℕ) Refusal} (Ok x) (Ok (value_of v)) → value_line v ≡ number_line (bytes "value=") n
unfolding value_of value_line
finite_line (fin w) n x h e = let a : w ≡ n = cc in ap (number_line (bytes "value=")) a
finite_line inf n x h e = let z : ◌≡◌ {A = ℕ} 0 1 = cc in absurd (omega arith)

pub infinite_line : (v : ℕ∞) (x : Option ℕ) → x ≡ nothing → ◌≡◌ {A = Result (Option ℕ) Refusal} (Ok x) (Ok (value_of v)) → value_line v ≡ line (bytes "value=infinite")
unfolding value_of value_line
infinite_line (fin w) x h e = let z : ◌≡◌ {A = ℕ} 0 1 = cc in absurd (omega arith)
infinite_line inf x h e = refl

pub value_not_refused : {A : Type 0} (v : ℕ∞) (x : Refusal) → ◌≡◌ {A = Result (Option ℕ) Refusal} (Err x) (Ok (value_of v)) → A
value_not_refused v x e = let z : ◌≡◌ {A = ℕ} 0 1 = cc in absurd (omega arith)

-- An answer that a pattern has taken apart.
pub answer_told : (x a : SearchAnswer) (w s : Result SearchAnswer Refusal) → x ≡ a → w ≡ Ok x → w ≡ s → Ok a ≡ s
answer_told x a w s h i j = ap (λ (t : SearchAnswer). Ok t) (sym h) ∙ sym i ∙ j

-- An answer that is no refusal: the tables can be built, and it is what the search answers.
module _ (r : List ℕ) (lent n : ℕ) {a : SearchAnswer} (e : Ok a ≡ search_answer r lent n) where
  answered_ready : estimate_check r lent ≡ Ok tt
  unfolding search_answer
  answered_ready = (after_ok (estimate_check r lent) (λ ready. search_of n (task_answer r)) a (sym e)).1

  answered-search : Ok a ≡ search_of n (task_answer r)
  unfolding search_answer
  answered-search = sym (after_ok (estimate_check r lent) (λ ready. search_of n (task_answer r)) a (sym e)).2

-- The value of the start that is printed.
unfoldable pub start_value : List ℕ → ℕ∞
start_value r = estimate (task_of r) (patterns_of r) (start_of r)

pub start-value-told : (r tabs after : List ℕ) (n : ℕ) {a : SearchAnswer} → Ok a ≡ search_answer r (length tabs) n → after ≡ tables_prepared r tabs →
    state_value r (cells_at r at_start) after ≡ Ok (value_of (start_value r))
unfolding start_value
start-value-told r tabs after n e q = rw q (value_of-start r tabs (answered_ready r (length tabs) n e))

-- A found plan: its bytes stand at the start of the buffer.
found-fits : (n : ℕ) (x : planning.Answer) (d c k : ℕ) → Ok (Found d c k) ≡ search_of n x → (p : Plan) × (x ≡ found p d c) × (k ≡ length (encode p)) × (k ≤ n)
unfolding search_of
found-fits n (found p i j) d c k e =
    by_test (leb (length (encode p)) n)
    (λ t.
    let g : ◌≡◌ {A = Result SearchAnswer Refusal} (Ok (Found d c k)) (Ok (Found i j (length (encode p)))) = e ∙ rw t in
    let l : k ≡ length (encode p) = cc in
    (p, cc, l, rw l (leb-true (length (encode p)) n t)))
    (λ t. let g : ◌≡◌ {A = Result SearchAnswer Refusal} (Ok (Found d c k)) (Err (ShortPlan (length (encode p)))) = e ∙ rw t in let z : ◌≡◌ {A = ℕ} 0 1 = cc in absurd (omega arith))
found-fits n (over i) d c k e = let z : ◌≡◌ {A = ℕ} 0 1 = cc in absurd (omega arith)
found-fits n (spent i j) d c k e = let z : ◌≡◌ {A = ℕ} 0 1 = cc in absurd (omega arith)
found-fits n (none i) d c k e = let z : ◌≡◌ {A = ℕ} 0 1 = cc in absurd (omega arith)

module _ (r tabs plan : List ℕ) (d c k : ℕ) (e : Ok (Found d c k) ≡ search_answer r (length tabs) (length plan)) where
  the_plan : (p : Plan) × (task_answer r ≡ found p d c) × (k ≡ length (encode p)) × (k ≤ length plan)
  the_plan = found-fits (length plan) (task_answer r) d c k (answered-search r (length tabs) (length plan) e)

  pub found_within : k ≤ length plan
  found_within = the_plan.3

  pub found_short : k ≤ 1000000
  unfolding task_answer
  found_short =
      let f = the_plan in
      let s = found_plan_short (task_of r) (patterns_of r) (budget_of r) (limit_of r) (start_of r) f.0 d c f.1 in
      omega (arith, f.2, s.0, s.1, ready_budget r (length tabs) (answered_ready r (length tabs) (length plan) e))

  found-bytes : take k (plan_after r (length tabs) plan) ≡ plan_bytes (task_answer r)
  unfolding plan_after buffer_of plan_buffer plan_bytes
  found-bytes =
      let f = the_plan in
      rw (answered_ready r (length tabs) (length plan) e, f.1, le-leb (length (encode f.0)) (length plan) (omega (arith, f.2, f.3)))
      (take-take k (length plan) (encode f.0 ++ replicate (length plan) 255) f.3 ∙ take_at (encode f.0) (replicate (length plan) 255) k (sym f.2))

  pub found-told : (m : ℕ) (after : List ℕ) → m ≡ k → after ≡ plan_after r (length tabs) plan → record_lines (length tabs) (length plan) r ≡ value_line (start_value r) ++ found_lines d c (take m after)
  unfolding record_lines answer_lines start_value
  found-told m after g q = rw (← e, g, q, found-bytes)

-- The other answers.
module _ (r : List ℕ) (lent n : ℕ) where
  pub over-told : (c : ℕ) → Ok (Over c) ≡ search_answer r lent n → record_lines lent n r ≡ value_line (start_value r) ++ (line (bytes "answer=over") ++ number_line (bytes "count=") c)
  unfolding record_lines answer_lines over_lines start_value
  over-told c e = rw (← e)

  pub spent-told : (d c : ℕ) → Ok (Spent d c) ≡ search_answer r lent n → record_lines lent n r ≡ value_line (start_value r) ++ spent_lines d c
  unfolding record_lines answer_lines start_value
  spent-told d c e = rw (← e)

  pub none_told : (c : ℕ) → Ok (None c) ≡ search_answer r lent n → record_lines lent n r ≡ value_line (start_value r) ++ (line (bytes "answer=none") ++ number_line (bytes "count=") c)
  unfolding record_lines answer_lines none_lines start_value
  none_told c e = rw (← e)

  pub refusal-told : (x : Refusal) → Err x ≡ search_answer r lent n → record_lines lent n r ≡ refused_lines x
  unfolding record_lines answer_lines
  refusal-told x e = rw (← e)

-- A text that is read into a record of as many bytes as it has, or refused.
whole_answer : (text record₀ : List ℕ) → length record₀ ≡ record_size → read_answer text record₀ ≡ answer_of (read_whole text)
unfolding read_answer
whole_answer text record₀ whole = rw (le-ltb (length record₀) record_size (omega arith))

refused_whole : (w : Whole) (x : Refusal) → Err x ≡ answer_of w → w ≡ refused x
refused_whole (complete r) x e = let z : ◌≡◌ {A = ℕ} 0 1 = cc in absurd (omega arith)
refused_whole (refused y) x e = let a : y ≡ x = cc in rw a

pub text_refused : (text record₀ : List ℕ) (x : Refusal) → Err x ≡ read_answer text record₀ → length record₀ ≡ record_size → read_whole text ≡ refused x
text_refused text record₀ x e whole = refused_whole (read_whole text) x (e ∙ whole_answer text record₀ whole)

pub text_read : (text record₀ : List ℕ) → Ok tt ≡ read_answer text record₀ → length record₀ ≡ record_size → read_whole text ≡ complete (read_leaves text record₀)
text_read text record₀ e whole =
    let w = answered_record (read_whole text) (sym (e ∙ whole_answer text record₀ whole)) in
    let l = read_leaves_lem text record₀ w.0 (omega arith) w.1 in
    w.1 ∙ ap complete (sym (l ∙ ap (λ (rest : List ℕ). w.0 ++ rest) (drop_of_length-le record₀ {i = record_size} (omega arith)) ∙ append-nil w.0))

-- What is printed and left, by what the text says.
module _ (text : List ℕ) (lent n : ℕ) (tabs plan : List ℕ) where
  pub printed-refusal : (x : Refusal) → read_whole text ≡ refused x →
      (printed lent n text ≡ refused_lines x) × (tables_left text tabs ≡ tabs) × (plan_left text lent plan ≡ plan)
  unfolding printed lines_of tables_left tables_of plan_left plan_of
  printed-refusal x e = (rw e, rw e, rw e)

  pub printed_record : (r after : List ℕ) → read_whole text ≡ complete r → after ≡ r →
      (printed lent n text ≡ record_lines lent n after) × (tables_left text tabs ≡ tables_prepared after tabs) × (plan_left text lent plan ≡ plan_after after lent plan)
  unfolding printed lines_of tables_left tables_of plan_left plan_of
  printed_record r after e q = rw (e, q) (refl, refl, refl)
