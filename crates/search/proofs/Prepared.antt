-- What the search answers and leaves, by what its preparation found out. Assumes nothing.
use Rattle.std.proofs.Common.{◌≡◌, ℕ, ◌+◌, ◌/◌, ◌≤◌, List, ◌++◌, length, drop, Result, Ok, Err, sym, ap, ◌∙◌, arith}
use Rattle.std.proofs.Math.Seq.{drop-append_seam}
use Rattle.planning.specs.Pattern.{Additive}
use Rattle.planning.specs.Table.{tables, Small}
use Rattle.planning.proofs.Verdict.{verdict-additive}
use Rattle.task_record.specs.Numbers.{variable_count, action_count, budget_of}
use Rattle.task_record.specs.Record.{Sound}
use Rattle.task_record.specs.Refusals.{after}
use Rattle.task_record.specs.TaskOf.{task_of, patterns_of, start_of}
use Rattle.task_record.specs.declared.refusal.Refusal.{Refusal}
use Rattle.patterns.specs.Additivity.{additivity_of}
use Rattle.patterns.specs.Estimate.{estimate_check}
use Rattle.packed_task.specs.Packed.{pack_by, low, compiled}
use Rattle.packed_task.specs.Sets.{sets_filled}
use Rattle.patterns.specs.Space.{entries_needed}
use Rattle.tables.specs.RecordTables.{built_over, tables_prepared, words_prepared, sets_prepared, start_prepared}
use Rattle.tables.proofs.BuiltTables.{ready_buildable}
use Rattle.patterns.proofs.Refusals.{after_ok, verdict_decides, checked_ready, ready_means}
use Rattle.patterns.proofs.Room.{small_fits}
use Rattle.search.specs.Answer.{buffer_of}
use Rattle.search.specs.Entry.{HoldsTables, Prepared, answer_within, task_answer, search_of, search_answer, plan_after}
use Rattle.search.proofs.RecordSearch.{budget_right, sets-applying}

module _ (r : List ℕ) (lent : ℕ) where
  module _ {e : Refusal} (h : estimate_check r lent ≡ Err e) where
    pub search-refused : (n : ℕ) → search_answer r lent n ≡ Err e
    unfolding search_answer
    search-refused n = rw h

    pub plan_refused : (plan : List ℕ) → plan_after r lent plan ≡ plan
    unfolding plan_after
    plan_refused plan = rw h

  module _ (h : estimate_check r lent ≡ Ok tt) where
    pub search_ready : (n : ℕ) → search_answer r lent n ≡ search_of n (task_answer r)
    unfolding search_answer
    search_ready n = rw h

    pub plan_ready : (plan : List ℕ) → plan_after r lent plan ≡ buffer_of (length plan) (task_answer r)
    unfolding plan_after
    plan_ready plan = rw h

    -- What is prepared has additive patterns.
    pub ready_additive : Additive (task_of r) (patterns_of r)
    ready_additive = (verdict-additive (task_of r) (patterns_of r)).0 (ready_means r lent (checked_ready r lent h).1).1

  -- What the answer of the preparation says.
  pub start_refused : {e : Refusal} → start_prepared r lent ≡ Err e → estimate_check r lent ≡ Err e
  start_refused h = by_check (estimate_check r lent) h
    where
      by_check : (x : Result Unit Refusal) {e : Refusal} → after x (λ ready. Ok (pack_by low (start_of r))) ≡ Err e → x ≡ Err e
      by_check (Ok u) g = let z : ◌≡◌ {A = ℕ} 0 1 = cc in absurd (omega arith)
      by_check (Err f) {e} g = let k : f ≡ e = cc in ap (λ (y : Refusal). Err y) k

  module _ {start : ℕ} (h : start_prepared r lent ≡ Ok start) where
    pub start_ready : estimate_check r lent ≡ Ok tt
    start_ready = (after_ok (estimate_check r lent) (λ ready. Ok (pack_by low (start_of r))) start h).1

    started_so : start ≡ pack_by low (start_of r)
    started_so = let g : ◌≡◌ {A = Result ℕ Refusal} (Ok (pack_by low (start_of r))) (Ok start) = rw start_ready at h in cc

-- Prepared tables and words.
module _ (r tabs : List ℕ) {start : ℕ} (q : start_prepared r (length tabs) ≡ Ok start) where
  h : estimate_check r (length tabs) ≡ Ok tt
  h = start_ready r (length tabs) q

  prepared_words : (words : List ℕ) → words_prepared r (length tabs) words ≡ compiled (task_of r)
  prepared_words words = rw h

  prepared_holds : {new : List ℕ} → new ≡ tables_prepared r tabs → HoldsTables r new
  unfolding built_over
  prepared_holds e =
      let t = tables (task_of r) (patterns_of r) in
      let w = e ∙ rw h in
      record { built = w ∙ ap (λ (l : List ℕ). t ++ l) (sym (ap (drop (length t)) w ∙ drop-append_seam t (drop (entries_needed (task_of r).sizes (patterns_of r)) tabs))) }

  prepared_sets : (sets : List ℕ) → sets_prepared r (length tabs) sets ≡ sets_filled (compiled (task_of r)) 18446744073709551615 (action_count r) ((variable_count r + 1) / 2) sets
  prepared_sets sets = rw h

  pub prepared : (words old : List ℕ) {new task sets : List ℕ} {budget : ℕ} → new ≡ tables_prepared r tabs → task ≡ words_prepared r (length tabs) words →
      sets ≡ sets_prepared r (length tabs) old → budget ≡ budget_of r → Prepared r budget task sets start new
  prepared words old e f s b = let k = ready_buildable r (length tabs) h in let w = f ∙ prepared_words words in record {
    sound = k.sound;
    small = k.small;
    additive = ready_additive r (length tabs) h;
    budgeted = omega (arith, b, budget_right r k.sound);
    words = w;
    applying = sets-applying r k.sound old w (s ∙ prepared_sets old);
    started = started_so r (length tabs) q;
    holds = prepared_holds e;
  }

-- With the record's budget it is the answer of the record's task.
pub within_own : (r : List ℕ) {budget : ℕ} → budget ≡ budget_of r → answer_within budget r ≡ task_answer r
unfolding task_answer
within_own r e = ap (λ b. answer_within b r) e

-- Nothing is refused of a sound record with additive patterns that are small enough and have room.
pub ready_when : (r : List ℕ) (lent : ℕ) → Sound r → Additive (task_of r) (patterns_of r) → Small (task_of r) (patterns_of r) →
    entries_needed (task_of r).sizes (patterns_of r) ≤ lent →
    estimate_check r lent ≡ Ok tt
unfolding Sound Small additivity_of
ready_when r lent sound add small room = rw sound
    (verdict_decides r lent (small_fits (task_of r).sizes (patterns_of r) lent small room)
    (ap additivity_of ((verdict-additive (task_of r) (patterns_of r)).1 add)))
