-- The tables of a tower that comes as a text: on the record that the reader leaves, a build can be refused by 7 and 8 alone, and else it leaves the
-- tables of the task that the text says. Assumes nothing.
use Rattle.std.proofs.Common.{◌≡◌, ℕ, ltb, ◌⊎◌, List, ◌++◌, length, drop, sym, ap, ◌∙◌, ap₂, inl, inr, refl, arith, Ok, Err}
use Rattle.planning.specs.Table.{tables}
use Rattle.planning.proofs.Test.{by_test}
use Rattle.task_record.specs.Record.{Sound}
use Rattle.task_record.specs.TaskOf.{task_of, patterns_of}
use Rattle.reader.specs.Grammar.{complete, read_whole, read_answer, read_leaves}
use Rattle.reader.proofs.ReadSound.{record_left_sound}
use Rattle.reader.proofs.TaskLeft.{task_left, patterns_left}
use Rattle.planning.specs.Numbers.{refusal}
use Rattle.task_record.specs.Refusals.{refusal_numbers}
use Rattle.task_record.specs.declared.refusal.Refusal.{Refusal}
use Rattle.task_record.specs.declared.refusal.Refusal.TheVariants.{LargePattern, ShortTables}
use Rattle.patterns.specs.Space.{first_large, entries_needed, judge_tables, table_check}
use Rattle.tables.specs.RecordTables.{table_build, built_over, tables_built}
use Rattle.tables.proofs.BuiltTables.{entries-written, tables_left_lem}

-- Of a sound record the patterns alone are judged, and that refuses with 7 or 8.
sound_judged : (r : List ℕ) (lent : ℕ) → Sound r → table_check r lent ≡ judge_tables (task_of r).sizes (patterns_of r) lent
unfolding Sound
sound_judged r lent s = rw s

judged_number : (zs : List ℕ) (ps : List (List ℕ)) (lent : ℕ) (refused : Refusal) → judge_tables zs ps lent ≡ Err refused → ((refusal_numbers refused).number ≡ 7) ⊎ ((refusal_numbers refused).number ≡ 8)
unfolding judge_tables refusal
judged_number zs ps lent refused h =
    by_test (ltb (first_large 0 zs ps) (length ps))
    (λ e. let g = rw e at h in let k : LargePattern (first_large 0 zs ps) ≡ refused = cc in inl (rw (← k) refl))
    (λ e.
    by_test (ltb lent (entries_needed zs ps))
    (λ f. let g = rw (e, f) at h in let k : ShortTables (entries_needed zs ps) ≡ refused = cc in inr (rw (← k) refl))
    (λ f. let g = rw (e, f) at h in let z : ◌≡◌ {A = ℕ} 0 1 = cc in absurd (omega arith)))

module _ (text record₀ tabs : List ℕ) (read : read_answer text record₀ ≡ Ok tt) where
  -- Neither 5 nor 6: the reader's record is sound.
  pub text_refused_late : (refused : Refusal) → table_build (read_leaves text record₀) (length tabs) ≡ Err refused → ((refusal_numbers refused).number ≡ 7) ⊎ ((refusal_numbers refused).number ≡ 8)
  text_refused_late refused h =
      let r = read_leaves text record₀ in
      judged_number (task_of r).sizes (patterns_of r) (length tabs) refused
      (sym (sound_judged r (length tabs) (record_left_sound text record₀ read)) ∙ h)

  -- "Tables follow each other in pattern order; entries after the last stay untouched": n entries, those of the task that the text says.
  pub tables_of_text : (rec : List ℕ) (n : ℕ) → read_whole text ≡ complete rec → table_build (read_leaves text record₀) (length tabs) ≡ Ok n →
      tables_built (read_leaves text record₀) tabs ≡ tables (task_of rec) (patterns_of rec) ++ drop n tabs
  unfolding built_over
  tables_of_text rec n says h =
      tables_left_lem (read_leaves text record₀) tabs n h
      ∙ ap₂ ◌++◌ (ap₂ tables (task_left text record₀ read rec says) (patterns_left text record₀ read rec says))
      (ap (λ k. drop k tabs) (entries-written (read_leaves text record₀) tabs n h))
