-- The words of an action, put into a compiled task one by one. Assumes nothing.
use Rattle.std.proofs.Common.{◌≡◌, ℕ, ◌+◌, ◌-◌, ◌*◌, ◌<◌, ◌≤◌, ltb, ◌⊎◌, List, [], ◌∷◌, ◌++◌, length, get_or, set, replicate, sym, refl, ap, ◌∙◌, inl, inr, ⊎_elim, zero-add, arith, length-set, get_or-set_other, get_or-take, get_or-set_same, get_or-append-add, ltb-false, ltb-true}
use native.Mathlib.Decide.{dec_lt}
use lib.ListN.{get_or-replicate}
use Rattle.planning.specs.Finite.{chain}
use Rattle.planning.specs.Task.{Action}
use Rattle.planning.proofs.Test.{by_test}
use Rattle.planning.proofs.Finite.{length-tabulate, get_or_tabulate}
use Rattle.task_record.specs.Layout.{at_precondition, at_outcome}
use Rattle.task_record.specs.Numbers.{outcome_count}
use Rattle.task_record.specs.TaskOf.{cells_at, action_of}
use Rattle.packed_task.specs.Packed.{pack_by, naming, leaving, setting, action_stride, in_value, in_count, in_weight, in_keep, outcome_stride, outcomes_size, outcome_words, action_words}
use Rattle.packed_task.specs.Compiling.{outcome_word, ActionCompiled}
use Rattle.packed_task.proofs.Compiled.{padded, length-chain, outcome_word_lem}

-- The words of action m from the one with number `from` to before i are there.
pub record Compiling (old new : List ℕ) (m : ℕ) (a : Action) (from i : ℕ) : Type 0 where
  pub long : length new ≡ length old
  pub words : (j : ℕ) → from ≤ j → j < i → get_or new (action_stride * m + j) 0 ≡ get_or (action_words a) j 0
  pub others : (j : ℕ) → (j < action_stride * m + from) ⊎ (action_stride * m + action_stride ≤ j) → get_or new j 0 ≡ get_or old j 0

pub compiling_start : (old : List ℕ) (m : ℕ) (a : Action) (from : ℕ) → Compiling old old m a from from
compiling_start old m a from = record { long = refl; words = λ j k l. absurd (omega arith); others = λ j l. refl }

pub compiling_put : (old new : List ℕ) (m : ℕ) (a : Action) (from i v at : ℕ) → at ≡ action_stride * m + i → from ≤ i → i < action_stride →
    action_stride * m + action_stride ≤ length old → v ≡ get_or (action_words a) i 0 → Compiling old new m a from i →
    Compiling old (set new at v) m a from (i + 1)
compiling_put old new m a from i v at p f b l e h = record {
  long = length-set new at v ∙ h.long;
  words = λ j k u. word j k (dec_lt j i) u;
  others = λ j u. get_or-set_other new at j v 0 (λ z. ⊎_elim (λ q. omega arith) (λ q. omega arith) u) ∙ h.others j u;
}
  where
    word : (j : ℕ) → from ≤ j → Dec (j < i) → j < i + 1 → get_or (set new at v) (action_stride * m + j) 0 ≡ get_or (action_words a) j 0
    word j k (yes q) u = get_or-set_other new at (action_stride * m + j) v 0 (λ z. omega arith) ∙ h.words j k q
    word j k (no q) u = let z : j ≡ i = omega arith in rw (z, ← p) (get_or-set_same new at v 0 (omega (arith, h.long)) ∙ e)

-- First part and rest of an action.
pub compiling_both : (old mid new : List ℕ) (m : ℕ) (a : Action) (i : ℕ) → action_stride ≤ i → Compiling old mid m a 0 in_keep →
    Compiling mid new m a in_keep i → ActionCompiled old new m a
compiling_both old mid new m a i l f g = record {
  long = g.long ∙ f.long;
  words = λ j u. word j (dec_lt j in_keep) u;
  others = λ j u. ⊎_elim (λ q. g.others j (inl (omega arith)) ∙ f.others j (inl (omega arith))) (λ q. g.others j (inr q) ∙ f.others j (inr q)) u;
}
  where
    word : (j : ℕ) → Dec (j < in_keep) → j < action_stride → get_or new (action_stride * m + j) 0 ≡ get_or (action_words a) j 0
    word j (yes q) u = g.others (action_stride * m + j) (inl (omega arith)) ∙ f.words j (omega arith) q
    word j (no q) u = g.words j (omega arith) (omega arith)

module _ (r : List ℕ) (m : ℕ) (few : outcome_count r m ≤ 8) where
  abbrev count : ℕ
  count = outcome_count r m

  abbrev outcome : ℕ → List ℕ
  outcome k = cells_at r (at_outcome m k)

  abbrev need : List ℕ
  need = cells_at r (at_precondition m)

  abbrev action : Action
  action = action_of r m

  outcomes_count : length action.outcomes ≡ count
  unfolding action_of
  outcomes_count = length-tabulate outcome 0 count

  -- The words of an outcome, and of none.
  some_word : (k i : ℕ) → k < count → i < outcome_stride →
      get_or (action_words action) (in_keep + (outcome_stride * k + i)) 0 ≡ get_or (outcome_words need (outcome k)) i 0
  unfolding action_of
  some_word k i l b = outcome_word_lem action k i (omega (arith, outcomes_count)) (omega (arith, outcomes_count)) b
      ∙ ap (λ o. get_or (outcome_words need o) i 0) (get_or_tabulate outcome 0 count k [] l ∙ (let z : 0 + k ≡ k = zero-add k in rw z))

  no_word : (k i : ℕ) → count ≤ k → k < 8 → i < outcome_stride → get_or (action_words action) (in_keep + (outcome_stride * k + i)) 0 ≡ 0
  unfolding action_words action_of
  no_word k i l b c = let w = chain (outcome_words need) action.outcomes in
      let n : length w ≡ outcome_stride * count =
      length-chain (outcome_words need) outcome_stride (λ o. refl) action.outcomes ∙ ap (λ z. outcome_stride * z) outcomes_count in
      let j = outcome_stride * k + i - outcome_stride * count in
      let e : outcome_stride * k + i ≡ length w + j = omega arith in
      get_or-append-add (pack_by naming action.precondition ∷ pack_by setting action.precondition ∷ length action.outcomes ∷ action.weight ∷ [])
      (padded outcomes_size w) (outcome_stride * k + i) 0
      ∙ get_or-take outcomes_size (w ++ replicate outcomes_size 0) (outcome_stride * k + i) 0 (omega arith)
      ∙ ap (λ z. get_or (w ++ replicate outcomes_size 0) z 0) e ∙ get_or-append-add w (replicate outcomes_size 0) j 0
      ∙ get_or-replicate outcomes_size j 0 0 (omega arith)

  keep_word : (k : ℕ) → k < 8 → outcome_word leaving r m k ≡ get_or (action_words action) (in_keep + (outcome_stride * k + 0)) 0
  unfolding outcome_word
  keep_word k b = by_test (ltb k count) (λ e. rw e (sym (some_word k 0 (ltb-true k count e) (omega arith)))) (λ e. rw e (sym (no_word k 0 (ltb-false k count e) b (omega arith))))

  set_word : (k : ℕ) → k < 8 → outcome_word setting r m k ≡ get_or (action_words action) (in_keep + (outcome_stride * k + 1)) 0
  unfolding outcome_word
  set_word k b = by_test (ltb k count) (λ e. rw e (sym (some_word k 1 (ltb-true k count e) (omega arith)))) (λ e. rw e (sym (no_word k 1 (ltb-false k count e) b (omega arith))))

  -- One turn of the loop over the outcomes, and the words before it.
  pub compiling_outcome : (old now new : List ℕ) (k : ℕ) → k < 8 → action_stride * m + action_stride ≤ length old
      → new ≡ set (set now (action_stride * m + in_keep + outcome_stride * k) (outcome_word leaving r m k))
      (action_stride * m + in_keep + outcome_stride * k + 1) (outcome_word setting r m k)
      → Compiling old now m action in_keep (in_keep + outcome_stride * k) → Compiling old new m action in_keep (in_keep + outcome_stride * (k + 1))
  compiling_outcome old now new k b l e h =
      let p : in_keep + (outcome_stride * k + 0) ≡ in_keep + outcome_stride * k = omega arith in
      let q : in_keep + (outcome_stride * k + 1) ≡ in_keep + outcome_stride * k + 1 = omega arith in
      let s : in_keep + outcome_stride * (k + 1) ≡ in_keep + outcome_stride * k + 1 + 1 = omega arith in
      rw (e, s) (compiling_put old _ m action in_keep (in_keep + outcome_stride * k + 1) _ (action_stride * m + in_keep + outcome_stride * k + 1)
      (omega arith) (omega arith) (omega arith) l (rw q at (set_word k b))
      (compiling_put old now m action in_keep (in_keep + outcome_stride * k) _ (action_stride * m + in_keep + outcome_stride * k)
      (omega arith) (omega arith) (omega arith) l (rw p at (keep_word k b)) h))

  pub compiling_head : (old new : List ℕ) → action_stride * m + action_stride ≤ length old
      → new ≡ set (set (set (set old (action_stride * m) (pack_by naming (cells_at r (at_precondition m)))) (action_stride * m + in_value)
      (pack_by setting (cells_at r (at_precondition m)))) (action_stride * m + in_count) count) (action_stride * m + in_weight) action.weight
      → Compiling old new m action 0 in_keep
  unfolding action_words action_of
  compiling_head old new l e = rw e
      (compiling_put old _ m action 0 in_weight action.weight (action_stride * m + in_weight) (omega arith) (omega arith) (omega arith) l refl
      (compiling_put old _ m action 0 in_count count (action_stride * m + in_count) (omega arith) (omega arith) (omega arith) l (sym outcomes_count)
      (compiling_put old _ m action 0 in_value (pack_by setting (cells_at r (at_precondition m))) (action_stride * m + in_value)
      (omega arith) (omega arith) (omega arith) l refl
      (compiling_put old _ m action 0 0 (pack_by naming (cells_at r (at_precondition m))) (action_stride * m)
      (omega arith) (omega arith) (omega arith) l refl (compiling_start old m action 0)))))
