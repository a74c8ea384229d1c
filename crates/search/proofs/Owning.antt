-- Laws of owners: an outcome that names no variable of a pattern leaves every word's index in it, and with additive patterns the pattern
-- that an action touches is its only one. Assumes nothing.
use Rattle.std.proofs.Common.{◌≡◌, ℕ, zero, suc, ◌+◌, ◌*◌, ◌/◌, ◌%◌, ◌<◌, ◌≤◌, Bool, true, false, cond, not, ◌&&◌, ◌||◌, T, eqb, List, [], ◌∷◌, length, get_or, drop, set, sym, refl, ap, ◌∙◌, subst, ap₂, add-zero, mod-eq_of_lt, zero-add, add-one, arith, length-set, get_or-set_other, get_or-set_same}
use Rattle.std.specs.List.{list_any, range_with_len}
use native.Mathlib.Decide.{ℕ_discrete}
use lib.Arith.{digits_div, digits_mod}
use lib.Bits.{bit_and, bit_or, and_block, or_block, or_lt, and_le_l, and_mask, and_zero_r, or_zero_r}
use Rattle.planning.specs.Finite.{some_of, any_from}
use Rattle.planning.specs.Task.{no_action, action_at}
use Rattle.planning.specs.Pattern.{counted, affects, affects_pattern, affected_from, Additive}
use Rattle.planning.proofs.Test.{by_test}
use Rattle.planning.proofs.Finite.{all_at, not_some_of, length-tabulate, get_or_tabulate}
use Rattle.planning.proofs.Pattern.{length_counted}
use Rattle.planning.proofs.Verdict.{affected_all}
use Rattle.planning.proofs.Owners.{one_alone}
use Rattle.packed_task.specs.Packed.{pack_by, picking, leaving, setting, outcome_count, keep_mask, set_value, compiled}
use Rattle.tables.specs.Steps.{weigh, weights_from}
use Rattle.packed_task.proofs.Packing.{digits_equal, leaving-digit, setting-digit}
use Rattle.packed_task.proofs.Compiled.{outcome_count_is, keep_mask_is, set_value_is}
use Rattle.packed_task.proofs.CompiledRecord.{part_few}
use Rattle.packed_task.proofs.SoundPacked.{sound_packable, compiled_outcomes}
use Rattle.task_record.specs.Layout.{at_pattern, at_outcome}
use Rattle.task_record.specs.Numbers.{action_count, pattern_count}
use Rattle.task_record.specs.Numbers as record-numbers
use Rattle.task_record.specs.Record.{Sound}
use Rattle.task_record.specs.TaskOf.{cells_at, action_of, task_of, patterns_of}
use Rattle.task_record.proofs.Soundness.{sound_length}
use Rattle.task_record.proofs.SoundTask.{actions_right, outcomes_right, length_of_part}
use Rattle.patterns.proofs.Reading.{patterns_length, pattern_at, actions_length, action_at_lem}
use Rattle.search.specs.Weights.{WeightsOf}
use Rattle.search.specs.Owned.{Owned, Marked, touches}
use Rattle.search.proofs.WeightsFilled.{earlier}
use Rattle.search.proofs.WeightValues.{index_weight}

-- A word after an outcome, digit by digit.
changed_block : (s a b x y : ℕ) → x < 16 → y < 16 → bit_or (bit_and s (a * 16 + x)) (b * 16 + y) ≡ bit_or (bit_and (s / 16) a) b * 16 + bit_or (bit_and (s % 16) x) y
changed_block s a b x y h k = let e : s ≡ s / 16 * 16 + s % 16 = omega arith in let l : s % 16 < 16 = omega arith in let n = and_le_l (s % 16) x in
    ap (λ z. bit_or (bit_and z (a * 16 + x)) (b * 16 + y)) e ∙ ap (λ z. bit_or z (b * 16 + y)) (and_block 4 (s / 16) a (s % 16) x l h)
    ∙ or_block 4 (bit_and (s / 16) a) b (bit_and (s % 16) x) y (omega arith) k

changed_digit : (d x y : ℕ) → d < 16 → y < 16 → bit_or (bit_and d x) y < 16
changed_digit d x y h k = let n = and_le_l d x in or_lt 4 (bit_and d x) y (omega arith) k

kept_digit : (d : ℕ) → d < 16 → bit_or (bit_and d 15) 0 ≡ d
kept_digit d h = or_zero_r (bit_and d 15) ∙ and_mask d 4 ∙ mod-eq_of_lt h

not-true : (b : Bool) → (b ≡ true → ⊥) → b ≡ false
not-true true f = absurd (f refl)
not-true false f = refl

not_true_false : (b : Bool) → T (not b) → b ≡ false
not_true_false true t = absurd t
not_true_false false t = refl

split_or : (a b : Bool) → (a || b) ≡ false → (a ≡ false) × (b ≡ false)
split_or true b e = absurd (subst T e tt)
split_or false b e = (refl, e)

-- A digit that is set has no weight in a pattern that is not affected.
cell_unmoved : (b y w d : ℕ) → d < 16 → (eqb b 1 && not (eqb y 255)) ≡ false → bit_or (bit_and d (leaving y)) (setting y) * cond (eqb b 1) w 0 ≡ d * cond (eqb b 1) w 0
cell_unmoved b y w d h e = by_test (eqb b 1)
    (λ f. by_test (eqb y 255) (λ g. rw (f, g) (ap (λ z. z * w) (kept_digit d h))) (λ g. let z : true ≡ false = rw (f, g) at e in absurd (subst T z tt)))
    (λ f. rw f (omega arith))

step_unmoved : (s y v : ℕ) (o ws : List ℕ) → weigh ws (bit_or (bit_and (s / 16) (pack_by leaving o)) (pack_by setting o)) ≡ weigh ws (s / 16) →
    bit_or (bit_and (s % 16) (leaving y)) (setting y) * v ≡ s % 16 * v →
    weigh (v ∷ ws) (bit_or (bit_and s (pack_by leaving (y ∷ o))) (pack_by setting (y ∷ o))) ≡ weigh (v ∷ ws) s
unfolding weigh pack_by
step_unmoved s y v o ws e f = let l : s % 16 < 16 = omega arith in let d = changed_digit (s % 16) (leaving y) (setting y) l (setting-digit y) in
    rw (changed_block s (pack_by leaving o) (pack_by setting o) (leaving y) (setting y) (leaving-digit y) (setting-digit y), digits_mod (bit_or (bit_and (s / 16) (pack_by leaving o)) (pack_by setting o)) d, digits_div (bit_or (bit_and (s / 16) (pack_by leaving o)) (pack_by setting o)) d)
    (ap₂ (λ m n. m + n) f e)

weigh_unmoved : (w : ℕ) (zs p o : List ℕ) (s : ℕ) → length zs ≤ length o → affects p o ≡ false →
    weigh (weights_from w zs p) (bit_or (bit_and s (pack_by leaving o)) (pack_by setting o)) ≡ weigh (weights_from w zs p) s
unfolding weights_from affects weigh
weigh_unmoved w [] p o s l e = refl
weigh_unmoved w (z ∷ zs) p [] s l e = absurd (omega arith)
weigh_unmoved w (z ∷ zs) [] (y ∷ o) s l e = step_unmoved s y 0 o (weights_from w zs []) (weigh_unmoved w zs [] o (s / 16) (omega arith) e) (omega arith)
weigh_unmoved w (z ∷ zs) (b ∷ p) (y ∷ o) s l e = let h = split_or (eqb b 1 && not (eqb y 255)) (affects p o) e in let d : s % 16 < 16 = omega arith in
    step_unmoved s y (cond (eqb b 1) w 0) o (weights_from (cond (eqb b 1) (w * z) w) zs p)
    (weigh_unmoved (cond (eqb b 1) (w * z) w) zs p o (s / 16) (omega arith) h.1) (cell_unmoved b y w (s % 16) d h.0)

-- An outcome keeps all digits under a pattern's mask exactly if it does not affect the pattern.
cell_kept : (b y : ℕ) → eqb (picking b) (bit_and (leaving y) (picking b)) ≡ not (eqb b 1 && not (eqb y 255))
cell_kept b y = by_test (eqb b 1) (λ e. by_test (eqb y 255) (λ f. rw (e, f)) (λ f. rw (e, f))) (λ e. by_test (eqb y 255) (λ f. rw (e, f)) (λ f. rw (e, f)))

not_either : (a b : Bool) → (not a && not b) ≡ not (a || b)
not_either true b = refl
not_either false b = refl

cond_below : (t : Bool) → cond t 15 0 < 16
cond_below true = omega arith
cond_below false = omega arith

kept_is : (p o : List ℕ) → length p ≤ length o → eqb (bit_and (pack_by leaving o) (pack_by picking p)) (pack_by picking p) ≡ not (affects p o)
unfolding pack_by affects
kept_is [] o l = rw (and_zero_r (pack_by leaving o), nothing_affected o)
  where
    nothing_affected : (o : List ℕ) → affects [] o ≡ false
    nothing_affected [] = refl
    nothing_affected (y ∷ o) = nothing_affected o
kept_is (b ∷ p) [] l = absurd (omega arith)
kept_is (b ∷ p) (y ∷ o) l = let n = and_le_l (leaving y) (picking b) in let h = leaving-digit y in
    rw (and_block 4 (pack_by leaving o) (pack_by picking p) (leaving y) (picking b) h (cond_below (eqb b 1)))
    (digits_equal (bit_and (pack_by leaving o) (pack_by picking p)) (pack_by picking p) (bit_and (leaving y) (picking b)) (picking b) (omega arith) (cond_below (eqb b 1))
    ∙ ap₂ (λ a c. a && c) (cell_kept b y) (kept_is p o (omega arith)) ∙ not_either (eqb b 1 && not (eqb y 255)) (affects p o))

-- An action touches the digits of a pattern exactly if it affects the pattern.
any_some : {A : Type 0} (f : A → Bool) (g : ℕ → Bool) (xs : List A) (d : A) (j : ℕ) → ((k : ℕ) → k < length xs → g (j + k) ≡ f (get_or xs k d)) →
    any_from j (length xs) g ≡ some_of f xs
any_some f g [] d j h = refl
any_some f g (x ∷ xs) d j h = ap₂ (λ a b. a || b) (rw (add-zero j) at (h 0 (omega arith)))
    (any_some f g xs d (suc j) (λ k l. let e : suc j + k ≡ j + suc k = omega arith in rw e (h (suc k) (omega arith))))

not_not : (b : Bool) → not (not b) ≡ b
not_not true = refl
not_not false = refl

module _ (r : List ℕ) (sound : Sound r) where
  outcome_long : (m k : ℕ) → m < action_count r → k < record-numbers.outcome_count r m → length (cells_at r (at_outcome m k)) ≡ 16
  outcome_long m k l b = let n = sound_length r sound in let a = actions_right r sound in let o = outcomes_right r sound m l in length_of_part r 16 (at_outcome m k) (omega arith)

  outcome_is : (m k : ℕ) → m < action_count r → k < record-numbers.outcome_count r m → get_or (action_at (task_of r) m).outcomes k [] ≡ cells_at r (at_outcome m k)
  unfolding action_of
  outcome_is m k l b = rw (action_at_lem r m l) (get_or_tabulate (λ j. cells_at r (at_outcome m j)) 0 (record-numbers.outcome_count r m) k [] b ∙ ap (λ j. cells_at r (at_outcome m j)) (zero-add k))

  outcomes_number : (m : ℕ) → m < action_count r → length (action_at (task_of r) m).outcomes ≡ record-numbers.outcome_count r m
  unfolding action_of
  outcomes_number m l = rw (action_at_lem r m l) (length-tabulate (λ j. cells_at r (at_outcome m j)) 0 (record-numbers.outcome_count r m))

  module _ (m : ℕ) (l : m < action_count r) where
    -- The assignments of outcome k that count: the words are theirs.
    abbrev remaining : ℕ → List ℕ
    remaining k = counted (action_at (task_of r) m).precondition (get_or (action_at (task_of r) m).outcomes k [])

    module _ (k : ℕ) (b : k < record-numbers.outcome_count r m) where
      remaining_long : length (remaining k) ≡ 16
      remaining_long = length_counted (action_at (task_of r) m).precondition _ ∙ ap length (outcome_is m k l b) ∙ outcome_long m k l b

      kept_word : keep_mask (compiled (task_of r)) m k ≡ pack_by leaving (remaining k)
      kept_word = let o = outcomes_right r sound m l in let n = outcomes_number m l in
          keep_mask_is (task_of r) (sound_packable r sound).actions_few m (rw (actions_length r) l) (omega arith) k (omega arith)

      set_word : set_value (compiled (task_of r)) m k ≡ pack_by setting (remaining k)
      set_word = let o = outcomes_right r sound m l in let n = outcomes_number m l in
          set_value_is (task_of r) (sound_packable r sound).actions_few m (rw (actions_length r) l) (omega arith) k (omega arith)

    touches_is : (p : List ℕ) → length p ≤ 16 → touches (compiled (task_of r)) (pack_by picking p) m ≡ affects_pattern (action_at (task_of r) m) p
    unfolding touches affects_pattern
    touches_is p n = rw (outcome_count_is (task_of r) (sound_packable r sound).actions_few m (rw (actions_length r) l))
        (any_some (λ o. affects p (counted (action_at (task_of r) m).precondition o))
        (λ o. not (eqb (bit_and (keep_mask (compiled (task_of r)) m o) (pack_by picking p)) (pack_by picking p))) (action_at (task_of r) m).outcomes [] 0
        (λ k b. let c : k < record-numbers.outcome_count r m = rw (outcomes_number m l) at b in let w = remaining_long k c in
        rw (zero-add k, kept_word k c, kept_is p (remaining k) (omega arith)) (not_not _)))

    -- What does not affect a pattern leaves every word's index in it, whether the word permits the action or not.
    word_unmoved : (p : List ℕ) (k s : ℕ) → k < record-numbers.outcome_count r m → affects_pattern (action_at (task_of r) m) p ≡ false →
        weigh (weights_from 1 (task_of r).sizes p) (bit_or (bit_and s (keep_mask (compiled (task_of r)) m k)) (set_value (compiled (task_of r)) m k)) ≡
        weigh (weights_from 1 (task_of r).sizes p) s
    unfolding affects_pattern
    word_unmoved p k s b e = let v = (sound_packable r sound).variables_few in let w = remaining_long k b in let n = outcomes_number m l in
        let t : T (not (affects p (remaining k))) =
        all_at (λ o. T (not (affects p (counted (action_at (task_of r) m).precondition o)))) (action_at (task_of r) m).outcomes []
        (not_some_of (λ o. affects p (counted (action_at (task_of r) m).precondition o)) (action_at (task_of r) m).outcomes (rw e tt)) k (omega arith) in
        let u : affects p (remaining k) ≡ false = not_true_false _ t in
        rw (kept_word k b, set_word k b) (weigh_unmoved 1 (task_of r).sizes p (remaining k) s (omega arith) u)

  -- Every pattern below p that an action affects is its owner.
  pub record Owning (owners : List ℕ) (p : ℕ) : Type 0 where
    pub long : length owners ≡ 64
    pub owns : (m q : ℕ) → m < action_count r → q < p → affects_pattern (action_at (task_of r) m) (get_or (patterns_of r) q []) ≡ true → get_or owners m 0 ≡ q

  pub owning_begins : (owners : List ℕ) → length owners ≡ 64 → Owning owners 0
  owning_begins owners n = record { long = n; owns = λ m q l h e. absurd (omega arith) }

  module _ (add : Additive (task_of r) (patterns_of r)) where
    pub owning_goes_on : (old new : List ℕ) (p : ℕ) → p < pattern_count r → length new ≡ 64 → Owning old p →
        Marked (compiled (task_of r)) (pack_by picking (cells_at r (at_pattern p))) p (action_count r) old new → Owning new (p + 1)
    unfolding Additive
    owning_goes_on old new p b n g h = record { long = n; owns = λ m q l k e. at_one m q l e (ℕ_discrete q p) k }
      where
        touched : (m : ℕ) → m < action_count r → touches (compiled (task_of r)) (pack_by picking (cells_at r (at_pattern p))) m ≡ affects_pattern (action_at (task_of r) m) (get_or (patterns_of r) p [])
        touched m l = rw (pattern_at r p b) (touches_is m l (cells_at r (at_pattern p)) (part_few (drop (at_pattern p) r)))

        at_one : (m q : ℕ) → m < action_count r → affects_pattern (action_at (task_of r) m) (get_or (patterns_of r) q []) ≡ true → Dec (q ≡ p) → q < p + 1 → get_or new m 0 ≡ q
        at_one m q l e (yes f) k = h.marks m l ∙ rw (touched m l, ← f, e)
        at_one m q l e (no f) k = h.marks m l ∙ rw (touched m l) (by_test (affects_pattern (action_at (task_of r) m) (get_or (patterns_of r) p []))
            (λ t. absurd (f (one_alone (affected_from 0 (patterns_of r) (action_at (task_of r) m)) q p (few m l)
            (affected_all 0 (patterns_of r) (action_at (task_of r) m) q (rw (patterns_length r) (omega arith)) (rw e tt))
            (affected_all 0 (patterns_of r) (action_at (task_of r) m) p (rw (patterns_length r) b) (rw t tt)))))
            (λ t. rw t (g.owns m q l (earlier q p k f) e)))
          where
            few : (m : ℕ) → m < action_count r → length (affected_from 0 (patterns_of r) (action_at (task_of r) m)) ≤ 1
            few m l = all_at (λ a. length (affected_from 0 (patterns_of r) a) ≤ 1) (task_of r).actions no_action add m (rw (actions_length r) l)

  pub owning_ends : (owners : List ℕ) (p : ℕ) → pattern_count r ≤ p → Owning owners p → (weights : List (List ℕ)) (offsets : List ℕ) → WeightsOf (task_of r).sizes (patterns_of r) weights offsets →
      Owned (compiled (task_of r)) weights (action_count r) (pattern_count r) owners
  owning_ends owners p b g weights offsets f = record { unmoved = λ s m k q l n h e. stays s m k q l n h e }
    where
      stays : (s m k q : ℕ) → m < action_count r → k < outcome_count (compiled (task_of r)) m → q < pattern_count r → (q ≡ get_or owners m 0 → ⊥) →
          weigh (get_or weights q []) (bit_or (bit_and s (keep_mask (compiled (task_of r)) m k)) (set_value (compiled (task_of r)) m k)) ≡ weigh (get_or weights q []) s
      stays s m k q l n h e = let i = index_weight (task_of r) (sound_packable r sound) (patterns_of r) weights offsets f in let c : q < length (patterns_of r) = rw (patterns_length r) h in
          i _ q c ∙ word_unmoved m l (get_or (patterns_of r) q []) k s (rw (compiled_outcomes r sound m l) at n)
          (not-true _ (λ t. e (sym (g.owns m q l (omega arith) t)))) ∙ sym (i s q c)

-- Marking, action by action.
pub record Marking (task : List ℕ) (mask p : ℕ) (old new : List ℕ) (i : ℕ) : Type 0 where
  pub long : length new ≡ length old
  pub done : (m : ℕ) → m < i → get_or new m 0 ≡ cond (touches task mask m) p (get_or old m 0)
  pub rest : (m : ℕ) → i ≤ m → get_or new m 0 ≡ get_or old m 0

pub marking_begins : (task : List ℕ) (mask p : ℕ) (old : List ℕ) → Marking task mask p old old 0
marking_begins task mask p old = record { long = refl; done = λ m l. absurd (omega arith); rest = λ m l. refl }

module _ {task : List ℕ} {mask p : ℕ} {old new : List ℕ} {i : ℕ} (g : Marking task mask p old new i) where
  pub marking_hit : i < length old → touches task mask i ≡ true → Marking task mask p old (set new i p) (i + 1)
  marking_hit l t = record {
    long = length-set new i p ∙ g.long;
    done = λ m k. at_one m (ℕ_discrete m i) k;
    rest = λ m k. get_or-set_other new i m p 0 (λ q. absurd (omega arith)) ∙ g.rest m (omega arith);
  }
    where
      at_one : (m : ℕ) → Dec (m ≡ i) → m < i + 1 → get_or (set new i p) m 0 ≡ cond (touches task mask m) p (get_or old m 0)
      at_one m (yes q) k = rw (q, t) (get_or-set_same new i p 0 (omega (arith, g.long)))
      at_one m (no q) k = get_or-set_other new i m p 0 q ∙ g.done m (earlier m i k q)

  pub marking_miss : touches task mask i ≡ false → Marking task mask p old new (i + 1)
  marking_miss t = record { long = g.long; done = λ m k. at_one m (ℕ_discrete m i) k; rest = λ m k. g.rest m (omega arith) }
    where
      at_one : (m : ℕ) → Dec (m ≡ i) → m < i + 1 → get_or new m 0 ≡ cond (touches task mask m) p (get_or old m 0)
      at_one m (yes q) k = rw (q, t) (g.rest i (omega arith))
      at_one m (no q) k = g.done m (earlier m i k q)

  pub marking_ends : (actions : ℕ) → actions ≤ i → Marked task mask p actions old new
  marking_ends actions l = record { marks = λ m k. g.done m (omega arith) }

-- The test passes at one of the numbers in a list of n from k on.
pub any_of_numbers : (k n : ℕ) (f : ℕ → Bool) → list_any f (range_with_len k n) ≡ any_from k n f
any_of_numbers k zero f = refl
any_of_numbers k (suc n) f = ap (λ (b : Bool). f k || b) (ap (λ (j : ℕ). list_any f (range_with_len j n)) (add-one k) ∙ any_of_numbers (suc k) n f)
