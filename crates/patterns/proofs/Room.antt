-- Laws of the room that tables need, pattern by pattern, and what it means that they fit. Assumes nothing.
use mathlib.Core.Path.{◌≡◌, refl, ◌∙◌}
use mathlib.Core.List.{List, [], ◌∷◌}
use Prim.Native.Nat.{ℕ, suc, ◌+◌, ◌*◌, ◌≤◌, ◌<◌}
use native.Mathlib.Numerals.{add-one}
use native.Mathlib.Omega.{arith}
use lib.Dec.{ltb}
use lib.ListN.{length, get_or, drop}
use lib.Seq.{drop-cons}
use borrow.Author.Tests.{lt-ltb, le-ltb, ltb-false}
use Rattle.planning.specs.Finite.{All}
use Rattle.planning.specs.Table.{state_count}
use Rattle.planning.proofs.Test.{by_test}
use Rattle.patterns.specs.Space.{first_large, entries_needed, judge_tables}
use Rattle.task_record.specs.declared.refusal.Refusal.TheVariants.{LargePattern, ShortTables}
use Rattle.std.proofs.Common.{Ok, Err}
use Rattle.patterns.proofs.Weights.{drop_all}

module _ (zs : List ℕ) (ps : List (List ℕ)) where
  -- The patterns below number p are passed: all of them are small, and n is the number of their entries.
  pub record Adding (n p : ℕ) : Type 0 where
    pub passed : p ≤ length ps
    pub none_large : first_large 0 zs ps ≡ first_large p zs (drop p ps)
    pub needed : entries_needed zs ps ≡ n + entries_needed zs (drop p ps)
    pub bounded : n ≤ 4096 * p

  pub adding_start : Adding 0 0
  adding_start = record { passed = omega arith; none_large = refl; needed = omega arith; bounded = omega arith }

  module _ (n p : ℕ) (a : Adding n p) where
    pub adding_small : p < length ps → state_count zs (get_or ps p []) ≤ 4096 → Adding (n + state_count zs (get_or ps p [])) (p + 1)
    unfolding first_large entries_needed
    adding_small l s = let d = drop-cons ps p [] l in let e = add-one p in record {
      passed = omega arith;
      none_large = a.none_large ∙ rw (d, le-ltb 4096 (state_count zs (get_or ps p [])) s, e);
      needed = a.needed ∙ rw (d, e) (omega arith);
      bounded = omega (arith, a.bounded);
    }

    -- A pattern that is too large is the lowest such one.
    pub judged_large : (lent : ℕ) → p < length ps → 4096 < state_count zs (get_or ps p []) → judge_tables zs ps lent ≡ Err (LargePattern p)
    unfolding judge_tables first_large
    judged_large lent l s = let e : first_large 0 zs ps ≡ p = a.none_large ∙ rw (drop-cons ps p [] l, lt-ltb 4096 (state_count zs (get_or ps p [])) s) in rw (e, lt-ltb p (length ps) l)

    -- All patterns are passed: the entries that they need decide.
    module _ (lent : ℕ) (l : length ps ≤ p) where
      past_last : length ps ≤ first_large 0 zs ps
      unfolding first_large
      past_last = rw (a.none_large, drop_all ps p l) l

      all_added : entries_needed zs ps ≡ n
      unfolding entries_needed
      all_added = a.needed ∙ rw (drop_all ps p l) (omega arith)

      pub judged_short : lent < n → judge_tables zs ps lent ≡ Err (ShortTables n)
      unfolding judge_tables
      judged_short s = rw (le-ltb (first_large 0 zs ps) (length ps) past_last, all_added, lt-ltb lent n s)

      pub judged_fits : n ≤ lent → judge_tables zs ps lent ≡ Ok n
      unfolding judge_tables
      judged_fits s = rw (le-ltb (first_large 0 zs ps) (length ps) past_last, all_added, le-ltb lent n s)

  -- Where no pattern is large, each has at most 4,096 states.
  none_large_small : (k : ℕ) (qs : List (List ℕ)) → k + length qs ≤ first_large k zs qs → All (λ p. state_count zs p ≤ 4096) qs
  unfolding first_large
  none_large_small k [] h = tt
  none_large_small k (p ∷ qs) h = by_test (ltb 4096 (state_count zs p))
      (λ e. let l : k + suc (length qs) ≤ k = rw e at h in absurd (omega arith))
      (λ e. let l : k + suc (length qs) ≤ first_large (suc k) zs qs = rw e at h in (ltb-false 4096 (state_count zs p) e, none_large_small (suc k) qs (omega arith)))

  -- Tables that fit: every pattern is small, and there is room for all.
  pub fits_small : (lent n : ℕ) → judge_tables zs ps lent ≡ Ok n → All (λ p. state_count zs p ≤ 4096) ps
  unfolding judge_tables
  fits_small lent n h = by_test (ltb (first_large 0 zs ps) (length ps))
      (λ e. let r = rw e at h in let z : ◌≡◌ {A = ℕ} 0 1 = cc in absurd (omega arith))
      (λ e. let l = ltb-false (first_large 0 zs ps) (length ps) e in none_large_small 0 ps (omega arith))

  pub fits_room : (lent n : ℕ) → judge_tables zs ps lent ≡ Ok n → (entries_needed zs ps ≡ n) × (n ≤ lent)
  unfolding judge_tables
  fits_room lent n h = by_test (ltb (first_large 0 zs ps) (length ps))
      (λ e. let r = rw e at h in let z : ◌≡◌ {A = ℕ} 0 1 = cc in absurd (omega arith))
      (λ e. by_test (ltb lent (entries_needed zs ps))
      (λ f. let r = rw (e, f) at h in let z : ◌≡◌ {A = ℕ} 0 1 = cc in absurd (omega arith))
      (λ f. let r = rw (e, f) at h in let k : entries_needed zs ps ≡ n = cc in let l = ltb-false lent (entries_needed zs ps) f in (k, omega arith)))

  -- And where both hold, they fit.
  small_none_large : (k : ℕ) (qs : List (List ℕ)) → All (λ p. state_count zs p ≤ 4096) qs → first_large k zs qs ≡ k + length qs
  unfolding first_large
  small_none_large k [] h = omega arith
  small_none_large k (p ∷ qs) h = rw (le-ltb 4096 (state_count zs p) h.0) (small_none_large (suc k) qs h.1 ∙ omega arith)

  pub small_fits : (lent : ℕ) → All (λ p. state_count zs p ≤ 4096) ps → entries_needed zs ps ≤ lent → judge_tables zs ps lent ≡ Ok (entries_needed zs ps)
  unfolding judge_tables
  small_fits lent h l = let e = small_none_large 0 ps h in rw (le-ltb (first_large 0 zs ps) (length ps) (omega arith), le-ltb lent (entries_needed zs ps) l)
