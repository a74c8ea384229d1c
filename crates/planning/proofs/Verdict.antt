-- Laws of the verdict: it is yes exactly for additive patterns, and else names the lowest action that affects two patterns, with the
-- lowest two. Assumes nothing.
use mathlib.Core.Path.{◌≡◌, refl, sym, ap, ◌∙◌, subst}
use mathlib.Core.Logic.{inl, inr, ◌↔◌}
use mathlib.Core.List.{List, [], ◌∷◌}
use Prim.Native.Nat.{ℕ, zero, suc, ◌+◌, ◌≤◌, ◌<◌}
use native.Mathlib.Omega.{arith}
use lib.Dec.{T}
use lib.ListN.{length, get_or}
use Rattle.planning.specs.Finite.{All, Some}
use Rattle.planning.specs.Task.{Action, Task, no_action}
use Rattle.planning.specs.Pattern.{affects_pattern, affected_from, Additive, Verdict, additive, conflict, judge, verdict_from, verdict, FirstConflict}
use Rattle.planning.proofs.Test.{by_test}
use Rattle.planning.proofs.Finite.{all_imp, some_imp, some_all}

-- The pattern with number i (numbered from 0) is affected.
abbrev pub AffectsNumber : Action → List (List ℕ) → ℕ → Type 0
AffectsNumber a ps i = T (affects_pattern a (get_or ps i []))

-- Only numbers of affected patterns are listed, and all of them, ascending.
pub affected_only : (k : ℕ) (ps : List (List ℕ)) (a : Action) → All (λ j. (i : ℕ) × (j ≡ k + i) × (i < length ps) × AffectsNumber a ps i) (affected_from k ps a)
unfolding affected_from
affected_only k [] a = tt
affected_only k (p ∷ ps) a = let h = all_imp {Q = λ j. (i : ℕ) × (j ≡ k + i) × (i < length (p ∷ ps)) × AffectsNumber a (p ∷ ps) i} (λ j g. (suc g.0, omega arith, omega arith, g.3)) (affected_from (suc k) ps a) (affected_only (suc k) ps a) in
    by_test (affects_pattern a p) (λ e. rw e ((0, omega arith, omega arith, rw e tt), h)) (λ e. rw e h)

pub affected_all : (k : ℕ) (ps : List (List ℕ)) (a : Action) (i : ℕ) → i < length ps → AffectsNumber a ps i → Some (λ j. j ≡ k + i) (affected_from k ps a)
unfolding affected_from
affected_all k [] a i l t = absurd (omega arith)
affected_all k (p ∷ ps) a zero l t = by_test (affects_pattern a p) (λ e. rw e (inl (omega arith))) (λ e. absurd (rw e at t))
affected_all k (p ∷ ps) a (suc i) l t = let h = some_imp {Q = λ j. j ≡ k + suc i} (λ j e. omega arith) (affected_from (suc k) ps a) (affected_all (suc k) ps a i (omega arith) t) in
    by_test (affects_pattern a p) (λ e. rw e (inr h)) (λ e. rw e h)

abbrev pub Ascending : List ℕ → Type 0
Ascending [] = Unit {0}
Ascending (x ∷ xs) = All (λ y. x < y) xs × Ascending xs

pub affected_ascending : (k : ℕ) (ps : List (List ℕ)) (a : Action) → Ascending (affected_from k ps a)
unfolding affected_from
affected_ascending k [] a = tt
affected_ascending k (p ∷ ps) a = let h = affected_ascending (suc k) ps a in
    let b = all_imp {Q = λ j. k < j} (λ j g. omega arith) (affected_from (suc k) ps a) (affected_only (suc k) ps a) in
    by_test (affects_pattern a p) (λ e. rw e (b, h)) (λ e. rw e h)

-- A judgement passes on what follows, or finds the first two of at least two numbers.
judge_cases : {C : Type 0} (m : ℕ) (l : List ℕ) (next : Unit {0} → Verdict) → (length l ≤ 1 → judge m l next ≡ next tt → C) →
    ((p q : ℕ) (others : List ℕ) → l ≡ p ∷ (q ∷ others) → judge m l next ≡ conflict m p q → C) → C
unfolding judge
judge_cases m [] next f g = f (omega arith) refl
judge_cases m (p ∷ []) next f g = f (omega arith) refl
judge_cases m (p ∷ (q ∷ others)) next f g = g p q others refl refl

-- The two kinds of verdict differ, and a conflict's numbers can be read off.
IsConflict : Verdict → Type 0
IsConflict additive = ⊥
IsConflict (conflict m p q) = Unit {0}

conflict-not_additive : (m p q : ℕ) → conflict m p q ≡ additive → ⊥
unfolding IsConflict
conflict-not_additive m p q e = subst IsConflict e tt

action_of : Verdict → ℕ
action_of additive = 0
action_of (conflict m p q) = m

first_of : Verdict → ℕ
first_of additive = 0
first_of (conflict m p q) = p

second_of : Verdict → ℕ
second_of additive = 0
second_of (conflict m p q) = q

conflict_injective : (m p q n r s : ℕ) → conflict m p q ≡ conflict n r s → (m ≡ n) × (p ≡ r) × (q ≡ s)
unfolding action_of first_of second_of
conflict_injective m p q n r s e = (ap action_of e, ap first_of e, ap second_of e)

-- The verdict is yes exactly if the patterns are additive.
verdict_from_yes : (m : ℕ) (rest : List Action) (ps : List (List ℕ)) → verdict_from m rest ps ≡ additive → All (λ a. length (affected_from 0 ps a) ≤ 1) rest
unfolding verdict_from
verdict_from_yes m [] ps e = tt
verdict_from_yes m (a ∷ rest) ps e = judge_cases m (affected_from 0 ps a) (λ u. verdict_from (suc m) rest ps)
    (λ l k. (l, verdict_from_yes (suc m) rest ps (sym k ∙ e)))
    (λ p q others i k. absurd (conflict-not_additive m p q (sym k ∙ e)))

additive-verdict_from : (m : ℕ) (rest : List Action) (ps : List (List ℕ)) → All (λ a. length (affected_from 0 ps a) ≤ 1) rest → verdict_from m rest ps ≡ additive
unfolding verdict_from
additive-verdict_from m [] ps h = refl
additive-verdict_from m (a ∷ rest) ps h = judge_cases m (affected_from 0 ps a) (λ u. verdict_from (suc m) rest ps)
    (λ l k. k ∙ additive-verdict_from (suc m) rest ps h.1)
    (λ p q others i k. let l : suc (suc (length others)) ≤ 1 = rw i at h.0 in absurd (omega arith))

pub verdict-additive : (t : Task) (ps : List (List ℕ)) → verdict t ps ≡ additive ↔ Additive t ps
unfolding verdict Additive
verdict-additive t ps = (verdict_from_yes 0 t.actions ps, additive-verdict_from 0 t.actions ps)

conflict-later : (a : Action) (rest : List Action) (ps : List (List ℕ)) (m p q : ℕ) → length (affected_from 0 ps a) ≤ 1 → FirstConflict rest ps m p q → FirstConflict (a ∷ rest) ps (suc m) p q
conflict-later a rest ps m p q l c = record { action_below = omega (arith, c.action_below); others = c.others; affected = c.affected; none_before = before }
  where
    before : (j : ℕ) → j < suc m → length (affected_from 0 ps (get_or (a ∷ rest) j no_action)) ≤ 1
    before zero k = l
    before (suc j) k = c.none_before j (omega arith)

-- A conflict is named exactly where it is the first one; here the first action of the list has number m.
conflict_from : (m : ℕ) (rest : List Action) (ps : List (List ℕ)) (n p q : ℕ) → verdict_from m rest ps ≡ conflict n p q → (i : ℕ) × (n ≡ m + i) × FirstConflict rest ps i p q
unfolding verdict_from
conflict_from m [] ps n p q e = absurd (conflict-not_additive n p q (sym e))
conflict_from m (a ∷ rest) ps n p q e = judge_cases m (affected_from 0 ps a) (λ u. verdict_from (suc m) rest ps)
    (λ l k. let h = conflict_from (suc m) rest ps n p q (sym k ∙ e) in (suc h.0, omega arith, conflict-later a rest ps h.0 p q l h.2))
    (λ r s others i k. let j = conflict_injective m r s n p q (sym k ∙ e) in
    (0, omega arith, record { action_below = omega arith; others = others; affected = i ∙ rw (j.1, j.2); none_before = λ j l. absurd (omega arith) }))

conflict-verdict_from : (m : ℕ) (rest : List Action) (ps : List (List ℕ)) (i p q : ℕ) → FirstConflict rest ps i p q → verdict_from m rest ps ≡ conflict (m + i) p q
unfolding verdict_from judge
conflict-verdict_from m [] ps i p q c = absurd (omega (arith, c.action_below))
conflict-verdict_from m (a ∷ rest) ps zero p q c = rw c.affected (ap (λ n. conflict n p q) (omega arith))
conflict-verdict_from m (a ∷ rest) ps (suc i) p q c = judge_cases m (affected_from 0 ps a) (λ u. verdict_from (suc m) rest ps)
    (λ l k. k ∙ conflict-verdict_from (suc m) rest ps i p q record { action_below = omega (arith, c.action_below); others = c.others; affected = c.affected; none_before = λ j b. c.none_before (suc j) (omega arith) }
    ∙ ap (λ n. conflict n p q) (omega arith))
    (λ r s others j k. let l : suc (suc (length others)) ≤ 1 = rw j at (c.none_before 0 (omega arith)) in absurd (omega arith))

pub verdict-conflict : (t : Task) (ps : List (List ℕ)) (m p q : ℕ) → verdict t ps ≡ conflict m p q ↔ FirstConflict t.actions ps m p q
unfolding verdict
verdict-conflict t ps m p q = (
  λ e. let h = conflict_from 0 t.actions ps m p q e in let k : h.0 ≡ m = omega arith in subst (λ n. FirstConflict t.actions ps n p q) k h.2,
  λ c. conflict-verdict_from 0 t.actions ps m p q c ∙ ap (λ n. conflict n p q) (omega arith),
)

-- What a conflict names: two patterns, the lower one first, both affected by the action, and no other below the second is affected.
lowest_of : (p q i : ℕ) (others : List ℕ) → All (λ y. q < y) others → i < q → Some (λ j. j ≡ 0 + i) (p ∷ (q ∷ others)) → i ≡ p
lowest_of p q i others b l (inl e) = omega arith
lowest_of p q i others b l (inr (inl e)) = absurd (omega arith)
lowest_of p q i others b l (inr (inr h)) = let x = some_all others h b in absurd (omega arith)

pub conflict_names_lowest : (actions : List Action) (ps : List (List ℕ)) (m p q : ℕ) → FirstConflict actions ps m p q → let a = get_or actions m no_action in
    (p < q) × (q < length ps) × AffectsNumber a ps p × AffectsNumber a ps q × ((i : ℕ) → i < q → AffectsNumber a ps i → i ≡ p)
conflict_names_lowest actions ps m p q c = let a = get_or actions m no_action in
    let up = subst Ascending c.affected (affected_ascending 0 ps a) in
    let only = subst (All (λ j. (i : ℕ) × (j ≡ 0 + i) × (i < length ps) × AffectsNumber a ps i)) c.affected (affected_only 0 ps a) in
    let same : only.0.0 ≡ p = omega arith in let same₁ : only.1.0.0 ≡ q = omega arith in
    let below : q < length ps = omega arith in (
      up.0.0,
      below,
      subst (AffectsNumber a ps) same only.0.3,
      subst (AffectsNumber a ps) same₁ only.1.0.3,
      λ i l t. lowest_of p q i c.others up.1.0 l (subst (Some (λ j. j ≡ 0 + i)) c.affected (affected_all 0 ps a i (omega arith) t)),
    )
