-- What the answers of the additivity call mean for a sound record: yes exactly for additive patterns, which are those that keep the owner
-- rule over the assignments that remain, else the first conflict. Assumes nothing.
use Rattle.std.proofs.Common.{◌≡◌, ℕ, List, refl, sym, ap, ◌∙◌, arith, Ok, Some, None}
use mathlib.Core.Logic.{◌↔◌}
use Rattle.planning.specs.Pattern.{Additive, OwnerRule, Verdict, additive, conflict, verdict, FirstConflict}
use Rattle.planning.proofs.Verdict.{verdict-additive, verdict-conflict}
use Rattle.planning.proofs.Owners.{verdict_owners}
use Rattle.task_record.specs.Record.{Sound}
use Rattle.task_record.specs.TaskOf.{task_of, patterns_of}
use Rattle.patterns.specs.Additivity.{additivity_of, additivity}
use Rattle.patterns.specs.declared.verdict.Conflict.{Conflict}

answer_yes : (v : Verdict) → additivity_of v ≡ None → v ≡ additive
unfolding additivity_of
answer_yes additive h = refl
answer_yes (conflict m p q) h = let z : ◌≡◌ {A = ℕ} 0 1 = cc in absurd (omega arith)

answer_no : (v : Verdict) (m p q : ℕ) → additivity_of v ≡ Some (record { action = m; lower = p; upper = q }) → v ≡ conflict m p q
unfolding additivity_of
answer_no additive m p q h = let z : ◌≡◌ {A = ℕ} 0 1 = cc in absurd (omega arith)
answer_no (conflict n i j) m p q h =
    let k : ◌≡◌ {A = Conflict} (record { action = n; lower = i; upper = j }) (record { action = m; lower = p; upper = q }) = cc in
    let a : n ≡ m = ap (λ (t : Conflict). t.action) k in let b : i ≡ p = ap (λ (t : Conflict). t.lower) k in let c : j ≡ q = ap (λ (t : Conflict). t.upper) k in rw (a, b, c)

module _ (r : List ℕ) (sound : Sound r) where
  answer_of_sound : additivity r ≡ Ok (additivity_of (verdict (task_of r) (patterns_of r)))
  unfolding Sound
  answer_of_sound = rw sound

  pub answers_yes_iff_additive : additivity r ≡ Ok None ↔ Additive (task_of r) (patterns_of r)
  unfolding additivity_of
  answers_yes_iff_additive = (
    λ h. (verdict-additive (task_of r) (patterns_of r)).0 (answer_yes (verdict (task_of r) (patterns_of r)) (let e = sym answer_of_sound ∙ h in cc)),
    λ a. answer_of_sound ∙ ap (λ v. Ok (additivity_of v)) ((verdict-additive (task_of r) (patterns_of r)).1 a),
  )

  -- "Verdicts are compared with the owner rule over the remaining assignments."
  pub answers_yes_iff_owners : additivity r ≡ Ok None ↔ OwnerRule (task_of r) (patterns_of r)
  unfolding additivity_of
  answers_yes_iff_owners = (
    λ h. (verdict_owners (task_of r) (patterns_of r)).0 (answer_yes (verdict (task_of r) (patterns_of r)) (let e = sym answer_of_sound ∙ h in cc)),
    λ a. answer_of_sound ∙ ap (λ v. Ok (additivity_of v)) ((verdict_owners (task_of r) (patterns_of r)).1 a),
  )

  pub answers_first_conflict : (m p q : ℕ) → additivity r ≡ Ok (Some (record { action = m; lower = p; upper = q })) ↔ FirstConflict (task_of r).actions (patterns_of r) m p q
  unfolding additivity_of
  answers_first_conflict m p q = (
    λ h. (verdict-conflict (task_of r) (patterns_of r) m p q).0 (answer_no (verdict (task_of r) (patterns_of r)) m p q (let e = sym answer_of_sound ∙ h in cc)),
    λ c. answer_of_sound ∙ ap (λ v. Ok (additivity_of v)) ((verdict-conflict (task_of r) (patterns_of r) m p q).1 c),
  )
