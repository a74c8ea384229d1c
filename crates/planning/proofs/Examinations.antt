-- What a count counts: from count c, an examination ends with c and the number of its examinations, and the count of every answer of a
-- search is the number of examinations that the search makes, the first of which is that of the start with its value. Assumes nothing.
use mathlib.Core.Path.{◌≡◌, refl}
use mathlib.Core.Bool.{Bool, true, false, ◌&&◌}
use mathlib.Core.List.{List, [], ◌∷◌, ◌++◌}
use Prim.Native.Nat.{ℕ, zero, suc, ◌+◌, ◌-◌}
use native.Mathlib.Omega.{arith}
use lib.Dec.{leb, eqb}
use lib.ListN.{length, length-append}
use Rattle.planning.specs.Finite.{choose}
use Rattle.planning.specs.Extended.{ℕ∞, fin, inf, ◌≤?◌}
use Rattle.planning.specs.System.{System, applies}
use Rattle.planning.specs.Plan.{Plan, act, ◌then◌}
use Rattle.planning.specs.Task.{Task, system}
use Rattle.planning.specs.Table.{estimate}
use Rattle.planning.specs.Search.{Result, succeeded, failed, stopped, and_then, or_else, examine_outcomes, try_actions, try_action, examine, examine_with, examination, Answer, answer_count, end_round, rounds, search_from, search, answer}
use Rattle.planning.specs.Examinations.{Examined, after_success, after_failure, outcomes_examined, actions_examined, action_examined, state_examined, examined_with, examined, rounds_examined, search_examined_from, search_examined, examinations}
use Rattle.planning.proofs.Test.{by_test}
use Rattle.planning.proofs.Budget.{count_of}

-- A run from count c that ends with the result r makes the examinations xs.
record Makes {A E : Type 0} (c : ℕ) (r : Result A) (xs : List E) : Type 0 where
  count : count_of r ≡ c + length xs

module _ {A E : Type 0} (c : ℕ) where
  no_examination : (r : Result A) → count_of r ≡ c → Makes {E = E} c r []
  no_examination r e = record { count = omega (arith, e) }

  -- A run that ends here, and one that goes on from the count reached.
  ends : {B : Type 0} {r : Result A} {q : Result B} {xs : List E} → Makes c r xs → count_of q ≡ count_of r → Makes c q (xs ++ [])
  ends {xs = xs} m e = record { count = omega (arith, m.count, e, length-append xs []) }

  goes_on : {B : Type 0} (c₁ : ℕ) {r : Result A} {q : Result B} {xs ys : List E} → Makes c r xs → count_of r ≡ c₁ → Makes c₁ q ys → Makes c q (xs ++ ys)
  goes_on c₁ {xs = xs} {ys = ys} m e n = record { count = omega (arith, m.count, e, n.count, length-append xs ys) }

  then_makes : {B : Type 0} {r : Result A} (k : A → ℕ → Result B) {xs : List E} (next : ℕ → List E) → Makes c r xs → ((a : A) (c₁ : ℕ) → Makes c₁ (k a c₁) (next c₁)) → Makes c (and_then r k) (xs ++ after_success r next)
  unfolding and_then after_success
  then_makes {r = succeeded a c₁} k next m f = goes_on c₁ m refl (f a c₁)
  then_makes {r = failed c₁} k next m f = ends m refl
  then_makes {r = stopped c₁} k next m f = ends m refl

  else_makes : {r : Result A} (k : ℕ → Result A) {xs : List E} (next : ℕ → List E) → Makes c r xs → ((c₁ : ℕ) → Makes c₁ (k c₁) (next c₁)) → Makes c (or_else r k) (xs ++ after_failure r next)
  unfolding or_else after_failure
  else_makes {r = succeeded a c₁} k next m f = ends m refl
  else_makes {r = failed c₁} k next m f = goes_on c₁ m refl (f c₁)
  else_makes {r = stopped c₁} k next m f = ends m refl

  -- A plan put together from those found adds no examination.
  with_plan : {B : Type 0} (g : A → B) {r : Result A} {xs : List E} → Makes c r xs → Makes c (and_then r (λ a c₁. succeeded (g a) c₁)) xs
  unfolding and_then
  with_plan g {r = succeeded a c₁} m = record { count = m.count }
  with_plan g {r = failed c₁} m = record { count = m.count }
  with_plan g {r = stopped c₁} m = record { count = m.count }

  choose_makes : (b : Bool) (j k : Unit {0} → Result A) (xs ys : Unit {0} → List E) → Makes c (j tt) (xs tt) → Makes c (k tt) (ys tt) → Makes c (choose b j k) (choose b xs ys)
  unfolding choose
  choose_makes true j k xs ys f g = f
  choose_makes false j k xs ys f g = g

outcomes_make : {S : Type 0} (r : S → ℕ → Result Plan) (e : S → ℕ → List (Examined S)) → ((x : S) (c : ℕ) → Makes c (r x c) (e x c)) → (xs : List S) (c : ℕ) → Makes c (examine_outcomes r xs c) (outcomes_examined r e xs c)
unfolding examine_outcomes outcomes_examined
outcomes_make r e m [] c = no_examination c _ refl
outcomes_make r e m (x ∷ xs) c = then_makes c _ _ (m x c) (λ p c₁. with_plan c₁ (λ ps. p then ps) (outcomes_make r e m xs c₁))

actions_make : {S : Type 0} (t : ℕ → ℕ → Result Plan) (e : ℕ → ℕ → List (Examined S)) → ((m c : ℕ) → Makes c (t m c) (e m c)) → (k n c : ℕ) → Makes c (try_actions t k n c) (actions_examined t e k n c)
unfolding try_actions actions_examined
actions_make t e m k zero c = no_examination c _ refl
actions_make t e m k (suc n) c = else_makes c _ _ (m k c) (λ c₁. actions_make t e m (suc k) n c₁)

module _ {S : Type 0} (Y : System S) (h : S → ℕ∞) (budget : ℕ) where
  module _ (r : ℕ → S → ℕ → Result Plan) (e : ℕ → S → ℕ → List (Examined S)) (makes : (d : ℕ) (x : S) (c : ℕ) → Makes c (r d x c) (e d x c)) (d : ℕ) (s : S) where
    action_makes : (m c : ℕ) → Makes c (try_action Y h budget r d s m c) (action_examined Y h budget r e d s m c)
    unfolding try_action action_examined
    action_makes m c = choose_makes c (applies Y m s && leb (Y.weight m) d) _ _ _ _
        (with_plan c (act m) (outcomes_make (r (d - Y.weight m)) (e (d - Y.weight m)) (makes (d - Y.weight m)) (Y.successors m s) c))
        (no_examination c _ refl)

    counts_itself : (c : ℕ) {q : Result Plan} {xs : List (Examined S)} → Makes (suc c) q xs → Makes c q (record { state = s; depth = d } ∷ xs)
    counts_itself c m = record { count = omega (arith, m.count) }

    state_makes : (c : ℕ) → Makes c (examine Y h budget r d s c) (state_examined Y h budget r e d s c)
    unfolding examine state_examined
    state_makes c = choose_makes c (eqb c budget) _ _ _ _ (no_examination c _ refl)
        (counts_itself c (choose_makes (suc c) (Y.goal s) _ _ _ _ (no_examination (suc c) _ refl)
        (choose_makes (suc c) (h s ≤? d) _ _ _ _
        (choose_makes (suc c) (eqb d 0) _ _ _ _ (no_examination (suc c) _ refl) (actions_make _ _ action_makes 0 Y.actions (suc c)))
        (no_examination (suc c) _ refl))))

  with_makes : (f d : ℕ) (s : S) (c : ℕ) → Makes c (examine_with Y h budget f d s c) (examined_with Y h budget f d s c)
  unfolding examine_with examined_with
  with_makes zero d s c = no_examination c _ refl
  with_makes (suc f) d s c = state_makes (examine_with Y h budget f) (examined_with Y h budget f) (with_makes f) d s c

  -- "To examine state s with depth d adds 1 to the count": however an examination ends, it has added the number of those listed.
  pub examination-counts : (d : ℕ) (s : S) (c : ℕ) → count_of (examination Y h budget d s c) ≡ c + length (examined Y h budget d s c)
  unfolding examination examined
  examination-counts d s c = (with_makes (suc d) d s c).count

module _ {S : Type 0} (Y : System S) (h : S → ℕ∞) (budget limit : ℕ) (s : S) where
  end_counts : (d c : ℕ) (r : Result Plan) (next : ℕ → Answer) (xs : List (Examined S)) (ys : ℕ → List (Examined S)) → count_of r ≡ c + length xs → ((c₁ : ℕ) → answer_count (next c₁) ≡ c₁ + length (ys c₁)) → answer_count (end_round d r next) ≡ c + length (xs ++ after_failure r ys)
  unfolding end_round after_failure
  end_counts d c (succeeded p c₁) next xs ys m f = omega (arith, m, length-append xs [])
  end_counts d c (failed c₁) next xs ys m f = omega (arith, m, f c₁, length-append xs (ys c₁))
  end_counts d c (stopped c₁) next xs ys m f = omega (arith, m, length-append xs [])

  rounds_count : (n d c : ℕ) → answer_count (rounds Y h budget limit s n d c) ≡ c + length (rounds_examined Y h budget limit s n d c)
  unfolding rounds rounds_examined
  rounds_count zero d c = omega arith
  rounds_count (suc n) d c = end_counts d c (examination Y h budget d s c) _ (examined Y h budget d s c) (λ c₁. rounds_examined Y h budget limit s n (suc d) c₁) (examination-counts Y h budget d s c) (λ c₁. rounds_count n (suc d) c₁)

  -- "[The count] starts at 0 and runs on over all rounds": at the end it is the number of examinations, whatever the answer.
  pub search-counts : answer_count (search Y h budget limit s) ≡ length (search_examined Y h budget limit s)
  unfolding search search_examined search_from search_examined_from choose
  search-counts = from (h s)
    where
      from : (v : ℕ∞) → answer_count (search_from Y h budget limit s v) ≡ length (search_examined_from Y h budget limit s v)
      from inf = refl
      from (fin v) = by_test (leb v limit) (λ e. rw e (omega (arith, rounds_count (suc (limit - v)) v 0))) (λ e. rw e refl)

  -- The first examination, if one is made, is that of the start with its value: "Rounds run d = value of the start, then one more each".
  pub first_examined : (x : Examined S) (xs : List (Examined S)) → search_examined Y h budget limit s ≡ x ∷ xs → (x.state ≡ s) × (h s ≡ fin x.depth)
  unfolding search_examined search_examined_from rounds_examined examined examined_with state_examined examination examine_with examine after_failure choose
  first_examined x xs q = from (h s) q
    where
      nothing : {C : Type 0} → [] ≡ x ∷ xs → C
      nothing q = let z : ◌≡◌ {A = ℕ} 0 1 = cc in absurd (omega arith)

      from : (v : ℕ∞) → search_examined_from Y h budget limit s v ≡ x ∷ xs → (x.state ≡ s) × (v ≡ fin x.depth)
      from inf q = nothing q
      from (fin v) q = by_test (leb v limit)
          (λ e. let w = rw e at q in by_test (eqb 0 budget)
          (λ b. nothing (rw b at w))
          (λ b. let y = rw b at w in let z : ◌≡◌ {A = Examined S} x (record { state = s; depth = v }) = cc in (rw z refl, rw z refl)))
          (λ e. nothing (rw e at q))

-- "The count in each answer is the one made": of the search of a task with patterns, from any state.
pub answer-counts : (t : Task) (ps : List (List ℕ)) (budget limit : ℕ) (s : List ℕ) → answer_count (answer t ps budget limit s) ≡ length (examinations t ps budget limit s)
unfolding answer examinations
answer-counts t ps budget limit s = search-counts (system t) (estimate t ps) budget limit s
