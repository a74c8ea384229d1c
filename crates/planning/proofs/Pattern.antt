-- Laws of patterns: projection goes along with preconditions, outcomes and goal, so the abstraction of a well-formed task is well formed
-- and a task projects on it; an action that does not affect a pattern leaves the projection as it is. Assumes nothing.
use mathlib.Core.Path.{◌≡◌, refl, sym, ap, ◌∙◌}
use mathlib.Core.Bool.{Bool, true, false, not, ◌&&◌, ◌||◌, cond}
use mathlib.Core.List.{List, [], ◌∷◌, map}
use Prim.Native.Nat.{ℕ, zero, suc, ◌≤◌, ◌<◌}
use native.Mathlib.Omega.{arith}
use lib.Dec.{T, eqb, ltb, eqb→eq, lt→ltb}
use borrow.Author.Tests.{eqb-true}
use lib.ListN.{length, get_or, length-map}
use Rattle.planning.specs.Finite.{All}
use Rattle.planning.specs.System.{Invariant}
use Rattle.planning.specs.Task.{Action, Task, meets_cell, meets, apply_cell, apply, permits, action_at, no_action, system, in_sizes, fits_sizes, State, WellFormedAction, WellFormed}
use Rattle.planning.specs.Pattern.{keep, project, mask, mask_action, abstraction, AbstractState, counted_cell, counted, affects, affects_pattern}
use Rattle.planning.proofs.Test.{and_in, and_l, and_r, not_or, by_test}
use Rattle.planning.proofs.Finite.{all_of, all_imp, all_zip, all_map, some_map, not_some_of, get_or_map, map-map, map_ext}
use Rattle.planning.proofs.Task.{task_invariant}
use Rattle.planning.proofs.Projection.{Projection}

-- Keeping a pattern's cells twice is keeping them once.
keep-cell_twice : (b : Bool) (x z : ℕ) → cond b (cond b x z) z ≡ cond b x z
keep-cell_twice true x z = refl
keep-cell_twice false x z = refl

pub keep_twice : (z : ℕ) (p l : List ℕ) → keep z p (keep z p l) ≡ keep z p l
unfolding keep
keep_twice z p [] = refl
keep_twice z [] (x ∷ l) = ap (λ k. z ∷ k) (keep_twice z [] l)
keep_twice z (b ∷ p) (x ∷ l) = rw (keep-cell_twice (eqb b 1) x z, keep_twice z p l)

pub project_twice : (p s : List ℕ) → project p (project p s) ≡ project p s
project_twice p s = keep_twice 0 p s

-- The projection of the state after an outcome is the projected state after the masked outcome.
apply_cell-keep : (b : Bool) (y x : ℕ) → cond b (apply_cell y x) 0 ≡ apply_cell (cond b y 255) (cond b x 0)
apply_cell-keep true y x = refl
apply_cell-keep false y x = refl

pub project-apply : (p o s : List ℕ) → project p (apply o s) ≡ apply (mask p o) (project p s)
unfolding keep apply
project-apply p o [] = refl
project-apply [] [] (x ∷ s) = refl
project-apply (b ∷ p) [] (x ∷ s) = refl
project-apply [] (y ∷ o) (x ∷ s) = ap (λ l. 0 ∷ l) (project-apply [] o s)
project-apply (b ∷ p) (y ∷ o) (x ∷ s) = rw (apply_cell-keep (eqb b 1) y x, project-apply p o s)

-- What a state meets its projection meets, masked: the goal and preconditions.
meets_cell-keep : (b : Bool) (y x : ℕ) → T (meets_cell y x) → T (meets_cell (cond b y 255) (cond b x 0))
meets_cell-keep true y x t = t
meets_cell-keep false y x t = tt

pub project-meets : (p n s : List ℕ) → T (meets n s) → T (meets (mask p n) (project p s))
unfolding keep meets
project-meets p [] s t = tt
project-meets [] (y ∷ n) [] t = tt
project-meets (b ∷ p) (y ∷ n) [] t = tt
project-meets [] (y ∷ n) (x ∷ s) t = project-meets [] n s (and_r (meets_cell y x) _ t)
project-meets (b ∷ p) (y ∷ n) (x ∷ s) t = and_in (meets_cell (cond (eqb b 1) y 255) (cond (eqb b 1) x 0)) _
    (meets_cell-keep (eqb b 1) y x (and_l (meets_cell y x) _ t)) (project-meets p n s (and_r (meets_cell y x) _ t))

pub project-permits : (p : List ℕ) (q : Action → ℕ) (a : Action) (s : List ℕ) → T (permits a s) → T (permits (mask_action p q a) (project p s))
unfolding permits mask_action
project-permits p q a s t = project-meets p a.precondition s t

-- An outcome that names none of the pattern's variables leaves the projection as it is; so does every outcome of an action that applies
-- and does not affect the pattern (unaffected).
unaffected_cell : (b : Bool) (y x : ℕ) → T (not (b && not (eqb y 255))) → cond b (apply_cell y x) 0 ≡ cond b x 0
unaffected_cell true y x t = by_test (eqb y 255) (λ e. rw e) (λ e. absurd (rw e at t))
unaffected_cell false y x t = refl

pub unaffected_outcome : (p o s : List ℕ) → T (not (affects p o)) → project p (apply o s) ≡ project p s
unfolding keep apply affects
unaffected_outcome p o [] t = refl
unaffected_outcome p [] (x ∷ s) t = refl
unaffected_outcome [] (y ∷ o) (x ∷ s) t = ap (λ l. 0 ∷ l) (unaffected_outcome [] o s t)
unaffected_outcome (b ∷ p) (y ∷ o) (x ∷ s) t = let h = not_or (eqb b 1 && not (eqb y 255)) (affects p o) t in
    rw (unaffected_cell (eqb b 1) y x h.0, unaffected_outcome p o s h.1)

-- Counting leaves a list of cells as long as it is, and goes cell by cell.
pub length_counted : (n o : List ℕ) → length (counted n o) ≡ length o
unfolding counted
length_counted n [] = refl
length_counted [] (y ∷ o) = refl
length_counted (n ∷ need) (y ∷ o) = ap suc (length_counted need o)

pub counted_at : (n o : List ℕ) (i d : ℕ) → i < length o → get_or (counted n o) i d ≡ counted_cell (get_or n i 255) (get_or o i d)
unfolding counted
counted_at n [] i d h = absurd (omega arith)
counted_at [] (y ∷ o) i d h = by_test (eqb (get_or (y ∷ o) i d) 255) (λ e. rw e (eqb-true (get_or (y ∷ o) i d) 255 e)) (λ e. rw e)
counted_at (n ∷ need) (y ∷ o) zero d h = refl
counted_at (n ∷ need) (y ∷ o) (suc i) d h = counted_at need o i d (omega arith)

pub counted_unnamed : (n : ℕ) → counted_cell n 255 ≡ 255
counted_unnamed n = by_test (eqb 255 n) (λ e. rw e) (λ e. rw e)

-- Where the need is met, what an outcome restates changes nothing: the assignments that count lead to the same state.
counted_apply_cell : (n y x : ℕ) → T (meets_cell n x) → apply_cell (counted_cell n y) x ≡ apply_cell y x
counted_apply_cell n y x t = by_test (eqb y n)
    (λ e. let q = eqb-true y n e in by_test (eqb y 255)
    (λ f. rw (e, f))
    (λ f. let g : eqb n 255 ≡ false = rw q at f in let h : T (eqb n x) = rw g at t in let k = eqb→eq n x h in rw (e, f) (omega arith)))
    (λ e. rw e)

pub counted_apply : (n o s : List ℕ) → T (meets n s) → apply (counted n o) s ≡ apply o s
unfolding meets apply counted
counted_apply n [] s t = refl
counted_apply [] (y ∷ o) s t = refl
counted_apply (n ∷ need) (y ∷ o) [] t = refl
counted_apply (n ∷ need) (y ∷ o) (x ∷ s) t = rw (counted_apply_cell n y x (and_l (meets_cell n x) _ t), counted_apply need o s (and_r (meets_cell n x) _ t))

-- The abstraction counts what counts of the pattern.
mask_counted_cell : (b : Bool) (n y : ℕ) → cond b (counted_cell n y) 255 ≡ counted_cell (cond b n 255) (cond b y 255)
mask_counted_cell true n y = refl
mask_counted_cell false n y = refl

mask_counted : (p n o : List ℕ) → mask p (counted n o) ≡ counted (mask p n) (mask p o)
unfolding keep counted
mask_counted p n [] = refl
mask_counted [] [] (y ∷ o) = refl
mask_counted (b ∷ p) [] (y ∷ o) = refl
mask_counted [] (n ∷ need) (y ∷ o) = ap (λ l. 255 ∷ l) (mask_counted [] need o)
mask_counted (b ∷ p) (n ∷ need) (y ∷ o) = rw (mask_counted_cell (eqb b 1) n y, mask_counted p need o)

pub masked_leads : (p : List ℕ) (a : Action) (o s : List ℕ) → T (meets (mask p a.precondition) s) → apply (mask p (counted a.precondition o)) s ≡ apply (mask p o) s
masked_leads p a o s t = ap (λ c. apply c s) (mask_counted p a.precondition o) ∙ counted_apply (mask p a.precondition) (mask p o) s t

counted_cell_fits : (n y z : ℕ) → T (eqb y 255 || ltb y z) → T (eqb (counted_cell n y) 255 || ltb (counted_cell n y) z)
counted_cell_fits n y z t = by_test (eqb y n) (λ e. rw e tt) (λ e. rw e t)

pub counted_fits : (zs n o : List ℕ) → T (fits_sizes zs o) → T (fits_sizes zs (counted n o))
unfolding fits_sizes counted
counted_fits zs n [] t = tt
counted_fits zs [] (y ∷ o) t = t
counted_fits [] (n ∷ need) (y ∷ o) t = tt
counted_fits (z ∷ zs) (n ∷ need) (y ∷ o) t = and_in (eqb (counted_cell n y) 255 || ltb (counted_cell n y) z) _
    (counted_cell_fits n y z (and_l (eqb y 255 || ltb y z) _ t)) (counted_fits zs need o (and_r (eqb y 255 || ltb y z) _ t))

pub counted_leads : (a : Action) (o s : List ℕ) → T (permits a s) → apply (counted a.precondition o) s ≡ apply o s
unfolding permits
counted_leads a o s t = counted_apply a.precondition o s t

pub unaffected : (a : Action) (p s : List ℕ) → T (permits a s) → T (not (affects_pattern a p)) → All (λ o. project p (apply o s) ≡ project p s) a.outcomes
unfolding affects_pattern
unaffected a p s t n = all_imp (λ o k. ap (project p) (sym (counted_leads a o s t)) ∙ unaffected_outcome p (counted a.precondition o) s k) a.outcomes
    (not_some_of (λ o. affects p (counted a.precondition o)) a.outcomes n)

-- The projection of a state is an abstract state.
keep-cell-fits : (b : Bool) (x z : ℕ) → 1 ≤ z → T (ltb x z) → T (ltb (cond b x 0) z)
keep-cell-fits true x z l t = t
keep-cell-fits false x z l t = lt→ltb 0 z l

project-in_sizes : (p zs s : List ℕ) → All (λ z. 1 ≤ z) zs → T (in_sizes zs s) → T (in_sizes zs (project p s))
unfolding in_sizes keep
project-in_sizes p [] [] h t = t
project-in_sizes p [] (x ∷ s) h t = absurd t
project-in_sizes p (z ∷ zs) [] h t = absurd t
project-in_sizes [] (z ∷ zs) (x ∷ s) h t = and_in (ltb 0 z) _ (lt→ltb 0 z h.0) (project-in_sizes [] zs s h.1 (and_r (ltb x z) _ t))
project-in_sizes (b ∷ p) (z ∷ zs) (x ∷ s) h t = and_in (ltb (cond (eqb b 1) x 0) z) _ (keep-cell-fits (eqb b 1) x z h.0 (and_l (ltb x z) _ t))
    (project-in_sizes p zs s h.1 (and_r (ltb x z) _ t))

pub project_state : (t : Task) → WellFormed t → (p s : List ℕ) → State t s → AbstractState t p (project p s)
project_state t w p s o = (project-in_sizes p t.sizes s w.sizes_positive o, project_twice p s)

-- A masked outcome fits the sizes and leads from abstract states to abstract states.
mask-cell-fits : (b : Bool) (y z : ℕ) → T (eqb y 255 || ltb y z) → T (eqb (cond b y 255) 255 || ltb (cond b y 255) z)
mask-cell-fits true y z t = t
mask-cell-fits false y z t = tt

pub mask_fits : (p zs o : List ℕ) → T (fits_sizes zs o) → T (fits_sizes zs (mask p o))
unfolding fits_sizes keep
mask_fits p zs [] t = tt
mask_fits [] [] (y ∷ o) t = tt
mask_fits (b ∷ p) [] (y ∷ o) t = tt
mask_fits [] (z ∷ zs) (y ∷ o) t = mask_fits [] zs o (and_r (eqb y 255 || ltb y z) _ t)
mask_fits (b ∷ p) (z ∷ zs) (y ∷ o) t = and_in (eqb (cond (eqb b 1) y 255) 255 || ltb (cond (eqb b 1) y 255) z) _
    (mask-cell-fits (eqb b 1) y z (and_l (eqb y 255 || ltb y z) _ t)) (mask_fits p zs o (and_r (eqb y 255 || ltb y z) _ t))

pub mask_stays_abstract : (p o s : List ℕ) → project p s ≡ s → project p (apply (mask p o) s) ≡ apply (mask p o) s
mask_stays_abstract p o s e = project-apply p (mask p o) s ∙ rw (keep_twice 255 p o, e)

-- The actions of the abstraction are those of the task, masked.
pub action_masked : (p : List ℕ) (q : Action → ℕ) (t : Task) (m : ℕ) → m < length t.actions → action_at (abstraction p q t) m ≡ mask_action p q (action_at t m)
unfolding abstraction
action_masked p q t m l = get_or_map (mask_action p q) t.actions m no_action no_action l

pub abstraction_actions : (p : List ℕ) (q : Action → ℕ) (t : Task) → length (abstraction p q t).actions ≡ length t.actions
unfolding abstraction
abstraction_actions p q t = length-map t.actions (mask_action p q)

-- The abstraction counts an action as q; each at least 1.
module _ (t : Task) (w : WellFormed t) (p : List ℕ) (q : Action → ℕ) (positive : All (λ a. 1 ≤ q a) t.actions) where
  pub abstraction-well_formed : WellFormed (abstraction p q t)
  unfolding abstraction mask_action
  abstraction-well_formed = record {
    sizes_positive = w.sizes_positive;
    actions_well_formed = all_map (WellFormedAction t.sizes) (mask_action p q) t.actions
        (all_zip {P = λ a. 1 ≤ q a} {Q = WellFormedAction t.sizes} {R = λ a. WellFormedAction t.sizes (mask_action p q a)} (λ a l k. record {
          weight_positive = l;
          some_outcome = some_map (λ o. Unit {0}) (mask p) a.outcomes k.some_outcome;
          outcomes_fit = all_map (λ o. T (fits_sizes t.sizes o)) (mask p) a.outcomes (all_imp (λ o f. mask_fits p t.sizes o f) a.outcomes k.outcomes_fit);
        }) t.actions positive w.actions_well_formed);
  }

  pub abstraction_invariant : Invariant (system (abstraction p q t)) (AbstractState t p)
  unfolding abstraction system mask_action
  abstraction_invariant = let J = task_invariant (abstraction p q t) abstraction-well_formed in record {
    weight_positive = J.weight_positive;
    closed = λ m s l v c. all_zip {P = State t} {Q = λ x. project p x ≡ x} {R = AbstractState t p} (λ x a b. (a, b)) ((system (abstraction p q t)).successors m s) (J.closed m s l v.0 c)
        (rw (action_masked p q t m (rw (abstraction_actions p q t) at l)) (all_map (λ x. project p x ≡ x) (λ o. apply o s) (map (mask p) (action_at t m).outcomes)
        (all_map (λ o. project p (apply o s) ≡ apply o s) (mask p) (action_at t m).outcomes (all_of (λ o. mask_stays_abstract p o s v.1) (action_at t m).outcomes))));
  }

-- The task projects on its abstraction.
pub projection : (t : Task) (p : List ℕ) (q : Action → ℕ) → Projection (system t) (system (abstraction p q t)) (project p)
unfolding system abstraction permits mask_action
projection t p q = record {
  actions_same = length-map t.actions (mask_action p q);
  goal_kept = λ s g. project-meets p t.goal s g;
  enabled_kept = λ m s l c. rw (action_masked p q t m l) (project-permits p q (action_at t m) s c);
  successors_kept = λ m s l. rw (action_masked p q t m l) (map-map (mask p) (λ o. apply o (project p s)) (action_at t m).outcomes
      ∙ map_ext _ _ (λ o. sym (project-apply p o s)) (action_at t m).outcomes ∙ sym (map-map (λ o. apply o s) (project p) (action_at t m).outcomes));
}
