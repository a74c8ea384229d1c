-- What a built task keeps is known, since it has one proof at most. Assumes nothing.
use Rattle.std.proofs.Common.{ℕ, List, [], ◌∷◌}
use Rattle.std.proofs.Math.Logic.{∥∥₁_elim}
use Rattle.std.proofs.Props.{props}
use Rattle.std.specs.Coded.{×_prop, Unit-prop, le_prop}
use Rattle.planning.specs.Finite.{All}
use Rattle.planning.specs.Task.{Task}
use Rattle.planning.specs.Pattern.{Additive}
use Rattle.planning.specs.Table.{Small}
use Rattle.task_record.specs.Record.{Sound}
use Rattle.search.specs.Entry.{Prepared}

all_prop : {A : Type 0} (P : A → Type 0) → ((x : A) → IsProp (P x)) → (xs : List A) → IsProp (All P xs)
all_prop P f [] = Unit-prop
all_prop P f (x ∷ xs) = ×_prop (f x) (all_prop P f xs)

small_prop : (t : Task) (ps : List (List ℕ)) → IsProp (Small t ps)
unfolding Small
small_prop t ps = all_prop _ (λ p. le_prop) ps

additive_prop : (t : Task) (ps : List (List ℕ)) → IsProp (Additive t ps)
unfolding Additive
additive_prop t ps = all_prop _ (λ a. le_prop) t.actions

sound_prop : (r : List ℕ) → IsProp (Sound r)
unfolding Sound
sound_prop r = hlevel props

pub known : {r : List ℕ} {budget : ℕ} {task sets : List ℕ} {start : ℕ} {tabs : List ℕ} → ∥ Prepared r budget task sets start tabs ∥₁ → Prepared r budget task sets start tabs
known {r} {budget} {task} {sets} {start} {tabs} p =
    let prop : IsProp (Prepared r budget task sets start tabs) = hlevel (props, sound_prop, small_prop, additive_prop) in
    ∥∥₁_elim p prop (λ q. q)
