-- The sizes and patterns of a sound record, and a state, as the code reads them. Assumes nothing.
use mathlib.Core.Path.{◌≡◌, refl, sym, ap, ◌∙◌}
use mathlib.Core.List.{List, [], ◌∷◌}
use Prim.Native.Nat.{ℕ, ◌≤◌, ◌<◌}
use native.Mathlib.Omega.{arith}
use lib.Dec.{T, ltb}
use lib.ListN.{length, get_or, take, drop}
use lib.Seq.{ext_get_or, get_or-take, length-take-le}
use Rattle.planning.specs.Task.{in_sizes}
use Rattle.planning.proofs.Test.{and_r}
use Rattle.task_record.specs.Layout.{at_pattern}
use Rattle.task_record.specs.Numbers.{variable_count, pattern_count, size_of}
use Rattle.task_record.specs.Record.{Sound}
use Rattle.task_record.specs.TaskOf.{cells_at, task_of}
use Rattle.task_record.specs.Window.{Sixteen}
use Rattle.task_record.proofs.Soundness.{sound_length}
use Rattle.task_record.proofs.SoundTask.{variables_right, patterns_right, cell_of_part, length_of_part, sizes_length, sound_well_formed}
use Rattle.planning.proofs.Finite.{length-tabulate, get_or_tabulate}
use Rattle.patterns.specs.Space.{all_sizes}
use Rattle.patterns.proofs.Weights.{Positive}

-- A state has a value for each size.
pub state_length : (zs s : List ℕ) → T (in_sizes zs s) → length s ≡ length zs
unfolding in_sizes
state_length [] [] h = refl
state_length [] (x ∷ s) h = absurd h
state_length (z ∷ zs) [] h = absurd h
state_length (z ∷ zs) (x ∷ s) h = let e = state_length zs s (and_r (ltb x z) _ h) in omega arith

-- The sizes of sixteen variables, one by one and as a list.
pub sixteen_sizes : (r all : List ℕ) → all ≡ all_sizes r → Sixteen (size_of r) all
unfolding all_sizes
sixteen_sizes r all e = record { whole = ap length e ∙ length-tabulate (size_of r) 0 16; cell = λ v l. ap (λ x. get_or x v 0) e ∙ get_or_tabulate (size_of r) 0 16 v 0 l ∙ ap (size_of r) (omega arith) }

pub sixteen_are_sizes : (r all : List ℕ) → Sixteen (size_of r) all → all ≡ all_sizes r
unfolding all_sizes
sixteen_are_sizes r all s =
    ext_get_or 0 all (all_sizes r) (s.whole ∙ sym (length-tabulate (size_of r) 0 16))
    (λ i l. let m : i < 16 = rw s.whole at l in s.cell i m ∙ sym (get_or_tabulate (size_of r) 0 16 i 0 m ∙ ap (size_of r) (omega arith)))

module _ (r : List ℕ) (sound : Sound r) where
  pub variables_few : variable_count r ≤ 16
  variables_few = (variables_right r sound).1

  pub sizes_few : length (task_of r).sizes ≤ 16
  unfolding task_of
  sizes_few = let n = sizes_length r sound in let v = variables_few in omega arith

  -- Of sixteen sizes the task has those of its variables.
  pub sizes_taken : (all : List ℕ) → Sixteen (size_of r) all → take (variable_count r) all ≡ (task_of r).sizes
  unfolding task_of
  sizes_taken all s =
      let n = variables_few in let w = s.whole in
      let l : length (take (variable_count r) all) ≡ variable_count r = length-take-le (variable_count r) all (omega arith) in
      ext_get_or 0 (take (variable_count r) all) (take (variable_count r) (drop 8 r)) (l ∙ sym (sizes_length r sound))
      (λ i h. let k : i < variable_count r = rw l at h in
      get_or-take (variable_count r) all i 0 k ∙ s.cell i (omega arith) ∙ sym (cell_of_part r (variable_count r) 8 i k))

  pub sizes_positive : Positive (task_of r).sizes
  sizes_positive = (sound_well_formed r sound).sizes_positive

  -- A pattern has sixteen cells.
  pub pattern_whole : (p : ℕ) → p < pattern_count r → length (cells_at r (at_pattern p)) ≡ 16
  pattern_whole p l = let f = patterns_right r sound in let n = sound_length r sound in length_of_part r 16 (at_pattern p) (omega arith)
