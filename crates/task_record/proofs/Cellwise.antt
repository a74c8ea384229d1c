-- What the definitions on lists of cells say cell by cell; a list that ends early names nothing more (255). Assumes nothing.
use Rattle.std.proofs.Common.{◌≡◌, ℕ, zero, suc, ◌<◌, Bool, true, false, not, ◌&&◌, ◌||◌, eqb, List, [], ◌∷◌, length, get_or, sym, refl, ap, ◌∙◌, zero-add, arith, ext_get_or}
use Rattle.planning.specs.Task.{apply_cell, apply}
use Rattle.planning.specs.Finite.{tabulate}
use Rattle.planning.specs.Pattern.{affects}
use Rattle.planning.proofs.Finite.{length-tabulate, get_or_tabulate}
use Rattle.task_record.specs.Scan.{all_below}
use Rattle.task_record.specs.Cells.{spares_cell, state_cells}
use Rattle.task_record.proofs.Scanning.{all_from_first}
use Rattle.task_record.proofs.Sixteens.{any_default}

abbrev pub changed : List ℕ → List ℕ → ℕ → ℕ
changed o s i = apply_cell (get_or o i 255) (get_or s i 0)

pub apply-length : (o s : List ℕ) → length (apply o s) ≡ length s
unfolding apply
apply-length o [] = refl
apply-length [] (x ∷ s) = refl
apply-length (y ∷ o) (x ∷ s) = ap suc (apply-length o s)

pub apply_cell_lem : (o s : List ℕ) (i : ℕ) → i < length s → get_or (apply o s) i 0 ≡ changed o s i
unfolding apply
apply_cell_lem o [] i h = absurd (omega arith)
apply_cell_lem [] (x ∷ s) i h = refl
apply_cell_lem (y ∷ o) (x ∷ s) zero h = refl
apply_cell_lem (y ∷ o) (x ∷ s) (suc i) h = apply_cell_lem o s i (omega arith)

-- An outcome affects a pattern where not every cell spares it.
abbrev pub spares : List ℕ → List ℕ → ℕ → Bool
spares p o i = spares_cell (get_or p i 0) (get_or o i 255)

not_both : (a b : Bool) → not (not a && b) ≡ (a || not b)
not_both true b = refl
not_both false b = refl

pub affects_cells : (p o : List ℕ) → affects p o ≡ not (all_below (spares p o) (length o))
unfolding affects all_below spares_cell
affects_cells p [] = refl
affects_cells [] (y ∷ o) =
    affects_cells [] o ∙ sym (ap not (all_from_first (spares [] (y ∷ o)) (length o)))
affects_cells (b ∷ p) (y ∷ o) =
    ap (λ (t : Bool). (eqb b 1 && not (eqb y 255)) || t) (affects_cells p o)
    ∙ sym (ap not (all_from_first (spares (b ∷ p) (y ∷ o)) (length o)) ∙ not_both (eqb b 1 && not (eqb y 255)) (all_below (spares p o) (length o)))

-- The cells of a state, one by one; sixteen cells are their own.
pub state_cells_lem : (c l : List ℕ) → length l ≡ 16 → ((i : ℕ) → i < 16 → get_or l i 0 ≡ get_or c i 255) → l ≡ state_cells c
unfolding state_cells
state_cells_lem c l whole each =
    let f : ℕ → ℕ = λ i. get_or c i 255 in
    ext_get_or 0 l (tabulate f 0 16) (whole ∙ sym (length-tabulate f 0 16)) (λ i h. each i (omega arith) ∙ sym (get_or_tabulate f 0 16 i 0 (omega arith) ∙ ap f (zero-add i)))

pub state_cells_whole : (c : List ℕ) → length c ≡ 16 → c ≡ state_cells c
state_cells_whole c whole = state_cells_lem c c whole (λ i h. any_default c i 0 255 (omega arith))
