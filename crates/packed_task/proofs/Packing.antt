-- Packed words stand for lists of cells: the mask test is `meets`, keep-and-set is `apply`, the pattern's mask is `keep`, and a word
-- holds its state. Assumes nothing.
use Rattle.std.proofs.Common.{◌≡◌, ℕ, zero, suc, ◌+◌, ◌-◌, ◌*◌, ◌/◌, ◌%◌, ◌^◌, ◌<◌, ◌≤◌, Bool, true, false, cond, ◌&&◌, ◌||◌, T, eqb, ltb, List, [], ◌∷◌, ◌++◌, length, reverse, refl, ap, ◌∙◌, ap₂, mod-eq_of_lt, pow-suc, arith, ltb→lt, eq-eqb, ne_eqb, eqb-true}
use native.Mathlib.Nat.{pow-le-pow_right}
use mathlib.Core.List.{reverse-cons}
use Rattle.std.proofs.lemmas.List.Sums.{fold-append}
use Rattle.std.specs.List.{fold}
use lib.Arith.{digits_div, digits_mod}
use lib.Bits.{bit_and, bit_or, and_block, or_block, and_mask, and_zero_l, and_zero_r, or_zero_l, or_zero_r}
use Rattle.planning.specs.Finite.{All}
use Rattle.planning.specs.Task.{meets, apply, in_sizes}
use Rattle.planning.specs.Pattern.{keep}
use Rattle.planning.proofs.Test.{T_true, bool_iff, and_in, and_l, and_r, by_test}
use Rattle.packed_task.specs.declared.packed.DigitRule.{DigitRule}
use Rattle.packed_task.specs.declared.packed.DigitRule.TheVariants.{Naming, Leaving, Setting, Low, Picking}
use Rattle.packed_task.specs.Packed.{pack_by, picking, low, naming, leaving, setting, cells_of, digit_by}
use Rattle.packed_task.specs.Packable.{all_cells_fit}

-- Digits in base 16 are compared one by one.
pub digits_equal : (a b x y : ℕ) → x < 16 → y < 16 → eqb (a * 16 + x) (b * 16 + y) ≡ (eqb y x && eqb a b)
digits_equal a b x y k l = bool_iff _ _
    (λ h. let e = eqb-true (a * 16 + x) (b * 16 + y) (T_true _ h) in let u : y ≡ x = omega arith in let v : a ≡ b = omega arith in
    and_in (eqb y x) (eqb a b) (rw (eq-eqb y x u) tt) (rw (eq-eqb a b v) tt))
    (λ h. let u = eqb-true y x (T_true _ (and_l (eqb y x) (eqb a b) h)) in let v = eqb-true a b (T_true _ (and_r (eqb y x) (eqb a b) h)) in
    let e : a * 16 + x ≡ b * 16 + y = omega arith in rw (eq-eqb (a * 16 + x) (b * 16 + y) e) tt)

-- A digit that is kept, and one that is not.
kept_digit : (y : ℕ) → y < 16 → bit_and y 15 ≡ y
kept_digit y h = and_mask y 4 ∙ mod-eq_of_lt h

named-cell : (y : ℕ) → y < 16 → eqb y 255 ≡ false
named-cell y l = ne_eqb y 255 (λ e. omega arith)

-- The four rules give digits.
cond-digit : (t : Bool) (a b : ℕ) → a < 16 → b < 16 → cond t a b < 16
cond-digit true a b h k = h
cond-digit false a b h k = k

pub low_digit : (x : ℕ) → low x < 16
low_digit x = omega arith

pub naming-digit : (x : ℕ) → naming x < 16
naming-digit x = cond-digit (eqb x 255) 0 15 (omega arith) (omega arith)

pub leaving-digit : (x : ℕ) → leaving x < 16
leaving-digit x = cond-digit (eqb x 255) 15 0 (omega arith) (omega arith)

pub setting-digit : (x : ℕ) → setting x < 16
setting-digit x = cond-digit (eqb x 255) 0 (x % 16) (omega arith) (omega arith)

-- A cell beside a value: unnamed, or both are digits.
cell_cases : {C : Type 0} (y z x : ℕ) → z ≤ 16 → T (eqb y 255 || ltb y z) → T (ltb x z) → (eqb y 255 ≡ true → C) → (eqb y 255 ≡ false → y < 16 → x < 16 → C) → C
cell_cases y z x b t u f g = by_test (eqb y 255) f (λ e. let h : y < z = ltb→lt y z (rw e at t) in let k : x < z = ltb→lt x z u in g e (omega arith) (omega arith))

-- Beyond the last variable nothing is named or set.
pub beyond_naming : (c : List ℕ) → T (all_cells_fit [] c) → (pack_by naming c ≡ 0) × (pack_by setting c ≡ 0)
unfolding pack_by all_cells_fit
beyond_naming [] h = (refl, refl)
beyond_naming (y ∷ c) h = let e = T_true (eqb y 255) (and_l (eqb y 255) _ h) in let k = beyond_naming c (and_r (eqb y 255) _ h) in
    (rw (e, k.0), rw (e, k.1))

-- The mask test on a packed state is the test of its cells.
pub mask_test : (zs c s : List ℕ) → All (λ z. z ≤ 16) zs → T (all_cells_fit zs c) → T (in_sizes zs s) → eqb (bit_and (pack_by low s) (pack_by naming c)) (pack_by setting c) ≡ meets c s
unfolding pack_by meets all_cells_fit in_sizes
mask_test [] [] [] b f o = refl
mask_test [] (y ∷ c) [] b f o = let k = beyond_naming (y ∷ c) f in rw (and_zero_l (pack_by naming (y ∷ c)), k.1)
mask_test [] c (x ∷ s) b f o = absurd o
mask_test (z ∷ zs) c [] b f o = absurd o
mask_test (z ∷ zs) [] (x ∷ s) b f o = rw (and_zero_r (pack_by low s * 16 + x % 16))
mask_test (z ∷ zs) (y ∷ c) (x ∷ s) b f o =
    let k = mask_test zs c s b.1 (and_r (eqb y 255 || ltb y z) _ f) (and_r (ltb x z) _ o) in
    cell_cases y z x b.0 (and_l (eqb y 255 || ltb y z) _ f) (and_l (ltb x z) _ o)
    (λ e. rw e (ap (λ n. eqb n (pack_by setting c * 16 + 0)) (and_block 4 (pack_by low s) (pack_by naming c) (x % 16) 0 (omega arith) (omega arith) ∙ ap (λ n. bit_and (pack_by low s) (pack_by naming c) * 16 + n) (and_zero_r (x % 16)))
    ∙ digits_equal (bit_and (pack_by low s) (pack_by naming c)) (pack_by setting c) 0 0 (omega arith) (omega arith) ∙ k))
    (λ e l h. rw (e, mod-eq_of_lt h, mod-eq_of_lt l)
    (ap (λ n. eqb n (pack_by setting c * 16 + y)) (and_block 4 (pack_by low s) (pack_by naming c) x 15 h (omega arith) ∙ ap (λ n. bit_and (pack_by low s) (pack_by naming c) * 16 + n) (kept_digit x h))
    ∙ digits_equal (bit_and (pack_by low s) (pack_by naming c)) (pack_by setting c) x y h l ∙ ap (λ n. eqb y x && n) k))

-- Keeping and setting digits of a packed state is the change of its cells.
pub mask_change : (zs o s : List ℕ) → All (λ z. z ≤ 16) zs → T (all_cells_fit zs o) → length zs ≤ length o → T (in_sizes zs s) → bit_or (bit_and (pack_by low s) (pack_by leaving o)) (pack_by setting o) ≡ pack_by low (apply o s)
unfolding pack_by apply all_cells_fit in_sizes
mask_change [] [] [] b f w h = refl
mask_change [] (y ∷ o) [] b f w h = rw (and_zero_l (pack_by leaving (y ∷ o)), (beyond_naming (y ∷ o) f).1, or_zero_l 0)
mask_change [] o (x ∷ s) b f w h = absurd h
mask_change (z ∷ zs) o [] b f w h = absurd h
mask_change (z ∷ zs) [] (x ∷ s) b f w h = absurd (omega arith)
mask_change (z ∷ zs) (y ∷ o) (x ∷ s) b f w h =
    let k = mask_change zs o s b.1 (and_r (eqb y 255 || ltb y z) _ f) (omega arith) (and_r (ltb x z) _ h) in
    cell_cases y z x b.0 (and_l (eqb y 255 || ltb y z) _ f) (and_l (ltb x z) _ h)
    (λ e. rw e (ap (λ n. bit_or n (pack_by setting o * 16 + 0)) (and_block 4 (pack_by low s) (pack_by leaving o) (x % 16) 15 (omega arith) (omega arith) ∙ ap (λ n. bit_and (pack_by low s) (pack_by leaving o) * 16 + n) (kept_digit (x % 16) (omega arith)))
    ∙ or_block 4 (bit_and (pack_by low s) (pack_by leaving o)) (pack_by setting o) (x % 16) 0 (omega arith) (omega arith)
    ∙ ap₂ (λ m n. m * 16 + n) k (or_zero_r (x % 16))))
    (λ e l u. rw e (ap (λ n. bit_or n (pack_by setting o * 16 + y % 16)) (and_block 4 (pack_by low s) (pack_by leaving o) (x % 16) 0 (omega arith) (omega arith) ∙ ap (λ n. bit_and (pack_by low s) (pack_by leaving o) * 16 + n) (and_zero_r (x % 16)))
    ∙ or_block 4 (bit_and (pack_by low s) (pack_by leaving o)) (pack_by setting o) 0 (y % 16) (omega arith) (omega arith)
    ∙ ap₂ (λ m n. m * 16 + n) k (or_zero_l (y % 16))))

-- A word below 16 ^ n and its first n digits are the same; so are a state and the digits of its word.
pub pack_cells : (n s : ℕ) → s < 16 ^ n → pack_by low (cells_of n s) ≡ s
unfolding pack_by cells_of
pack_cells zero s l = omega arith
pack_cells (suc n) s l = let p = pow-suc 16 n in rw (pack_cells n (s / 16) (omega arith)) (omega arith)

pub cells_pack : (zs s : List ℕ) → All (λ z. z ≤ 16) zs → T (in_sizes zs s) → cells_of (length zs) (pack_by low s) ≡ s
unfolding pack_by cells_of in_sizes
cells_pack [] [] b o = refl
cells_pack [] (x ∷ s) b o = absurd o
cells_pack (z ∷ zs) [] b o = absurd o
cells_pack (z ∷ zs) (x ∷ s) b o =
    let l : x < z = ltb→lt x z (and_l (ltb x z) _ o) in let d : x % 16 < 16 = omega arith in let m : x < 16 = omega (arith, b.0) in
    rw (digits_mod (pack_by low s) d, digits_div (pack_by low s) d, mod-eq_of_lt m, cells_pack zs s b.1 (and_r (ltb x z) _ o))

pub pack-below : (g : ℕ → ℕ) → ((x : ℕ) → g x < 16) → (s : List ℕ) → pack_by g s < 16 ^ length s
unfolding pack_by
pack-below g b [] = omega arith
pack-below g b (x ∷ xs) = let i = pack-below g b xs in let p = pow-suc 16 (length xs) in let q = b x in omega arith

-- Sixteen digits fit 64 binary digits.
pub pack-fits : (g : ℕ → ℕ) → ((x : ℕ) → g x < 16) → (s : List ℕ) → length s ≤ 16 → pack_by g s < 18446744073709551616
pack-fits g b s h = let p = pow-le-pow_right {n = 16} (omega arith) h in let q = pack-below g b s in omega arith

-- The pattern's mask keeps the pattern's cells, by any rule that gives 0 for what stands in place of the others.
pub pack-keep : (g : ℕ → ℕ) → ((x : ℕ) → g x < 16) → (z : ℕ) → g z ≡ 0 → (p c : List ℕ) → bit_and (pack_by g c) (pack_by picking p) ≡ pack_by g (keep z p c)
unfolding pack_by keep
pack-keep g b z e p [] = and_zero_l (pack_by picking p)
pack-keep g b z e [] (x ∷ c) = and_zero_r (pack_by g c * 16 + g x) ∙ rw (e, ← pack-keep g b z e [] c, and_zero_r (pack_by g c))
pack-keep g b z e (q ∷ p) (x ∷ c) = by_test (eqb q 1)
    (λ h. rw h (and_block 4 (pack_by g c) (pack_by picking p) (g x) 15 (b x) (omega arith) ∙ ap₂ (λ m n. m * 16 + n) (pack-keep g b z e p c) (kept_digit (g x) (b x))))
    (λ h. rw (h, e) (and_block 4 (pack_by g c) (pack_by picking p) (g x) 0 (b x) (omega arith) ∙ ap₂ (λ m n. m * 16 + n) (pack-keep g b z e p c) (and_zero_r (g x))))

-- The cells from the last one on, each before those after it.
pub packing_folded : (g : ℕ → ℕ) → ((x : ℕ) → g x < 16) → (s : List ℕ) → length s ≤ 16 → fold (λ p x. bit_or (p * 16 % 18446744073709551616) (g x)) 0 (reverse s) ≡ pack_by g s
unfolding pack_by
packing_folded g b [] l = refl
packing_folded g b (x ∷ s) l =
    let h = λ (p : ℕ) (y : ℕ). bit_or (p * 16 % 18446744073709551616) (g y) in let e = packing_folded g b s (omega arith) in
    let few : length s ≤ 15 = omega arith in let q = pow-le-pow_right {n = 16} (omega arith) few in let room = pack-below g b s in
    let whole : pack_by g s * 16 % 18446744073709551616 ≡ pack_by g s * 16 + 0 = omega arith in let low : g x ≡ 0 * 16 + g x = omega arith in
    ap (fold h 0) (reverse-cons x s) ∙ fold-append h 0 (reverse s) (x ∷ []) ∙ ap (λ p. h p x) e
    ∙ ap₂ bit_or whole low ∙ or_block 4 (pack_by g s) 0 0 (g x) (omega arith) (b x) ∙ ap₂ (λ m n. m * 16 + n) (or_zero_r (pack_by g s)) (or_zero_l (g x))

pub digit_by_digit : (rule : DigitRule) (x : ℕ) → digit_by rule x < 16
unfolding digit_by
digit_by_digit Naming x = naming-digit x
digit_by_digit Leaving x = leaving-digit x
digit_by_digit Setting x = setting-digit x
digit_by_digit Low x = low_digit x
digit_by_digit Picking x = cond-digit (eqb x 1) 15 0 (omega arith) (omega arith)

-- A list with one cell more.
pub pack_snoc : (g : ℕ → ℕ) (s : List ℕ) (x : ℕ) → pack_by g (s ++ (x ∷ [])) ≡ pack_by g s + g x * 16 ^ length s
unfolding pack_by
pack_snoc g [] x = omega arith
pack_snoc g (y ∷ s) x = let h = pack_snoc g s x in let p = pow-suc 16 (length s) in let q : g x * 16 ^ suc (length s) ≡ (g x * 16 ^ length s) * 16 = rw p (omega arith) in omega arith

-- Every digit is named or left.
named_or_left : (c : List ℕ) → pack_by naming c + pack_by leaving c + 1 ≡ 16 ^ length c
unfolding pack_by
named_or_left [] = refl
named_or_left (x ∷ c) = let h = named_or_left c in let p = pow-suc 16 (length c) in by_test (eqb x 255) (λ e. rw e (omega arith)) (λ e. rw e (omega arith))

pub left_are_not_named : (c : List ℕ) → length c ≡ 16 → 18446744073709551615 - pack_by leaving c ≡ pack_by naming c
left_are_not_named c l = let h : pack_by naming c + pack_by leaving c + 1 ≡ 16 ^ 16 = rw l at (named_or_left c) in omega arith
