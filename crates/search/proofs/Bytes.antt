-- Laws of the plan's buffer: bytes that stand one after the other. Assumes nothing.
use Rattle.std.proofs.Common.{◌≡◌, ℕ, zero, suc, ◌+◌, ◌-◌, ◌<◌, ◌≤◌, List, [], ◌∷◌, ◌++◌, length, get_or, set, sym, refl, ap, ◌∙◌, add-zero, arith, length-append, length-set, get_or-set_other, get_or-set_same, get_or-append-add}
use native.Mathlib.Decide.{dec_lt}
use lib.ListN.{get_or-append}
use Rattle.search.specs.Buffer.{Keeps, Holds}

pub keeps_itself : (at : ℕ) (old : List ℕ) → Keeps at old old
unfolding Keeps
keeps_itself at old i h = refl

pub keeps_trans : (at at' : ℕ) (old mid new : List ℕ) → at ≤ at' → Keeps at old mid → Keeps at' mid new → Keeps at old new
unfolding Keeps
keeps_trans at at' old mid new l f g i h = g i (omega arith) ∙ f i h

-- A byte stored at `at` stands there, and the bytes before it are kept.
pub keeps_stored : (at b : ℕ) (old : List ℕ) → Keeps at old (set old at b)
unfolding Keeps
keeps_stored at b old i l = get_or-set_other old at i b 0 (λ e. omega arith)

pub holds_stored : (at b : ℕ) (old : List ℕ) → Holds (b ∷ []) at (set old at b)
unfolding Holds
holds_stored at b old zero l r = rw (add-zero at) (get_or-set_same old at b 0 (rw (length-set, add-zero at) at r))
holds_stored at b old (suc i) l r = absurd (omega arith)

pub holds_nothing : (at : ℕ) (new : List ℕ) → Holds [] at new
unfolding Holds
holds_nothing at new i l = absurd (omega arith)

-- A byte stored before the bytes p, which stand at the next place.
pub holds_headed : (at b : ℕ) (p old : List ℕ) → Holds p (at + 1) old → Holds (b ∷ p) at (set old at b)
unfolding Holds
holds_headed at b p old g zero u v = rw (add-zero at) (get_or-set_same old at b 0 (rw (length-set, add-zero at) at v))
holds_headed at b p old g (suc j) u v =
    let w : at + suc j ≡ at + 1 + j = omega arith in
    get_or-set_other old at (at + suc j) b 0 (λ e. omega arith) ∙ ap (λ (n : ℕ). get_or old n 0) w ∙ g j (omega arith) (omega (arith, rw length-set at v))

-- p from `at` and q after it make p ++ q from `at`.
module _ (at end : ℕ) (mid new : List ℕ) (p q : List ℕ) (l : length new ≡ length mid) (g : end ≡ at + length p)
    (h : Holds p at mid) (k : Keeps end mid new) (f : Holds q end new) where
  joined_at : (j : ℕ) → Dec (j < length p) → j < length (p ++ q) → at + j < length new → get_or new (at + j) 0 ≡ get_or (p ++ q) j 0
  unfolding Holds Keeps
  joined_at j (yes a) u v = k (at + j) (omega arith) ∙ h j a (omega arith) ∙ sym (get_or-append p q 0 j a)
  joined_at j (no a) u v =
      let e : j ≡ length p + (j - length p) = omega arith in
      let w : end + (j - length p) ≡ at + j = omega arith in
      let u' : j - length p < length q = omega (arith, length-append p q) in
      let v' : end + (j - length p) < length new = omega arith in
      ap (λ (n : ℕ). get_or new n 0) (sym w) ∙ f (j - length p) u' v' ∙ sym (get_or-append-add p q (j - length p) 0) ∙ ap (λ (n : ℕ). get_or (p ++ q) n 0) (sym e)

  pub holds_joined : Holds (p ++ q) at new
  unfolding Holds
  holds_joined j u v = joined_at j (dec_lt j (length p)) u v
