-- The plan check: document 01, "Plan check" and lines 12 to 17 of "Where a call can say no". It reads the bytes from left to right.
-- Assumes nothing.
use Rattle.std.specs.Prelude.{Bool, List, [], ◌∷◌, ◌++◌, map, ℕ, suc, ◌+◌, max, eqb, ltb}
use Rattle.planning.specs.Finite.{choose}
use Rattle.planning.specs.System.{System, applies}

-- "answers cost and length", or a refusal: its number and the offset.
pub data Checked : Type 0 where
  passed : ℕ → ℕ → Checked
  refused : ℕ → ℕ → Checked

-- A state that the bytes still have to plan for, with the moves on the path to it and what they cost.
pub record Pending (S : Type 0) : Type 0 where
  pub state : S
  pub moves : ℕ
  pub paid : ℕ

-- A condition, with the refusal where it does not hold; what follows waits.
unfoldable pub demand : Bool → Checked → (Unit {0} → Checked) → Checked
demand holds no₁ k = choose holds k (λ u. no₁)

-- What is pending after an action, in the order of its outcomes.
abbrev pub pending_after : {S : Type 0} → System S → Pending S → ℕ → List (Pending S)
pending_after Y x m = map (λ s. record { state = s; moves = suc x.moves; paid = x.paid + Y.weight m }) (Y.successors m x.state)

module _ {S : Type 0} (Y : System S) (most : ℕ) where
  -- "The check's lines are tested at each byte", in the order of the table: 13 "byte neither 254 nor below M", 15 "254 at a state that is
  -- no goal", 17 "a move after 255 moves on the path", 14 "move does not apply". b is the byte at offset i, x what it plans for, worst the
  -- largest cost of a path that has arrived.
  unfoldable pub check_byte : (List (Pending S) → ℕ → ℕ → Checked) → ℕ → Pending S → List (Pending S) → ℕ → ℕ → Checked
  check_byte next b x rest i worst = choose (eqb b 254)
      (λ u. demand (Y.goal x.state) (refused 15 i) (λ u. next rest (suc i) (max worst x.paid)))
      (λ u. demand (ltb b Y.actions) (refused 13 i)
      (λ u. demand (ltb x.moves most) (refused 17 i)
      (λ u. demand (applies Y b x.state) (refused 14 i)
      (λ u. next (pending_after Y x b ++ rest) (suc i) worst))))

  -- 12 "plan ends early" and 16 "bytes after the plan" are judged where bytes or pending states run out.
  unfoldable pub check_bytes : List ℕ → List (Pending S) → ℕ → ℕ → Checked
  check_bytes [] [] i worst = passed worst i
  check_bytes [] (x ∷ rest) i worst = refused 12 i
  check_bytes (b ∷ bs) [] i worst = refused 16 i
  check_bytes (b ∷ bs) (x ∷ rest) i worst = check_byte (check_bytes bs) b x rest i worst

  unfoldable pub check_plan : S → List ℕ → Checked
  check_plan s bs = check_bytes bs (record { state = s; moves = 0; paid = 0 } ∷ []) 0 0

-- "the check, and with it demand 2, allows 255 moves": a strong plan of at most 255 moves depth.
abbrev pub most_moves : ℕ
most_moves = 255
