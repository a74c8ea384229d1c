-- Plans: trees, when a tree is a strong plan from a state, its cost and depth, and its bytes. Document 01, "Search", second paragraph.
-- Assumes nothing.
use Rattle.std.specs.Prelude.{List, [], ◌∷◌, ◌++◌, ℕ, zero, suc, ◌+◌, ◌<◌, max, T, eqb}
use Rattle.planning.specs.Finite.{choose}
use Rattle.planning.specs.System.{System, applies}

-- A plan is "arrived", or an action followed by a plan for each of its outcomes, in order.
mutual
  pub data Plan : Type 0 where
    arrived : Plan
    act : ℕ → Plans → Plan

  pub data Plans : Type 0 where
    done : Plans
    ◌then◌ : Plan → Plans → Plans

infixr 30 ◌then◌
module _ {S : Type 0} (Y : System S) where
  -- "A strong plan from a state is a finite tree of this kind, of any depth and from any producer: at a goal state 254, elsewhere a move
  -- that applies there, followed for each of its outcomes by a strong plan from the state after that outcome."
  unfoldable mutual
    pub Strong : Plan → S → Type 0
    Strong arrived s = T (Y.goal s)
    Strong (act m ps) s = (m < Y.actions) × T (applies Y m s) × Strongs ps (Y.successors m s)

    pub Strongs : Plans → List S → Type 0
    Strongs done [] = Unit {0}
    Strongs done (x ∷ xs) = ⊥
    Strongs (p then ps) [] = ⊥
    Strongs (p then ps) (x ∷ xs) = Strong p x × Strongs ps xs

  -- "Its cost is the largest number of moves from root to an arrival", each move counted with its weight.
  unfoldable mutual
    pub cost : Plan → ℕ
    cost arrived = 0
    cost (act m ps) = Y.weight m + costs ps

    pub costs : Plans → ℕ
    costs done = 0
    costs (p then ps) = max (cost p) (costs ps)

-- The moves on the longest path: demand 2's "moves depth".
unfoldable mutual
  pub depth : Plan → ℕ
  depth arrived = 0
  depth (act m ps) = suc (depths ps)

  pub depths : Plans → ℕ
  depths done = 0
  depths (p then ps) = max (depth p) (depths ps)

-- "A plan is written as bytes: 254 for arrived, else a move number followed by the plans for its outcomes in order."
unfoldable mutual
  pub encode : Plan → List ℕ
  encode arrived = 254 ∷ []
  encode (act m ps) = m ∷ encodes ps

  pub encodes : Plans → List ℕ
  encodes done = []
  encodes (p then ps) = encode p ++ encodes ps

-- The other way: the plan that bytes begin with, and the bytes after it.
pub data Parsed (A : Type 0) : Type 0 where
  parsed : A → List ℕ → Parsed A
  malformed : Parsed A

unfoldable pub parse_then : {A B : Type 0} → Parsed A → (A → List ℕ → Parsed B) → Parsed B
parse_then (parsed a bs) k = k a bs
parse_then malformed k = malformed

-- n plans, one after the other, each read by r.
unfoldable pub decodes : (List ℕ → Parsed Plan) → ℕ → List ℕ → Parsed Plans
decodes r zero bs = parsed done bs
decodes r (suc n) bs = parse_then (r bs) (λ p rest. parse_then (decodes r n rest) (λ ps end. parsed (p then ps) end))

-- `outcomes m` is the number of outcomes of action m. The first number bounds the depth read, so the number of bytes is always enough.
unfoldable pub decode : (ℕ → ℕ) → ℕ → List ℕ → Parsed Plan
decode outcomes zero bs = malformed
decode outcomes (suc f) [] = malformed
decode outcomes (suc f) (b ∷ bs) = choose (eqb b 254) (λ u. parsed arrived bs)
    (λ u. parse_then (decodes (decode outcomes f) (outcomes b) bs) (λ ps rest. parsed (act b ps) rest))
