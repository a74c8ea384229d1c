-- Laws of a plan's bytes: reading undoes writing, writing undoes reading, so that, with the number of outcomes of every action known, the
-- bytes determine the tree. `Shaped` says of which trees. Assumes nothing.
use mathlib.Core.Path.{◌≡◌, refl, sym, ap, ◌∙◌}
use mathlib.Core.List.{List, [], ◌∷◌, ◌++◌, append_assoc}
use Prim.Native.Nat.{ℕ, zero, suc, ◌≤◌, ◌<◌, max}
use native.Mathlib.Omega.{arith}
use lib.Dec.{eqb, eqb→eq}
use lib.ListN.{length, length-append}
use Rattle.planning.specs.Finite.{choose, Some}
use Rattle.planning.specs.System.{System}
use Rattle.planning.specs.Plan.{Plan, arrived, act, Plans, done, ◌then◌, Strong, Strongs, depth, depths, encode, encodes, Parsed, parsed, malformed, parse_then, decodes, decode}
use Rattle.planning.proofs.Test.{by_test, not_equal}

-- The nodes on the longest path, an arrival counted as one: what reading a plan back needs as its first number.
unfoldable mutual
  pub levels : Plan → ℕ
  levels arrived = 1
  levels (act m ps) = suc (levels_of ps)

  pub levels_of : Plans → ℕ
  levels_of done = 0
  levels_of (p then ps) = max (levels p) (levels_of ps)

-- They are at most one more than the moves on the longest path, and at most as many as the bytes.
mutual
  unfolding levels depth

  pub levels_at_most_depth : (p : Plan) → levels p ≤ suc (depth p)
  levels_at_most_depth arrived = omega arith
  levels_at_most_depth (act m ps) = omega (arith, levels_of_at_most_depths ps)

  pub levels_of_at_most_depths : (ps : Plans) → levels_of ps ≤ suc (depths ps)
  levels_of_at_most_depths done = omega arith
  levels_of_at_most_depths (p then ps) = omega (arith, levels_at_most_depth p, levels_of_at_most_depths ps)

-- Equal answers hold equal plans and equal bytes; a failure is no answer.
parsed_parts : {A : Type 0} (a b : A) (bs cs : List ℕ) → parsed a bs ≡ parsed b cs → (a ≡ b) × (bs ≡ cs)
parsed_parts a b bs cs e = (cc, cc)

malformed_not_parsed : {A : Type 0} (a : A) (bs : List ℕ) → malformed ≡ parsed a bs → ⊥
malformed_not_parsed a bs e = let z : ◌≡◌ {A = ℕ} 0 1 = cc in omega arith

module _ (outcomes : ℕ → ℕ) where
  -- Every action in the plan has a number below 254 and as many subplans as it has outcomes.
  unfoldable mutual
    pub Shaped : Plan → Type 0
    Shaped arrived = Unit {0}
    Shaped (act m ps) = (m < 254) × ShapedAll ps (outcomes m)

    pub ShapedAll : Plans → ℕ → Type 0
    ShapedAll done zero = Unit {0}
    ShapedAll done (suc n) = ⊥
    ShapedAll (p then ps) zero = ⊥
    ShapedAll (p then ps) (suc n) = Shaped p × ShapedAll ps n

  -- Written and read again with a first number that reaches its levels, a shaped plan comes back.
  mutual
    unfolding Shaped levels encode decode decodes parse_then choose

    decode-encode_levels : (p : Plan) (f : ℕ) (bs : List ℕ) → Shaped p → levels p ≤ f → decode outcomes f (encode p ++ bs) ≡ parsed p bs
    decode-encode_levels arrived zero bs h l = absurd (omega arith)
    decode-encode_levels arrived (suc f) bs h l = refl
    decode-encode_levels (act m ps) zero bs h l = absurd (omega arith)
    decode-encode_levels (act m ps) (suc f) bs h l = rw (not_equal m 254 (omega (arith, h.0)), decodes-encodes_levels ps (outcomes m) f bs h.1 (omega arith))

    decodes-encodes_levels : (ps : Plans) (n f : ℕ) (bs : List ℕ) → ShapedAll ps n → levels_of ps ≤ f → decodes (decode outcomes f) n (encodes ps ++ bs) ≡ parsed ps bs
    decodes-encodes_levels done zero f bs h l = refl
    decodes-encodes_levels done (suc n) f bs h l = absurd h
    decodes-encodes_levels (p then ps) zero f bs h l = absurd h
    decodes-encodes_levels (p then ps) (suc n) f bs h l = rw (append_assoc (encode p) (encodes ps) bs, decode-encode_levels p f (encodes ps ++ bs) h.0 (omega arith), decodes-encodes_levels ps n f bs h.1 (omega arith))

  -- The bytes of a shaped plan, followed by any bytes, are read as that plan and those bytes, with any first number above its depth.
  pub decode-encode : (p : Plan) (f : ℕ) (bs : List ℕ) → Shaped p → depth p < f → decode outcomes f (encode p ++ bs) ≡ parsed p bs
  decode-encode p f bs h l = decode-encode_levels p f bs h (omega (arith, levels_at_most_depth p))

  -- The bytes determine the tree, and where it ends: no shaped plan's bytes begin another's.
  pub encode_injective : (p q : Plan) (bs cs : List ℕ) → Shaped p → Shaped q → encode p ++ bs ≡ encode q ++ cs → (p ≡ q) × (bs ≡ cs)
  encode_injective p q bs cs h k e = let f : ℕ = suc (max (depth p) (depth q)) in
      parsed_parts p q bs cs (sym (decode-encode p f bs h (omega arith)) ∙ ap (decode outcomes f) e ∙ decode-encode q f cs k (omega arith))

-- Where one reading follows another and both give something, the first did and the second went on from there.
then_parsed : {A B C : Type 0} (r : Parsed A) (k : A → List ℕ → Parsed B) (b : B) (rest : List ℕ) → parse_then r k ≡ parsed b rest →
    ((a : A) (mid : List ℕ) → r ≡ parsed a mid → k a mid ≡ parsed b rest → C) → C
unfolding parse_then
then_parsed (parsed a mid) k b rest e f = f a mid refl e
then_parsed malformed k b rest e f = absurd (malformed_not_parsed b rest e)

-- A reader is faithful if what it gives, written again, is what it read.
abbrev Faithful : (List ℕ → Parsed Plan) → Type 0
Faithful r = (bs : List ℕ) (p : Plan) (rest : List ℕ) → r bs ≡ parsed p rest → bs ≡ encode p ++ rest

-- Reading one plan after the other is faithful if reading one is.
decodes_sound : (r : List ℕ → Parsed Plan) → Faithful r → (n : ℕ) (bs : List ℕ) (ps : Plans) (rest : List ℕ) → decodes r n bs ≡ parsed ps rest → bs ≡ encodes ps ++ rest
unfolding decodes encode
decodes_sound r h zero bs ps rest e = let k = parsed_parts done ps bs rest e in rw (← k.0) k.1
decodes_sound r h (suc n) bs ps rest e = then_parsed (r bs) _ ps rest e
    (λ q mid eq e. then_parsed (decodes r n mid) _ ps rest e
    (λ qs end eqs e. let k = parsed_parts (q then qs) ps end rest e in
    rw (← k.0, ← k.1, append_assoc (encode q) (encodes qs) end) (h bs q mid eq ∙ ap (λ cs. encode q ++ cs) (decodes_sound r h n mid qs end eqs))))

-- What is read, written again, is the bytes read: of any bytes, with any first number.
pub decode_sound : (outcomes : ℕ → ℕ) (f : ℕ) (bs : List ℕ) (p : Plan) (rest : List ℕ) → decode outcomes f bs ≡ parsed p rest → bs ≡ encode p ++ rest
unfolding decode encode choose
decode_sound outcomes zero bs p rest e = absurd (malformed_not_parsed p rest e)
decode_sound outcomes (suc f) [] p rest e = absurd (malformed_not_parsed p rest e)
decode_sound outcomes (suc f) (b ∷ bs) p rest e = by_test (eqb b 254)
    (λ t. let k = parsed_parts arrived p bs rest (rw t at e) in
    let q : b ≡ 254 = eqb→eq b 254 (rw t tt) in rw (← k.0, k.1, q))
    (λ t. then_parsed (decodes (decode outcomes f) (outcomes b) bs) _ p rest (rw t at e)
    (λ qs end eqs e. let k = parsed_parts (act b qs) p end rest e in
    rw (← k.0, ← k.1) (ap (λ cs. b ∷ cs) (decodes_sound (decode outcomes f) (decode_sound outcomes f) (outcomes b) bs qs end eqs))))

-- A strong plan is shaped, where the system has at most 254 actions and an action leads to as many states as it has outcomes.
module _ {S : Type 0} (Y : System S) (few : Y.actions ≤ 254) (outcomes : ℕ → ℕ) (counted : (m : ℕ) (s : S) → m < Y.actions → length (Y.successors m s) ≡ outcomes m) where
  mutual
    unfolding Strong Shaped

    pub strong_shaped : (p : Plan) (s : S) → Strong Y p s → Shaped outcomes p
    strong_shaped arrived s h = tt
    strong_shaped (act m ps) s h = (omega (arith, h.0), rw (counted m s h.0) at (strongs_shaped ps (Y.successors m s) h.2))

    pub strongs_shaped : (ps : Plans) (xs : List S) → Strongs Y ps xs → ShapedAll outcomes ps (length xs)
    strongs_shaped done [] h = tt
    strongs_shaped done (x ∷ xs) h = absurd h
    strongs_shaped (p then ps) [] h = absurd h
    strongs_shaped (p then ps) (x ∷ xs) h = (strong_shaped p x h.0, strongs_shaped ps xs h.1)

-- A plan has at least one byte.
pub encode_some : (p : Plan) → 1 ≤ length (encode p)
unfolding encode
encode_some arrived = omega arith
encode_some (act m ps) = omega arith

-- A strong plan has more bytes than moves on a path, where every action has an outcome. (One without would be one move and one byte.)
module _ {S : Type 0} (Y : System S) (some_outcome : (m : ℕ) (s : S) → m < Y.actions → Some (λ x. Unit {0}) (Y.successors m s)) where
  encodes_some : (ps : Plans) (xs : List S) → Some (λ x. Unit {0}) xs → Strongs Y ps xs → 1 ≤ length (encodes ps)
  unfolding Strong encode
  encodes_some done [] o h = absurd o
  encodes_some done (x ∷ xs) o h = absurd h
  encodes_some (p then ps) [] o h = absurd h
  encodes_some (p then ps) (x ∷ xs) o h = omega (arith, encode_some p, length-append (encode p) (encodes ps))

  mutual
    unfolding Strong depth encode

    pub depth-below-length : (p : Plan) (s : S) → Strong Y p s → depth p < length (encode p)
    depth-below-length arrived s h = omega arith
    depth-below-length (act m ps) s h = omega (arith, depths-below-length ps (Y.successors m s) h.2, encodes_some ps (Y.successors m s) (some_outcome m s h.0) h.2)

    depths-below-length : (ps : Plans) (xs : List S) → Strongs Y ps xs → depths ps < max 1 (length (encodes ps))
    depths-below-length done [] h = omega arith
    depths-below-length done (x ∷ xs) h = absurd h
    depths-below-length (p then ps) [] h = absurd h
    depths-below-length (p then ps) (x ∷ xs) h = omega (arith, depth-below-length p x h.0, depths-below-length ps xs h.1, length-append (encode p) (encodes ps))
