-- Laws of the plan check: what each byte does, and that the check passes exactly the bytes of strong plans with at most `most` moves on a
-- path, with their cost and their length. Assumes nothing.
use mathlib.Core.Path.{◌≡◌, refl, sym, ap, ◌∙◌}
use mathlib.Core.Logic.{◌≢◌, ◌↔◌}
use mathlib.Core.Bool.{Bool, true, false, not}
use mathlib.Core.List.{List, [], ◌∷◌, ◌++◌, map, append_assoc, append-nil}
use Prim.Native.Nat.{ℕ, suc, ◌+◌, ◌≤◌, ◌<◌, max}
use native.Mathlib.Omega.{arith}
use lib.Dec.{T, eqb, ltb, eqb→eq, ltb→lt, lt→ltb, not_T}
use lib.ListN.{length, length-append}
use Rattle.planning.specs.Finite.{choose, All, Some}
use Rattle.planning.specs.System.{System, applies}
use Rattle.planning.specs.Plan.{Plan, arrived, act, Plans, done, ◌then◌, Strong, Strongs, cost, costs, depth, depths, encode, encodes}
use Rattle.planning.specs.PlanCheck.{Checked, passed, refused, Pending, demand, pending_after, check_byte, check_bytes, check_plan}
use Rattle.planning.proofs.Test.{by_test, not_equal, choose_true, choose_false}

-- A refusal is no pass; a pass tells its numbers.
refused_not_passed : (e i c n : ℕ) → refused e i ≡ passed c n → ⊥
refused_not_passed e i c n h = let z : ◌≡◌ {A = ℕ} 0 1 = cc in omega arith

passed_parts : (c n d m : ℕ) → passed c n ≡ passed d m → (c ≡ d) × (n ≡ m)
passed_parts c n d m h = (cc, cc)

-- A condition that holds lets the check go on; one that does not is the refusal; where the check passes, it held.
pub demand-met : (b : Bool) (v : Checked) (k : Unit {0} → Checked) → T b → demand b v k ≡ k tt
unfolding demand
demand-met b v k t = choose_true b k (λ u. v) t

pub demand_unmet : (b : Bool) (v : Checked) (k : Unit {0} → Checked) → T (not b) → demand b v k ≡ v
unfolding demand
demand_unmet b v k t = choose_false b k (λ u. v) t

demand-passed : {C : Type 0} (b : Bool) (e i c n : ℕ) (k : Unit {0} → Checked) → demand b (refused e i) k ≡ passed c n → (T b → k tt ≡ passed c n → C) → C
unfolding demand choose
demand-passed true e i c n k h f = f tt h
demand-passed false e i c n k h f = absurd (refused_not_passed e i c n h)

-- The test of a number that is not below another fails.
not_below : (a b : ℕ) → b ≤ a → T (not (ltb a b))
not_below a b l = not_T (ltb a b) (λ t. let k : a < b = ltb→lt a b t in omega arith)

-- Where every action weighs at least 1, a strong plan has at most as many moves on a path as its cost.
module _ {S : Type 0} (Y : System S) (weight_positive : (m : ℕ) → m < Y.actions → 1 ≤ Y.weight m) where
  mutual
    unfolding Strong depth cost

    pub depth_at_most_cost : (p : Plan) (s : S) → Strong Y p s → depth p ≤ cost Y p
    depth_at_most_cost arrived s h = omega arith
    depth_at_most_cost (act m ps) s h = omega (arith, weight_positive m h.0, depths_at_most_costs ps (Y.successors m s) h.2)

    depths_at_most_costs : (ps : Plans) (xs : List S) → Strongs Y ps xs → depths ps ≤ costs Y ps
    depths_at_most_costs done xs h = omega arith
    depths_at_most_costs (p then ps) [] h = absurd h
    depths_at_most_costs (p then ps) (x ∷ xs) h = omega (arith, depth_at_most_cost p x h.0, depths_at_most_costs ps xs h.1)

module _ {S : Type 0} (Y : System S) (most : ℕ) where
  -- The check begins with the state, no moves and no cost.
  pub check_begins : (s : S) (bs : List ℕ) → check_plan Y most s bs ≡ check_bytes Y most bs (record { state = s; moves = 0; paid = 0 } ∷ []) 0 0
  unfolding check_plan
  check_begins s bs = refl

  -- It passes where bytes and pending states end together. 12: bytes end first. 16: pending states end first.
  pub check_ends : (i worst : ℕ) → check_bytes Y most [] [] i worst ≡ passed worst i
  unfolding check_bytes
  check_ends i worst = refl

  pub check_ends_early : (x : Pending S) (rest : List (Pending S)) (i worst : ℕ) → check_bytes Y most [] (x ∷ rest) i worst ≡ refused 12 i
  unfolding check_bytes
  check_ends_early x rest i worst = refl

  pub check_goes_on : (b : ℕ) (bs : List ℕ) (i worst : ℕ) → check_bytes Y most (b ∷ bs) [] i worst ≡ refused 16 i
  unfolding check_bytes
  check_goes_on b bs i worst = refl

  -- Elsewhere there is a byte, with bs after it, and a state x to plan for, with rest after it.
  module _ (bs : List ℕ) (x : Pending S) (rest : List (Pending S)) (i worst : ℕ) where
    -- 254 at a goal: the next byte plans for the next state. 15: 254 elsewhere.
    pub check_arrived : T (Y.goal x.state) → check_bytes Y most (254 ∷ bs) (x ∷ rest) i worst ≡ check_bytes Y most bs rest (suc i) (max worst x.paid)
    unfolding check_bytes check_byte choose
    check_arrived g = demand-met (Y.goal x.state) (refused 15 i) _ g

    pub check_not_goal : T (not (Y.goal x.state)) → check_bytes Y most (254 ∷ bs) (x ∷ rest) i worst ≡ refused 15 i
    unfolding check_bytes check_byte choose
    check_not_goal g = demand_unmet (Y.goal x.state) (refused 15 i) _ g

    -- 13: a byte that is neither 254 nor an action's number.
    pub check_no_action : (b : ℕ) → b ≢ 254 → Y.actions ≤ b → check_bytes Y most (b ∷ bs) (x ∷ rest) i worst ≡ refused 13 i
    unfolding check_bytes check_byte choose
    check_no_action b n l = rw (not_equal b 254 n) (demand_unmet (ltb b Y.actions) (refused 13 i) _ (not_below b Y.actions l))

    -- 17: an action after as many moves as there may be.
    pub check_too_deep : (b : ℕ) → b ≢ 254 → b < Y.actions → most ≤ x.moves → check_bytes Y most (b ∷ bs) (x ∷ rest) i worst ≡ refused 17 i
    unfolding check_bytes check_byte choose
    check_too_deep b n a l = rw (not_equal b 254 n) (demand-met (ltb b Y.actions) (refused 13 i) _ (lt→ltb b Y.actions a)
        ∙ demand_unmet (ltb x.moves most) (refused 17 i) _ (not_below x.moves most l))

    -- 14: an action that does not apply.
    pub check_not_applying : (b : ℕ) → b ≢ 254 → b < Y.actions → x.moves < most → T (not (applies Y b x.state)) →
        check_bytes Y most (b ∷ bs) (x ∷ rest) i worst ≡ refused 14 i
    unfolding check_bytes check_byte choose
    check_not_applying b n a l t = rw (not_equal b 254 n) (demand-met (ltb b Y.actions) (refused 13 i) _ (lt→ltb b Y.actions a)
        ∙ demand-met (ltb x.moves most) (refused 17 i) _ (lt→ltb x.moves most l)
        ∙ demand_unmet (applies Y b x.state) (refused 14 i) _ t)

    -- An action that applies: the next bytes plan for the states after its outcomes, in order, before the rest.
    pub check_applies : (b : ℕ) → b ≢ 254 → b < Y.actions → x.moves < most → T (applies Y b x.state) →
        check_bytes Y most (b ∷ bs) (x ∷ rest) i worst ≡ check_bytes Y most bs (pending_after Y x b ++ rest) (suc i) worst
    unfolding check_bytes check_byte choose
    check_applies b n a l t = rw (not_equal b 254 n) (demand-met (ltb b Y.actions) (refused 13 i) _ (lt→ltb b Y.actions a)
        ∙ demand-met (ltb x.moves most) (refused 17 i) _ (lt→ltb x.moves most l)
        ∙ demand-met (applies Y b x.state) (refused 14 i) _ t)

  -- A strong plan for each pending state, in order, that makes no path longer than `most`.
  abbrev Planned : Plans → List (Pending S) → Type 0
  Planned done [] = Unit {0}
  Planned done (x ∷ rest) = ⊥
  Planned (p then ps) [] = ⊥
  Planned (p then ps) (x ∷ rest) = Strong Y p x.state × (x.moves + depth p ≤ most) × Planned ps rest

  -- Plans for the states after an action and for the rest are cut after the former.
  planned_split : (n k : ℕ) (rest : List (Pending S)) → n ≤ most → (xs : List S) (ps : Plans) → Planned ps (map (λ s. record { state = s; moves = n; paid = k }) xs ++ rest) →
      (qs : Plans) × (rs : Plans) × (encodes ps ≡ encodes qs ++ encodes rs) × Strongs Y qs xs × (n + depths qs ≤ most) × Planned rs rest
  unfolding encode depth Strong
  planned_split n k rest l [] ps h = (done, ps, refl, tt, omega arith, h)
  planned_split n k rest l (x ∷ xs) done h = absurd h
  planned_split n k rest l (x ∷ xs) (p then ps) h = let r = planned_split n k rest l xs ps h.2 in
      (p then r.0, r.1, rw r.2 (sym (append_assoc (encode p) (encodes r.0) (encodes r.1))), (h.0, r.3), omega (arith, h.1, r.4), r.5)

  -- Pending states within `most` moves stay so when the states after an action join them.
  within_most : (n k : ℕ) → n ≤ most → (rest : List (Pending S)) → All (λ x. x.moves ≤ most) rest → (xs : List S) →
      All (λ x. x.moves ≤ most) (map (λ s. record { state = s; moves = n; paid = k }) xs ++ rest)
  within_most n k l rest o [] = o
  within_most n k l rest o (x ∷ xs) = (l, within_most n k l rest o xs)

  -- Bytes that pass are those of strong plans for the pending states.
  passed_planned : (bs : List ℕ) (rest : List (Pending S)) (i worst c n : ℕ) → All (λ x. x.moves ≤ most) rest → check_bytes Y most bs rest i worst ≡ passed c n →
      (ps : Plans) × (bs ≡ encodes ps) × Planned ps rest
  unfolding check_bytes check_byte choose encode depth Strong
  passed_planned [] [] i worst c n o h = (done, refl, tt)
  passed_planned [] (x ∷ rest) i worst c n o h = absurd (refused_not_passed _ _ _ _ h)
  passed_planned (b ∷ bs) [] i worst c n o h = absurd (refused_not_passed _ _ _ _ h)
  passed_planned (b ∷ bs) (x ∷ rest) i worst c n o h = by_test (eqb b 254)
      (λ e. demand-passed (Y.goal x.state) 15 i c n _ (rw e at h)
      (λ g h. let r = passed_planned bs rest (suc i) (max worst x.paid) c n o.1 h in
      let q : b ≡ 254 = eqb→eq b 254 (rw e tt) in
      (arrived then r.0, λ i. q i ∷ r.1 i, (g, omega (arith, o.0), r.2))))
      (λ e. demand-passed (ltb b Y.actions) 13 i c n _ (rw e at h)
      (λ a h. demand-passed (ltb x.moves most) 17 i c n _ h
      (λ l h. demand-passed (applies Y b x.state) 14 i c n _ h
      (λ t h. let l : x.moves < most = ltb→lt x.moves most l in
      let r = passed_planned bs (pending_after Y x b ++ rest) (suc i) worst c n (within_most (suc x.moves) (x.paid + Y.weight b) l rest o.1 (Y.successors b x.state)) h in
      let z = planned_split (suc x.moves) (x.paid + Y.weight b) rest l (Y.successors b x.state) r.0 r.2 in
      (act b z.0 then z.1, ap (λ l. b ∷ l) (r.1 ∙ z.2), ((ltb→lt b Y.actions a, t, z.3), omega (arith, z.4), z.5))))))

  -- What passes is the bytes of a strong plan with at most `most` moves on a path: of any system.
  pub passed_plan : (s : S) (bs : List ℕ) (c n : ℕ) → check_plan Y most s bs ≡ passed c n → (p : Plan) × (bs ≡ encode p) × Strong Y p s × (depth p ≤ most)
  unfolding check_plan encode
  passed_plan s bs c n h = let r = passed_planned bs (record { state = s; moves = 0; paid = 0 } ∷ []) 0 0 c n (omega arith, tt) h in only r.0 r.1 r.2
    where
      only : (ps : Plans) → bs ≡ encodes ps → Planned ps (record { state = s; moves = 0; paid = 0 } ∷ []) → (p : Plan) × (bs ≡ encode p) × Strong Y p s × (depth p ≤ most)
      only done e f = absurd f
      only (p then done) e f = (p, e ∙ append-nil (encode p), f.0, omega (arith, f.1))
      only (p then (q then qs)) e f = absurd f.2

  -- Plans read one after the other, each from a state that cost k to reach: the largest cost of a path, when it was worst before.
  unfoldable pub worst_after : Plans → ℕ → ℕ → ℕ
  worst_after done k worst = worst
  worst_after (p then ps) k worst = worst_after ps k (max worst (k + cost Y p))

  -- With at least one plan it is the larger of what was before and k with the largest of their costs; so it is for the plans of an action.
  worst-after_some : (p : Plan) (ps : Plans) (k worst : ℕ) → worst_after (p then ps) k worst ≡ max worst (k + costs Y (p then ps))
  unfolding worst_after cost
  worst-after_some p done k worst = omega arith
  worst-after_some p (q then qs) k worst = omega (arith, worst-after_some q qs k (max worst (k + cost Y p)))

  worst-after_strong : (ps : Plans) (xs : List S) (k worst : ℕ) → Some (λ x. Unit {0}) xs → Strongs Y ps xs → worst_after ps k worst ≡ max worst (k + costs Y ps)
  unfolding Strong
  worst-after_strong done [] k worst o h = absurd o
  worst-after_strong done (x ∷ xs) k worst o h = absurd h
  worst-after_strong (p then ps) xs k worst o h = worst-after_some p ps k worst

  -- The check depends on the values of offset and cost only.
  same_place : (bs : List ℕ) (rest : List (Pending S)) (i j v w : ℕ) → i ≡ j → v ≡ w → check_bytes Y most bs rest i v ≡ check_bytes Y most bs rest j w
  same_place bs rest i j v w e f = cc

  module _ (few : Y.actions ≤ 254) (some_outcome : (m : ℕ) (s : S) → m < Y.actions → Some (λ x. Unit {0}) (Y.successors m s)) where
    -- A strong plan with which no path becomes longer than `most` is read to its end; its length and its cost are added to what was before.
    mutual
      unfolding Strong cost depth encode worst_after

      pub check_reads : (p : Plan) (x : Pending S) (rest : List (Pending S)) (bs : List ℕ) (i worst : ℕ) → Strong Y p x.state → x.moves + depth p ≤ most →
          check_bytes Y most (encode p ++ bs) (x ∷ rest) i worst ≡ check_bytes Y most bs rest (i + length (encode p)) (max worst (x.paid + cost Y p))
      check_reads arrived x rest bs i worst h l = check_arrived bs x rest i worst h ∙ same_place bs rest _ _ _ _ (omega arith) (omega arith)
      check_reads (act m ps) x rest bs i worst h l = check_applies (encodes ps ++ bs) x rest i worst m (omega (arith, h.0)) h.0 (omega arith) h.1
          ∙ check_reads_all ps (Y.successors m x.state) (suc x.moves) (x.paid + Y.weight m) rest bs (suc i) worst h.2 (omega arith)
          ∙ same_place bs rest _ _ _ _ (omega arith) (omega (arith, worst-after_strong ps (Y.successors m x.state) (x.paid + Y.weight m) worst (some_outcome m x.state h.0) h.2))

      pub check_reads_all : (ps : Plans) (xs : List S) (n k : ℕ) (rest : List (Pending S)) (bs : List ℕ) (i worst : ℕ) → Strongs Y ps xs → n + depths ps ≤ most →
          check_bytes Y most (encodes ps ++ bs) (map (λ s. record { state = s; moves = n; paid = k }) xs ++ rest) i worst ≡ check_bytes Y most bs rest (i + length (encodes ps)) (worst_after ps k worst)
      check_reads_all done [] n k rest bs i worst h l = same_place bs rest _ _ _ _ (omega arith) refl
      check_reads_all done (y ∷ ys) n k rest bs i worst h l = absurd h
      check_reads_all (p then ps) [] n k rest bs i worst h l = absurd h
      check_reads_all (p then ps) (y ∷ ys) n k rest bs i worst h l = rw (append_assoc (encode p) (encodes ps) bs)
          (check_reads p (record { state = y; moves = n; paid = k }) (map (λ s. record { state = s; moves = n; paid = k }) ys ++ rest) (encodes ps ++ bs) i worst h.0 (omega arith)
          ∙ check_reads_all ps ys n k rest bs (i + length (encode p)) (max worst (k + cost Y p)) h.1 (omega arith)
          ∙ same_place bs rest _ _ _ _ (omega (arith, length-append (encode p) (encodes ps))) refl)

    -- So the bytes of a strong plan with at most `most` moves on a path pass, with its cost and its length.
    pub strong_passed : (p : Plan) (s : S) → Strong Y p s → depth p ≤ most → check_plan Y most s (encode p) ≡ passed (cost Y p) (length (encode p))
    unfolding check_plan
    strong_passed p s h l = ap (check_plan Y most s) (sym (append-nil (encode p)))
        ∙ check_reads p (record { state = s; moves = 0; paid = 0 }) [] [] 0 0 h (omega arith)
        ∙ same_place [] [] _ _ _ _ (omega arith) (omega arith)
        ∙ check_ends (length (encode p)) (cost Y p)

    -- Where every action weighs at least 1, so do the bytes of a strong plan of cost at most `most`.
    pub cheap_passed : ((m : ℕ) → m < Y.actions → 1 ≤ Y.weight m) → (p : Plan) (s : S) → Strong Y p s → cost Y p ≤ most →
        check_plan Y most s (encode p) ≡ passed (cost Y p) (length (encode p))
    cheap_passed weight_positive p s h l = strong_passed p s h (omega (arith, depth_at_most_cost Y weight_positive p s h))

    -- What passes is the bytes of a strong plan with at most `most` moves on a path, and the cost and the length reported are that plan's.
    pub passed_strong : (s : S) (bs : List ℕ) (c n : ℕ) → check_plan Y most s bs ≡ passed c n →
        (p : Plan) × (bs ≡ encode p) × Strong Y p s × (depth p ≤ most) × (c ≡ cost Y p) × (n ≡ length bs)
    passed_strong s bs c n h = let r = passed_plan s bs c n h in
        let e = passed_parts c n (cost Y r.0) (length (encode r.0)) (sym h ∙ ap (check_plan Y most s) r.1 ∙ strong_passed r.0 s r.2 r.3) in
        (r.0, r.1, r.2, r.3, e.0, e.1 ∙ ap length (sym r.1))

    -- The check is exact: it passes with c and n exactly where the bytes are those of a strong plan of cost c with at most `most` moves on
    -- a path, and n is their number.
    pub check_exact : (s : S) (bs : List ℕ) (c n : ℕ) →
        (check_plan Y most s bs ≡ passed c n) ↔ ((p : Plan) × (bs ≡ encode p) × Strong Y p s × (depth p ≤ most) × (c ≡ cost Y p) × (n ≡ length bs))
    check_exact s bs c n = (
      passed_strong s bs c n,
      λ r. rw (r.4, r.5, r.1) (strong_passed r.0 s r.2 r.3),
    )
