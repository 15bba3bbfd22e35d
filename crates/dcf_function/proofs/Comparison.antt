-- Claim comparison: the two values of the keys for a point r at u sum modulo 2^32 to [u < r], for any two seeds, any
-- number of levels, any opening of a node that may depend on the level, and any xor of seeds that cancels between two
-- children. Assumes nothing else.
use Rattle.std.specs.Prelude.{◌≡◌, ◌≢◌, [], ◌∷◌, Bool, not, ◌&&◌, ltb}
use Rattle.std.proofs.Math.Path.{refl}
use Rattle.std.proofs.Common.{sym, ◌∙◌, arith, ltb-true, ltb-false}
use Rattle.std.proofs.Math.Bool.{true, false, xor}
use Prim.Native.Nat.{ℕ, zero, suc, ◌+◌, ◌*◌}
use Rattle.base_algebra.specs.Mod.{m_eq}
use Rattle.base_algebra.specs.Ring.{ring}
use Rattle.base_algebra.specs.Word.{add, sub, neg, ◌≈◌, words, add_lt, same_word}
use Rattle.base_algebra.specs.Bit.{only, less, bit_le, less_lt, less_ge, less_le}
use Rattle.dcf_function.specs.Dcf.{Correction, Making, Walk, Opened, by_sign, side_flag, corrected, next_seed}
use Rattle.dcf_function.specs.Dcf.{next_flag, correction, kept, taken, level_correction, next_making, making}
use Rattle.dcf_function.specs.Dcf.{key_correction, last_word, final_word, next_walk, walk, total, value}
use Rattle.dcf_function.specs.Comparison.{prefix}

-- one bit more: where the numbers differ it changes nothing, and where they are one it decides
less_more : (p q : ℕ) (d b : Bool) → p ≢ q → less (2 * p + only d 1) (2 * q + only b 1) ≡ less p q
less_more p q d b n = go (ltb p q) refl
  where
    go : (x : Bool) → ltb p q ≡ x → less (2 * p + only d 1) (2 * q + only b 1) ≡ less p q
    go true e =
        let h = ltb-true p q e in
        less_lt _ _ (omega (arith, bit_le d, bit_le b)) ∙ sym (less_lt p q h)
    go false e =
        let h = ltb-false p q e in
        less_ge _ _ (omega (arith, bit_le d, bit_le b)) ∙ sym (less_ge p q h)

less_bit : (p : ℕ) (b : Bool) → less (2 * p + only (not b) 1) (2 * p + only b 1) ≡ only b 1
unfolding only
less_bit p true = less_lt _ _ (omega arith)
less_bit p false = less_ge _ _ (omega arith)

bits_differ : (p : ℕ) (b : Bool) → 2 * p + only (not b) 1 ≢ 2 * p + only b 1
unfolding only
bits_differ p true = omega arith
bits_differ p false = omega arith

more_differ : (p q : ℕ) (d b : Bool) → p ≢ q → 2 * p + only d 1 ≢ 2 * q + only b 1
unfolding only
more_differ p q true true n = omega arith
more_differ p q true false n = omega arith
more_differ p q false true n = omega arith
more_differ p q false false n = omega arith

-- ---- the sums: party 0's total is party 1's and V on the path, and party 1's and [u < r] off it

-- on the kept side ..
keep_sum : (t : Bool) (a0 a1 v v0 v1 w : ℕ) → a0 ≈ a1 + v
    → add (add a0 v0) (only (not t) w) ≈ add (add a1 v1) (only t w) + add (add (sub v v1) v0) (by_sign t w)
unfolding only by_sign
keep_sum true a0 a1 v v0 v1 w e = ring (a1 ∷ v ∷ v0 ∷ v1 ∷ w ∷ []) (search words depth 40 fits 5000) refl
keep_sum false a0 a1 v v0 v1 w e = ring (a1 ∷ v ∷ v0 ∷ v1 ∷ w ∷ []) (search words depth 40 fits 5000) refl

-- .. and on the lost one, where the bit of the point is b
abbrev lose_word : Bool → Bool → ℕ → ℕ → ℕ → ℕ
lose_word t b v v0 v1 = add (by_sign t (sub (sub v1 v0) v)) (only b (by_sign t 1))

lose_sum : (t b : Bool) (a0 a1 v v0 v1 : ℕ) → a0 ≈ a1 + v
    → add (add a0 v0) (only (not t) (lose_word t b v v0 v1))
    ≈ add (add a1 v1) (only t (lose_word t b v v0 v1)) + only b 1
unfolding only by_sign
lose_sum true true a0 a1 v v0 v1 e = ring (a1 ∷ v ∷ v0 ∷ v1 ∷ []) (search words depth 40 fits 5000) refl
lose_sum true false a0 a1 v v0 v1 e = ring (a1 ∷ v ∷ v0 ∷ v1 ∷ []) (search words depth 40 fits 5000) refl
lose_sum false true a0 a1 v v0 v1 e = ring (a1 ∷ v ∷ v0 ∷ v1 ∷ []) (search words depth 40 fits 5000) refl
lose_sum false false a0 a1 v v0 v1 e = ring (a1 ∷ v ∷ v0 ∷ v1 ∷ []) (search words depth 40 fits 5000) refl

-- .. at the end, on the path
last_sum : (t : Bool) (a0 a1 v v0 v1 : ℕ) → a0 ≈ a1 + v
    → add (add a0 v0) (only (not t) (by_sign t (sub (sub v1 v0) v)))
    ≈ add (add a1 v1) (only t (by_sign t (sub (sub v1 v0) v))) + 0
unfolding only by_sign
last_sum true a0 a1 v v0 v1 e = ring (a1 ∷ v ∷ v0 ∷ v1 ∷ []) (search words depth 40 fits 5000) refl
last_sum false a0 a1 v v0 v1 e = ring (a1 ∷ v ∷ v0 ∷ v1 ∷ []) (search words depth 40 fits 5000) refl

-- .. and off the path, where the two parties add the same
off_sum : (a0 a1 x y l : ℕ) → a0 ≈ a1 + l → add (add a0 x) y ≈ add (add a1 x) y + l
off_sum a0 a1 x y l e = ring (a1 ∷ x ∷ y ∷ l ∷ []) (search words depth 40 fits 5000) refl

-- ---- the flags: on the kept side they differ afterwards, on the lost one they are equal

flag_keep : (t f0 f1 : Bool) → xor f0 (not t && xor (xor f0 f1) true) ≡ not (xor f1 (t && xor (xor f0 f1) true))
unfolding xor
flag_keep true true true = refl
flag_keep true true false = refl
flag_keep true false true = refl
flag_keep true false false = refl
flag_keep false true true = refl
flag_keep false true false = refl
flag_keep false false true = refl
flag_keep false false false = refl

flag_lose : (t f0 f1 : Bool) → xor f0 (not t && xor f0 f1) ≡ xor f1 (t && xor f0 f1)
unfolding xor
flag_lose true true true = refl
flag_lose true true false = refl
flag_lose true false true = refl
flag_lose true false false = refl
flag_lose false true true = refl
flag_lose false true false = refl
flag_lose false false true = refl
flag_lose false false false = refl

xor_false : (a : Bool) → xor a false ≡ a
unfolding xor
xor_false true = refl
xor_false false = refl

xor_true_true : (a : Bool) → xor (xor a true) true ≡ a
unfolding xor
xor_true_true true = refl
xor_true_true false = refl

module _ {Seed : Type 0} (◌⊕◌ : Seed → Seed → Seed) (node : ℕ → Seed → Opened Seed) (first : Seed → ℕ)
    (back0 : (i : ℕ) (a b : Seed) (d : Bool)
    → ◌⊕◌ (node i a d).seed (◌⊕◌ (node i a d).seed (node i b d).seed) ≡ (node i b d).seed)
    (back1 : (i : ℕ) (a b : Seed) (d : Bool)
    → ◌⊕◌ (node i b d).seed (◌⊕◌ (node i a d).seed (node i b d).seed) ≡ (node i a d).seed) where
  abbrev at : Seed → Seed → Bool → ℕ → Making Seed
  at s0 s1 t v = record { s0 = s0; s1 = s1; t0 = not t; t1 = t; v = v }

  abbrev by : Seed → Bool → ℕ → Walk Seed
  by s t a = record { seed = s; flag = t; total = a }

  -- after i levels, where u's first i bits make p and the point's q: on the path both parties stand where key making
  -- does; off it they are one
  data Inv : Making Seed → Walk Seed → Walk Seed → ℕ → ℕ → Type 0 where
    on : (s0 s1 : Seed) (t : Bool) (a0 a1 v p : ℕ) → a0 ≈ a1 + v
        → Inv (at s0 s1 t v) (by s0 (not t) a0) (by s1 t a1) p p
    off : (g : Making Seed) (s : Seed) (t : Bool) (a0 a1 p q : ℕ) → p ≢ q → a0 ≈ a1 + less p q
        → Inv g (by s t a0) (by s t a1) p q

  -- the two cases, with what has to be shown for them
  on_by : (s0 s1 : Seed) (t0 t1 : Bool) (a0 a1 v p : ℕ) → t0 ≡ not t1 → a0 ≈ a1 + v
      → Inv (record { s0 = s0; s1 = s1; t0 = t0; t1 = t1; v = v }) (by s0 t0 a0) (by s1 t1 a1) p p
  on_by s0 s1 t0 t1 a0 a1 v p h e = rw h (on s0 s1 t1 a0 a1 v p e)

  off_by : (g : Making Seed) (s0 s1 : Seed) (t0 t1 : Bool) (a0 a1 p q : ℕ)
      → s0 ≡ s1 → t0 ≡ t1 → p ≢ q → a0 ≈ a1 + less p q
      → Inv g (by s0 t0 a0) (by s1 t1 a1) p q
  off_by g s0 s1 t0 t1 a0 a1 p q h k n e = rw (h, k) (off g s1 t1 a0 a1 p q n e)

  -- the corrections of the flags
  keep_flag : (i : ℕ) (b : Bool) (g : Making Seed)
      → side_flag (level_correction ◌⊕◌ node first i b g) b
      ≡ xor (xor (node i g.s0 b).flag (node i g.s1 b).flag) true
  unfolding level_correction correction side_flag
  keep_flag i true g = refl
  keep_flag i false g = rw xor_false

  lose_flag : (i : ℕ) (b : Bool) (g : Making Seed)
      → side_flag (level_correction ◌⊕◌ node first i b g) (not b)
      ≡ xor (node i g.s0 (not b)).flag (node i g.s1 (not b)).flag
  unfolding level_correction correction side_flag
  lose_flag i true g = xor_true_true _
  lose_flag i false g = xor_false _

  -- on the lost side the two seeds become one
  lose_seed : (i : ℕ) (t : Bool) (c : Correction Seed) (s0 s1 : Seed) (d : Bool)
      → c.seed ≡ ◌⊕◌ (node i s0 d).seed (node i s1 d).seed
      → next_seed ◌⊕◌ c (not t) (node i s0 d) ≡ next_seed ◌⊕◌ c t (node i s1 d)
  unfolding next_seed corrected
  lose_seed i true c s0 s1 d h = rw h (sym (back1 i s0 s1 d))
  lose_seed i false c s0 s1 d h = rw h (back0 i s0 s1 d)

  -- a level of both walks, beside key making
  abbrev Next : ℕ → Bool → Bool → Making Seed → Walk Seed → Walk Seed → ℕ → ℕ → Type 0
  Next i b d g w0 w1 p q =
      Inv (next_making ◌⊕◌ node first i b g) (next_walk ◌⊕◌ node first i (level_correction ◌⊕◌ node first i b g) d w0)
      (next_walk ◌⊕◌ node first i (level_correction ◌⊕◌ node first i b g) d w1)
      (2 * p + only d 1) (2 * q + only b 1)

  -- a level that keeps to the path, one that leaves it, and one off it
  keep : (i : ℕ) (b : Bool) (s0 s1 : Seed) (t : Bool) (a0 a1 v p : ℕ) → a0 ≈ a1 + v
      → Next i b b (at s0 s1 t v) (by s0 (not t) a0) (by s1 t a1) p p
  unfolding next_walk taken next_making kept next_flag
  keep i b s0 s1 t a0 a1 v p e =
      on_by _ _ _ _ _ _ _ _
      (rw (keep_flag i b (at s0 s1 t v)) (flag_keep t (node i s0 b).flag (node i s1 b).flag))
      (keep_sum t a0 a1 v _ _ _ e)

  lose : (i : ℕ) (b : Bool) (s0 s1 : Seed) (t : Bool) (a0 a1 v p : ℕ) → a0 ≈ a1 + v
      → Next i b (not b) (at s0 s1 t v) (by s0 (not t) a0) (by s1 t a1) p p
  unfolding next_walk taken next_flag level_correction correction
  lose i b s0 s1 t a0 a1 v p e =
      off_by _ _ _ _ _ _ _ _ _ (lose_seed i t _ s0 s1 (not b) refl)
      (rw (lose_flag i b (at s0 s1 t v)) (flag_lose t (node i s0 (not b)).flag (node i s1 (not b)).flag))
      (bits_differ p b) (rw (less_bit p b) (lose_sum t b a0 a1 v _ _ e))

  stay : (i : ℕ) (b d : Bool) (g : Making Seed) (s : Seed) (t : Bool) (a0 a1 p q : ℕ) → p ≢ q → a0 ≈ a1 + less p q
      → Next i b d g (by s t a0) (by s t a1) p q
  unfolding next_walk taken
  stay i b d g s t a0 a1 p q n e =
      let more : a0 ≈ a1 + less (2 * p + only d 1) (2 * q + only b 1) = rw (less_more p q d b n) e in
      off _ _ _ _ _ _ _ (more_differ p q d b n) (off_sum a0 a1 _ _ _ more)

  step : (i : ℕ) (b d : Bool) {g : Making Seed} {w0 w1 : Walk Seed} {p q : ℕ} → Inv g w0 w1 p q → Next i b d g w0 w1 p q
  step i true true (on s0 s1 t a0 a1 v p e) = keep i true s0 s1 t a0 a1 v p e
  step i true false (on s0 s1 t a0 a1 v p e) = lose i true s0 s1 t a0 a1 v p e
  step i false true (on s0 s1 t a0 a1 v p e) = lose i false s0 s1 t a0 a1 v p e
  step i false false (on s0 s1 t a0 a1 v p e) = keep i false s0 s1 t a0 a1 v p e
  step i b d (off g s t a0 a1 p q n e) = stay i b d g s t a0 a1 p q n e

  -- after the last level
  end : {g : Making Seed} {w0 w1 : Walk Seed} {p q : ℕ} → Inv g w0 w1 p q
      → total ◌⊕◌ node first (last_word ◌⊕◌ node first g) w0
      ≈ total ◌⊕◌ node first (last_word ◌⊕◌ node first g) w1 + less p q
  unfolding total last_word
  end (on s0 s1 t a0 a1 v p e) = rw (less_ge p p (omega arith)) (last_sum t a0 a1 v _ _ e)
  end (off g s t a0 a1 p q n e) = off_sum a0 a1 _ _ _ e

  module _ (k0 k1 : Seed) (r u : ℕ → Bool) where
    along : (i : ℕ) → Inv (making ◌⊕◌ node first k0 k1 r i)
        (walk ◌⊕◌ node first (key_correction ◌⊕◌ node first k0 k1 r) u k0 false i)
        (walk ◌⊕◌ node first (key_correction ◌⊕◌ node first k0 k1 r) u k1 true i)
        (prefix u i) (prefix r i)
    unfolding making walk prefix key_correction
    along zero = on k0 k1 true 0 0 0 0 (m_eq refl)
    along (suc i) = step i (r i) (u i) (along i)

    -- the two values are shares of [u < r]
    pub comparison : (n : ℕ)
        → add (value ◌⊕◌ node first false (key_correction ◌⊕◌ node first k0 k1 r)
        (final_word ◌⊕◌ node first k0 k1 r n) k0 u n)
        (value ◌⊕◌ node first true (key_correction ◌⊕◌ node first k0 k1 r) (final_word ◌⊕◌ node first k0 k1 r n) k1 u n)
        ≡ less (prefix u n) (prefix r n)
    unfolding value final_word by_sign
    comparison n =
        same_word (shares _ _ _ (end (along n))) (add_lt _ _) (omega (arith, less_le (prefix u n) (prefix r n)))
      where
        shares : (a b l : ℕ) → a ≈ b + l → add a (neg b) ≈ l
        shares a b l e = ring (b ∷ l ∷ []) (search words depth 40 fits 5000) refl
