-- The law of each function on limbs, over plain numbers. Assumes nothing.
use mathlib.Core.Path.{◌≡◌, refl, sym, ap, ◌∙◌}
use mathlib.Core.List.{List, [], ◌∷◌}
use Prim.Native.Nat.{ℕ, zero, suc, ◌+◌, ◌*◌, ◌/◌, ◌%◌, ◌^◌, ◌≤◌, ◌<◌}
use native.Mathlib.Nat.{div-le_of_le-mul, mul-le-mul, mul-le-mul_right, add-lt-add_of_lt_of_le, lt_of_lt_of_le}
use native.Mathlib.Nat.{div-add-mod', mod-eq_of_lt, mod-lt, add-mod_left, add-mul-mod_self_right, le_of_lt}
use native.Mathlib.Omega.{arith}
use lib.Dec.{lit<, lit≤}
use lib.ListN.{get_or}
use Rattle.base_algebra.specs.Mod.{Mod, m_eq, m_by, m_exact}
use Rattle.base_algebra.specs.Ring.{ring, ring=, reify}
use Rattle.poly1305_limbs.specs.Limbs.{prime, value, words4, Below, Limbs, column, over_prime, mod_prime, low128}
use Rattle.poly1305_limbs.specs.Limbs.{Carried}
use Rattle.poly1305_limbs.proofs.Chain.{keeps, hands}

-- ---- split

pub split_value : (w0 w1 w2 w3 top : ℕ)
    → w0 % 2 ^ 26
    + (w0 / 2 ^ 26 + w1 % 2 ^ 20 * 2 ^ 6) * 2 ^ 26
    + (w1 / 2 ^ 20 + w2 % 2 ^ 14 * 2 ^ 12) * 2 ^ 52
    + (w2 / 2 ^ 14 + w3 % 2 ^ 8 * 2 ^ 18) * 2 ^ 78
    + (w3 / 2 ^ 8 + top) * 2 ^ 104
    ≡ w0 + w1 * 2 ^ 32 + w2 * 2 ^ 64 + w3 * 2 ^ 96 + top * 2 ^ 104
split_value w0 w1 w2 w3 top =
    m_exact
    (m_by (m_eq (div-add-mod' w0 (2 ^ 26))) 1
    (m_by (m_eq (div-add-mod' w1 (2 ^ 20))) (2 ^ 32)
    (m_by (m_eq (div-add-mod' w2 (2 ^ 14))) (2 ^ 64)
    (m_by (m_eq (div-add-mod' w3 (2 ^ 8))) (2 ^ 96)
    (ring
    (w0 ∷ w1 ∷ w2 ∷ w3 ∷ top ∷ w0 / 2 ^ 26 ∷ w0 % 2 ^ 26 ∷ w1 / 2 ^ 20
    ∷ w1 % 2 ^ 20 ∷ w2 / 2 ^ 14 ∷ w2 % 2 ^ 14 ∷ w3 / 2 ^ 8 ∷ w3 % 2 ^ 8 ∷ [])
    (search reify depth 40 fits 9000) refl)))))

pub loosen : {m n : ℕ} {h : List ℕ} → m ≤ n → Below m h → Below n h
loosen {m} {n} l b =
    record { l0 = more b.l0; l1 = more b.l1; l2 = more b.l2; l3 = more b.l3; l4 = more b.l4 }
  where
    more : {a : ℕ} → a < m → a < n
    more h = omega arith

pub weaken : (h : List ℕ) → Below (2 ^ 26) h → Limbs h
weaken h = loosen (lit≤ tt)

-- ---- plus

pub plus_value : (h c : List ℕ)
    → value ((get_or h 0 0 + get_or c 0 0) ∷ (get_or h 1 0 + get_or c 1 0)
    ∷ (get_or h 2 0 + get_or c 2 0) ∷ (get_or h 3 0 + get_or c 3 0) ∷ (get_or h 4 0 + get_or c 4 0) ∷ [])
    ≡ value h + value c
unfolding value
plus_value h c =
    ring= _ _ (get_or h 0 0 ∷ get_or h 1 0 ∷ get_or h 2 0 ∷ get_or h 3 0 ∷ get_or h 4 0
    ∷ get_or c 0 0 ∷ get_or c 1 0 ∷ get_or c 2 0 ∷ get_or c 3 0 ∷ get_or c 4 0 ∷ [])
    (search reify depth 40 fits 9000) refl

pub sum_below : (h c : List ℕ) → Limbs h → (n : ℕ) → Below n c
    → Below (2 ^ 26 + 2 ^ 13 + n) ((get_or h 0 0 + get_or c 0 0) ∷ (get_or h 1 0 + get_or c 1 0)
    ∷ (get_or h 2 0 + get_or c 2 0) ∷ (get_or h 3 0 + get_or c 3 0) ∷ (get_or h 4 0 + get_or c 4 0) ∷ [])
sum_below h c b n d = record {
  l0 = more b.l0 d.l0;
  l1 = more b.l1 d.l1;
  l2 = more b.l2 d.l2;
  l3 = more b.l3 d.l3;
  l4 = more b.l4 d.l4;
}
  where
    more : {x y : ℕ} → x < 2 ^ 26 + 2 ^ 13 → y < n → x + y < 2 ^ 26 + 2 ^ 13 + n
    more h k = omega arith

-- ---- multiply

pub fits : {a b : ℕ} → a < 2 ^ 28 → b < 2 ^ 30 → a * b ≤ 2 ^ 58
fits h k = mul-le-mul (le_of_lt h) (le_of_lt k)

pub product : (h r : List ℕ) (d0 d1 d2 d3 d4 : ℕ)
    → d0 ≡ column h (get_or r 0 0) (5 * get_or r 4 0) (5 * get_or r 3 0) (5 * get_or r 2 0) (5 * get_or r 1 0)
    → d1 ≡ column h (get_or r 1 0) (get_or r 0 0) (5 * get_or r 4 0) (5 * get_or r 3 0) (5 * get_or r 2 0)
    → d2 ≡ column h (get_or r 2 0) (get_or r 1 0) (get_or r 0 0) (5 * get_or r 4 0) (5 * get_or r 3 0)
    → d3 ≡ column h (get_or r 3 0) (get_or r 2 0) (get_or r 1 0) (get_or r 0 0) (5 * get_or r 4 0)
    → d4 ≡ column h (get_or r 4 0) (get_or r 3 0) (get_or r 2 0) (get_or r 1 0) (get_or r 0 0)
    → Mod prime (value (d0 ∷ d1 ∷ d2 ∷ d3 ∷ d4 ∷ [])) (value h * value r)
unfolding value column
product h r d0 d1 d2 d3 d4 e0 e1 e2 e3 e4 =
    let e0 = m_eq {m = prime} e0 in
    let e1 = m_eq {m = prime} e1 in
    let e2 = m_eq {m = prime} e2 in
    let e3 = m_eq {m = prime} e3 in
    let e4 = m_eq {m = prime} e4 in
    ring
    (get_or h 0 0 ∷ get_or h 1 0 ∷ get_or h 2 0 ∷ get_or h 3 0 ∷ get_or h 4 0
    ∷ get_or r 0 0 ∷ get_or r 1 0 ∷ get_or r 2 0 ∷ get_or r 3 0 ∷ get_or r 4 0 ∷ [])
    (search reify depth 40 fits 9000) refl

-- ---- reduce

-- a limb, and what the one below hands on
pub hand : {a b n : ℕ} → 2 ≤ n → a < 2 ^ 61 → b < 2 ^ 62 → a + b / n < 2 ^ 62
hand {b = b} {n = n} t h k =
    let l : b ≤ n * 2 ^ 61 = omega arith in
    omega (arith, div-le_of_le-mul n l)

pub alone : {a : ℕ} → a < 2 ^ 61 → a < 2 ^ 62
alone h = omega arith

pub fits62 : {a : ℕ} → a < 2 ^ 62 → a < 2 ^ 64
fits62 h = omega arith

-- the last limb's carry, 5 times, and with what the first keeps; what the second keeps, with the first's carry
pub five : {a : ℕ} → a < 2 ^ 62 → 5 * (a / 2 ^ 26) < 2 ^ 61
five h = omega arith

pub first : {x : ℕ} (a : ℕ) → x < 2 ^ 61 → a % 2 ^ 26 + x < 2 ^ 62
first a h = omega arith

pub second : {e : ℕ} (a : ℕ) → e < 2 ^ 62 → a % 2 ^ 26 + e / 2 ^ 26 < 2 ^ 62
second a h = omega arith

carries : (d0 d1 d2 d3 d4 q0 q1 q2 q3 q4 q5 r0 r1 r2 r3 r4 r5 : ℕ)
    → q0 * 2 ^ 26 + r0 ≡ d0
    → q1 * 2 ^ 26 + r1 ≡ d1 + q0
    → q2 * 2 ^ 26 + r2 ≡ d2 + q1
    → q3 * 2 ^ 26 + r3 ≡ d3 + q2
    → q4 * 2 ^ 26 + r4 ≡ d4 + q3
    → q5 * 2 ^ 26 + r5 ≡ r0 + 5 * q4
    → Mod prime
    (r5 + (r1 + q5) * 2 ^ 26 + r2 * 2 ^ 52 + r3 * 2 ^ 78 + r4 * 2 ^ 104)
    (d0 + d1 * 2 ^ 26 + d2 * 2 ^ 52 + d3 * 2 ^ 78 + d4 * 2 ^ 104)
carries d0 d1 d2 d3 d4 q0 q1 q2 q3 q4 q5 r0 r1 r2 r3 r4 r5 h0 h1 h2 h3 h4 h5 =
    m_by (m_eq h0) 1
    (m_by (m_eq h1) (2 ^ 26)
    (m_by (m_eq h2) (2 ^ 52)
    (m_by (m_eq h3) (2 ^ 78)
    (m_by (m_eq h4) (2 ^ 104)
    (m_by (m_eq h5) 1
    (ring
    (d0 ∷ d1 ∷ d2 ∷ d3 ∷ d4 ∷ q0 ∷ q1 ∷ q2 ∷ q3 ∷ q4 ∷ q5 ∷ r0 ∷ r1 ∷ r2 ∷ r3 ∷ r4 ∷ r5 ∷ [])
    (search reify depth 40 fits 9000) refl))))))

module _ (d : List ℕ) (b : Below (2 ^ 61) d) (d1 d2 d3 d4 e0 : ℕ)
    (is1 : d1 ≡ get_or d 1 0 + get_or d 0 0 / 2 ^ 26)
    (is2 : d2 ≡ get_or d 2 0 + d1 / 2 ^ 26)
    (is3 : d3 ≡ get_or d 3 0 + d2 / 2 ^ 26)
    (is4 : d4 ≡ get_or d 4 0 + d3 / 2 ^ 26)
    (is0 : e0 ≡ get_or d 0 0 % 2 ^ 26 + 5 * (d4 / 2 ^ 26)) where
  pub reduced_below : Limbs (e0 % 2 ^ 26 ∷ (d1 % 2 ^ 26 + e0 / 2 ^ 26) ∷ d2 % 2 ^ 26 ∷ d3 % 2 ^ 26 ∷ d4 % 2 ^ 26 ∷ [])
  reduced_below =
      let x1 : d1 < 2 ^ 62 = rw is1 (hand (lit≤ tt) b.l1 (alone b.l0)) in
      let x2 : d2 < 2 ^ 62 = rw is2 (hand (lit≤ tt) b.l2 x1) in
      let x3 : d3 < 2 ^ 62 = rw is3 (hand (lit≤ tt) b.l3 x2) in
      let x4 : d4 < 2 ^ 62 = rw is4 (hand (lit≤ tt) b.l4 x3) in
      record {
        l0 = least e0;
        l1 = sum d1 (e0 / 2 ^ 26) (more (get_or d 0 0) d4 e0 x4 is0);
        l2 = least d2;
        l3 = least d3;
        l4 = least d4;
      }
    where
      least : (x : ℕ) → x % 2 ^ 26 < 2 ^ 26 + 2 ^ 13
      least x = omega arith

      more : (a q e : ℕ) → q < 2 ^ 62 → e ≡ a % 2 ^ 26 + 5 * (q / 2 ^ 26) → e / 2 ^ 26 < 2 ^ 13
      more a q e h k = omega arith

      sum : (x y : ℕ) → y < 2 ^ 13 → x % 2 ^ 26 + y < 2 ^ 26 + 2 ^ 13
      sum x y h = omega arith

  pub reduced_value : Mod prime
      (value (e0 % 2 ^ 26 ∷ (d1 % 2 ^ 26 + e0 / 2 ^ 26) ∷ d2 % 2 ^ 26 ∷ d3 % 2 ^ 26 ∷ d4 % 2 ^ 26 ∷ [])) (value d)
  unfolding value
  reduced_value =
      carries _ _ _ _ _ _ _ _ _ _ _ _ _ _ _ _ _
      (div-add-mod' (get_or d 0 0) (2 ^ 26))
      (div-add-mod' d1 (2 ^ 26) ∙ is1)
      (div-add-mod' d2 (2 ^ 26) ∙ is2)
      (div-add-mod' d3 (2 ^ 26) ∙ is3)
      (div-add-mod' d4 (2 ^ 26) ∙ is4)
      (div-add-mod' e0 (2 ^ 26) ∙ is0)

-- the carries of d with nothing added
module _ {d c : List ℕ} (k : Carried d 0 c) where
  same : get_or c 0 0 ≡ get_or d 0 0
  same = omega (arith, k.l0)

  pub plain1 : get_or c 1 0 ≡ get_or d 1 0 + get_or d 0 0 / 2 ^ 26
  plain1 = rw same at k.l1

  pub plain0 : get_or c 0 0 % 2 ^ 26 + 5 * (get_or c 4 0 / 2 ^ 26)
      ≡ get_or d 0 0 % 2 ^ 26 + 5 * (get_or c 4 0 / 2 ^ 26)
  plain0 = rw same refl

-- ---- over_prime and remainder: the limbs of h and x, with every carry

pub start : {a x : ℕ} → a < 2 ^ 26 + 2 ^ 13 → x < 2 ^ 13 → a + x < 2 ^ 62
start h k = omega arith

pub small : {q : ℕ} → q < 2 → 5 * q < 2 ^ 13
small h = omega arith

pub limb : {a : ℕ} → a < 2 ^ 26 + 2 ^ 13 → a < 2 ^ 61
limb h = omega arith

pub least : (x : ℕ) → x % 2 ^ 26 < 2 ^ 26
least x = omega arith

module _ (h : List ℕ) (x : ℕ) (d0 d1 d2 d3 d4 : ℕ)
    (is0 : d0 ≡ get_or h 0 0 + x)
    (is1 : d1 ≡ get_or h 1 0 + d0 / 2 ^ 26)
    (is2 : d2 ≡ get_or h 2 0 + d1 / 2 ^ 26)
    (is3 : d3 ≡ get_or h 3 0 + d2 / 2 ^ 26)
    (is4 : d4 ≡ get_or h 4 0 + d3 / 2 ^ 26) where
  -- what stands above d0, d1 and d2
  y1 : ℕ
  y1 = get_or h 1 0 + (get_or h 2 0 + (get_or h 3 0 + get_or h 4 0 * 2 ^ 26) * 2 ^ 26) * 2 ^ 26

  y2 : ℕ
  y2 = get_or h 2 0 + (get_or h 3 0 + get_or h 4 0 * 2 ^ 26) * 2 ^ 26

  y3 : ℕ
  y3 = get_or h 3 0 + get_or h 4 0 * 2 ^ 26

  nested : value h + x ≡ d0 + y1 * 2 ^ 26
  unfolding value y1
  nested =
      let e = m_eq {m = 0} is0 in
      ring= _ _ (get_or h 0 0 ∷ get_or h 1 0 ∷ get_or h 2 0 ∷ get_or h 3 0 ∷ get_or h 4 0 ∷ x ∷ [])
      (search reify depth 40 fits 9000) refl

  up1 : d0 / 2 ^ 26 + y1 ≡ d1 + y2 * 2 ^ 26
  unfolding y1 y2
  up1 = omega arith

  up2 : d1 / 2 ^ 26 + y2 ≡ d2 + y3 * 2 ^ 26
  unfolding y2 y3
  up2 = omega arith

  up3 : d2 / 2 ^ 26 + y3 ≡ d3 + get_or h 4 0 * 2 ^ 26
  unfolding y3
  up3 = omega arith

  up4 : d3 / 2 ^ 26 + get_or h 4 0 ≡ d4
  up4 = omega arith

  pub carried_out : d4 / 2 ^ 26 ≡ (value h + x) / 2 ^ 130
  carried_out = sym
      (ap (λ (y : ℕ). y / 2 ^ 130) nested
      ∙ hands (2 ^ 26) (2 ^ 104) (lit< tt) (lit< tt) d0 y1 up1
      ∙ hands (2 ^ 26) (2 ^ 78) (lit< tt) (lit< tt) d1 y2 up2
      ∙ hands (2 ^ 26) (2 ^ 52) (lit< tt) (lit< tt) d2 y3 up3
      ∙ hands (2 ^ 26) (2 ^ 26) (lit< tt) (lit< tt) d3 (get_or h 4 0) up4)

  pub carried : value (d0 % 2 ^ 26 ∷ d1 % 2 ^ 26 ∷ d2 % 2 ^ 26 ∷ d3 % 2 ^ 26 ∷ d4 % 2 ^ 26 ∷ [])
      ≡ (value h + x) % 2 ^ 130
  unfolding value
  carried =
      let e0 =
      m_eq {m = 0} (ap (λ (y : ℕ). y % 2 ^ 130) nested ∙ keeps (2 ^ 26) (2 ^ 104) (lit< tt) (lit< tt) d0 y1 up1) in
      let e1 = m_eq {m = 0} (keeps (2 ^ 26) (2 ^ 78) (lit< tt) (lit< tt) d1 y2 up2) in
      let e2 = m_eq {m = 0} (keeps (2 ^ 26) (2 ^ 52) (lit< tt) (lit< tt) d2 y3 up3) in
      let e3 = m_eq {m = 0} (keeps (2 ^ 26) (2 ^ 26) (lit< tt) (lit< tt) d3 (get_or h 4 0) up4) in
      ring= _ _ (d0 % 2 ^ 26 ∷ d1 % 2 ^ 26 ∷ d2 % 2 ^ 26 ∷ d3 % 2 ^ 26 ∷ d4 % 2 ^ 26 ∷ [])
      (search reify depth 40 fits 9000) refl

-- the accumulator's limbs are below twice the prime
twice : (h : List ℕ) → Limbs h → value h < 2 * prime
unfolding value
twice h b =
    lt_of_lt_of_le
    (add-lt-add_of_lt_of_le (low b.l0 b.l1 b.l2 b.l3) (mul-le-mul_right (2 ^ 104) (le_of_lt b.l4)))
    (lit≤ {m = 2 ^ 105 + (2 ^ 26 + 2 ^ 13) * 2 ^ 104} {n = 2 * prime} tt)
  where
    low : {a0 a1 a2 a3 : ℕ} → a0 < 2 ^ 26 + 2 ^ 13 → a1 < 2 ^ 26 + 2 ^ 13 → a2 < 2 ^ 26 + 2 ^ 13 → a3 < 2 ^ 26 + 2 ^ 13
        → a0 + a1 * 2 ^ 26 + a2 * 2 ^ 52 + a3 * 2 ^ 78 < 2 ^ 105
    low h0 h1 h2 h3 = omega arith

-- p is taken away once, or not at all, by what v + k has beyond n = p + k
module _ (n p k v : ℕ) (is : n ≡ p + k) (t : v < 2 * p) where
  few : (q r : ℕ) → q * n + r ≡ v + k → q < 2
  few zero r e = lit< tt
  few (suc zero) r e = lit< tt
  few (suc (suc q)) r e = absurd (omega arith)

  taken : (q r : ℕ) → q * n + r ≡ v + k → r < n → (v + k * q) % n ≡ v % p
  taken zero r e l =
      let a : v + k * 0 ≡ v = omega arith in
      rw a (mod-eq_of_lt (omega arith) ∙ sym (mod-eq_of_lt (omega arith)))
  taken (suc zero) r e l =
      let a : v + k * 1 ≡ n + r = omega arith in
      let b : v ≡ p + r = omega arith in
      rw (a, add-mod_left)
      (mod-eq_of_lt l ∙ sym (ap (λ (x : ℕ). x % p) b ∙ add-mod_left p r ∙ mod-eq_of_lt (omega arith)))
  taken (suc (suc q)) r e l = absurd (omega arith)

over_small : (h : List ℕ) → Limbs h → over_prime (value h) < 2
unfolding over_prime
over_small h b =
    few (2 ^ 130) prime 5 (value h) refl (twice h b) ((value h + 5) / 2 ^ 130)
    ((value h + 5) % 2 ^ 130) (div-add-mod' (value h + 5) (2 ^ 130))

pub over_is : (h : List ℕ) {q : ℕ} → Limbs h → q ≡ (value h + 5) / 2 ^ 130 → (q < 2) × (q ≡ over_prime (value h))
unfolding over_prime
over_is h b e = (rw e (over_small h b), e)

pub remains : (h : List ℕ) {q r : ℕ} → Limbs h → q ≡ over_prime (value h) → r ≡ (value h + 5 * q) % 2 ^ 130
    → r ≡ mod_prime (value h)
unfolding over_prime mod_prime
remains h b e f =
    f
    ∙ ap (λ (q : ℕ). (value h + 5 * q) % 2 ^ 130) e
    ∙ taken (2 ^ 130) prime 5 (value h) refl (twice h b) ((value h + 5) / 2 ^ 130) ((value h + 5) % 2 ^ 130)
    (div-add-mod' (value h + 5) (2 ^ 130)) (mod-lt (value h + 5) (lit< tt))

-- ---- add_s

regroup : (a0 a1 a2 a3 a4 s0 s1 s2 s3 q1 q2 q3 q4 r1 r2 r3 r4 : ℕ)
    → q1 * 2 ^ 6 + r1 ≡ a1 → q2 * 2 ^ 12 + r2 ≡ a2 → q3 * 2 ^ 18 + r3 ≡ a3 → q4 * 2 ^ 24 + r4 ≡ a4
    → a0 + a1 * 2 ^ 26 + a2 * 2 ^ 52 + a3 * 2 ^ 78 + a4 * 2 ^ 104 + (s0 + s1 * 2 ^ 32 + s2 * 2 ^ 64 + s3 * 2 ^ 96)
    ≡ a0 + r1 * 2 ^ 26 + s0
    + (q1 + r2 * 2 ^ 20 + s1 + (q2 + r3 * 2 ^ 14 + s2 + (q3 + r4 * 2 ^ 8 + s3 + q4 * 2 ^ 32) * 2 ^ 32) * 2 ^ 32)
    * 2 ^ 32
regroup a0 a1 a2 a3 a4 s0 s1 s2 s3 q1 q2 q3 q4 r1 r2 r3 r4 h1 h2 h3 h4 =
    let e1 = m_eq {m = 0} (sym h1) in
    let e2 = m_eq {m = 0} (sym h2) in
    let e3 = m_eq {m = 0} (sym h3) in
    let e4 = m_eq {m = 0} (sym h4) in
    ring= _ _ (a0 ∷ s0 ∷ s1 ∷ s2 ∷ s3 ∷ q1 ∷ q2 ∷ q3 ∷ q4 ∷ r1 ∷ r2 ∷ r3 ∷ r4 ∷ [])
    (search reify depth 40 fits 9000) refl

module _ (a s : List ℕ) (t0 t1 t2 t3 : ℕ)
    (is0 : t0 ≡ get_or a 0 0 + get_or a 1 0 % 2 ^ 6 * 2 ^ 26 + get_or s 0 0)
    (is1 : t1 ≡ get_or a 1 0 / 2 ^ 6 + get_or a 2 0 % 2 ^ 12 * 2 ^ 20 + get_or s 1 0 + t0 / 2 ^ 32)
    (is2 : t2 ≡ get_or a 2 0 / 2 ^ 12 + get_or a 3 0 % 2 ^ 18 * 2 ^ 14 + get_or s 2 0 + t1 / 2 ^ 32)
    (is3 : t3 ≡ get_or a 3 0 / 2 ^ 18 + get_or a 4 0 % 2 ^ 24 * 2 ^ 8 + get_or s 3 0 + t2 / 2 ^ 32) where
  -- what stands above t0, t1, t2 and t3
  u4 : ℕ
  u4 = get_or a 4 0 / 2 ^ 24

  u3 : ℕ
  u3 = get_or a 3 0 / 2 ^ 18 + get_or a 4 0 % 2 ^ 24 * 2 ^ 8 + get_or s 3 0 + u4 * 2 ^ 32

  u2 : ℕ
  u2 = get_or a 2 0 / 2 ^ 12 + get_or a 3 0 % 2 ^ 18 * 2 ^ 14 + get_or s 2 0 + u3 * 2 ^ 32

  u1 : ℕ
  u1 = get_or a 1 0 / 2 ^ 6 + get_or a 2 0 % 2 ^ 12 * 2 ^ 20 + get_or s 1 0 + u2 * 2 ^ 32

  as_words : value a + words4 s ≡ t0 + u1 * 2 ^ 32
  unfolding value words4 u1 u2 u3 u4
  as_words =
      regroup (get_or a 0 0) (get_or a 1 0) (get_or a 2 0) (get_or a 3 0)
      (get_or a 4 0) (get_or s 0 0) (get_or s 1 0) (get_or s 2 0) (get_or s 3 0)
      (get_or a 1 0 / 2 ^ 6) (get_or a 2 0 / 2 ^ 12) (get_or a 3 0 / 2 ^ 18) (get_or a 4 0 / 2 ^ 24)
      (get_or a 1 0 % 2 ^ 6) (get_or a 2 0 % 2 ^ 12) (get_or a 3 0 % 2 ^ 18) (get_or a 4 0 % 2 ^ 24)
      (div-add-mod' (get_or a 1 0) (2 ^ 6)) (div-add-mod' (get_or a 2 0) (2 ^ 12))
      (div-add-mod' (get_or a 3 0) (2 ^ 18)) (div-add-mod' (get_or a 4 0) (2 ^ 24))
      ∙ ap (λ (y : ℕ). y + u1 * 2 ^ 32) (sym is0)

  over1 : t0 / 2 ^ 32 + u1 ≡ t1 + u2 * 2 ^ 32
  unfolding u1
  over1 = omega arith

  over2 : t1 / 2 ^ 32 + u2 ≡ t2 + u3 * 2 ^ 32
  unfolding u2
  over2 = omega arith

  over3 : t2 / 2 ^ 32 + u3 ≡ t3 + u4 * 2 ^ 32
  unfolding u3
  over3 = omega arith

  summed : words4 (t0 % 2 ^ 32 ∷ t1 % 2 ^ 32 ∷ t2 % 2 ^ 32 ∷ t3 % 2 ^ 32 ∷ []) ≡ low128 (value a + words4 s)
  unfolding words4 low128
  summed =
      let e0 =
      m_eq {m = 0} (ap (λ (y : ℕ). y % 2 ^ 128) as_words ∙ keeps (2 ^ 32) (2 ^ 96) (lit< tt) (lit< tt) t0 u1 over1) in
      let e1 = m_eq {m = 0} (keeps (2 ^ 32) (2 ^ 64) (lit< tt) (lit< tt) t1 u2 over2) in
      let e2 = m_eq {m = 0} (keeps (2 ^ 32) (2 ^ 32) (lit< tt) (lit< tt) t2 u3 over3) in
      let e3 = m_eq {m = 0} (add-mul-mod_self_right t3 u4 (2 ^ 32)) in
      ring= _ _ (t0 % 2 ^ 32 ∷ t1 % 2 ^ 32 ∷ t2 % 2 ^ 32 ∷ t3 % 2 ^ 32 ∷ []) (search reify depth 40 fits 9000) refl

pub add_s_law : (a s : List ℕ) (v0 v1 v2 v3 t0 t1 t2 t3 : ℕ)
    → v0 ≡ get_or s 0 0 → v1 ≡ get_or s 1 0 → v2 ≡ get_or s 2 0 → v3 ≡ get_or s 3 0
    → t0 ≡ get_or a 0 0 + get_or a 1 0 % 2 ^ 6 * 2 ^ 26 + v0
    → t1 ≡ get_or a 1 0 / 2 ^ 6 + get_or a 2 0 % 2 ^ 12 * 2 ^ 20 + v1 + t0 / 2 ^ 32
    → t2 ≡ get_or a 2 0 / 2 ^ 12 + get_or a 3 0 % 2 ^ 18 * 2 ^ 14 + v2 + t1 / 2 ^ 32
    → t3 ≡ get_or a 3 0 / 2 ^ 18 + get_or a 4 0 % 2 ^ 24 * 2 ^ 8 + v3 + t2 / 2 ^ 32
    → words4 (t0 % 2 ^ 32 ∷ t1 % 2 ^ 32 ∷ t2 % 2 ^ 32 ∷ t3 % 2 ^ 32 ∷ []) ≡ low128 (value a + words4 s)
add_s_law a s v0 v1 v2 v3 t0 t1 t2 t3 e0 e1 e2 e3 f0 f1 f2 f3 =
    summed a s t0 t1 t2 t3 (rw e0 at f0) (rw e1 at f1) (rw e2 at f2) (rw e3 at f3)

-- two words and the carry of the words below
pub sum_fits : {x s b : ℕ} → x < 2 ^ 32 → s < 2 ^ 32 → b < 2 ^ 64 → x + s + b / 2 ^ 32 < 2 ^ 64
sum_fits h k l = omega arith

pub sum0_fits : {x s : ℕ} → x < 2 ^ 32 → s < 2 ^ 32 → x + s < 2 ^ 64
sum0_fits h k = omega arith

-- the words of limbs
pub word0 : {a : ℕ} (b : ℕ) → a < 2 ^ 26 → a + b % 2 ^ 6 * 2 ^ 26 < 2 ^ 32
word0 b h = omega arith

pub word1 : {a : ℕ} (b : ℕ) → a < 2 ^ 26 → a / 2 ^ 6 + b % 2 ^ 12 * 2 ^ 20 < 2 ^ 32
word1 b h = omega arith

pub word2 : {a : ℕ} (b : ℕ) → a < 2 ^ 26 → a / 2 ^ 12 + b % 2 ^ 18 * 2 ^ 14 < 2 ^ 32
word2 b h = omega arith

pub word3 : {a : ℕ} (b : ℕ) → a < 2 ^ 26 → a / 2 ^ 18 + b % 2 ^ 24 * 2 ^ 8 < 2 ^ 32
word3 b h = omega arith
