-- The laws of the functions on four lanes. Assumes nothing.
use mathlib.Core.Path.{◌≡◌, refl, sym, ap, ap₂, ◌∙◌, subst}
use mathlib.Core.List.{List, [], ◌∷◌}
use Prim.Native.Nat.{ℕ, zero, suc, ◌+◌, ◌*◌, ◌-◌, ◌%◌, ◌^◌, ◌≤◌, ◌<◌}
use mathlib.Core.Bool.{Bool, true, false}
use native.Mathlib.Nat.{mod-eq_of_lt, zero-add}
use native.Mathlib.Omega.{arith}
use borrow.Author.Tests.{ltb-true, ltb-false}
use lib.Dec.{ltb, lit≤}
use lib.ListN.{length, get_or, set, take, drop}
use lib.Seq.{get_or-set_same, get_or-set_other}
use Rattle.base_words.specs.Numbers.{number}
use Rattle.base_algebra.specs.Mod.{Mod, m_refl, m_eq, m_trans, m_add, m_mul}
use Rattle.base_algebra.specs.Ring.{ring, reify}
use Rattle.base_words.specs.Spelt.{all}
use Rattle.poly1305_limbs.specs.Limbs.{prime, value, Below}
use Rattle.poly1305_limbs.proofs.Limbs.{loosen}
use Rattle.poly1305_mac.specs.Poly1305.{piece, first_pieces, pieces, absorb_all}
use Rattle.poly1305_mac.specs.Laws.{pieces_whole}
use Rattle.poly1305_x4.proofs.Law.{four_lanes}
use Rattle.poly1305_x4.specs.Poly4.{bit, power4, lane_after, combined, combined_rows, five, row, rows, Held, Adds}
use Rattle.poly1305_x4.specs.Poly4.{Next, HeldAll, NextAll, LaneAll, First}

-- ---- a lane, read and written

pub weaken : (h : List ℕ) → Held h → Below (2 ^ 28) h
weaken h = loosen (lit≤ tt)

pub lift : (h : List ℕ) → Below (2 ^ 26) h → Held h
lift h = loosen (lit≤ tt)

pub row_at : (x : List ℕ) (l : ℕ) → l < 4 → get_or (rows x) l [] ≡ row l x
unfolding rows
row_at x zero h = refl
row_at x (suc zero) h = refl
row_at x (suc (suc zero)) h = refl
row_at x (suc (suc (suc zero))) h = refl
row_at x (suc (suc (suc (suc l)))) h = absurd (let no : ⊥ = omega arith in no)

list5 : {a b c d e a' b' c' d' e' : ℕ} → a ≡ a' → b ≡ b' → c ≡ c' → d ≡ d' → e ≡ e'
    → ◌≡◌ {A = List ℕ} (a ∷ b ∷ c ∷ d ∷ e ∷ []) (a' ∷ b' ∷ c' ∷ d' ∷ e' ∷ [])
list5 p q r s t = λ i. p i ∷ q i ∷ r i ∷ s i ∷ t i ∷ []

pub read_lane : (x : List ℕ) (l : ℕ) → l < 4 → Held (get_or (rows x) l [])
    → ◌≡◌ {A = List ℕ} (get_or x l 0 % 2 ^ 32 ∷ get_or x (4 + l) 0 % 2 ^ 32 ∷ get_or x (8 + l) 0 % 2 ^ 32
    ∷ get_or x (12 + l) 0 % 2 ^ 32 ∷ get_or x (16 + l) 0 % 2 ^ 32 ∷ []) (get_or (rows x) l [])
read_lane x l h b =
    let b' : Below (2 ^ 32) (row l x) = loosen (lit≤ tt) (subst Held (row_at x l h) b) in
    list5 (mod-eq_of_lt b'.l0) (mod-eq_of_lt b'.l1) (mod-eq_of_lt b'.l2)
    (mod-eq_of_lt b'.l3) (mod-eq_of_lt b'.l4) ∙ sym (row_at x l h)

abbrev stores : ℕ → List ℕ → List ℕ → List ℕ
stores l h x =
    set (set (set (set (set x l (get_or h 0 0)) (4 + l) (get_or h 1 0)) (8 + l) (get_or h 2 0)) (12 + l) (get_or h 3 0))
    (16 + l) (get_or h 4 0)

pub write_lane : (x : List ℕ) (l : ℕ) (h : List ℕ) → length x ≡ 20 → l < 4
    → rows (stores l h x) ≡ set (rows x) l (five h)
unfolding rows
write_lane x zero t h k = subst (λ (y : List ℕ). rows (stores 0 t y) ≡ set (rows y) 0 (five t)) (all 20 x h) refl
write_lane x (suc zero) t h k = subst (λ (y : List ℕ). rows (stores 1 t y) ≡ set (rows y) 1 (five t)) (all 20 x h) refl
write_lane x (suc (suc zero)) t h k =
    subst (λ (y : List ℕ). rows (stores 2 t y) ≡ set (rows y) 2 (five t)) (all 20 x h) refl
write_lane x (suc (suc (suc zero))) t h k =
    subst (λ (y : List ℕ). rows (stores 3 t y) ≡ set (rows y) 3 (five t)) (all 20 x h) refl
write_lane x (suc (suc (suc (suc l)))) t h k = absurd (let no : ⊥ = omega arith in no)

-- ---- next

pub next_is : (h r c : ℕ) {d e a : ℕ} → Mod prime d (h * r) → Mod prime e d → a ≡ e + c → Mod prime a (h * r + c)
next_is h r c k l f = m_trans (m_eq f) (m_add (m_trans l k) m_refl)

pub power_is : (r : ℕ) {d s e a : ℕ} → Mod prime d (r * r) → Mod prime s d → Mod prime e (s * s) → Mod prime a e
    → Mod prime a (power4 r)
power_is r hd hs he ha =
    let s = m_trans hs hd in
    m_trans ha (m_trans he (m_trans (m_mul s s) (ring (r ∷ []) (search reify depth 20 fits 5000) refl)))

-- Horner's rule
pub combine_is : (r x0 x1 x2 x3 : ℕ) {a1 a2 a3 d a : ℕ}
    → Mod prime a1 (x0 * r + x1) → Mod prime a2 (a1 * r + x2)
    → Mod prime a3 (a2 * r + x3) → Mod prime d (a3 * r) → Mod prime a d
    → Mod prime a (combined r x0 x1 x2 x3)
combine_is r x0 x1 x2 x3 h1 h2 h3 hd ha =
    m_trans ha (m_trans hd
    (m_trans (m_mul (m_trans h3 (m_add (m_mul (m_trans h2 (m_add (m_mul h1 m_refl) m_refl)) m_refl) m_refl)) m_refl)
    (ring (r ∷ x0 ∷ x1 ∷ x2 ∷ x3 ∷ []) (search reify depth 40 fits 9000) refl)))

pub combine_rows : (r : ℕ) (y : List (List ℕ)) (x0 x1 x2 x3 : List ℕ) {a1 a2 a3 d a : ℕ}
    → x0 ≡ get_or y 0 [] → x1 ≡ get_or y 1 [] → x2 ≡ get_or y 2 [] → x3 ≡ get_or y 3 []
    → Mod prime a1 (value x0 * r + value x1) → Mod prime a2 (a1 * r + value x2)
    → Mod prime a3 (a2 * r + value x3) → Mod prime d (a3 * r) → Mod prime a d
    → Mod prime a (combined_rows r y)
combine_rows r y x0 x1 x2 x3 e0 e1 e2 e3 h1 h2 h3 hd ha =
    rw (sym e0, sym e1, sym e2, sym e3) (combine_is r (value x0) (value x1) (value x2) (value x3) h1 h2 h3 hd ha)

-- a lane, and what was made of one and another
pub held : (y : List (List ℕ)) (l : ℕ) {x : List ℕ} → HeldAll y → l < 4 → x ≡ get_or y l [] → Held x
held y l b h e = rw e (b l h)

pub all28 : (c a : List ℕ) → Held c → Adds c a → Below (2 ^ 28) a
all28 c a b ad = loosen (lit≤ tt) (ad (2 ^ 27 + 2 ^ 13) b)

-- ---- the loop over the lanes

five_below : (n : ℕ) (a : List ℕ) → Below n a → Below n (five a)
five_below n a b = record { l0 = b.l0; l1 = b.l1; l2 = b.l2; l3 = b.l3; l4 = b.l4 }

next_of : (r : ℕ) (m : List ℕ) (at : ℕ) (b h c a : List ℕ) → h ≡ b
    → Below (2 ^ 26) c → value c ≡ number (take 16 (drop at m)) + bit → Adds c a
    → Mod prime (value a) (value h * r + value c) → Next r m at b (five a)
unfolding value
next_of r m at b h c a eh cb ec ad k = record {
  below = five_below (2 ^ 27 + 2 ^ 13) a (ad (2 ^ 26) cb);
  is = m_trans k (m_eq (ap₂ (λ (x : List ℕ) (y : ℕ). value x * r + y) eh ec));
}

-- the first l lanes are done, and the others as they were
pub record Done (r : ℕ) (m : List ℕ) (at : ℕ) (y z : List (List ℕ)) (l : ℕ) : Type 0 where
  pub done : (j : ℕ) → j < l → Next r m (at + 16 * j) (get_or y j []) (get_or z j [])
  pub left : (j : ℕ) → l ≤ j → get_or z j [] ≡ get_or y j []

pub done_none : (r : ℕ) (m : List ℕ) (at : ℕ) (y : List (List ℕ)) → Done r m at y y 0
done_none r m at y = record { done = λ j h. absurd (let no : ⊥ = omega arith in no); left = λ j h. refl }

pub length_rows : (x : List ℕ) → length (rows x) ≡ 4
unfolding rows
length_rows x = refl

pub done_more : (r : ℕ) (m : List ℕ) (at : ℕ) (y z w : List (List ℕ)) (l : ℕ) (h c a : List ℕ)
    → length z ≡ 4 → l < 4 → Done r m at y z l
    → h ≡ get_or z l [] → Below (2 ^ 26) c → value c ≡ number (take 16 (drop (at + 16 * l) m)) + bit
    → Adds c a → Mod prime (value a) (value h * r + value c) → w ≡ set z l (five a) → Done r m at y w (l + 1)
done_more r m at y z w l h c a lz k D eh cb ec ad e ew = record { done = now; left = rest }
  where
    in_z : l < length z
    in_z = omega arith

    new : get_or w l [] ≡ five a
    new = ap (λ (v : List (List ℕ)). get_or v l []) ew ∙ get_or-set_same z l (five a) [] in_z

    this : Next r m (at + 16 * l) (get_or y l []) (get_or w l [])
    this = rw new (next_of r m (at + 16 * l) (get_or y l []) h c a (eh ∙ D.left l (omega arith)) cb ec ad e)

    now : (j : ℕ) → j < l + 1 → Next r m (at + 16 * j) (get_or y j []) (get_or w j [])
    now j g = go (ltb j l) refl
      where
        go : (b : Bool) → ltb j l ≡ b → Next r m (at + 16 * j) (get_or y j []) (get_or w j [])
        go true t =
            let f : j < l = ltb-true j l t in
            let old : get_or w j [] ≡ get_or z j [] =
            ap (λ (v : List (List ℕ)). get_or v j []) ew ∙ get_or-set_other z l j (five a) [] (λ q. omega arith) in
            rw old (D.done j f)
        go false t =
            let same : j ≡ l = omega (arith, ltb-false j l t) in
            rw same this

    rest : (j : ℕ) → l + 1 ≤ j → get_or w j [] ≡ get_or y j []
    rest j g =
        ap (λ (v : List (List ℕ)). get_or v j []) ew
        ∙ get_or-set_other z l j (five a) [] (λ q. omega arith) ∙ D.left j (omega arith)

pub done_held : (r : ℕ) (m : List ℕ) (at : ℕ) (y z : List (List ℕ)) (l : ℕ) → Done r m at y z l → HeldAll y → l < 4
    → Held (get_or z l [])
done_held r m at y z l D b h = rw (D.left l (omega arith)) (b l h)

pub done_all : (r : ℕ) (m : List ℕ) (at : ℕ) (y z : List (List ℕ)) (l : ℕ) → Done r m at y z l → l ≡ 4
    → NextAll r m at y z
done_all r m at y z l D e j h = D.done j (omega arith)

-- ---- the first four blocks

pub first_is : (a : ℕ) (m : List ℕ) (y : List (List ℕ)) (s b0 b1 b2 b3 : List ℕ)
    → y ≡ five s ∷ five b1 ∷ five b2 ∷ five b3 ∷ []
    → Adds b0 s → value s ≡ a + value b0
    → Below (2 ^ 26) b0 → Below (2 ^ 26) b1 → Below (2 ^ 26) b2 → Below (2 ^ 26) b3
    → value b0 ≡ number (take 16 (drop 0 m)) + bit → value b1 ≡ number (take 16 (drop 16 m)) + bit
    → value b2 ≡ number (take 16 (drop 32 m)) + bit → value b3 ≡ number (take 16 (drop 48 m)) + bit
    → First a m y
unfolding lane_after piece value
first_is a m y s b0 b1 b2 b3 e ad es h0 h1 h2 h3 e0 e1 e2 e3 r = rw e lanes
  where
    lanes : LaneAll r a m 0 (five s ∷ five b1 ∷ five b2 ∷ five b3 ∷ [])
    lanes zero k =
        record { below = five_below (2 ^ 27 + 2 ^ 13) s (ad (2 ^ 26) h0); is = m_eq (es ∙ ap (λ (x : ℕ). a + x) e0) }
    lanes (suc zero) k = record {
      below = five_below (2 ^ 27 + 2 ^ 13) b1 (lift b1 h1);
      is = m_eq (e1 ∙ sym (zero-add (number (take 16 (drop 16 m)) + bit)));
    }
    lanes (suc (suc zero)) k = record {
      below = five_below (2 ^ 27 + 2 ^ 13) b2 (lift b2 h2);
      is = m_eq (e2 ∙ sym (zero-add (number (take 16 (drop 32 m)) + bit)));
    }
    lanes (suc (suc (suc zero))) k = record {
      below = five_below (2 ^ 27 + 2 ^ 13) b3 (lift b3 h3);
      is = m_eq (e3 ∙ sym (zero-add (number (take 16 (drop 48 m)) + bit)));
    }
    lanes (suc (suc (suc (suc l)))) k = absurd (let no : ⊥ = omega arith in no)

-- ---- the loop over the message

-- after the first g groups of four blocks
pub record Groups (r a : ℕ) (m : List ℕ) (y : List (List ℕ)) (g : ℕ) : Type 0 where
  pub some : 1 ≤ g
  pub lanes : LaneAll r a m (g - 1) y

pub groups_first : (r a : ℕ) (m : List ℕ) (y : List (List ℕ)) → First a m y → Groups r a m y 1
groups_first r a m y f = record { some = lit≤ tt; lanes = f r }

pub groups_held : (r a : ℕ) (m : List ℕ) (y : List (List ℕ)) (g : ℕ) → Groups r a m y g → HeldAll y
groups_held r a m y g G l h = (G.lanes l h).below

pub groups_more : (r a R : ℕ) (m : List ℕ) (y z : List (List ℕ)) (g : ℕ) → Groups r a m y g
    → Mod prime R (power4 r) → NextAll R m (64 * g) y z → Groups r a m z (g + 1)
unfolding lane_after piece
groups_more r a R m y z g G h_r N = record { some = omega arith; lanes = rw up more }
  where
    up : g + 1 - 1 ≡ suc (g - 1)
    up = omega (arith, G.some)

    pos : (l : ℕ) → 64 * g + 16 * l ≡ 16 * (4 * suc (g - 1) + l)
    pos l = omega (arith, G.some)

    more : LaneAll r a m (suc (g - 1)) z
    more l k = record {
      below = (N l k).below;
      is = m_trans (N l k).is
          (m_add (m_mul (G.lanes l k).is h_r) (m_eq (ap (λ (i : ℕ). number (take 16 (drop i m)) + bit) (pos l))));
    }

-- all is absorbed
pub groups_all : (r a : ℕ) (m : List ℕ) (y : List (List ℕ)) (g : ℕ) {c : ℕ}
    → Groups r a m y g → length m ≡ 64 * g
    → Mod prime c (combined_rows r y) → Mod prime c (absorb_all r a (pieces m))
groups_all r a m y g {c} G h k = rw (pieces_whole m (4 * suc (g - 1)) count)
    (m_trans k (m_trans sums (four_lanes r a m (g - 1) (omega arith))))
  where
    count : length m ≡ 16 * (4 * suc (g - 1))
    count = omega (arith, G.some)

    is : (l : ℕ) (k : l < 4) → Mod prime (value (get_or y l [])) (lane_after r a m (g - 1) l)
    is l k = (G.lanes l k).is

    sums : Mod prime (combined_rows r y) (combined r (lane_after r a m (g - 1) 0)
        (lane_after r a m (g - 1) 1) (lane_after r a m (g - 1) 2) (lane_after r a m (g - 1) 3))
    sums =
        m_add (m_add (m_add (m_mul (is 0 (omega arith)) m_refl) (m_mul (is 1 (omega arith)) m_refl))
        (m_mul (is 2 (omega arith)) m_refl)) (m_mul (is 3 (omega arith)) m_refl)

-- nothing is to be absorbed
pub groups_none : (r a : ℕ) (m : List ℕ) → length m % 64 ≡ 0 → length m < 64 → Mod prime a (absorb_all r a (pieces m))
unfolding first_pieces absorb_all
groups_none r a m w h = rw (pieces_whole m 0 (omega arith)) m_refl
