-- Laws of Poly1305's definitions, for the layers above. Assumes nothing.
use Rattle.std.specs.Prelude.{◌≡◌, refl, List, [], ◌∷◌, ◌++◌, ℕ, zero, suc, ◌+◌, ◌*◌, ◌-◌, ◌/◌, ◌%◌, ◌^◌, ◌≤◌, ◌<◌}
use Rattle.std.specs.Prelude.{length, take, drop, replicate}
use Rattle.std.proofs.Common.{sym, ap, ap₂, ◌∙◌, subst, append_assoc, append-nil, mod-lt, mod-eq_of_lt, add-zero}
use Rattle.std.proofs.Common.{add-suc, arith, lit<, length-append, length-drop, take_all}
use Rattle.std.proofs.lemmas.List.{length-replicate, take-append-le, drop-append-le}
use Rattle.std.proofs.Math.Seq.{drop-append-add}
use Rattle.base_words.specs.Numbers.{number, length_bytes}
use Rattle.base_algebra.specs.Mod.{Mod, m_refl, m_eq, m_sym, m_trans, m_add, m_mul, m_mod}
use Rattle.poly1305_limbs.specs.Limbs.{value, mod_prime}
use Rattle.poly1305_limbs.specs.Limbs.{prime}
use Rattle.poly1305_mac.specs.Poly1305.{piece, first_pieces, pieces, absorb, absorb_all, tag_of, r_of, s_of, mac}
use Rattle.poly1305_mac.specs.Poly1305.{pad16}

-- ---- the accumulator

pub absorb_mod : (r : ℕ) {a b : ℕ} (block : List ℕ) → Mod prime a b → Mod prime (absorb r a block) (absorb r b block)
unfolding absorb
absorb_mod r {a} {b} block h =
    m_trans (m_mod prime _)
    (m_trans (m_mul (m_add h m_refl) m_refl) (m_sym (m_mod prime ((b + number (block ++ (1 ∷ []))) * r))))

-- congruent accumulators stay congruent
pub absorb_all_mod : (r : ℕ) {a b : ℕ} (p : List (List ℕ)) → Mod prime a b
    → Mod prime (absorb_all r a p) (absorb_all r b p)
unfolding absorb_all
absorb_all_mod r [] h = h
absorb_all_mod r {a = a} {b = b} (block ∷ p) h =
    absorb_all_mod r {a = absorb r a block} {b = absorb r b block} p (absorb_mod r block h)

pub absorb_all_append : (r a : ℕ) (p q : List (List ℕ)) → absorb_all r a (p ++ q) ≡ absorb_all r (absorb_all r a p) q
unfolding absorb_all
absorb_all_append r a [] q = refl
absorb_all_append r a (block ∷ p) q = absorb_all_append r (absorb r a block) p q

pub absorb_all_below : (r : ℕ) {a : ℕ} (p : List (List ℕ)) → a < prime → absorb_all r a p < prime
unfolding absorb_all absorb
absorb_all_below r [] h = h
absorb_all_below r {a} (block ∷ p) h =
    absorb_all_below r {a = absorb r a block} p (mod-lt ((a + number (block ++ (1 ∷ []))) * r) (lit< tt))

-- an accumulator that is congruent to what p leaves, after q as well
pub absorb_all_then : (r a b : ℕ) (p q : List (List ℕ)) {c : ℕ}
    → Mod prime b (absorb_all r a p) → Mod prime c (absorb_all r b q) → Mod prime c (absorb_all r a (p ++ q))
absorb_all_then r a b p q h k = m_trans k (m_trans (absorb_all_mod r q h) (m_eq (sym (absorb_all_append r a p q))))

-- ---- the pieces of a message

pub first_pieces_of : (a b : List ℕ) (n : ℕ) → 16 * n ≤ length a → first_pieces (a ++ b) n ≡ first_pieces a n
unfolding first_pieces piece
first_pieces_of a b zero h = refl
first_pieces_of a b (suc n) h =
    ap₂ (λ (l : List (List ℕ)) (p : List ℕ). l ++ (p ∷ [])) (first_pieces_of a b n (omega arith))
    (ap (take 16) (drop-append-le (16 * n) a b (omega arith))
    ∙ take-append-le 16 (drop (16 * n) a) b (omega (arith, length-drop (16 * n) a)))

pub first_pieces_add : (a b : List ℕ) (n k : ℕ) → length a ≡ 16 * n
    → first_pieces (a ++ b) (n + k) ≡ first_pieces a n ++ first_pieces b k
unfolding first_pieces piece
first_pieces_add a b n zero h =
    ap (first_pieces (a ++ b)) (add-zero n) ∙ first_pieces_of a b n (omega arith) ∙ sym (append-nil (first_pieces a n))
first_pieces_add a b n (suc k) h =
    ap (first_pieces (a ++ b)) (add-suc n k)
    ∙ ap₂ (λ (l : List (List ℕ)) (p : List ℕ). l ++ (p ∷ [])) (first_pieces_add a b n k h)
    (ap (take 16) (ap (λ (i : ℕ). drop i (a ++ b)) at ∙ drop-append-add a b (16 * k)))
    ∙ append_assoc (first_pieces a n) (first_pieces b k) (piece b k ∷ [])
  where
    at : 16 * (n + k) ≡ length a + 16 * k
    at = omega arith

pub pieces_whole : (m : List ℕ) (n : ℕ) → length m ≡ 16 * n → pieces m ≡ first_pieces m n
unfolding pieces
pieces_whole m n h = ap (first_pieces m) count
  where
    count : (length m + 15) / 16 ≡ n
    count = omega arith

pub pieces_short : (m : List ℕ) → 0 < length m → length m ≤ 16 → pieces m ≡ m ∷ []
unfolding pieces first_pieces piece
pieces_short m h l = ap (first_pieces m) count ∙ ap (λ (p : List ℕ). p ∷ []) (take_all 16 m l)
  where
    count : (length m + 15) / 16 ≡ 1
    count = omega arith

pub pieces_append : (a b : List ℕ) → length a % 16 ≡ 0 → pieces (a ++ b) ≡ pieces a ++ pieces b
unfolding pieces
pieces_append a b h =
    ap (first_pieces (a ++ b)) count ∙ first_pieces_add a b ((length a + 15) / 16) ((length b + 15) / 16) (omega arith)
  where
    count : (length (a ++ b) + 15) / 16 ≡ (length a + 15) / 16 + (length b + 15) / 16
    count = omega (arith, length-append a b)

-- ---- padding

pub length_pad16 : (m : List ℕ) → length (pad16 m) ≡ (16 - length m % 16) % 16
unfolding pad16
length_pad16 m = length-replicate ((16 - length m % 16) % 16) 0

pub padded_whole : (m : List ℕ) → length (m ++ pad16 m) % 16 ≡ 0
padded_whole m = omega (arith, length-append m (pad16 m), length_pad16 m)

-- what is whole already stays as it is
pub padded_same : (m : List ℕ) → length m % 16 ≡ 0 → m ++ pad16 m ≡ m
unfolding pad16
padded_same m h = ap (λ (i : ℕ). m ++ replicate i 0) none ∙ append-nil m
  where
    none : (16 - length m % 16) % 16 ≡ 0
    none = omega arith

pub whole_append : (a b : List ℕ) → length a % 16 ≡ 0 → length b % 16 ≡ 0 → length (a ++ b) % 16 ≡ 0
whole_append a b h k = omega (arith, length-append a b)

-- m, padded, after the whole pieces of p
pub padded_then : (r a b : ℕ) (p m : List ℕ) {c : ℕ} → length p % 16 ≡ 0 → Mod prime b (absorb_all r a (pieces p))
    → Mod prime c (absorb_all r b (pieces (m ++ pad16 m))) → Mod prime c (absorb_all r a (pieces (p ++ (m ++ pad16 m))))
padded_then r a b p m {c} h k l =
    subst (λ (q : List (List ℕ)). Mod prime c (absorb_all r a q)) (sym (pieces_append p (m ++ pad16 m) h))
    (absorb_all_then r a b (pieces p) (pieces (m ++ pad16 m)) k l)

-- ---- the tag

pub length_tag_of : (a s : ℕ) → length (tag_of a s) ≡ 16
unfolding tag_of
length_tag_of a s = length_bytes 16 ((a + s) % 2 ^ 128)

pub length_mac : (key m : List ℕ) → length (mac key m) ≡ 16
unfolding mac
length_mac key m = length_tag_of (absorb_all (r_of key) 0 (pieces m)) (s_of key)

-- the accumulator that code starts from
pub value_zero : value (0 ∷ 0 ∷ 0 ∷ 0 ∷ 0 ∷ []) ≡ 0
unfolding value
value_zero = refl

-- an accumulator that is congruent to that of the message has its tag: t as `tag` gives it, r and s as `key` gives them
pub mac_law : (key m : List ℕ) {r s a : ℕ} {t : List ℕ} → r ≡ r_of key → s ≡ s_of key
    → Mod prime a (absorb_all r 0 (pieces m)) → t ≡ tag_of (mod_prime a) s → t ≡ mac key m
unfolding mac mod_prime
mac_law key m {s = s} e f h g =
    g ∙ ap₂ tag_of
    (h.same ∙ mod-eq_of_lt (absorb_all_below _ (pieces m) (lit< tt)) ∙ ap (λ (r : ℕ). absorb_all r 0 (pieces m)) e) f
