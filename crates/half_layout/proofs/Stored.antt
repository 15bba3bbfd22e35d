-- Content laid out piece by piece over zeros. Assumes nothing.
use mathlib.Core.Path.{◌≡◌, refl, sym, ap, ap₂, ◌∙◌}
use mathlib.Core.List.{List, [], ◌∷◌, ◌++◌, map, map-append, append_assoc, append-nil}
use Prim.Native.Nat.{ℕ, ◌+◌, ◌*◌, ◌-◌, ◌<◌, ◌≤◌}
use native.Mathlib.Nat.{zero-add}
use native.Mathlib.Numerals.{add-one}
use native.Mathlib.Omega.{arith}
use lib.ListN.{length, get_or, take, replicate, length-append}
use lib.Seq.{take-suc, take_all, length-take-le}
use Rattle.base_words.specs.Numbers.{bytes}
use Rattle.base_words.specs.List.{over, over_next, over_all, over_zeros, flat}
use Rattle.base_words.specs.Bytes.{le32, bytes_of, length_bytes_of}
use Rattle.dcf_node.specs.declared.Correction.{Correction}
use Rattle.dcf_node.specs.Node.{none}
use Rattle.half_content.specs.declared.Set.{Set}
use Rattle.measure_table.specs.Measure.{most_elements}
use Rattle.half_content.specs.Content.{room_bytes, correction_bytes, no_correction, FlagBytes}
use Rattle.half_content.specs.Content.{x_field, y_field, c_field, fields, widths, sum_first, offset, size}
use Rattle.half_content.specs.Pieces.{get_d_any, length_flat, flat_append}

-- one piece more
pub next : (p q s t u : List ℕ) (at : ℕ) → length p ≡ at → t ≡ over 0 p s → u ≡ over at q t → u ≡ over 0 (p ++ q) s
next p q s t u at l e f = over_next p q s t u 0 at l e (rw (zero-add at) f)

-- pieces that fill all of it
pub whole : (p s u : List ℕ) (n : ℕ) → length p ≡ n → length s ≡ n → u ≡ over 0 p s → u ≡ p
whole p s u n l k e = e ∙ over_all p s (l ∙ sym k)

pub head_law : (name z h u : List ℕ) (party code n : ℕ) → length name ≡ 16 → length z ≡ 20 → h ≡ over 0 name z
    → u ≡ over 16 (party ∷ code ∷ bytes 2 n) h → u ≡ flat (name ∷ (party ∷ []) ∷ (code ∷ []) ∷ bytes 2 n ∷ [])
unfolding bytes flat
head_law name z h u party code n l k e f =
    let q : List ℕ = party ∷ code ∷ bytes 2 n in
    whole (name ++ q) z u 20 (length-append name q ∙ omega arith) k (next name q z h u 16 l e f)

pub correction_law : (seed z a b u : List ℕ) (word flags : ℕ) → length seed ≡ 8 → length z ≡ 37
    → a ≡ over 0 (bytes_of seed) z → b ≡ over 32 (le32 word) a → u ≡ over 36 (flags ∷ []) b
    → u ≡ bytes_of seed ++ (le32 word ++ (flags ∷ []))
unfolding le32
correction_law seed z a b u word flags l k e f g =
    let s = bytes_of seed in
    let two = s ++ le32 word in
    let ls : length s ≡ 32 = length_bytes_of seed ∙ omega arith in
    let lt : length two ≡ 36 = length-append s (le32 word) ∙ omega arith in
    whole (two ++ (flags ∷ [])) z u 37 (length-append two (flags ∷ []) ∙ omega arith) k
    (next two (flags ∷ []) z b u 36 lt (next s (le32 word) z a b 32 ls e f) g)
    ∙ append_assoc s (le32 word) (flags ∷ [])

-- ---- corrections

abbrev pub front : List Correction → ℕ → List ℕ
front cs i = flat (map correction_bytes (take i cs))

-- an array's own default stands past its end: within it there is no difference
pub flag_at : (cs : List Correction) (i : ℕ) → FlagBytes cs → i < length cs → (get_or cs i none).flags < 256
unfolding FlagBytes
flag_at cs i f h = rw (get_d_any cs i none no_correction h) (f i h)

front_more : (cs : List Correction) (i : ℕ) → i < length cs
    → front cs (i + 1) ≡ front cs i ++ correction_bytes (get_or cs i none)
unfolding flat
front_more cs i h =
    rw (add-one i, take-suc cs i none h, map-append, flat_append, append-nil) refl

pub front_next : (cs : List Correction) (i at : ℕ) (s t u b : List ℕ) → i < length cs
    → length (front cs i) ≡ 37 * i → t ≡ over at (front cs i) s → length b ≡ 37
    → b ≡ correction_bytes (get_or cs i none) → u ≡ over (at + 37 * i) b t
    → (u ≡ over at (front cs (i + 1)) s) × (length (front cs (i + 1)) ≡ 37 * (i + 1))
front_next cs i at s t u b h l e k is f =
    let m = front_more cs i h ∙ ap (λ (x : List ℕ). front cs i ++ x) (sym is) in (
      over_next (front cs i) b s t u at (37 * i) l e f ∙ ap (λ (x : List ℕ). over at x s) (sym m),
      ap length m ∙ length-append (front cs i) b ∙ omega arith,
    )

pub front_all : (cs : List Correction) (i : ℕ) → length cs ≡ i → front cs i ≡ flat (map correction_bytes cs)
front_all cs i h = ap (λ (l : List Correction). flat (map correction_bytes l)) (take_all i cs (omega arith))

-- ---- pieces one after the other

-- these stand over the start of z
abbrev pub Stand : List (List ℕ) → List ℕ → List ℕ → Type 0
Stand ps z t = t ≡ over 0 (flat ps) z

stand_one : (p z t : List ℕ) → t ≡ over 0 p z → Stand (p ∷ []) z t
unfolding flat
stand_one p z t e = e ∙ ap (λ (l : List ℕ). over 0 l z) (sym (append-nil p))

-- one more, past their end
stand_next : (ps : List (List ℕ)) (q z t u : List ℕ) (at : ℕ) → sum_first (map length ps) (length ps) ≡ at
    → Stand ps z t
    → u ≡ over at q t → Stand (ps ++ (q ∷ [])) z u
unfolding flat
stand_next ps q z t u at l e f =
    next (flat ps) q z t u at (length_flat ps ∙ l) e f
    ∙ ap (λ (x : List ℕ). over 0 x z)
    (ap (λ (x : List ℕ). flat ps ++ x) (sym (append-nil q)) ∙ sym (flat_append ps (q ∷ [])))

-- all that follows the vectors
pub tail_law : (c r last width mark : ℕ) (seed cs z t₁ t₂ t₃ t₄ t₅ t₆ u : List ℕ) → length seed ≡ 8
    → length cs ≡ 32 * 37 → length z ≡ 1233
    → t₁ ≡ over 0 (le32 c) z → t₂ ≡ over 4 (le32 r) t₁ → t₃ ≡ over 8 (bytes_of seed) t₂ → t₄ ≡ over 40 cs t₃
    → t₅ ≡ over 1224 (le32 last) t₄ → t₆ ≡ over 1228 (le32 width) t₅ → u ≡ over 1232 (mark ∷ []) t₆
    → u ≡ flat (le32 c ∷ le32 r ∷ bytes_of seed ∷ cs ∷ le32 last ∷ le32 width ∷ (mark ∷ []) ∷ [])
unfolding le32 sum_first
tail_law c r last width mark seed cs z t₁ t₂ t₃ t₄ t₅ t₆ u ls lc lz e₁ e₂ e₃ e₄ e₅ e₆ e₇ =
    let s = bytes_of seed in
    let k : length s ≡ 32 = length_bytes_of seed ∙ omega arith in
    let p₁ = stand_one (le32 c) z t₁ e₁ in
    let p₂ = stand_next (le32 c ∷ []) (le32 r) z t₁ t₂ 4 refl p₁ e₂ in
    let p₃ = stand_next (le32 c ∷ le32 r ∷ []) s z t₂ t₃ 8 refl p₂ e₃ in
    let p₄ = stand_next (le32 c ∷ le32 r ∷ s ∷ []) cs z t₃ t₄ 40 (omega arith) p₃ e₄ in
    let p₅ = stand_next (le32 c ∷ le32 r ∷ s ∷ cs ∷ []) (le32 last) z t₄ t₅ 1224 (omega arith) p₄ e₅ in
    let p₆ = stand_next (le32 c ∷ le32 r ∷ s ∷ cs ∷ le32 last ∷ []) (le32 width) z t₅ t₆ 1228 (omega arith) p₅ e₆ in
    let six : List (List ℕ) = le32 c ∷ le32 r ∷ s ∷ cs ∷ le32 last ∷ le32 width ∷ [] in
    let p₇ = stand_next six (mark ∷ []) z t₆ u 1232 (omega arith) p₆ e₇ in
    let all = length_flat (six ++ ((mark ∷ []) ∷ [])) in
    whole (flat (six ++ ((mark ∷ []) ∷ []))) z u 1233 (omega arith) lz p₇

-- the three vectors between a head and a tail, each where its offset says
module _ (n : ℕ) (h mask x y t z t₁ t₂ t₃ t₄ u : List ℕ) (le : n ≤ most_elements) (lh : length h ≡ 20)
    (lm : length mask ≡ most_elements) (lx : length x ≡ most_elements) (ly : length y ≡ most_elements)
    (lt : length t ≡ 1233)
    (ez : z ≡ replicate room_bytes 0) where
  abbrev own : List ℕ
  own = bytes_of (take n mask)

  abbrev of_x : List ℕ
  of_x = bytes_of (take n x)

  abbrev of_y : List ℕ
  of_y = bytes_of (take n y)

  vector : (a : List ℕ) → length a ≡ most_elements → length (bytes_of (take n a)) ≡ 4 * n
  vector a l = length_bytes_of (take n a) ∙ ap (λ (k : ℕ). 4 * k) (length-take-le n a (omega arith))

  pub joined_law : (x_at y_at c_at : ℕ) → x_at ≡ offset n x_field → y_at ≡ offset n y_field → c_at ≡ offset n c_field
      → t₁ ≡ over 0 h z → t₂ ≡ over 20 own t₁ → t₃ ≡ over x_at of_x t₂ → t₄ ≡ over y_at of_y t₃ → u ≡ over c_at t t₄
      → u ≡ flat (h ∷ own ∷ of_x ∷ of_y ∷ t ∷ []) ++ replicate (room_bytes - size n) 0
  unfolding offset size widths sum_first
  joined_law x_at y_at c_at ex ey ec e₁ e₂ e₃ e₄ e₅ =
      let km = vector mask lm in
      let kx = vector x lx in
      let ky = vector y ly in
      let p₁ = stand_one h z t₁ e₁ in
      let p₂ = stand_next (h ∷ []) own z t₁ t₂ 20 (omega arith) p₁ e₂ in
      let p₃ = stand_next (h ∷ own ∷ []) of_x z t₂ t₃ x_at (omega arith) p₂ e₃ in
      let p₄ = stand_next (h ∷ own ∷ of_x ∷ []) of_y z t₃ t₄ y_at (omega arith) p₃ e₄ in
      let p₅ = stand_next (h ∷ own ∷ of_x ∷ of_y ∷ []) t z t₄ u c_at (omega arith) p₄ e₅ in
      let all = length_flat (h ∷ own ∷ of_x ∷ of_y ∷ t ∷ []) in
      p₅ ∙ over_zeros (flat (h ∷ own ∷ of_x ∷ of_y ∷ t ∷ [])) z (size n) room_bytes (omega arith) (omega arith) ez

-- all fields of a set: those before the vectors, the vectors, and those past them
module _ (name : List ℕ) (party : ℕ) (s : Set) where
  abbrev n : ℕ
  n = s.terms.n

  abbrev before : List (List ℕ)
  before = name ∷ (party ∷ []) ∷ (s.terms.code ∷ []) ∷ bytes 2 n ∷ []

  abbrev own_mask_lem : List ℕ
  own_mask_lem = bytes_of (take n s.mask)

  abbrev share_x_lem : List ℕ
  share_x_lem = bytes_of (take n s.x)

  abbrev share_y_lem : List ℕ
  share_y_lem = bytes_of (take n s.y)

  abbrev past : List (List ℕ)
  past =
      le32 s.c ∷ le32 s.r ∷ bytes_of s.seed ∷ flat (map correction_bytes s.key.corrections)
      ∷ le32 s.key.last ∷ le32 s.width ∷ (s.mark ∷ []) ∷ []

  pub fields_law : (h t u rest : List ℕ) → h ≡ flat before → t ≡ flat past
      → u ≡ flat (h ∷ own_mask_lem ∷ share_x_lem ∷ share_y_lem ∷ t ∷ []) ++ rest
      → u ≡ flat (fields name party s) ++ rest
  unfolding fields flat
  fields_law h t u rest eh et eu =
      let vectors : List ℕ → List ℕ = λ l. own_mask_lem ++ (share_x_lem ++ (share_y_lem ++ l)) in
      eu ∙ ap₂ (λ (a b : List ℕ). (a ++ vectors (b ++ [])) ++ rest) eh et
      ∙ ap (λ (l : List ℕ). (flat before ++ vectors l) ++ rest) (append-nil (flat past))
      ∙ ap (λ (l : List ℕ). l ++ rest) (sym (flat_append before (own_mask_lem ∷ share_x_lem ∷ share_y_lem ∷ past)))
