-- A level of key making, from what the code's calls answer, and the loop over the levels. Assumes nothing.
use mathlib.Core.Path.{◌≡◌, refl, sym, ◌∙◌, ap, ap₂}
use mathlib.Core.Bool.{Bool, true, false, not, cond, xor}
use mathlib.Core.List.{List, [], ◌∷◌, ◌++◌, map, append-nil}
use Prim.Native.Nat.{ℕ, zero, suc, ◌+◌, ◌-◌, ◌*◌, ◌%◌, ◌<◌, ◌≤◌}
use native.Mathlib.Omega.{arith}
use native.Mathlib.Numerals.{add-one}
use lib.Bits.{bit_xor}
use lib.ListN.{length, get_or, set, drop, length-set, drop_of_length-le}
use lib.Seq.{set_at, drop-cons, append_snoc}
use Rattle.base_algebra.specs.Word.{add, sub}
use Rattle.base_algebra.specs.Bit.{only, odd, only_odd, odd_only, bit_le}
use Rattle.base_words.specs.Xor.{xors, odd_xor}
use Rattle.chacha20_rounds.specs.Rounds.{block_from}
use Rattle.chacha20_block.specs.ChaCha20.{start, block}
use Rattle.chacha20_lanes.specs.Lanes.{each, rows}
use Rattle.dcf_function.specs.Dcf as D
use Rattle.dcf_function.specs.Dcf.{by_sign, bits}
use Rattle.dcf_node.specs.Node.{child, node_nonce, opened_block, node, first}
use Rattle.dcf_node.specs.Node.{packed, unpacked, corrections, none, key_for}
use Rattle.dcf_node.specs.Claims.{unpack, length_corrections}
use Rattle.dcf_node.specs.declared.Correction.{Correction}
use Rattle.dcf_node.specs.declared.Key.{Key}
use Rattle.dcf_keys.specs.declared.Child.{Child}
use Rattle.dcf_keys.specs.declared.Making.{Making}
use Rattle.dcf_keys.specs.Keys.{as_child, as_making, both_opened, opened_at}

-- four starting states under a level's nonce n, written one after the other, and their blocks
pub opened_both : (level : ℕ) (n x y p q r t s0 s1 a b c d : List ℕ) → n ≡ node_nonce level
    → a ≡ start s0 0 n → rows 4 p ≡ set (rows 4 x) 0 a → b ≡ start s0 1 n → rows 4 q ≡ set (rows 4 p) 1 b
    → c ≡ start s1 0 n → rows 4 r ≡ set (rows 4 q) 2 c → d ≡ start s1 1 n → rows 4 t ≡ set (rows 4 r) 3 d
    → rows 4 y ≡ map block_from (rows 4 t) → rows 4 y ≡ both_opened level s0 s1
unfolding rows each both_opened opened_block block
opened_both level n x y p q r t s0 s1 a b c d en ea ep eb eq ec er ed et ey =
    ey ∙ ap (map block_from) (et ∙ ap (λ (l : List (List ℕ)). set l 3 d)
    (er ∙ ap (λ (l : List (List ℕ)). set l 2 c) (eq ∙ ap (λ (l : List (List ℕ)). set l 1 b) ep)))
    ∙ (λ i. block_from (ea i) ∷ block_from (eb i) ∷ block_from (ec i) ∷ block_from (ed i) ∷ [])
    ∙ ap (λ (m : List ℕ). block s0 0 m ∷ block s0 1 m ∷ block s1 0 m ∷ block s1 1 m ∷ []) en

-- the flags' lowest bits
odd_three : (a b c : ℕ) → odd (bit_xor (bit_xor a b) c) ≡ xor (xor (odd a) (odd b)) (odd c)
odd_three a b c = odd_xor (bit_xor a b) c ∙ ap (λ (f : Bool). xor f (odd c)) (odd_xor a b)

odd_one : odd 1 ≡ true
unfolding odd
odd_one = refl

pub flags_made : (l0 l1 r0 r1 b : ℕ)
    → bit_xor (bit_xor (bit_xor l0 l1) b) 1 % 2 + 2 * (bit_xor (bit_xor r0 r1) b % 2)
    ≡ only (xor (xor (xor (odd l0) (odd l1)) (odd b)) true) 1 + 2 * only (xor (xor (odd r0) (odd r1)) (odd b)) 1
flags_made l0 l1 r0 r1 b = ap₂ (λ (p q : ℕ). p + 2 * q)
    (sym (only_odd (bit_xor (bit_xor (bit_xor l0 l1) b) 1))
    ∙ ap (λ (f : Bool). only f 1) (odd_xor (bit_xor (bit_xor l0 l1) b) 1 ∙ ap₂ xor (odd_three l0 l1 b) odd_one))
    (sym (only_odd (bit_xor (bit_xor r0 r1) b)) ∙ ap (λ (f : Bool). only f 1) (odd_three r0 r1 b))

-- a bit is 0 or 1
pub bit_lt : (t : Bool) (b : ℕ) → b ≡ only t 1 → b < 2
bit_lt t b e = omega (arith, bit_le t)

-- the lanes of the two sides
keep_lane : (b : ℕ) → b < 2 → b ≡ only (odd b) 1
keep_lane b h = sym (only_odd b ∙ omega arith)

lose_lane : (b : ℕ) → b < 2 → 1 - b ≡ only (not (odd b)) 1
unfolding odd only
lose_lane zero h = refl
lose_lane (suc zero) h = refl
lose_lane (suc (suc b)) h = absurd (let no : ⊥ = omega arith in no)

module _ (rs : List (List ℕ)) (g : Making) (b : ℕ) (hb : b < 2) where
  abbrev n0 : D.Opened (List ℕ)
  n0 = opened_at rs 0

  abbrev n1 : D.Opened (List ℕ)
  n1 = opened_at rs 1

  -- a child at a lane that is a side's
  side : (p l : ℕ) (d : Bool) (k : Child) → l ≡ 2 * p + only d 1 → as_child k ≡ child (get_or rs l [])
      → as_child k ≡ opened_at rs p d
  unfolding opened_at
  side p l d k el ek = ek ∙ ap (λ (j : ℕ). child (get_or rs j [])) el

  pub correction_made : (e0 e1 l0 r0 l1 r1 : Child) (s : List ℕ) (w f : ℕ)
      → as_child e0 ≡ child (get_or rs (1 - b) []) → as_child e1 ≡ child (get_or rs (2 + (1 - b)) [])
      → as_child l0 ≡ child (get_or rs 0 []) → as_child r0 ≡ child (get_or rs 1 [])
      → as_child l1 ≡ child (get_or rs 2 []) → as_child r1 ≡ child (get_or rs 3 [])
      → s ≡ D.corrected xors (odd 1) e0.seed e1.seed
      → w ≡ add (by_sign (odd g.t1) (sub (sub e1.word e0.word) g.v)) (only (odd b) (by_sign (odd g.t1) 1))
      → f ≡ only (xor (xor (xor (odd l0.flag) (odd l1.flag)) (odd b)) true) 1
      + 2 * only (xor (xor (odd r0.flag) (odd r1.flag)) (odd b)) 1
      → ◌≡◌ {A = Correction} (record { seed = s; word = w; flags = f })
      (packed (D.correction xors (odd b) (as_making g) n0 n1))
  unfolding packed D.correction as_making as_child D.corrected odd only
  correction_made e0 e1 l0 r0 l1 r1 s w f h0 h1 hl0 hr0 hl1 hr1 es ew ef =
      let p0 : as_child e0 ≡ n0 (not (odd b)) = side 0 (1 - b) (not (odd b)) e0 (lose_lane b hb ∙ omega arith) h0 in
      let p1 : as_child e1 ≡ n1 (not (odd b)) =
      side 1 (2 + (1 - b)) (not (odd b)) e1 (ap (λ (j : ℕ). 2 + j) (lose_lane b hb)) h1 in
      let q0 : as_child l0 ≡ n0 false = side 0 0 false l0 refl hl0 in
      let q1 : as_child l1 ≡ n1 false = side 1 2 false l1 refl hl1 in
      let u0 : as_child r0 ≡ n0 true = side 0 1 true r0 refl hr0 in
      let u1 : as_child r1 ≡ n1 true = side 1 3 true r1 refl hr1 in
      let ps = es ∙ (λ i. xors (p0 i).seed (p1 i).seed) in
      let pw = ew ∙ (λ i. add (by_sign (odd g.t1) (sub (sub (p1 i).word (p0 i).word) g.v))
      (only (odd b) (by_sign (odd g.t1) 1))) in
      let pf = ef ∙ (λ i. only (xor (xor (xor (q0 i).flag (q1 i).flag) (odd b)) true) 1
      + 2 * only (xor (xor (u0 i).flag (u1 i).flag) (odd b)) 1) in
      λ i. record { seed = ps i; word = pw i; flags = pf i }

  pub kept_made : (c : Correction) (k0 k1 : Child) (s0 s1 : List ℕ) (t0 t1 v : ℕ)
      → as_child k0 ≡ child (get_or rs b []) → as_child k1 ≡ child (get_or rs (2 + b) [])
      → s0 ≡ D.corrected xors (odd g.t0) k0.seed c.seed
      → s1 ≡ D.corrected xors (odd g.t1) k1.seed c.seed
      → odd t0 ≡ D.next_flag (unpacked c) (odd g.t0) (odd b) (as_child k0)
      → odd t1 ≡ D.next_flag (unpacked c) (odd g.t1) (odd b) (as_child k1)
      → v ≡ add (add (sub g.v k1.word) k0.word) (by_sign (odd g.t1) c.word)
      → as_making (record { s0 = s0; s1 = s1; t0 = t0; t1 = t1; v = v })
      ≡ D.kept xors (unpacked c) (odd b) (as_making g) n0 n1
  unfolding D.kept D.next_seed as_making as_child unpacked
  kept_made c k0 k1 s0 s1 t0 t1 v h0 h1 e0 e1 f0 f1 ev =
      let p0 : as_child k0 ≡ n0 (odd b) = side 0 b (odd b) k0 (keep_lane b hb ∙ omega arith) h0 in
      let p1 : as_child k1 ≡ n1 (odd b) = side 1 (2 + b) (odd b) k1 (ap (λ (j : ℕ). 2 + j) (keep_lane b hb)) h1 in
      let x0 = e0 ∙ (λ i. D.corrected xors (odd g.t0) (p0 i).seed c.seed) in
      let x1 = e1 ∙ (λ i. D.corrected xors (odd g.t1) (p1 i).seed c.seed) in
      let y0 = f0 ∙ (λ i. D.next_flag (unpacked c) (odd g.t0) (odd b) (p0 i)) in
      let y1 = f1 ∙ (λ i. D.next_flag (unpacked c) (odd g.t1) (odd b) (p1 i)) in
      let z = ev ∙ (λ i. add (add (sub g.v (p1 i).word) (p0 i).word) (by_sign (odd g.t1) c.word)) in
      λ i. record { s0 = x0 i; s1 = x1 i; t0 = y0 i; t1 = y1 i; v = z i }

-- the four blocks are the parties' nodes, opened
is_node : (i : ℕ) (s0 s1 : List ℕ) (p : Bool)
    → opened_at (both_opened (i + 1) s0 s1) (cond p 1 0) ≡ node i (cond p s1 s0)
unfolding opened_at both_opened node only
is_node i s0 s1 p = λ j d. at p d j
  where
    at : (p d : Bool) → opened_at (both_opened (i + 1) s0 s1) (cond p 1 0) d ≡ node i (cond p s1 s0) d
    at false false = refl
    at false true = refl
    at true false = refl
    at true true = refl

-- the loop before level i
pub record Made (k0 k1 : List ℕ) (r : ℕ) (l₀ l : List Correction) (g : Making) (i : ℕ) : Type 0 where
  pub within : i ≤ 32
  pub list : l ≡ corrections k0 k1 r i ++ drop i l₀
  pub size : length l ≡ 32
  pub state : as_making g ≡ D.making xors node first k0 k1 (bits 32 r) i

module _ (k0 k1 : List ℕ) (r : ℕ) (l₀ : List Correction) (whole : length l₀ ≡ 32) where
  pub none_made : Made k0 k1 r l₀ l₀ (record { s0 = k0; s1 = k1; t0 = 0; t1 = 1; v = 0 }) 0
  unfolding corrections as_making D.making odd
  none_made = record { within = omega arith; list = refl; size = whole; state = refl }

  pub one_more : (l : List Correction) (g h : Making) (i b : ℕ) (c : Correction) (y : List ℕ)
      → Made k0 k1 r l₀ l g i → i < 32 → b ≡ only (bits 32 r i) 1
      → rows 4 y ≡ both_opened (i + 1) g.s0 g.s1
      → c ≡ packed (D.correction xors (odd b) (as_making g) (opened_at (rows 4 y) 0) (opened_at (rows 4 y) 1))
      → as_making h ≡ D.kept xors (unpacked c) (odd b) (as_making g) (opened_at (rows 4 y) 0) (opened_at (rows 4 y) 1)
      → Made k0 k1 r l₀ (set l i c) h (i + 1)
  unfolding corrections as_making D.making D.next_making D.level_correction D.key_correction
  one_more l g h i b c y m hi eb ey ec eh =
      let bit : odd b ≡ bits 32 r i = ap odd eb ∙ odd_only (bits 32 r i) in
      let o0 : opened_at (rows 4 y) 0 ≡ node i g.s0 =
      ap (λ (x : List (List ℕ)). opened_at x 0) ey ∙ is_node i g.s0 g.s1 false in
      let o1 : opened_at (rows 4 y) 1 ≡ node i g.s1 =
      ap (λ (x : List (List ℕ)). opened_at x 1) ey ∙ is_node i g.s0 g.s1 true in
      let now : D.Making (List ℕ) = D.making xors node first k0 k1 (bits 32 r) i in
      let made : D.correction xors (odd b) (as_making g) (opened_at (rows 4 y) 0) (opened_at (rows 4 y) 1)
      ≡ D.key_correction xors node first k0 k1 (bits 32 r) i =
      (λ j. D.correction xors (bit j) (as_making g) (o0 j) (o1 j))
      ∙ level (λ (x : D.Making (List ℕ)). D.correction xors (bits 32 r i) x (node i x.s0) (node i x.s1))
      m.state in
      let stored : c ≡ packed (D.key_correction xors node first k0 k1 (bits 32 r) i) = ec ∙ ap packed made in
      let read : unpacked c ≡ D.key_correction xors node first k0 k1 (bits 32 r) i = ap unpacked stored ∙ unpack _ in
      record {
        within = omega arith;
        list = ap₂ (λ (p : List Correction) (q : Correction). set p i q) m.list stored
            ∙ put (packed (D.key_correction xors node first k0 k1 (bits 32 r) i)) ∙ rw (add-one i) refl;
        size = length-set l i c ∙ m.size;
        state = eh ∙ (λ j. D.kept xors (read j) (bit j) (as_making g) (o0 j) (o1 j))
            ∙ ap (λ (x : D.Making (List ℕ)). D.kept xors (D.key_correction xors node first k0 k1 (bits 32 r) i)
            (bits 32 r i) x (node i x.s0) (node i x.s1)) m.state ∙ rw (add-one i) refl;
      }
    where
      level : (f : D.Making (List ℕ) → D.Correction (List ℕ)) {x y : D.Making (List ℕ)} → x ≡ y → f x ≡ f y
      level f e = ap f e

      put : (q : Correction)
          → set (corrections k0 k1 r i ++ drop i l₀) i q ≡ (corrections k0 k1 r i ++ (q ∷ [])) ++ drop (suc i) l₀
      put q =
          ap (λ (x : List Correction). set (corrections k0 k1 r i ++ x) i q) (drop-cons l₀ i none (omega arith))
          ∙ set_at (corrections k0 k1 r i) _ (drop (suc i) l₀) q i (length_corrections k0 k1 r i)
          ∙ sym (append_snoc (corrections k0 k1 r i) q (drop (suc i) l₀))

  pub all_made : (l : List Correction) (g : Making) (i f : ℕ) → Made k0 k1 r l₀ l g i → 32 ≤ i
      → f ≡ by_sign (odd g.t1) (sub (sub (first g.s1) (first g.s0)) g.v)
      → ◌≡◌ {A = Key} (record { corrections = l; last = f }) (key_for k0 k1 r)
  unfolding key_for D.final_word D.last_word as_making
  all_made l g i f m h ef =
      let e : i ≡ 32 = omega (arith, m.within) in
      let levels : l ≡ corrections k0 k1 r 32 = rw e at m.list
      ∙ ap (λ (x : List Correction). corrections k0 k1 r 32 ++ x) (drop_of_length-le l₀ {i = 32} (omega arith))
      ∙ append-nil (corrections k0 k1 r 32) in
      let last = ef ∙ ap (λ (x : D.Making (List ℕ)). by_sign x.t1 (sub (sub (first x.s1) (first x.s0)) x.v))
      (rw e at m.state) in
      λ j. record { corrections = levels j; last = last j }
