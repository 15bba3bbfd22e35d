-- What holds of a dealt set: its fields lie in their ranges (01, "The sealed half"), and two boxes that compute with
-- the two sets of a deal get the join law's sum (01, "One check at a box"). For every set seed. Assumes nothing.
-- [SPEC 9.1, 18.7]
use Rattle.std.specs.Prelude.{◌≡◌, refl, Bool, cond, ◌&&◌, List, ℕ, ◌+◌, ◌*◌, ◌^◌, ◌<◌, ◌≤◌, eqb, length}
use Rattle.std.proofs.Common.{ap, arith, le-leb}
use Rattle.std.proofs.Math.Bool.{true, false}
use Rattle.std.proofs.Math.Nat.{mul-le-mul_right}
use Rattle.base_algebra.specs.Word.{add, sub, sub_lt}
use Rattle.base_algebra.specs.Bit.{only}
use Rattle.base_words.specs.Bytes.{Below, Words}
use Rattle.dcf_node.specs.declared.Correction.{Correction}
use Rattle.dcf_node.specs.Bounds.{Fits, key_long, last_below}
use Rattle.dcf_node.proofs.Bounds.{key_fits}
use Rattle.measure_table.specs.declared.Terms.{Terms}
use Rattle.measure_table.specs.declared.Rule.{Rule}
use Rattle.measure_table.specs.declared.Rule.TheVariants.{Threshold, Between}
use Rattle.measure_table.specs.Measure.{ordinary_width, is_code, length_fits, measure, all_in_range}
use Rattle.measure_table.specs.Measure.{meets, rule_fits, in_order, width_of, mark_of, own_word, carried}
use Rattle.measure_table.specs.Laws.{width_most}
use Rattle.share_vectors.specs.Share.{plus, other_c, other_r, share, box_word, answer}
use Rattle.share_vectors.proofs.Claims.{join_law}
use Rattle.half_content.specs.declared.Set.{Set}
use Rattle.half_content.specs.Content.{fill, no_correction, width_fits, Filled, Corrections, Proper}
use Rattle.half_deal.specs.Dealing.{set_words, x, y, c0, r, r0, key_seed, mask_x, mask_y, own_mask, c_of, Deal, r_of}
use Rattle.half_deal.specs.Dealing.{set_from, dealt_set}
use Rattle.half_deal.specs.Laws.{dealt_below, dealt_long, part_words, plus_words, plus_fill, share_fills}

-- ---- a dealt set is proper

-- a rule has the width and the mark that 11 asks for
rule_width : (rule : Rule) → in_order rule ≡ true → width_fits (width_of rule) (mark_of rule) ≡ true
unfolding width_of mark_of width_fits
rule_width (Threshold t) h = refl
rule_width (Between p q) h =
    ap (λ (b : Bool). b && true) (le-leb (sub q p) ordinary_width (width_most (Between p q) h))

module _ (d : Deal) (w : List ℕ) (long : length w ≡ 4 * d.terms.n + 19) (below : Below w) where
  abbrev n : ℕ
  n = d.terms.n

  proper_from : (party : ℕ) → d.number < 2 ^ 64 → is_code d.terms.code ≡ true → length_fits d.terms ≡ true
      → in_order d.rule ≡ true → party ≤ 1 → Proper (set_from d w party)
  unfolding set_from own_mask mask_x mask_y c_of r_of x y c0 r0 key_seed Filled Corrections other_c other_r
  proper_from party hnumber hcode hlength hrule hparty =
      let before : party * n ≤ 1 * n = mul-le-mul_right n hparty in
      record {
        number_fits = hnumber;
        code_fits = hcode;
        length_fits_lem = hlength;
        masked = (_, either (eqb party 0), refl);
        x_filled = (_, part_words (party * n) n w (omega arith) below, refl);
        y_filled = (_, part_words ((2 + party) * n) n w (omega arith) below, refl);
        c_fits = below_either (eqb party 0) (below (4 * n)) (sub_lt _ _);
        r_fits = below_either (eqb party 0) (below (4 * n + 2)) (sub_lt _ _);
        seed_fits = part_words (4 * n + 3 + 8 * party) 8 w (omega arith) below;
        levels = key_long _ _ _;
        corrections_fit = λ i h.
            fits (key_fits _ _ _ no_correction i (omega (arith, key_long (key_seed n w 0) (key_seed n w 1) (r n w))));
        last_fits = last_below _ _ _;
        width_fits_lem = rule_width d.rule hrule;
      }
    where
      either : (b : Bool) → Words n (cond b (plus n (x n w 0) (x n w 1)) (plus n (y n w 0) (y n w 1)))
      either true = plus_words n _ _
      either false = plus_words n _ _

      below_either : (b : Bool) {p q : ℕ} → p < 2 ^ 32 → q < 2 ^ 32 → cond b p q < 2 ^ 32
      below_either true h k = h
      below_either false h k = k

      fits : {c : Correction} → Fits c → Words 8 c.seed × (c.word < 2 ^ 32) × (c.flags < 4)
      fits f = (f.seed_fits, f.word_below, f.flags_below)

pub proper : (d : Deal) (party : ℕ) → d.number < 2 ^ 64 → is_code d.terms.code ≡ true
    → length_fits d.terms ≡ true → in_order d.rule ≡ true → party ≤ 1 → Proper (dealt_set d party)
unfolding dealt_set
proper d party =
    let n = d.terms.n in
    proper_from d (set_words d.seed n) (dealt_long d.seed n) (dealt_below d.seed n) party

-- ---- the join law over the two sets of a deal

point_below : (seed : List ℕ) (n : ℕ) → r n (set_words seed n) < 2 ^ 32
unfolding r
point_below seed n = dealt_below seed n (4 * n + 1)

pub dealt_join : (d : Deal) (v0 v1 : List ℕ) → length_fits d.terms ≡ true → all_in_range d.terms v0 ≡ true
    → all_in_range d.terms v1 ≡ true → rule_fits d.terms d.rule ≡ true → in_order d.rule ≡ true
    → (let terms : Terms = d.terms in
    let n : ℕ = terms.n in
    let s0 : Set = dealt_set d 0 in
    let s1 : Set = dealt_set d 1 in
    let m0 : List ℕ = plus n (carried terms 0 v0) s0.mask in
    let m1 : List ℕ = plus n (carried terms 1 v1) s1.mask in
    let w0 : ℕ = box_word terms s0.mark (share 0 n s0.c m0 m1 s0.x s0.y) (own_word terms v0) s0.r in
    let w1 : ℕ = box_word terms s1.mark (share 1 n s1.c m0 m1 s1.x s1.y) (own_word terms v1) s1.r in
    let z : ℕ = add w0 w1 in
    add (answer s0.width 0 s0.key s0.seed z) (answer s1.width 1 s1.key s1.seed z))
    ≡ only (meets d.terms d.rule (measure d.terms v0 v1)) 1
unfolding dealt_set set_from own_mask mask_x mask_y c_of r_of
dealt_join d v0 v1 long in0 in1 fits ordered =
    let terms : Terms = d.terms in
    let n : ℕ = terms.n in
    let w : List ℕ = set_words d.seed n in
    let X : ℕ → List ℕ = x n w in
    let Y : ℕ → List ℕ = y n w in
    let mx : List ℕ = plus n (X 0) (X 1) in
    let my : List ℕ = plus n (Y 0) (Y 1) in
    let cx : List ℕ = carried terms 0 v0 in
    let cy : List ℕ = carried terms 1 v1 in
    let s : (party c : ℕ)
    → share party n c (plus n cx (fill mx)) (plus n cy (fill my)) (fill (X party)) (fill (Y party))
    ≡ share party n c (plus n cx mx) (plus n cy my) (X party) (Y party) =
    λ party c. rw (plus_fill n cx mx, plus_fill n cy my) (share_fills party n c _ _ (X party) (Y party)) in
    rw (s 0 (c0 n w), s 1 (other_c n mx my (c0 n w)))
    (join_law terms d.rule v0 v1 (X 0) (X 1) (Y 0) (Y 1) (c0 n w) (r n w) (r0 n w) (key_seed n w 0) (key_seed n w 1)
    long in0 in1 fits ordered (point_below d.seed n))
