-- What the functions of this crate come to, over plain numbers and lists. Assumes nothing.
use mathlib.Core.Path.{◌≡◌, sym, ap, ap₂, ◌∙◌}
use mathlib.Core.List.{List, [], ◌∷◌, ◌++◌}
use Prim.Native.Nat.{ℕ, ◌+◌, ◌-◌, ◌*◌, ◌<◌, ◌≤◌}
use native.Mathlib.Nat.{mul-le-mul_right}
use native.Mathlib.Omega.{arith}
use lib.ListN.{length, get_or, take, drop, replicate}
use lib.Seq.{length-take-le, take_at, get_or-take}
use Rattle.base_algebra.specs.Word.{add}
use Rattle.base_words.specs.List.{over, length_tab, tab_ext}
use Rattle.base_words.specs.Bytes.{words_at}
use Rattle.chacha20_stream.specs.Keystream.{stream}
use Rattle.dcf_node.specs.declared.Key.{Key}
use Rattle.dcf_node.specs.Node.{key_for}
use Rattle.measure_table.specs.declared.Terms.{Terms}
use Rattle.measure_table.specs.declared.Rule.{Rule}
use Rattle.share_vectors.specs.Share.{plus, other_c, other_r}
use Rattle.half_content.specs.declared.Set.{Set}
use Rattle.measure_table.specs.Measure.{most_elements, offset_of, width_of, mark_of}
use Rattle.half_content.specs.Content.{part, fill}
use Rattle.half_content.specs.Laws.{fill_rest, fill_over}
use Rattle.half_content.specs.Pieces.{length_part}
use Rattle.half_deal.specs.Dealing.{set_words, x, y, c0, r, r0, key_seed, mask_x, mask_y, own_mask, c_of, Deal, r_of}
use Rattle.half_deal.specs.Dealing.{deal_from, set_from}
use Rattle.half_deal.specs.Laws.{other_c_fill}

-- ---- the start of an array of zeros is written

abbrev pub zeros : ℕ → List ℕ
zeros k = replicate k 0

-- a range from `at` on
pub part_as_range : (w : List ℕ) (at n : ℕ) → take (at + n - at) (drop at w) ≡ part at n w
unfolding part
part_as_range w at n =
    let wide : at + n - at ≡ n = omega arith in
    ap (λ (k : ℕ). take k (drop at w)) wide

pub words_law : (w a out : List ℕ) (at n : ℕ) → a ≡ zeros most_elements → n ≤ most_elements → at + n ≤ length w
    → out ≡ take (at + n - at) (drop at w)
    → out ++ drop n a ≡ fill (part at n w)
words_law w a out at n ea most fits e =
    let is : out ≡ part at n w = e ∙ part_as_range w at n in
    ap (λ (l : List ℕ). l ++ drop n a) is ∙ fill_rest (part at n w) a n (length_part w at n fits) most ea

-- a sum of vectors asks for its own places only, however far the slices reach
pub mask_law : (w a out : List ℕ) (at n : ℕ) → a ≡ zeros most_elements → n ≤ most_elements → at + 2 * n ≤ length w
    → out ≡ over 0 (plus n (take (length w - at) (drop at w)) (take (length w - (at + n)) (drop (at + n) w))) a
    → out ≡ fill (plus n (part at n w) (part (at + n) n w))
unfolding part plus
mask_law w a out at n ea most fits e =
    let p : List ℕ = plus n (part at n w) (part (at + n) n w) in
    let same : plus n (take (length w - at) (drop at w)) (take (length w - (at + n)) (drop (at + n) w)) ≡ p =
    tab_ext _ _ n (λ i h. ap₂ add (front (drop at w) (length w - at) i h (omega arith))
    (front (drop (at + n) w) (length w - (at + n)) i h (omega arith))) in
    e ∙ ap (λ (q : List ℕ). over 0 q a) same ∙ fill_over p a n (length_tab _ n) most ea
  where
    front : (l : List ℕ) (k i : ℕ) → i < n → n ≤ k → get_or (take k l) i 0 ≡ get_or (take n l) i 0
    front l k i h more = get_or-take k l i 0 (omega arith) ∙ sym (get_or-take n l i 0 h)

pub draw_law : (seed key a out : List ℕ) (n : ℕ) → 4 * n + 19 ≤ length a → key ≡ words_at 8 seed
    → out ≡ stream key (1 ∷ 0 ∷ 0 ∷ []) (length (take (4 * n + 19) a))
    → take (4 * n + 19) (out ++ drop (4 * n + 19) a) ≡ set_words seed n
unfolding set_words stream
draw_law seed key a out n room ek e =
    let size : length (take (4 * n + 19) a) ≡ 4 * n + 19 = length-take-le (4 * n + 19) a room in
    let is : out ≡ stream (words_at 8 seed) (1 ∷ 0 ∷ 0 ∷ []) (4 * n + 19) =
    e ∙ ap₂ (λ (k : List ℕ) (m : ℕ). stream k (1 ∷ 0 ∷ 0 ∷ []) m) ek size in
    take_at out (drop (4 * n + 19) a) (4 * n + 19) (ap length is ∙ length_tab _ (4 * n + 19)) ∙ is

-- ---- a party's words

pub at_most : (party n : ℕ) → party ≤ 1 → party * n ≤ 1 * n
at_most party n h = mul-le-mul_right n h

-- a party's set, from what is made for it and its own words
abbrev pub set_with : ℕ → ℕ → Terms → Rule → List ℕ → List ℕ → ℕ → ℕ → Key → Set
set_with party number terms rule w m c r' key =
    let n : ℕ = terms.n in
    record {
      number = number;
      terms = terms;
      mask = m;
      x = fill (x n w party);
      y = fill (y n w party);
      c = c;
      r = r';
      seed = key_seed n w party;
      key = key;
      width = width_of rule;
      mark = mark_of rule;
    }

-- what is made for the two of them, X's shares standing from 0 on and Y's from 2 n on
module _ (terms : Terms) where
  abbrev n : ℕ
  n = terms.n

  module _ (number : ℕ) (rule : Rule) (w mx my k0 k1 : List ℕ) (key : Key)
      (emx : mx ≡ fill (plus n (part 0 n w) (part (0 + n) n w)))
      (emy : my ≡ fill (plus n (part (2 * n) n w) (part (2 * n + n) n w)))
      (e0 : k0 ≡ key_seed n w 0) (e1 : k1 ≡ key_seed n w 1) (ek : key ≡ key_for k0 k1 (get_or w (4 * n + 1) 0)) where
    is_x : mx ≡ fill (mask_x n w)
    unfolding mask_x x
    is_x =
        let first : 0 ≡ 0 * n = omega arith in
        let second : 0 + n ≡ 1 * n = omega arith in
        emx ∙ ap₂ (λ (i j : ℕ). fill (plus n (part i n w) (part j n w))) first second

    is_y : my ≡ fill (mask_y n w)
    unfolding mask_y y
    is_y =
        let second : 2 * n + n ≡ 3 * n = omega arith in
        emy ∙ ap (λ (j : ℕ). fill (plus n (part (2 * n) n w) (part j n w))) second

    is_key : key ≡ key_for (key_seed n w 0) (key_seed n w 1) (r n w)
    unfolding r
    is_key = ek ∙ ap₂ (λ (a b : List ℕ). key_for a b (get_or w (4 * n + 1) 0)) e0 e1

    pub sets_law : (camera office : Set) (c1 mark t r1 : ℕ)
        → camera ≡ set_with 0 number terms rule w mx (get_or w (4 * n) 0) (get_or w (4 * n + 2) 0) key
        → c1 ≡ other_c n mx my (get_or w (4 * n) 0) → mark ≡ mark_of rule → t ≡ offset_of rule
        → r1 ≡ other_r terms mark (get_or w (4 * n + 1) 0) t (get_or w (4 * n + 2) 0)
        → office ≡ set_with 1 number terms rule w my c1 r1 key
        → (seed : List ℕ)
        → (let d : Deal = deal_from number seed terms rule in
        (camera ≡ set_from d w 0) × (office ≡ set_from d w 1))
    unfolding set_from own_mask c_of r_of c0 r r0
    sets_law camera office c1 mark t r1 e ec em et er f seed =
        let first : ℕ = get_or w (4 * n) 0 in
        let is_c1 : c1 ≡ other_c n (mask_x n w) (mask_y n w) first =
        ec ∙ ap₂ (λ (a b : List ℕ). other_c n a b first) is_x is_y ∙ other_c_fill n (mask_x n w) (mask_y n w) first in
        let is_r1 : r1
        ≡ other_r terms (mark_of rule) (get_or w (4 * n + 1) 0) (offset_of rule) (get_or w (4 * n + 2) 0) =
        er ∙ ap₂ (λ (g s : ℕ). other_r terms g (get_or w (4 * n + 1) 0) s (get_or w (4 * n + 2) 0)) em et in (
          e ∙ (λ i. set_with 0 number terms rule w (is_x i) first (get_or w (4 * n + 2) 0) (is_key i)),
          f ∙ (λ i. set_with 1 number terms rule w (is_y i) (is_c1 i) (is_r1 i) (is_key i)),
        )
