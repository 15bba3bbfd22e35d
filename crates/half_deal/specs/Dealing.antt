-- Dealing a set (01, "Dealing a set"; 02, §2 and §4): the words that the dealer draws, and the set that each party
-- gets. A party is its number. Assumes nothing. [SPEC 5.1, 5.9 to 5.11, 5.13, 5.16]
use Rattle.std.specs.Prelude.{cond, List, [], ◌∷◌, ℕ, ◌+◌, ◌*◌, eqb, get_or}
use Rattle.base_words.specs.Bytes.{words_at}
use Rattle.chacha20_stream.specs.Keystream.{stream}
use Rattle.dcf_node.specs.Node.{key_for}
use Rattle.measure_table.specs.declared.Terms.{Terms}
use Rattle.measure_table.specs.declared.Rule.{Rule}
use Rattle.measure_table.specs.Measure.{offset_of, width_of, mark_of}
use Rattle.share_vectors.specs.Share.{plus, other_c, other_r}
use Rattle.half_content.specs.declared.Set.{Set}
use Rattle.half_content.specs.Content.{part, fill}

-- "words from the ChaCha20 key stream of the set seed (block
-- counter from 0, nonce byte 0 is 1, the other eleven are 0)" [SPEC 5.2]
unfoldable pub set_words : List ℕ → ℕ → List ℕ
set_words seed n = stream (words_at 8 seed) (1 ∷ 0 ∷ 0 ∷ []) (4 * n + 19)

-- "in this order: L words each of x0, x1, y0, y1; then c0, r,
-- r0; then eight words each for the key seeds of party 0 and 1" [SPEC 5.3]
module _ (n : ℕ) (w : List ℕ) where
  unfoldable pub x : ℕ → List ℕ
  x party = part (party * n) n w

  unfoldable pub y : ℕ → List ℕ
  y party = part ((2 + party) * n) n w

  unfoldable pub c0 : ℕ
  c0 = get_or w (4 * n) 0

  unfoldable pub r : ℕ
  r = get_or w (4 * n + 1) 0

  unfoldable pub r0 : ℕ
  r0 = get_or w (4 * n + 2) 0

  unfoldable pub key_seed : ℕ → List ℕ
  key_seed party = part (4 * n + 3 + 8 * party) 8 w

  -- "X's mask is x0 + x1, element by element; Y's is y0 + y1" [SPEC 5.5, 5.6]
  unfoldable pub mask_x : List ℕ
  mask_x = plus n (x 0) (x 1)

  unfoldable pub mask_y : List ℕ
  mask_y = plus n (y 0) (y 1)

  -- a party's own: X's mask and c0 at party 0, Y's mask and c1 at party 1
  unfoldable pub own_mask : ℕ → List ℕ
  own_mask party = cond (eqb party 0) mask_x mask_y

  unfoldable pub c_of : ℕ → ℕ
  c_of party = cond (eqb party 0) c0 (other_c n mask_x mask_y c0)

-- what is dealt: a set's number and seed, its terms, and its rule, a threshold T or two marks P and Q
pub record Deal : Type 0 where
  pub number : ℕ
  pub seed : List ℕ
  pub terms : Terms
  pub rule : Rule

abbrev pub deal_from : ℕ → List ℕ → Terms → Rule → Deal
deal_from number seed terms rule = record { number = number; seed = seed; terms = terms; rule = rule }

-- r0 at party 0, r1 at party 1, from the words that were drawn: T is in no other word; P is in the width too
-- [SPEC 5.8, 5.9, 5.13]
unfoldable pub r_of : Deal → List ℕ → ℕ → ℕ
r_of d w party =
    let n : ℕ = d.terms.n in
    cond (eqb party 0) (r0 n w) (other_r d.terms (mark_of d.rule) (r n w) (offset_of d.rule) (r0 n w))

-- a party's set of this deal, from the words that were drawn and its r word
abbrev pub set_with : Deal → List ℕ → ℕ → ℕ → Set
set_with d w party its_r =
    let n : ℕ = d.terms.n in
    record {
      number = d.number;
      terms = d.terms;
      mask = fill (own_mask n w party);
      x = fill (x n w party);
      y = fill (y n w party);
      c = c_of n w party;
      r = its_r;
      seed = key_seed n w party;
      key = key_for (key_seed n w 0) (key_seed n w 1) (r n w);
      width = width_of d.rule;
      mark = mark_of d.rule;
    }

-- the set that a party gets from them
unfoldable pub set_from : Deal → List ℕ → ℕ → Set
set_from d w party = set_with d w party (r_of d w party)

-- what a deal gives a party
unfoldable pub dealt_set : Deal → ℕ → Set
dealt_set d party = set_from d (set_words d.seed d.terms.n) party
