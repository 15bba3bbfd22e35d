-- What T and the set's sign do to a set (02, §2): they go into party 1's r word and nowhere else. With the plain sign,
-- the scalar product's and that of every set between two marks, that word is 01's. With the sign -1, that of squared
-- Euclid and Hamming in an ordinary set, it is 02's, and of a half's content nothing but this word differs from what
-- 01's would give. Between two marks P stands for T here, and is in the width Q - P as well. What holds of party 0's
-- set, and with the plain sign, is in `proofs/Close.antt`. Assumes nothing. [SPEC 5.8, 5.13]
use Rattle.std.specs.Prelude.{◌≡◌, cond, List, ℕ, eqb, pos, neg_ℤ, set}
use Rattle.std.proofs.Math.Path.{ap}
use Rattle.base_algebra.specs.Word.{add, sub}
use Rattle.base_words.specs.Bytes.{le32}
use Rattle.measure_table.specs.Measure.{sign, offset_of, mark_of}
use Rattle.share_vectors.specs.Claims.{other_r_close}
use Rattle.half_content.specs.declared.Set.{Set}
use Rattle.half_content.specs.Content.{r_field, fields}
use Rattle.half_deal.specs.Dealing.{set_words, r, r0, Deal, r_of, set_with, set_from, dealt_set}

module _ (d : Deal) where
  abbrev n : ℕ
  n = d.terms.n

  abbrev w : List ℕ
  w = set_words d.seed n

  abbrev mark : ℕ
  mark = mark_of d.rule

  abbrev t : ℕ
  t = offset_of d.rule

  -- a party's set of this deal, with this r1
  abbrev with_r1 : ℕ → ℕ → Set
  with_r1 party r1 = set_with d w party (cond (eqb party 0) (r0 n w) r1)

  -- the same with 01's, "r1 = r - T - r0", whatever the code
  abbrev pub set_by01 : ℕ → Set
  set_by01 party = with_r1 party (sub (sub (r n w) t) (r0 n w))

  -- "r1 = r + T - r0"
  pub office_close : sign d.terms mark ≡ neg_ℤ (pos 1) → dealt_set d 1 ≡ with_r1 1 (sub (add (r n w) t) (r0 n w))
  unfolding dealt_set set_from r_of
  office_close close = ap (with_r1 1) (other_r_close d.terms mark close (r n w) t (r0 n w))

  -- field by field its content is then as with 01's, but for this word
  pub office_moved : sign d.terms mark ≡ neg_ℤ (pos 1) → (name : List ℕ)
      → fields name 1 (dealt_set d 1) ≡ set (fields name 1 (set_by01 1)) r_field (le32 (sub (add (r n w) t) (r0 n w)))
  unfolding fields
  office_moved close name = ap (fields name 1) (office_close close)
