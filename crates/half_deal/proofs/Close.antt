-- Where T and the set's sign do not go (02, §2): party 0's set is 01's, and with the plain sign so is party 1's. The
-- rest is in `specs/Close.antt`. Assumes nothing. [SPEC 5.8, 5.13]
use Rattle.std.specs.Prelude.{◌≡◌, cond, List, ℕ, eqb, pos}
use Rattle.std.proofs.Math.Path.{refl, ap}
use Rattle.std.proofs.Common.{ap₂}
use Rattle.measure_table.specs.declared.Terms.{Terms}
use Rattle.measure_table.specs.declared.Rule.{Rule}
use Rattle.measure_table.specs.Measure.{sign, offset_of, width_of, mark_of}
use Rattle.share_vectors.specs.Claims.{other_r_plain}
use Rattle.half_content.specs.declared.Set.{Set}
use Rattle.half_deal.specs.Dealing.{set_words, r, r0, Deal, deal_from, r_of, set_with, set_from, dealt_set}
use Rattle.half_deal.specs.Close.{set_by01}

module _ (d : Deal) where
  abbrev n : ℕ
  n = d.terms.n

  abbrev w : List ℕ
  w = set_words d.seed n

  abbrev mark : ℕ
  mark = mark_of d.rule

  abbrev t : ℕ
  t = offset_of d.rule

  -- a party's set of this deal, with this r1
  abbrev with_r1 : ℕ → ℕ → Set
  with_r1 party r1 = set_with d w party (cond (eqb party 0) (r0 n w) r1)

  -- party 0's set is the one with 01's ..
  pub camera_by_01 : dealt_set d 0 ≡ set_by01 d 0
  unfolding dealt_set set_from r_of
  camera_by_01 = refl

  -- .. and with the plain sign so is party 1's
  pub plain_by_01 : sign d.terms mark ≡ pos 1 → (party : ℕ) → dealt_set d party ≡ set_by01 d party
  unfolding dealt_set set_from r_of
  plain_by_01 plain party = ap (with_r1 party) (other_r_plain d.terms mark plain (r n w) t (r0 n w))

-- and party 0's is the same for every two rules of one width and mark: for every T, and for every two marks that are as
-- far apart
pub camera_any : (number : ℕ) (seed : List ℕ) (terms : Terms) (rule other : Rule) → width_of rule ≡ width_of other
    → mark_of rule ≡ mark_of other
    → dealt_set (deal_from number seed terms rule) 0 ≡ dealt_set (deal_from number seed terms other) 0
unfolding dealt_set set_from r_of
camera_any number seed terms rule other ew em = ap₂ told ew em
  where
    told : ℕ → ℕ → Set
    told width mark =
        let s : Set = dealt_set (deal_from number seed terms rule) 0 in
        record {
          number = number;
          terms = terms;
          mask = s.mask;
          x = s.x;
          y = s.y;
          c = s.c;
          r = s.r;
          seed = s.seed;
          key = s.key;
          width = width;
          mark = mark;
        }
