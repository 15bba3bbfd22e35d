-- A dealt set with another key in it, as another opening of a node would make it (02, §3). Of its content nothing but
-- the 32 corrections and the final word differs, and 11 lets it through. (A half that was dealt before 02, §3, has no
-- width and no mark either, and 11 refuses it: half_content Older.) Assumes nothing. [SPEC 5.15]
use Rattle.std.specs.Prelude.{◌≡◌, true, List, map, ℕ, ◌^◌, ◌<◌, length, set}
use Rattle.std.proofs.Math.Path.{refl}
use Rattle.base_words.specs.Bytes.{le32}
use Rattle.base_words.specs.List.{flat}
use Rattle.dcf_node.specs.declared.Key.{Key}
use Rattle.dcf_node.specs.Node.{key_for}
use Rattle.half_content.specs.declared.Set.{Set}
use Rattle.half_content.specs.Content.{corrections_field, last_field, correction_bytes, fields, plain, block_count}
use Rattle.half_content.specs.Content.{content_fits, Corrections, Proper}
use Rattle.half_content.specs.Laws.{fits_plain}
use Rattle.half_deal.specs.Dealing.{set_words, r, key_seed, Deal, set_from, dealt_set}
use Rattle.half_deal.specs.Opening as O

module _ (d : Deal) (party : ℕ) where
  abbrev n : ℕ
  n = d.terms.n

  abbrev w : List ℕ
  w = set_words d.seed n

  -- the set with this key
  abbrev set_over : Key → Set
  set_over = O.set_over d party

  pub dealt_over : dealt_set d party ≡ set_over (key_for (key_seed n w 0) (key_seed n w 1) (r n w))
  unfolding dealt_set set_from
  dealt_over = refl

  -- with any other key its content is field by field what was dealt, but for two fields
  pub key_moved : (key : Key) (name : List ℕ)
      → (let dealt : List (List ℕ) = fields name party (dealt_set d party) in
      fields name party (set_over key)
      ≡ set (set dealt corrections_field (flat (map correction_bytes key.corrections))) last_field (le32 key.last))
  unfolding dealt_set set_from fields
  key_moved key name = refl

  -- and where the key's words fit it is a proper set too, and its content fits
  module _ (dealt : Proper (dealt_set d party)) (key : Key) (levels : length key.corrections ≡ 32)
      (corrections_fit : Corrections key.corrections) (last_fits : key.last < 2 ^ 32) where
    pub over_proper : Proper (set_over key)
    unfolding dealt_set set_from
    over_proper =
        record {
          number_fits = dealt.number_fits;
          code_fits = dealt.code_fits;
          length_fits_lem = dealt.length_fits_lem;
          masked = dealt.masked;
          x_filled = dealt.x_filled;
          y_filled = dealt.y_filled;
          c_fits = dealt.c_fits;
          r_fits = dealt.r_fits;
          seed_fits = dealt.seed_fits;
          levels = levels;
          corrections_fit = corrections_fit;
          last_fits = last_fits;
          width_fits_lem = dealt.width_fits_lem;
        }

    pub over_fits : (name : List ℕ) → length name ≡ 16
        → content_fits name party (block_count n) (plain name party (set_over key)) ≡ true
    over_fits name named = fits_plain name party (set_over key) named over_proper
