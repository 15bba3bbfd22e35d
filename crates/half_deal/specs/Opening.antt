-- A dealt set with another key in it, as another opening of a node would make it (02, §3). What holds of it is in
-- `proofs/Opening.antt`. Assumes nothing. [SPEC 5.15]
use Rattle.std.specs.Prelude.{List, ℕ}
use Rattle.dcf_node.specs.declared.Key.{Key}
use Rattle.measure_table.specs.Measure.{width_of, mark_of}
use Rattle.half_content.specs.declared.Set.{Set}
use Rattle.half_content.specs.Content.{fill}
use Rattle.half_deal.specs.Dealing.{set_words, x, y, key_seed, own_mask, c_of, Deal, r_of}

module _ (d : Deal) (party : ℕ) where
  abbrev n : ℕ
  n = d.terms.n

  abbrev w : List ℕ
  w = set_words d.seed n

  -- a party's set of this deal, with this key: all else is made of the words that were drawn, and no node is opened
  -- for it
  abbrev pub set_over : Key → Set
  set_over key =
      record {
        number = d.number;
        terms = d.terms;
        mask = fill (own_mask n w party);
        x = fill (x n w party);
        y = fill (y n w party);
        c = c_of n w party;
        r = r_of d w party;
        seed = key_seed n w party;
        key = key;
        width = width_of d.rule;
        mark = mark_of d.rule;
      }
