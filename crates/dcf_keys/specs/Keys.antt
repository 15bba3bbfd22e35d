-- What the values of key making's code stand for. Assumes nothing.
use Rattle.std.specs.Prelude.{List, [], ◌∷◌, ℕ, ◌+◌, ◌*◌, get_or}
use Rattle.base_algebra.specs.Bit.{only, odd}
use Rattle.dcf_function.specs.Dcf as D
use Rattle.dcf_node.specs.Node.{child, opened_block}
use Rattle.dcf_keys.specs.declared.Child.{Child}
use Rattle.dcf_keys.specs.declared.Making.{Making}

-- only the lowest bit of a flag counts
unfoldable pub as_child : Child → D.Child (List ℕ)
as_child c = record { seed = c.seed; word = c.word; flag = odd c.flag }

unfoldable pub as_making : Making → D.Making (List ℕ)
as_making g = record { s0 = g.s0; s1 = g.s1; t0 = odd g.t0; t1 = odd g.t1; v = g.v }

-- the blocks of a level that both parties' seeds open into: left and right of s0, left and right of s1
unfoldable pub both_opened : ℕ → List ℕ → List ℕ → List (List ℕ)
both_opened level s0 s1 =
    opened_block level s0 0 ∷ opened_block level s0 1 ∷ opened_block level s1 0 ∷ opened_block level s1 1 ∷ []

-- a party's children among four blocks
unfoldable pub opened_at : List (List ℕ) → ℕ → D.Opened (List ℕ)
opened_at blocks party side = child (get_or blocks (2 * party + only side 1) [])
