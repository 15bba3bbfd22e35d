-- The comparison function of Boyle and others, "Function Secret Sharing for Mixed-Mode and Fixed-Point Secure
-- Computation" (2021), as 01, "Dealing a set", has it: the key for a point, and the value of a key at u. Over any seeds
-- and any opening of a node, which may depend on the level, counted from 0. A bit, a flag and a side are Booleans: true
-- is 1, set, right. Assumes nothing. [SPEC 7.1, 7.14, 8.1, 8.7]
use Rattle.std.specs.Prelude.{Bool, true, false, not, ◌&&◌, ℕ, zero, suc, ◌-◌, ◌/◌, ◌^◌}
use Rattle.std.specs.Bool.{xor}
use Rattle.base_algebra.specs.Word.{add, sub, neg}
use Rattle.base_algebra.specs.Bit.{only, odd}

-- a child of a node: its seed, its word v, and its flag
pub record Child (Seed : Type 0) : Type 0 where
  pub seed : Seed
  pub word : ℕ
  pub flag : Bool

-- a level's correction word: of the seed, of the word (W), and of the left and right flags
pub record Correction (Seed : Type 0) : Type 0 where
  pub seed : Seed
  pub word : ℕ
  pub left : Bool
  pub right : Bool

-- key making before a level: both parties' seeds and flags, and V
pub record Making (Seed : Type 0) : Type 0 where
  pub s0 : Seed
  pub s1 : Seed
  pub t0 : Bool
  pub t1 : Bool
  pub v : ℕ

-- a party's walk before a level: its seed and flag, and the total so far
pub record Walk (Seed : Type 0) : Type 0 where
  pub seed : Seed
  pub flag : Bool
  pub total : ℕ

-- "Sign is -1 if party 1's flag before the level is 1, else +1": Sign × x [SPEC 7.5]
unfoldable pub by_sign : Bool → ℕ → ℕ
by_sign true x = neg x
by_sign false x = x

-- the bit of a level of a number of n bits, "taken from the highest" [SPEC 7.1, 8.2]
unfoldable pub bits : ℕ → ℕ → ℕ → Bool
bits n u i = odd (u / 2 ^ (n - suc i))

-- the flag correction of a side
unfoldable pub side_flag : {Seed : Type 0} → Correction Seed → Bool → Bool
side_flag c true = c.right
side_flag c false = c.left

-- both children of a node, by side
abbrev pub Opened : Type 0 → Type 0
Opened Seed = Bool → Child Seed

-- "Each party goes on with its Keep seed and flag, each xored with its correction if its old flag was 1": from flag t
-- to side d, whose child is k [SPEC 7.11, 7.12, 8.4, 8.5]
unfoldable pub next_flag : {Seed : Type 0} → Correction Seed → Bool → Bool → Child Seed → Bool
next_flag c t d k = xor k.flag (t && side_flag c d)

module _ {Seed : Type 0} (◌⊕◌ : Seed → Seed → Seed) where
  unfoldable pub corrected : Bool → Seed → Seed → Seed
  corrected true s c = ◌⊕◌ s c
  corrected false s c = s

  unfoldable pub next_seed : Correction Seed → Bool → Child Seed → Seed
  next_seed c t k = corrected t k.seed c.seed

  -- the correction of a level whose bit of the point is b, where the parties' seeds open into n0 and n1: Keep is b,
  -- Lose is the other
  unfoldable pub correction : Bool → Making Seed → Opened Seed → Opened Seed → Correction Seed
  correction b g n0 n1 = record {
    seed = ◌⊕◌ (n0 (not b)).seed (n1 (not b)).seed;
    word = add (by_sign g.t1 (sub (sub (n1 (not b)).word (n0 (not b)).word) g.v))
        (only b (by_sign g.t1 1));
    left = xor (xor (xor (n0 false).flag (n1 false).flag) b) true;
    right = xor (xor (n0 true).flag (n1 true).flag) b;
  }

  -- key making after that level, by its correction c: "V becomes V - v1 Keep + v0 Keep + Sign × W" [SPEC 7.8]
  unfoldable pub kept : Correction Seed → Bool → Making Seed → Opened Seed → Opened Seed → Making Seed
  kept c b g n0 n1 = record {
    s0 = next_seed c g.t0 (n0 b);
    s1 = next_seed c g.t1 (n1 b);
    t0 = next_flag c g.t0 b (n0 b);
    t1 = next_flag c g.t1 b (n1 b);
    v = add (add (sub g.v (n1 b).word) (n0 b).word) (by_sign g.t1 c.word);
  }

  -- "At each level add v of the side taken, plus W if the old
  -- flag was 1": a level of a walk to side d, whose child is k [SPEC 8.3]
  unfoldable pub taken : Correction Seed → Bool → Child Seed → Walk Seed → Walk Seed
  taken c d k w = record {
    seed = next_seed c w.flag k;
    flag = next_flag c w.flag d k;
    total = add (add w.total k.word) (only w.flag c.word);
  }

  module _ (node : ℕ → Seed → Opened Seed) (first : Seed → ℕ) where
    -- "At each of 32 levels both parties' seeds are opened" [SPEC 7.3]
    unfoldable pub level_correction : ℕ → Bool → Making Seed → Correction Seed
    level_correction i b g = correction b g (node i g.s0) (node i g.s1)

    unfoldable pub next_making : ℕ → Bool → Making Seed → Making Seed
    next_making i b g = kept (level_correction i b g) b g (node i g.s0) (node i g.s1)

    -- "Start with the two key seeds, flags 0 and 1, and V = 0":
    -- after i levels, for the point whose bits are r 0, r 1, .. [SPEC 7.2]
    unfoldable pub making : Seed → Seed → (ℕ → Bool) → ℕ → Making Seed
    making a b r zero = record { s0 = a; s1 = b; t0 = false; t1 = true; v = 0 }
    making a b r (suc i) = next_making i (r i) (making a b r i)

    -- the key: the correction of each level, and the final word after n levels
    unfoldable pub key_correction : Seed → Seed → (ℕ → Bool) → ℕ → Correction Seed
    key_correction a b r i = level_correction i (r i) (making a b r i)

    -- "Final word = Sign × (s1 - s0 - V), with Sign from party 1's last flag and s the first word of each last seed"
    -- [SPEC 7.13]
    unfoldable pub last_word : Making Seed → ℕ
    last_word g = by_sign g.t1 (sub (sub (first g.s1) (first g.s0)) g.v)

    unfoldable pub final_word : Seed → Seed → (ℕ → Bool) → ℕ → ℕ
    final_word a b r n = last_word (making a b r n)

    -- "Walk u's bits from the highest, opening and correcting as above": level i, to side d under the correction c
    -- [SPEC 8.2]
    unfoldable pub next_walk : ℕ → Correction Seed → Bool → Walk Seed → Walk Seed
    next_walk i c d w = taken c d (node i w.seed d) w

    unfoldable pub walk : (ℕ → Correction Seed) → (ℕ → Bool) → Seed → Bool → ℕ → Walk Seed
    walk c u s t zero = record { seed = s; flag = t; total = 0 }
    walk c u s t (suc i) = next_walk i (c i) (u i) (walk c u s t i)

    -- "At the end add the first word of the seed, plus the final word if the flag is 1" [SPEC 8.6]
    unfoldable pub total : ℕ → Walk Seed → ℕ
    total f w = add (add w.total (first w.seed)) (only w.flag f)

    -- "Party 1 negates the total". Party p starts with flag p: the party's value at u, n levels deep [SPEC 8.1, 8.7]
    unfoldable pub value : Bool → (ℕ → Correction Seed) → ℕ → Seed → (ℕ → Bool) → ℕ → ℕ
    value p c f s u n = by_sign p (total f (walk c u s p n))
