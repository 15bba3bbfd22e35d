-- Poly1305, as RFC 8439, 2.5 and 2.5.1 define it. A byte is a number below 256; a key and a message are lists of bytes.
-- Assumes nothing.
use Rattle.std.specs.Prelude.{List, [], ◌∷◌, ◌++◌, ℕ, zero, suc, ◌+◌, ◌*◌, ◌-◌, ◌/◌, ◌%◌, ◌^◌, length, get_or, take}
use Rattle.std.specs.Prelude.{drop, replicate}
use Rattle.base_words.specs.Numbers.{bytes, number}
use Rattle.poly1305_limbs.specs.Limbs.{prime}

-- "r[3], r[7], r[11], and r[15] are required to have their top four bits clear (be smaller than 16)";
-- "r[4], r[8], and r[12] are required to have their bottom two bits clear (be divisible by 4)"
unfoldable pub clamp : List ℕ → List ℕ
clamp r =
    r ! 0 ∷ r ! 1 ∷ r ! 2 ∷ r ! 3 % 16
    ∷ r ! 4 / 4 * 4 ∷ r ! 5 ∷ r ! 6 ∷ r ! 7 % 16
    ∷ r ! 8 / 4 * 4 ∷ r ! 9 ∷ r ! 10 ∷ r ! 11 % 16
    ∷ r ! 12 / 4 * 4 ∷ r ! 13 ∷ r ! 14 ∷ r ! 15 % 16 ∷ []
  where
    infixl 90 ◌!◌
    ◌!◌ : List ℕ → ℕ → ℕ
    s ! i = get_or s i 0

-- "divide the message into 16-byte blocks; the last one might be shorter": block i; the first n blocks; all of them
unfoldable pub piece : List ℕ → ℕ → List ℕ
piece m i = take 16 (drop (16 * i) m)

unfoldable pub first_pieces : List ℕ → ℕ → List (List ℕ)
first_pieces m zero = []
first_pieces m (suc n) = first_pieces m n ++ (piece m n ∷ [])

unfoldable pub pieces : List ℕ → List (List ℕ)
pieces m = first_pieces m ((length m + 15) / 16)

-- "Read the block as a little-endian number. Add one bit beyond the number of octets." Then "Acc = ((Acc+block)*r) % p"
unfoldable pub absorb : ℕ → ℕ → List ℕ → ℕ
absorb r a block = (a + number (block ++ (1 ∷ []))) * r % prime

unfoldable pub absorb_all : ℕ → ℕ → List (List ℕ) → ℕ
absorb_all r a [] = a
absorb_all r a (block ∷ s) = absorb_all r (absorb r a block) s

-- "the value of the secret key "s" is added to the accumulator, and the 128 least significant bits are serialized in
-- little-endian order to form the tag"
unfoldable pub tag_of : ℕ → ℕ → List ℕ
tag_of a s = bytes 16 ((a + s) % 2 ^ 128)

-- the key "is partitioned into two parts, called "r" and "s""
unfoldable pub r_of : List ℕ → ℕ
r_of key = number (clamp (take 16 key))

unfoldable pub s_of : List ℕ → ℕ
s_of key = number (drop 16 key)

-- poly1305_mac: "Set a variable "accumulator" to zero", then the above
unfoldable pub mac : List ℕ → List ℕ → List ℕ
mac key m = tag_of (absorb_all (r_of key) 0 (pieces m)) (s_of key)

-- 2.8.1, pad16: the zeros that fill m up to a multiple of 16 bytes; none where it is one
unfoldable pub pad16 : List ℕ → List ℕ
pad16 m = replicate ((16 - length m % 16) % 16) 0
