-- The keys for sixteen nonces, from those for twice eight. Assumes nothing.
use mathlib.Core.Path.{◌≡◌, refl, ap, ap₂, ◌∙◌}
use Prim.Native.Nat.{ℕ, ◌+◌, ◌*◌, ◌-◌, ◌<◌, ◌≤◌}
use native.Mathlib.Omega.{arith}
use mathlib.Core.List.{List, [], ◌++◌}
use mathlib.Core.Bool.{Bool, true, false}
use borrow.Author.Tests.{ltb-true, ltb-false}
use lib.Dec.{ltb}
use lib.ListN.{length, take, drop, length-drop}
use lib.Seq.{length-take-le, drop-append-add}
use Rattle.base_algebra.specs.Word.{add}
use Rattle.base_words.specs.List.{over, over_after, length_tab}
use Rattle.base_words.specs.Bytes.{bytes_of, length_bytes_of, word_at, words_at}
use Rattle.chacha20_block.specs.ChaCha20.{block, block_bytes, length_block}
use Rattle.chacha20_lanes.specs.Lanes.{flat_at, length_flat}
use Rattle.aead_seal.specs.Aead.{poly_key}
use Rattle.aead_one_time.specs.OneTime.{nonce_of, keys, KeysTo}

length_poly_key : (key nonce : List ℕ) → length (poly_key key nonce) ≡ 32
unfolding poly_key block_bytes words_at
length_poly_key key nonce =
    let w : List ℕ = block (words_at 8 key) 0 (words_at 3 nonce) in
    let long : length w ≡ 16 = length_block (words_at 8 key) 0 (words_at 3 nonce)
    (length_tab (λ i. word_at key (4 * i)) 8) (length_tab (λ i. word_at nonce (4 * i)) 3) in
    length-take-le 32 (bytes_of w) (omega (arith, length_bytes_of w, long))

length_keys : (m : ℕ) (key : List ℕ) (a b first : ℕ) → length (keys m key a b first) ≡ 32 * m
unfolding keys
length_keys m key a b first =
    length_flat (λ l. poly_key key (nonce_of a b (add first l))) 32 m
    (λ l _. length_poly_key key (nonce_of a b (add first l)))

key_in : (m : ℕ) (key rest : List ℕ) (a b first l : ℕ) → l < m
    → take 32 (drop (32 * l) (keys m key a b first ++ rest)) ≡ poly_key key (nonce_of a b (add first l))
unfolding keys
key_in m key rest a b first l h =
    flat_at (λ l. poly_key key (nonce_of a b (add first l))) rest 32 m l h
    (λ l _. length_poly_key key (nonce_of a b (add first l)))

module _ (key first out0 out1 : List ℕ) (a b count : ℕ) (size : length out0 ≡ 512)
    (e : first ≡ keys 8 key a b 0) (f : out1 ≡ over 0 first out0) where
  long : length first ≡ 256
  long = ap length e ∙ length_keys 8 key a b 0

  begins : out1 ≡ keys 8 key a b 0 ++ drop 256 out0
  begins =
      f ∙ over_after [] first out0 0 refl (omega (arith, long)) ∙ ap₂ (λ (p : List ℕ) (k : ℕ). p ++ drop k out0) e long

  pub first_eight : count ≤ 8 → KeysTo key a b count out1
  unfolding add
  first_eight few i h =
      ap (λ (l : List ℕ). take 32 (drop (32 * i) l)) begins
      ∙ key_in 8 key (drop 256 out0) a b 0 i (omega arith)
      ∙ ap (λ (k : ℕ). poly_key key (nonce_of a b k)) (omega arith)

  module _ (second out2 : List ℕ) (g : second ≡ keys 8 key a b 8) (h2 : out2 ≡ over 256 second out1) where
    more : length second ≡ 256
    more = ap length g ∙ length_keys 8 key a b 8

    all_sixteen : out2 ≡ keys 8 key a b 0 ++ (keys 8 key a b 8 ++ drop 256 (drop 256 out0))
    all_sixteen =
        h2 ∙ ap₂ (over 256) g begins
        ∙ over_after (keys 8 key a b 0) (keys 8 key a b 8) (drop 256 out0) 256
        (length_keys 8 key a b 0) (omega (arith, length-drop 256 out0, length_keys 8 key a b 8))
        ∙ ap (λ (k : ℕ). keys 8 key a b 0 ++ (keys 8 key a b 8 ++ drop k (drop 256 out0))) (length_keys 8 key a b 8)

    pub sixteen : count ≤ 16 → KeysTo key a b count out2
    unfolding add
    sixteen most i h = ap (λ (l : List ℕ). take 32 (drop (32 * i) l)) all_sixteen ∙ go (ltb i 8) refl
      where
        rest : List ℕ
        rest = drop 256 (drop 256 out0)

        go : (early : Bool) → ltb i 8 ≡ early
            → take 32 (drop (32 * i) (keys 8 key a b 0 ++ (keys 8 key a b 8 ++ rest))) ≡ poly_key key (nonce_of a b i)
        go true e =
            let few : i < 8 = ltb-true i 8 e in
            key_in 8 key (keys 8 key a b 8 ++ rest) a b 0 i few
            ∙ ap (λ (k : ℕ). poly_key key (nonce_of a b k)) (omega arith)
        go false e =
            let late : 8 ≤ i = ltb-false i 8 e in
            let past : 32 * i ≡ length (keys 8 key a b 0) + 32 * (i - 8) = omega (arith, length_keys 8 key a b 0) in
            ap (λ (k : ℕ). take 32 (drop k (keys 8 key a b 0 ++ (keys 8 key a b 8 ++ rest)))) past
            ∙ ap (take 32) (drop-append-add (keys 8 key a b 0) (keys 8 key a b 8 ++ rest) (32 * (i - 8)))
            ∙ key_in 8 key rest a b 8 (i - 8) (omega arith)
            ∙ ap (λ (k : ℕ). poly_key key (nonce_of a b k)) (omega arith)
