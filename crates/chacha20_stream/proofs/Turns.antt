-- The key stream, m blocks at a time, for any m: what the loops of `stream` and `xor` hold, and that a turn keeps it.
-- Assumes nothing.
use mathlib.Core.Path.{◌≡◌, refl, sym, ap, ap₂, ◌∙◌}
use Prim.Native.Nat.{ℕ, ◌+◌, ◌-◌, ◌*◌, ◌%◌, ◌/◌, ◌^◌, ◌<◌, ◌≤◌, min}
use native.Mathlib.Omega.{arith}
use mathlib.Core.List.{List, ◌++◌, append-nil}
use lib.Bits.{bit_xor}
use lib.ListN.{length, get_or, drop, drop_of_length-le}
use Rattle.base_algebra.specs.Word.{add}
use Rattle.base_words.specs.List.{tab, over, over_all, length_tab, get_or_tab, get_or_rest, tab_chunk}
use Rattle.base_words.specs.Bytes.{le32, bytes_of, get_or_bytes_of, length_bytes_of}
use Rattle.chacha20_block.specs.ChaCha20.{block}
use Rattle.chacha20_lanes.specs.Lanes.{rows, in_order, length_in_order}
use Rattle.chacha20_stream.specs.Keystream.{key_word, key_byte, stream, xored, blocks_from}
use Rattle.chacha20_stream.proofs.Blocks.{in_order_lem}

-- a later start is the same stream further on
word_shift : (key : List ℕ) (counter n : ℕ) (nonce : List ℕ) (at i : ℕ) → at % 16 ≡ 0 → n ≡ add counter (at / 16)
    → key_word key n nonce i ≡ key_word key counter nonce (at + i)
unfolding key_word add
word_shift key counter n nonce at i whole e =
    let same : (n + i / 16) % 2 ^ 32 ≡ (counter + (at + i) / 16) % 2 ^ 32 = omega arith in
    let place : i % 16 ≡ (at + i) % 16 = omega arith in
    ap₂ (λ (k p : ℕ). get_or (block key k nonce) p 0) same place

byte_shift : (key : List ℕ) (counter n : ℕ) (nonce : List ℕ) (at i : ℕ) → at % 64 ≡ 0 → n ≡ add counter (at / 64)
    → key_byte key n nonce i ≡ key_byte key counter nonce (at + i)
unfolding key_byte
byte_shift key counter n nonce at i whole e =
    let q : at / 4 / 16 ≡ at / 64 = omega arith in
    let word : at / 4 + i / 4 ≡ (at + i) / 4 = omega arith in
    let place : i % 4 ≡ (at + i) % 4 = omega arith in
    ap₂ (λ (w p : ℕ). get_or (le32 w) p 0)
    (word_shift key counter n nonce (at / 4) (i / 4) (omega arith) (e ∙ ap (add counter) (sym q))
    ∙ ap (key_word key counter nonce) word) place

byte_of : (m : ℕ) (key : List ℕ) (n : ℕ) (nonce : List ℕ) (i : ℕ) → i < 64 * m
    → get_or (bytes_of (tab (key_word key n nonce) (16 * m))) i 0 ≡ key_byte key n nonce i
unfolding key_byte
byte_of m key n nonce i h =
    let size : length (tab (key_word key n nonce) (16 * m)) ≡ 16 * m = length_tab (key_word key n nonce) (16 * m) in
    get_or_bytes_of (tab (key_word key n nonce) (16 * m)) i (omega arith)
    ∙ ap (λ (w : ℕ). get_or (le32 w) (i % 4) 0) (get_or_tab (key_word key n nonce) (16 * m) (i / 4) (omega arith))

-- ---- the stream as words

pub record Filled (key nonce out₀ out : List ℕ) (at n : ℕ) : Type 0 where
  pub within : at ≤ length out₀
  pub whole : at % 16 ≡ 0
  pub count : n ≡ add 0 (at / 16)
  pub written : out ≡ tab (key_word key 0 nonce) at ++ drop at out₀
  pub long : length out ≡ length out₀

pub filled_none : (key nonce out : List ℕ) → Filled key nonce out out 0 0
unfolding tab add
filled_none key nonce out = record { within = omega arith; whole = refl; count = refl; written = refl; long = refl }

pub filled_more : (m : ℕ) (key nonce out₀ out out' x : List ℕ) (at n n' : ℕ)
    → length key ≡ 8 → length nonce ≡ 3 → Filled key nonce out₀ out at n
    → at + 16 * m ≤ length out → rows m x ≡ blocks_from m key n nonce
    → out' ≡ over at (in_order m x) out → length out' ≡ length out → n' ≡ add n m
    → Filled key nonce out₀ out' (at + 16 * m) n'
unfolding add
filled_more m key nonce out₀ out out' x at n n' lk ln f room is written long next = record {
  within = omega (arith, f.long);
  whole = omega (arith, f.whole);
  count = omega (arith, f.whole, f.count);
  written = tab_chunk (key_word key 0 nonce) (key_word key n nonce) out₀ out out' at
      (16 * m) (omega (arith, f.long)) f.written
      (written ∙ ap (λ (p : List ℕ). over at p out) (in_order_lem m key n nonce x lk ln is))
      (λ i h. word_shift key 0 n nonce at i (omega (arith, f.whole)) f.count);
  long = long ∙ f.long;
}

pub filled_all : (key nonce out₀ out : List ℕ) (at n : ℕ) → Filled key nonce out₀ out at n → at ≡ length out
    → out ≡ stream key nonce (length out₀)
unfolding stream
filled_all key nonce out₀ out at n f done =
    let all : at ≡ length out₀ = done ∙ f.long in
    rw all at f.written
    ∙ rw (drop_of_length-le out₀ {i = length out₀} (omega arith))
    (append-nil (tab (key_word key 0 nonce) (length out₀)))

-- the blocks' words, written to a place of their own
pub words_of : (m : ℕ) (key nonce x k₀ k : List ℕ) (n : ℕ) → length key ≡ 8 → length nonce ≡ 3
    → rows m x ≡ blocks_from m key n nonce → length k₀ ≡ 16 * m → k ≡ over 0 (in_order m x) k₀
    → k ≡ tab (key_word key n nonce) (16 * m)
words_of m key nonce x k₀ k n lk ln is size stored =
    stored ∙ over_all (in_order m x) k₀ (length_in_order m x ∙ sym size) ∙ in_order_lem m key n nonce x lk ln is

pub filled_last : (m : ℕ) (key nonce out₀ out out' k : List ℕ) (at n : ℕ)
    → Filled key nonce out₀ out at n → length out ≤ at + 16 * m → k ≡ tab (key_word key n nonce) (16 * m)
    → out' ≡ over at (tab (λ i. get_or k i 0) (length out - at)) out → out' ≡ stream key nonce (length out₀)
unfolding stream
filled_last m key nonce out₀ out out' k at n f short part written =
    let rest : ℕ = length out - at in
    let all : at + rest ≡ length out₀ = omega (arith, f.long, f.within) in
    let here : (i : ℕ) → i < rest → get_or k i 0 ≡ key_word key 0 nonce (at + i) =
    λ i h.
    ap (λ (l : List ℕ). get_or l i 0) part
    ∙ get_or_tab (key_word key n nonce) (16 * m) i (omega (arith, f.long, f.within))
    ∙ word_shift key 0 n nonce at i (omega (arith, f.whole)) f.count in
    tab_chunk (key_word key 0 nonce) (λ i. get_or k i 0) out₀ out out' at rest
    (omega (arith, f.long, f.within)) f.written written here
    ∙ rw (all, drop_of_length-le out₀ {i = length out₀} (omega arith))
    (append-nil (tab (key_word key 0 nonce) (length out₀)))

-- ---- bytes xored with the stream

abbrev rule : List ℕ → ℕ → List ℕ → List ℕ → ℕ → ℕ
rule key counter nonce d j = bit_xor (get_or d j 0) (key_byte key counter nonce j)

pub record Xored (key : List ℕ) (counter : ℕ) (nonce d₀ d : List ℕ) (at n : ℕ) : Type 0 where
  pub whole : at % 64 ≡ 0
  pub count : n ≡ add counter (at / 64)
  pub written : d ≡ tab (rule key counter nonce d₀) (min at (length d₀)) ++ drop (min at (length d₀)) d₀
  pub long : length d ≡ length d₀

pub xored_none : (key : List ℕ) (counter : ℕ) (nonce d : List ℕ) → counter < 2 ^ 32
    → Xored key counter nonce d d 0 counter
unfolding tab add
xored_none key counter nonce d h =
    let none : min 0 (length d) ≡ 0 = omega arith in
    record { whole = refl; count = omega arith; written = rw none refl; long = refl }

pub bytes_of_lem : (m : ℕ) (key nonce x b : List ℕ) (n : ℕ) → length key ≡ 8 → length nonce ≡ 3
    → rows m x ≡ blocks_from m key n nonce → b ≡ bytes_of (in_order m x)
    → b ≡ bytes_of (tab (key_word key n nonce) (16 * m))
bytes_of_lem m key nonce x b n lk ln is stored = stored ∙ ap bytes_of (in_order_lem m key n nonce x lk ln is)

pub xored_more : (m : ℕ) (key : List ℕ) (counter : ℕ) (nonce d₀ d d' b : List ℕ) (at n n' : ℕ)
    → Xored key counter nonce d₀ d at n → at < length d → b ≡ bytes_of (tab (key_word key n nonce) (16 * m))
    → d' ≡ over at (tab (λ i. bit_xor (get_or d (at + i) 0) (get_or b i 0)) (min (length b) (length d - at))) d
    → length d' ≡ length d → n' ≡ add n m
    → Xored key counter nonce d₀ d' (at + 64 * m) n'
unfolding add
xored_more m key counter nonce d₀ d d' b at n n' f more part written long next =
    let k : ℕ = min (length b) (length d - at) in
    let size : length b ≡ 64 * m = ap length part ∙ length_bytes_of (tab (key_word key n nonce) (16 * m))
    ∙ omega (arith, length_tab (key_word key n nonce) (16 * m)) in
    let now : min at (length d₀) ≡ at = omega (arith, f.long) in
    let then : at + k ≡ min (at + 64 * m) (length d₀) = omega (arith, f.long) in
    let so_far : d ≡ tab (rule key counter nonce d₀) at ++ drop at d₀ = rw now at f.written in
    let byte : (i : ℕ) → i < k → get_or b i 0 ≡ key_byte key counter nonce (at + i) =
    λ i h. ap (λ (l : List ℕ). get_or l i 0) part ∙ byte_of m key n nonce i (omega arith)
    ∙ byte_shift key counter n nonce at i f.whole f.count in
    let here : (i : ℕ) → i < k → bit_xor (get_or d (at + i) 0) (get_or b i 0) ≡ rule key counter nonce d₀ (at + i) =
    λ i h. ap₂ bit_xor (ap (λ (l : List ℕ). get_or l (at + i) 0) so_far
    ∙ get_or_rest (rule key counter nonce d₀) d₀ at (at + i) (omega arith)) (byte i h) in
    record {
      whole = omega (arith, f.whole);
      count = omega (arith, f.whole, f.count);
      written = rw then at (tab_chunk (rule key counter nonce d₀)
          (λ i. bit_xor (get_or d (at + i) 0) (get_or b i 0)) d₀ d d' at k (omega (arith, f.long)) so_far written here);
      long = long ∙ f.long;
    }

pub xored_all : (key : List ℕ) (counter : ℕ) (nonce d₀ d : List ℕ) (at n : ℕ)
    → Xored key counter nonce d₀ d at n → length d ≤ at → d ≡ xored key counter nonce d₀
unfolding xored
xored_all key counter nonce d₀ d at n f done =
    let all : min at (length d₀) ≡ length d₀ = omega (arith, f.long) in
    rw all at f.written
    ∙ rw (drop_of_length-le d₀ {i = length d₀} (omega arith)) (append-nil (tab (rule key counter nonce d₀) (length d₀)))

-- a rest that m blocks suffice for: k are their words, and b these words' bytes
pub xored_last : (m : ℕ) (key : List ℕ) (counter : ℕ) (nonce d₀ d d' k b₀ b : List ℕ) (at n : ℕ)
    → Xored key counter nonce d₀ d at n → at < length d → length d ≤ at + 64 * m
    → k ≡ tab (key_word key n nonce) (16 * m) → length b₀ ≡ 64 * m → b ≡ over 0 (bytes_of k) b₀
    → d' ≡ over at (tab (λ i. bit_xor (get_or d (at + i) 0) (get_or b i 0)) (min (length b) (length d - at))) d
    → length d' ≡ length d → d' ≡ xored key counter nonce d₀
xored_last m key counter nonce d₀ d d' k b₀ b at n f more short words size stored written long =
    let bytes : length (bytes_of k) ≡ length b₀ =
    length_bytes_of k ∙ omega (arith, size, ap length words ∙ length_tab (key_word key n nonce) (16 * m)) in
    let part : b ≡ bytes_of (tab (key_word key n nonce) (16 * m)) =
    stored ∙ over_all (bytes_of k) b₀ bytes ∙ ap bytes_of words in
    xored_all key counter nonce d₀ d' (at + 64 * m) (add n m)
    (xored_more m key counter nonce d₀ d d' b at n (add n m) f more part written long refl) (omega (arith, long))
