-- Digits in base m: what the lowest digit a keeps, and what it hands on to b, which stands above it. Assumes nothing.
use mathlib.Core.Path.{◌≡◌, sym, ap, ap₂, ◌∙◌}
use Prim.Native.Nat.{ℕ, ◌+◌, ◌*◌, ◌/◌, ◌%◌, ◌<◌}
use native.Mathlib.Nat.{add-mul-div_right, add-mul-mod_self_right, div-div-eq-div-mul}
use lib.Arith.{mod-mul}

module _ (m n : ℕ) (hm : 0 < m) (hn : 0 < n) (a b : ℕ) {c : ℕ} (e : a / m + b ≡ c) where
  pub keeps : (a + b * m) % (n * m) ≡ c % n * m + a % m
  keeps =
      mod-mul (a + b * m) hn hm
      ∙ ap₂ (λ (x y : ℕ). x % n * m + y) (add-mul-div_right a b hm ∙ e) (add-mul-mod_self_right a b m)

  pub hands : (a + b * m) / (m * n) ≡ c / n
  hands = sym (div-div-eq-div-mul (a + b * m) m n) ∙ ap (λ (x : ℕ). x / n) (add-mul-div_right a b hm ∙ e)
