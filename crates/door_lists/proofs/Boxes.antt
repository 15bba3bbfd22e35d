-- The two boxes: which is which, their parties, and a value put in for one of them. Assumes nothing.
use mathlib.Core.Path.{◌≡◌, refl}
use mathlib.Core.Bool.{true, false}
use Prim.Native.Nat.{◌-◌, ◌≤◌}
use native.Mathlib.Omega.{arith}
use Rattle.door_lists.specs.Lists.{Box, camera, office, party_of, other, same_box, put}

pub apart : (b : Box) → same_box b (other b) ≡ false
apart camera = refl
apart office = refl

pub own_box : (b : Box) → same_box b b ≡ true
own_box camera = refl
own_box office = refl

pub both : (P : Box → Type 0) → P camera → P office → (b : Box) → P b
both P p q camera = p
both P p q office = q

pub each : (P : Box → Type 0) (b : Box) → P b → P (other b) → (c : Box) → P c
each P camera p q = both P p q
each P office p q = both P q p

-- ---- parties

pub party_fits : (b : Box) → party_of b ≤ 1
party_fits camera = omega arith
party_fits office = omega arith

pub other_party : (b : Box) → 1 - party_of b ≡ party_of (other b)
other_party camera = refl
other_party office = refl

pub party_of_lem : (b c : Box) → party_of b ≡ party_of c → b ≡ c
party_of_lem camera camera e = refl
party_of_lem camera office e = absurd (omega arith)
party_of_lem office camera e = absurd (omega arith)
party_of_lem office office e = refl

-- ---- a value for each box

pub put_own : {A : Type 0} (f : Box → A) (b : Box) (a : A) → put f b a b ≡ a
put_own f camera a = refl
put_own f office a = refl

pub put_same : {A : Type 0} (f : Box → A) (b c : Box) → put f b (f b) c ≡ f c
put_same f camera camera = refl
put_same f camera office = refl
put_same f office camera = refl
put_same f office office = refl

pub put_all : {A : Type 0} (P : Box → A → Type 0) (f : Box → A) (b : Box) (a : A)
    → P b a → P (other b) (f (other b)) → (c : Box) → P c (put f b a c)
put_all P f camera a p q camera = p
put_all P f camera a p q office = q
put_all P f office a p q camera = q
put_all P f office a p q office = p
