-- What stands in a list, and at most once. Assumes nothing.
use mathlib.Core.Path.{◌≡◌, refl, sym, ap, ◌∙◌}
use mathlib.Core.Bool.{Bool, true, false, cond}
use mathlib.Core.List.{List, [], ◌∷◌, ◌++◌}
use Prim.Native.Nat.{◌≤◌}
use native.Mathlib.Omega.{arith}
use lib.Dec.{T}
use lib.ListN.{length}
use Rattle.door_lists.specs.Lists.{In, here, there}
use Rattle.door_lists.specs.Demand.{collect}

abbrev pub All : {A : Type 0} → (A → Type 0) → List A → Type 0
All P [] = Unit {0}
All P (x ∷ l) = P x × All P l

pub unique : {A : Type 0} {a b : A} (l : List A) → length l ≤ 1 → In a l → In b l → a ≡ b
unique [] few i j = elim i [ ]
unique (x ∷ []) few (here p) (here q) = p ∙ sym q
unique (x ∷ []) few (here p) (there j) = elim j [ ]
unique (x ∷ []) few (there i) j = elim i [ ]
unique (x ∷ y ∷ l) few i j = absurd (omega arith)

pub single : {A : Type 0} {a : A} (l : List A) → length l ≤ 1 → In a l → l ≡ a ∷ []
single [] few i = elim i [ ]
single (x ∷ []) few (here p) = ap (λ z. z ∷ []) (sym p)
single (x ∷ []) few (there i) = elim i [ ]
single (x ∷ y ∷ l) few i = absurd (omega arith)

pub in_left : {A : Type 0} {a : A} (l m : List A) → In a l → In a (l ++ m)
in_left [] m i = elim i [ ]
in_left (x ∷ l) m (here p) = here p
in_left (x ∷ l) m (there i) = there (in_left l m i)

in_right : {A : Type 0} {a : A} (l m : List A) → In a m → In a (l ++ m)
in_right [] m i = i
in_right (x ∷ l) m i = there (in_right l m i)

pub in_collect : {A B : Type 0} {b : B} (f : A → List B) (a : A) (l : List A) → In b (f a) → In a l
    → In b (collect f l)
in_collect f a [] i j = elim j [ ]
in_collect f a (x ∷ l) i (here p) = in_left (f x) (collect f l) (rw p at i)
in_collect f a (x ∷ l) i (there j) = in_right (f x) (collect f l) (in_collect f a l i j)

pub in_cond : {A : Type 0} {a : A} (b : Bool) (l : List A) → T b → In a l → In a (cond b l [])
in_cond true l t i = i
in_cond false l t i = elim t [ ]

-- at most one, and none while M says that one may still come
pub record Once {A : Type 0} (l : List A) (M : Type 0) : Type 0 where
  pub few : length l ≤ 1
  pub free : M → l ≡ []

pub once_none : {A : Type 0} {M : Type 0} → Once {A = A} [] M
once_none = record { few = omega arith; free = λ n. refl }

pub once_map : {A : Type 0} {l : List A} {M N : Type 0} → Once l M → (N → M) → Once l N
once_map o k = record { few = o.few; free = λ n. o.free (k n) }

-- one more where b holds: it was free, and is not from then on
pub once_cond : {A : Type 0} (x : A) (l : List A) {M N : Type 0} (b : Bool) → Once l M
    → (T b → M) → (T b → N → ⊥) → (N → M) → Once (cond b (x ∷ []) [] ++ l) N
once_cond x l true o f g k = record { few = rw (o.free (f tt)) (omega arith); free = λ n. absurd (g tt n) }
once_cond x l false o f g k = record { few = o.few; free = λ n. o.free (k n) }

pub once_skip : {A : Type 0} (l : List A) {M N : Type 0} (b : Bool) → Once l M → (N → M) → Once (cond b [] [] ++ l) N
once_skip l true o k = once_map o k
once_skip l false o k = once_map o k
