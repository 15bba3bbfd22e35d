-- What is told of a table is what 02, §5 asks for (the words are those of `specs/Claims.antt`): a number and its place
-- are true of the table and no others are, a good table is taken, and its row that holds a minute is told. Assumes
-- nothing. [SPEC 23.14 to 23.16, 33.1 to 33.4]
use Rattle.std.specs.Prelude.{◌≡◌, Bool, List, ℕ, zero, suc, ◌≤◌, ◌<◌, eqb, ltb, get_or}
use Rattle.std.proofs.Math.Path.{refl, sym, ap}
use Rattle.std.proofs.Common.{subst, ◌∙◌, arith}
use Rattle.std.proofs.Math.Bool.{true, false, not}
use borrow.Author.Tests.{le-leb, ltb-true, ltb-false, lt-ltb, le-ltb, eqb-true, eqb-false, eq-eqb}
use Rattle.std.proofs.lemmas.Bool.{not-true, not-false}
use Rattle.std.proofs.Math.Dec.{leb}
use Rattle.std.proofs.Math.ListN.{length}
use Rattle.base_algebra.specs.Bit.{neither}
use Rattle.base_messages.specs.Messages.{bad_rows, no_row, more_rows}
use Rattle.call_day.specs.Search.{least, Single, least_least, found, not_found, count_none, count_single}
use Rattle.call_day.specs.Search.{count_two, none_count, single_count, two_count}
use Rattle.call_day.specs.Table.{Table, day, no_threshold, holds, bad_row, rows_with, bad_minute}
use Rattle.call_day.specs.Table.{first_bad_row, first_bad_minute, row_at, shaped, fault, why_not_table, choose}
use Rattle.call_day.specs.Laws as laws
use Rattle.call_day.specs.Table.{Fault}
use Rattle.call_day.specs.Claims.{Shaped, GoodRow, InRow, OneRow, TwoRows, GoodRows, OneRowBelow, Good, Says, both_back}
use Rattle.call_day.specs.Claims.{good, lists, row, none, more}
use Rattle.call_day.specs.Claims.{shaped_of, good_row, in_row, of_in, all_rows, row_only, Chosen, whole_day}
use Rattle.call_day.specs.Claims.{whole_day_lem}

-- a test that would refute a fact if it failed
must : (b : Bool) {X : Type 0} → (X → ⊥) → (b ≡ false → X) → b ≡ true
must true n f = refl
must false n f = absurd (n (f refl))

of_shaped : (t : Table) → Shaped t → shaped t ≡ true
unfolding shaped
of_shaped t s =
    both_back (eq-eqb _ _ s.lasts_too)
    (both_back (eq-eqb _ _ s.thresholds_too) (both_back (le-leb _ _ s.some) (le-leb _ _ s.few)))

module _ (firsts lasts : List ℕ) where
  of_good : (i : ℕ) → GoodRow firsts lasts i → bad_row firsts lasts i ≡ false
  unfolding bad_row
  of_good i g =
      ap not
      (both_back {a = leb (get_or firsts i 0) (get_or lasts i 0)} (le-leb _ _ g.forward) (lt-ltb _ _ g.in_day))

  one_row : (m : ℕ) → bad_minute firsts lasts m ≡ false → OneRow firsts lasts m
  unfolding bad_minute rows_with
  one_row m h =
      let s = count_single (holds firsts lasts m) (length firsts) (eqb-true _ 1 (not-false _ h)) in
      record {
        row = s.one;
        in_row = in_row firsts lasts m s.one s.below s.passes;
        only = λ j r. s.only j r.row (of_in firsts lasts m j r);
      }

  single : (m : ℕ) → OneRow firsts lasts m → Single (holds firsts lasts m) (length firsts)
  single m o =
      record {
        one = o.row;
        below = o.in_row.row;
        passes = of_in firsts lasts m o.row o.in_row;
        only = λ j l h. o.only j (in_row firsts lasts m j l h);
      }

  of_one : (m : ℕ) → OneRow firsts lasts m → bad_minute firsts lasts m ≡ false
  unfolding bad_minute rows_with
  of_one m o = ap not (eq-eqb _ 1 (single_count (holds firsts lasts m) (length firsts) (single m o)))

  no_row_lem : (m : ℕ) → rows_with firsts lasts m ≡ 0 → (i : ℕ) → InRow firsts lasts m i → ⊥
  unfolding rows_with
  no_row_lem m e i r =
      neither (sym (count_none (holds firsts lasts m) (length firsts) e i r.row) ∙ of_in firsts lasts m i r)

  of_no : (m : ℕ) → ((i : ℕ) → InRow firsts lasts m i → ⊥) → rows_with firsts lasts m ≡ 0
  unfolding rows_with
  of_no m f = none_count (holds firsts lasts m) (length firsts) (λ i l. fails i l (holds firsts lasts m i) refl)
    where
      fails : (i : ℕ) → i < length firsts → (b : Bool) → holds firsts lasts m i ≡ b → holds firsts lasts m i ≡ false
      fails i l true e = absurd (f i (in_row firsts lasts m i l e))
      fails i l false e = e

  two_rows : (m : ℕ) → bad_minute firsts lasts m ≡ true → (rows_with firsts lasts m ≡ 0 → ⊥) → TwoRows firsts lasts m
  unfolding bad_minute rows_with
  two_rows m h n = go (rows_with firsts lasts m) refl
    where
      rows : 2 ≤ rows_with firsts lasts m → TwoRows firsts lasts m
      rows e =
          let t = count_two (holds firsts lasts m) (length firsts) e in
          record {
            row = t.one;
            other = t.two;
            apart = t.apart;
            in_row = in_row firsts lasts m t.one t.below t.passes;
            in_other = in_row firsts lasts m t.two t.below_two t.passes_two;
          }

      go : (k : ℕ) → rows_with firsts lasts m ≡ k → TwoRows firsts lasts m
      go zero e = absurd (n e)
      go (suc zero) e = absurd (eqb-false _ 1 (not-true _ h) e)
      go (suc (suc k)) e = rows (omega arith)

  of_two : (m : ℕ) → TwoRows firsts lasts m → 2 ≤ rows_with firsts lasts m
  unfolding rows_with
  of_two m t =
      two_count (holds firsts lasts m) (length firsts)
      record {
        one = t.row;
        two = t.other;
        below = t.in_row.row;
        below_two = t.in_other.row;
        apart = t.apart;
        passes = of_in firsts lasts m t.row t.in_row;
        passes_two = of_in firsts lasts m t.other t.in_other;
      }

  rows_all : GoodRows firsts lasts → length firsts ≡ first_bad_row firsts lasts
  unfolding first_bad_row
  rows_all g = not_found refl (λ k h. of_good k (g k h))

  first_bad : first_bad_row firsts lasts < length firsts → GoodRow firsts lasts (first_bad_row firsts lasts) → ⊥
  unfolding first_bad_row
  first_bad h g =
      neither (sym (of_good (least (bad_row firsts lasts) (length firsts)) g)
      ∙ (least_least (bad_row firsts lasts) (length firsts)).at h)

  rows_before : (i : ℕ) → i < first_bad_row firsts lasts → GoodRow firsts lasts i
  unfolding first_bad_row
  rows_before i h = good_row firsts lasts i ((least_least (bad_row firsts lasts) (length firsts)).before i h)

  bad_at : (i : ℕ) → i < length firsts → (GoodRow firsts lasts i → ⊥) → ((j : ℕ) → j < i → GoodRow firsts lasts j)
      → i ≡ first_bad_row firsts lasts
  unfolding first_bad_row
  bad_at i l n g = found l (λ k h. of_good k (g k h)) (must (bad_row firsts lasts i) n (good_row firsts lasts i))

  minute_at : (m : ℕ) → m < day → OneRowBelow firsts lasts m → (OneRow firsts lasts m → ⊥)
      → m ≡ first_bad_minute firsts lasts
  unfolding first_bad_minute
  minute_at m l o n = found l (λ k h. of_one k (o k h)) (must (bad_minute firsts lasts m) n (one_row m))

  minutes_all : OneRowBelow firsts lasts day → day ≡ first_bad_minute firsts lasts
  unfolding first_bad_minute
  minutes_all o = not_found refl (λ k h. of_one k (o k h))

  not_one_none : (m : ℕ) → ((i : ℕ) → InRow firsts lasts m i → ⊥) → OneRow firsts lasts m → ⊥
  not_one_none m n o = n o.row o.in_row

  not_one_two : (m : ℕ) → TwoRows firsts lasts m → OneRow firsts lasts m → ⊥
  not_one_two m t o = t.apart (o.only t.row t.in_row ∙ sym (o.only t.other t.in_other))

  minutes_before : OneRowBelow firsts lasts (first_bad_minute firsts lasts)
  unfolding first_bad_minute
  minutes_before m h = one_row m ((least_least (bad_minute firsts lasts) day).before m h)

  bad_minute_lem : first_bad_minute firsts lasts < day → bad_minute firsts lasts (first_bad_minute firsts lasts) ≡ true
  unfolding first_bad_minute
  bad_minute_lem h = (least_least (bad_minute firsts lasts) day).at h

-- ---- the claims

module _ (t : Table) where
  abbrev bad_minute_of : ℕ
  bad_minute_of = first_bad_minute t.firsts t.lasts

  said : (v : Fault) → why_not_table t ≡ v → Says t v.why v.place
      → Says t (why_not_table t).why (why_not_table t).place
  said v e h = subst (λ (v : Fault). Says t v.why v.place) (sym e) h

  -- the number and the place that are told are true of the table
  pub told : Says t (why_not_table t).why (why_not_table t).place
  told = go (shaped t) refl
    where
      minute : shaped t ≡ true → length t.firsts ≤ first_bad_row t.firsts t.lasts
          → (b : Bool) → ltb bad_minute_of day ≡ b → (d : Bool) → eqb (rows_with t.firsts t.lasts bad_minute_of) 0 ≡ d
          → Says t (why_not_table t).why (why_not_table t).place
      minute e r true m true n =
          let l = ltb-true _ _ m in
          let z = eqb-true _ 0 n in
          said _ (laws.none t e r l z)
          (none (shaped_of t e) (all_rows t.firsts t.lasts r) bad_minute_of l
          (minutes_before t.firsts t.lasts) (no_row_lem t.firsts t.lasts bad_minute_of z))
      minute e r true m false n =
          let l = ltb-true _ _ m in
          let z = eqb-false _ 0 n in
          said _ (laws.more t e r l z)
          (more (shaped_of t e) (all_rows t.firsts t.lasts r) bad_minute_of l
          (minutes_before t.firsts t.lasts)
          (two_rows t.firsts t.lasts bad_minute_of (bad_minute_lem t.firsts t.lasts l) z))
      minute e r false m d n =
          let l = ltb-false _ _ m in
          said _ (laws.good t e r l)
          (good record {
            is_shaped = shaped_of t e;
            rows = all_rows t.firsts t.lasts r;
            minutes = λ m h. minutes_before t.firsts t.lasts m (omega arith);
          })

      rows : shaped t ≡ true → (b : Bool) → ltb (first_bad_row t.firsts t.lasts) (length t.firsts) ≡ b
          → Says t (why_not_table t).why (why_not_table t).place
      rows e true r =
          let l = ltb-true _ _ r in
          said _ (laws.row t e l)
          (row (shaped_of t e) (first_bad_row t.firsts t.lasts) l (first_bad t.firsts t.lasts l)
          (rows_before t.firsts t.lasts))
      rows e false r = minute e (ltb-false _ _ r) _ refl _ refl

      go : (b : Bool) → shaped t ≡ b → Says t (why_not_table t).why (why_not_table t).place
      go true e = rows e _ refl
      go false e = said _ (laws.lists t e) (lists (λ s. neither (sym e ∙ of_shaped t s)))

  -- and no others are
  pub told_only : {why place : ℕ} → Says t why place → fault why place ≡ why_not_table t
  told_only (good g) =
      sym (laws.good t (of_shaped t g.is_shaped) (omega (arith, rows_all t.firsts t.lasts g.rows))
      (omega (arith, minutes_all t.firsts t.lasts g.minutes)))
  told_only (lists n) = sym (laws.lists t (wrong n (shaped t) refl))
    where
      wrong : (Shaped t → ⊥) → (b : Bool) → shaped t ≡ b → shaped t ≡ false
      wrong n true e = absurd (n (shaped_of t e))
      wrong n false e = e
  told_only (row s i l b g) =
      let at = bad_at t.firsts t.lasts i l b g in
      ap (λ (k : ℕ). fault bad_rows (suc k)) at ∙ sym (laws.row t (of_shaped t s) (omega arith))
  told_only (none s g m l o n) =
      let at = minute_at t.firsts t.lasts m l o (not_one_none t.firsts t.lasts m n) in
      let z : rows_with t.firsts t.lasts bad_minute_of ≡ 0 =
      ap (rows_with t.firsts t.lasts) (sym at) ∙ of_no t.firsts t.lasts m n in
      ap (fault no_row) at
      ∙ sym (laws.none t (of_shaped t s) (omega (arith, rows_all t.firsts t.lasts g)) (omega arith) z)
  told_only (more s g m l o w) =
      let at = minute_at t.firsts t.lasts m l o (not_one_two t.firsts t.lasts m w) in
      let k : rows_with t.firsts t.lasts m ≡ rows_with t.firsts t.lasts bad_minute_of =
      ap (rows_with t.firsts t.lasts) at in
      ap (fault more_rows) at
      ∙ sym (laws.more t (of_shaped t s) (omega (arith, rows_all t.firsts t.lasts g)) (omega arith)
      (λ z. omega (arith, of_two t.firsts t.lasts m w)))

  -- "A good table must be taken", and no other is
  pub taken_good : (why_not_table t).why ≡ 0 → Good t
  taken_good e = go told e
    where
      go : {why place : ℕ} → Says t why place → why ≡ 0 → Good t
      go (good g) e = g
      go (lists n) e = absurd (omega arith)
      go (row s i l b g) e = absurd (omega arith)
      go (none s g m l o n) e = absurd (omega arith)
      go (more s g m l o w) e = absurd (omega arith)

  pub good_taken : Good t → why_not_table t ≡ fault 0 0
  good_taken g = sym (told_only (good g))

module _ (t : Table) (minute : ℕ) where
  pub chosen : Good t → minute < day → Chosen t minute (choose t minute)
  unfolding choose
  chosen g h =
      let o = g.minutes minute h in
      let at : row_at t.firsts t.lasts minute ≡ o.row = sym (row_only t.firsts t.lasts minute o) in
      record {
        row = o.row;
        in_row = o.in_row;
        only = o.only;
        taken = ap (λ (v : Fault). v.why) (good_taken t g);
        place_is = rw (good_taken t g, lt-ltb minute day h, at) refl;
        threshold_is = rw (good_taken t g, lt-ltb minute day h, at) refl;
      }

  -- a good table, and a minute that is not of the day: no row is told
  pub past_day : Good t → day ≤ minute → choose t minute ≡ record { why = 0; place = 0; threshold = no_threshold }
  unfolding choose
  past_day g h = rw (good_taken t g, le-ltb minute day h) refl

pub whole_day_row : (threshold minute : ℕ) → minute < day
    → choose (whole_day threshold) minute ≡ record { why = 0; place = 1; threshold = threshold }
unfolding choose row_at holds least
whole_day_row threshold minute h =
    rw (whole_day_lem threshold, lt-ltb minute day h, le-leb 0 minute (omega arith), le-leb minute 1439 (omega arith))
    refl
