-- What an accepted load has been tested for, and what that makes of the set that it brings. Assumes nothing.
use Rattle.std.specs.Prelude.{◌≡◌, refl, Bool, true, false, not, cond, ◌&&◌, List, ℕ, ◌/◌, ◌<◌, ◌≤◌, eqb, leb, length}
use Rattle.std.proofs.Common.{ap₂, arith, leb-true, leb-false, ltb-true, eqb-true, ne_eqb}
use Rattle.std.proofs.lemmas.Bool.{not-true, not-false}
use Rattle.base_algebra.specs.Bit.{both}
use Rattle.base_words.specs.List.{same, same_eq}
use Rattle.measure_table.specs.Measure.{is_code, length_fits}
use Rattle.measure_table.specs.Laws.{length_fits_lem}
use Rattle.base_messages.specs.Laws.{passed}
use Rattle.half_content.specs.declared.Set.{Set}
use Rattle.half_content.specs.Content.{block_bytes, name_field, field, set_in, width_fits, content_fits}
use Rattle.half_content.specs.Laws.{Tells, fits_tells}
use Rattle.half_seal.specs.Half.{opened_content, why_not, why_not_opened, set_number, opened_set, opened_name}
use Rattle.call_party.specs.declared.Party.{Party}
use Rattle.call_party.specs.Party.{waits, sound, high_water, why_not_load}

half_above : (key name : List ℕ) (party last : ℕ) (h : List ℕ) → why_not key name party last h ≡ 0 → last < set_number h
unfolding why_not
half_above key name party last h e = ltb-true _ _ (passed _ (passed _ e).1).0

-- what a half's number has to be above is no lower than the last number, and than the open set's
pub water_last : (phase number last : ℕ) → last ≤ high_water phase number last
unfolding high_water
water_last phase number last = go (not (eqb phase 0)) (leb last number) refl
  where
    go : (a b : Bool) → leb last number ≡ b → last ≤ cond (a && b) number last
    go true true e = leb-true _ _ e
    go true false e = omega arith
    go false b e = omega arith

pub water_open : (phase number last : ℕ) → (phase ≡ 0 → ⊥) → number ≤ high_water phase number last
unfolding high_water
water_open phase number last some = rw (ne_eqb phase 0 some) (go (leb last number) refl)
  where
    go : (b : Bool) → leb last number ≡ b → number ≤ cond b number last
    go true e = omega arith
    go false e = omega (arith, leb-false last number e)

pub water_below : (phase number last n : ℕ) → last < n → number < n → high_water phase number last < n
unfolding high_water
water_below phase number last n l m = go (not (eqb phase 0) && leb last number)
  where
    go : (b : Bool) → cond b number last < n
    go true = m
    go false = l

abbrev pub water_of : Party → ℕ
water_of s = high_water s.check.phase s.check.set.number s.last

pub record LoadTells (s : Party) (h : List ℕ) : Type 0 where
  pub none_waits : s.waiting.terms.n ≡ 0
  pub sound_is : sound s ≡ true
  pub examined : why_not s.who.key s.who.name s.who.party (water_of s) h ≡ 0
  pub above : s.last < set_number h
  pub above_open : (s.check.phase ≡ 0 → ⊥) → s.check.set.number < set_number h

pub load_tells : (s : Party) (h : List ℕ) → why_not_load s h ≡ 0 → LoadTells s h
unfolding why_not_load
load_tells s h e =
    let t = passed _ e in
    let turn = both (not (waits s)) _ t.0 in
    let above = half_above s.who.key s.who.name s.who.party (water_of s) h t.1 in
    record {
      none_waits = eqb-true _ _ (not-false _ (not-true _ turn.0));
      sound_is = turn.1;
      examined = t.1;
      above = omega (arith, above, water_last s.check.phase s.check.set.number s.last);
      above_open = λ o. omega (arith, above, water_open s.check.phase s.check.set.number s.last o);
    }

-- what a load takes: its content's tests, ..
content_fits_lem : (key name : List ℕ) (party last : ℕ) (x : List ℕ) → why_not key name party last x ≡ 0
    → content_fits name party (length x / block_bytes) (opened_content key x) ≡ true
unfolding why_not why_not_opened
content_fits_lem key name party last x e =
    let blocks = passed _ (passed _ (passed _ e).1).1 in
    (passed _ blocks.1).0

opened_tells : (key name : List ℕ) (party last : ℕ) (x : List ℕ) → why_not key name party last x ≡ 0
    → Tells (length x / block_bytes) (opened_content key x)
opened_tells key name party last x e = fits_tells name party _ _ (content_fits_lem key name party last x e)

-- .. so that code and length fit, ..
pub opened_fits : (key name : List ℕ) (party last : ℕ) (x : List ℕ) → why_not key name party last x ≡ 0
    → is_code (opened_set key x).terms.code && length_fits (opened_set key x).terms ≡ true
unfolding opened_set set_in
opened_fits key name party last x e =
    let tells = opened_tells key name party last x e in
    ap₂ ◌&&◌ tells.code_fits tells.length_fits_lem

-- .. it has elements, ..
pub opened_long : (s : Party) (h : List ℕ) → why_not_load s h ≡ 0 → 1 ≤ (opened_set s.who.key h).terms.n
opened_long s h e =
    let fits = opened_fits s.who.key s.who.name s.who.party (water_of s) h (load_tells s h e).examined in
    (length_fits_lem _ (both (is_code (opened_set s.who.key h).terms.code) _ fits).1).0

-- .. width and mark fit each other, ..
pub opened_width : (s : Party) (h : List ℕ) → why_not_load s h ≡ 0
    → (let set : Set = opened_set s.who.key h in width_fits set.width set.mark ≡ true)
unfolding opened_set set_in
opened_width s h e =
    (opened_tells s.who.key s.who.name s.who.party (water_of s) h (load_tells s h e).examined).width_fits_lem

-- .. and its name is the box's
pub opened_name_lem : (s : Party) (h : List ℕ) → why_not_load s h ≡ 0 → opened_name s.who.key h ≡ s.who.name
unfolding opened_name content_fits
opened_name_lem s h e =
    let fits = content_fits_lem s.who.key s.who.name s.who.party (water_of s) h (load_tells s h e).examined in
    same_eq _ _ (both (same (field (opened_content s.who.key h) name_field) s.who.name) _ fits).0
