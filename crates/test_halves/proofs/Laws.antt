-- A dealt set can be sealed, and an opened one laid out again. Assumes nothing.
use mathlib.Core.Path.{◌≡◌, refl, sym, ap, ◌∙◌, subst}
use mathlib.Core.Bool.{true}
use mathlib.Core.List.{List, [], ◌∷◌}
use lib.Dec.{ltb}
use Prim.Native.Nat.{ℕ, zero, suc, ◌^◌, ◌<◌, ◌≤◌}
use native.Mathlib.Omega.{arith}
use borrow.Author.Tests.{ltb-true}
use Rattle.base_algebra.specs.Bit.{both}
use Rattle.dcf_node.specs.declared.Correction.{Correction}
use Rattle.measure_table.specs.Measure.{most_elements, is_code, length_fits, in_order}
use Rattle.measure_table.specs.Laws.{code_lt, length_fits_lem}
use Rattle.base_messages.specs.Laws.{passed, taken}
use Rattle.half_content.specs.declared.Set.{Set}
use Rattle.half_content.specs.Content.{terms_in, key_in, width_in, mark_in, set_in}
use Rattle.half_content.specs.Content.{no_set, flags_fit, content_fits, FlagBytes, Proper}
use Rattle.half_content.specs.Laws.{fits_tells, width_tells}
use Rattle.half_deal.specs.Dealing.{Deal, dealt_set}
use Rattle.half_deal.proofs.DealtSet.{proper}
use Rattle.half_seal.specs.Half.{why_not, why_not_opened, opened_set}
use Rattle.half_open.specs.Examined.{Examined, examined}

pub dealt_proper : (d : Deal) (party : ℕ) (s : Set) → s ≡ dealt_set d party → d.number < 2 ^ 64
    → is_code d.terms.code ≡ true → length_fits d.terms ≡ true → in_order d.rule ≡ true → party ≤ 1 → Proper s
dealt_proper d party s e hnumber hcode hlength hrule hparty =
    subst Proper (sym e) (proper d party hnumber hcode hlength hrule hparty)

-- ---- what laying a set out asks of it

abbrev pub Laid : Set → Type 0
Laid s =
    (s.terms.code < 256) × (s.terms.n ≤ most_elements) × FlagBytes s.key.corrections × (s.mark < 256)

flag_bytes : (cs : List Correction) → flags_fit cs ≡ true → FlagBytes cs
unfolding flags_fit FlagBytes
flag_bytes [] h i l = absurd (omega arith)
flag_bytes (c ∷ cs) h zero l = omega (arith, ltb-true c.flags 4 (both (ltb c.flags 4) (flags_fit cs) h).0)
flag_bytes (c ∷ cs) h (suc i) l = flag_bytes cs (both (ltb c.flags 4) (flags_fit cs) h).1 i (omega arith)

fits_laid : (name : List ℕ) (party count number : ℕ) (b : List ℕ) → content_fits name party count b ≡ true
    → Laid (set_in number b)
unfolding set_in
fits_laid name party count number b h =
    let tells = fits_tells name party count b h in
    let terms = terms_in b in (
      omega (arith, code_lt terms.code tells.code_fits),
      (length_fits_lem terms tells.length_fits_lem).1,
      flag_bytes (key_in b).corrections tells.flags_fit_lem,
      omega (arith, (width_tells (width_in b) (mark_in b) tells.width_fits_lem).0),
    )

pub opened_laid : (key name : List ℕ) (party last : ℕ) (h : List ℕ) (e : Examined) → e ≡ examined key name party last h
    → e.why ≡ 0 → Laid e.set
unfolding examined why_not why_not_opened opened_set
opened_laid key name party last h e same none =
    let why : why_not key name party last h ≡ 0 = ap (λ (x : Examined). x.why) (sym same) ∙ none in
    let whole = passed 3 why in
    let above = passed 6 whole.1 in
    let fit = passed 9 above.1 in
    let content = passed 10 fit.1 in
    let opened = ap (λ (x : Examined). x.set) same ∙ sym (taken (opened_set key h) no_set refl why) in
    subst Laid (sym opened) (fits_laid name party _ _ _ content.0)
