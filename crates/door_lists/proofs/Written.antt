-- What an accepted call leaves: the new state, and at the start of a lent buffer what it wrote. Assumes nothing.
use mathlib.Core.Path.{◌≡◌, refl, sym, ap, ◌∙◌}
use mathlib.Core.List.{List}
use Prim.Native.Nat.{ℕ, ◌+◌, ◌≤◌}
use native.Mathlib.Omega.{arith}
use lib.ListN.{length, take, drop}
use lib.Seq.{take_at}
use Rattle.base_words.specs.List.{over, over_eq}
use Rattle.base_messages.specs.Laws.{taken}
use Rattle.base_messages.specs.Messages.{if_taken}
use Rattle.half_content.specs.Content.{part}
use Rattle.call_dealer.specs.declared.Dealer.{Dealer}
use Rattle.half_deal.specs.Dealing.{Deal}
use Rattle.call_dealer.specs.Dealer.{half_size, why_not_deal, half_for, deal_out}
use Rattle.call_dealer.specs.Laws.{deal_tells}
use Rattle.call_party.specs.declared.Party.{Party}
use Rattle.call_party.specs.Party.{why_not_mask, masked_vector, mask_out}
use Rattle.door_lists.specs.Lists.{Box, camera, office, party_of, written, masked_by}
use Rattle.door_lists.proofs.Accepted.{mask_tells}
use Rattle.door_lists.proofs.Dealt.{mask_long}

pub new : {A : Type 0} (why : ℕ) (a b : A) → why ≡ 0 → if_taken why a b ≡ a
new why a b e = sym (taken a b refl e)

start_of : (p s : List ℕ) (n : ℕ) → length p ≡ n → n ≤ length s → part 0 n (over 0 p s) ≡ p
unfolding part
start_of p s n e l = ap (λ (z : List ℕ). take n z) (over_eq p s 0 (omega arith)) ∙ take_at p (drop (0 + length p) s) n e

pub written_is : (s : Dealer) (d : Deal) (out0 out1 : List ℕ) (b : Box)
    → why_not_deal s d (length out0) (length out1) ≡ 0
    → length (half_for s d (party_of b)) ≡ half_size d.terms.n → written s d out0 out1 b ≡ half_for s d (party_of b)
unfolding deal_out
written_is s d out0 out1 camera e l =
    ap (part 0 (half_size d.terms.n)) (new _ _ _ e) ∙ start_of _ out0 _ l (deal_tells s d _ _ e).room_0
written_is s d out0 out1 office e l =
    ap (part 0 (half_size d.terms.n)) (new _ _ _ e) ∙ start_of _ out1 _ l (deal_tells s d _ _ e).room_1

pub masked_is : (s : Party) (v out : List ℕ) → why_not_mask s v (length out) ≡ 0
    → masked_by s v out ≡ masked_vector s.check.set s.who.party v
unfolding mask_out
masked_is s v out e =
    ap (part 0 s.check.set.terms.n) (new _ _ _ e)
    ∙ start_of _ out _ (mask_long s.check.set s.who.party v) (mask_tells s v _ e).room_fits
